use Rattle.std.proofs.Common.{refl, inr}
use Rattle.tetra_session.specs.lemmas.FourSteps.{four_none}
use Rattle.tetra_trial.specs.Kept.{LaneStands}
use Rattle.tetra_trial.specs.Sent.{load_brought}
use Rattle.tetra_trial.proofs.kept.Kept.new.Goals as goal

pub returns : goal.returns
returns c = record {
  same = refl;
  turn = refl;
  timeslots = λ none. four_none LaneStands load_brought none c.args.settings.now c.new.result c.new-2.result c.new-3.result c.new-4.result
      (inr c.new.ensures) (inr c.new-2.ensures) (inr c.new-3.ensures) (inr c.new-4.ensures);
}
