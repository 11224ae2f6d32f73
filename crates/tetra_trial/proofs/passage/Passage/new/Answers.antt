use Rattle.tetra_trial.proofs.Passing.{blocks_none, received_none}
use Rattle.tetra_trial.proofs.passage.Passage.new.Goals as goal

pub returns : goal.returns
returns c = record {
  maker = c.new.ensures;
  sender = rw (blocks_none c.args.settings.now) c.new-2.ensures;
  damage = c.new-3.ensures;
  receiver = rw (received_none c.args.settings.now) c.new-4.ensures;
}
