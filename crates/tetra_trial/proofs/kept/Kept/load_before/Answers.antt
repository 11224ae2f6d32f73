use Rattle.std.proofs.Common.{◌≡◌, ◌∙◌, ◌-◌, length, arith}
use Rattle.tetra_settings.specs.Slots.{timeslot_of}
use Rattle.tetra_trial.specs.Sent.{loads_sent}
use Rattle.tetra_trial.proofs.Keeping.{kept_now, before_more}
use Rattle.tetra_trial.proofs.kept.Kept.load_before.Goals as goal

pub returns : goal.returns
returns c = λ settings history h some.
    let old = c.args.self.now in
    let four : length old.timeslots ≡ 4 = omega arith in
    let loads = loads_sent settings (timeslot_of settings.at (length history)) history in
    c.back.ensures loads
    (kept_now settings history old c.from.result c.index-self-from.result h (c.from.ensures ∙ c.clock-timeslot.ensures.timeslot) (omega arith) (omega arith) four some)
    ∙ before_more (c.args.count - 1) c.args.count loads c.args.load.now (omega arith)
