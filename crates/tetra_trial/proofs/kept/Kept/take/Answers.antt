use Rattle.std.proofs.Common.{◌≡◌, ◌≢◌, ◌∙◌, length, arith, rules, refl, sym}
use Rattle.tetra_settings.specs.declared.slots.SlotUse.TheVariants.{Traffic}
use Rattle.tetra_trial.proofs.Keeping.{kept_silent, kept_taken}
use Rattle.tetra_trial.proofs.kept.Kept.take.Goals as goal

pub returns-then-eq : goal.returns-then-eq
returns-then-eq c = λ settings history h.
    let old = c.args.self.now in
    let carries : c.slot_use.result ≡ Traffic = search rules in
    let four : length old.timeslots ≡ 4 = omega arith in
    kept_taken settings history c.args.blocks.now old _ c.from.result c.load.result c.index-self-from.result c.push.new.self h refl refl
    (c.from.ensures ∙ c.clock-timeslot.ensures.timeslot) (omega arith) (omega arith) refl four (sym c.slot_use.ensures.slot ∙ carries) (sym c.load.ensures) c.push.ensures

pub returns-else-eq : goal.returns-else-eq
returns-else-eq c = λ settings history h.
    let other : c.slot_use.result ≢ Traffic = search rules in
    kept_silent settings history c.args.blocks.now c.args.self.now _ h refl refl refl (λ e. other (c.slot_use.ensures.slot ∙ e))
