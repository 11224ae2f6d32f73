use Rattle.std.proofs.Common.{ℕ, ◌≡◌, arith, sym, subst, ◌∙◌}
use Rattle.tetra_bits.specs.Soft.{AllSoft}
use Rattle.tetra_settings.specs.declared.types.Settings.{Settings}
use Rattle.tetra_trial.specs.Passage.{PassageStands}
use Rattle.tetra_trial.specs.Trials.{blocks_before, received, received_before}
use Rattle.tetra_trial.proofs.Passing.{length-blocks_before, length-received_before, received_is, reading_is, sender_on, receiver_on, fits_turn, access_small}
use Rattle.tetra_trial.proofs.passage.Passage.pass.Goals as goal

pub slot-values-requires-clause-few : goal.slot-values-requires-clause-few
slot-values-requires-clause-few c =
    let (settings, k, h, few) = c.requires.stands in
    omega (arith, h.sender.turn, length-blocks_before settings k)

pub slot-values-requires-clause-fits : goal.slot-values-requires-clause-fits
slot-values-requires-clause-fits c =
    let (settings, k, h, few) = c.requires.stands in
    fits_turn settings k c.slot-blocks.result c.args.self.now.sender h.sender (c.slot-blocks.ensures.fits settings k h.maker)

pub turn-requires : goal.turn-requires
turn-requires c =
    let (settings, k, h, few) = c.requires.stands in
    let sent = c.widen.ensures ∙ c.slot-values.ensures.slot settings (blocks_before settings k) h.sender in
    record { soft = subst AllSoft (sym sent) (c.written_slots_arrive.ensures settings (blocks_before settings k) c.slot-blocks.result).soft }

pub slot_into-requires-clause-few : goal.slot_into-requires-clause-few
slot_into-requires-clause-few c =
    let (settings, k, h, few) = c.requires.stands in
    omega (arith, h.receiver.turn, length-received_before settings k)

-- the slot as it is received
heard : (c : goal.After-slot_into) (settings : Settings) (k : ℕ) → PassageStands settings k c.args.self.now → c.turn.new.soft ≡ received settings k
heard c settings k h =
    received_is settings k c.slot-blocks.result c.widen.new.soft c.turn.new.soft (c.slot-blocks.ensures.blocks settings k h.maker)
    (c.widen.ensures ∙ c.slot-values.ensures.slot settings (blocks_before settings k) h.sender) (c.turn.ensures.values settings k h.damage)

pub returns-clause-access : goal.returns-clause-access
returns-clause-access c =
    let (settings, k, h, few) = c.requires.stands in
    access_small settings.dir c.slot-blocks.result.aach (c.slot-blocks.ensures.fits settings k h.maker).access

pub returns-clause-reading : goal.returns-clause-reading
returns-clause-reading c = λ settings k h.
    reading_is settings k c.turn.new.soft c.slot_into.new.reading (heard c settings k h)
    (c.slot_into.ensures.reading settings (received_before settings k) h.receiver)

pub returns-clause-stands : goal.returns-clause-stands
returns-clause-stands c = λ settings k h. record {
  maker = c.slot-blocks.ensures.stands settings k h.maker;
  sender = sender_on settings k c.slot-blocks.result c.slot-values.new.self (c.slot-blocks.ensures.blocks settings k h.maker)
      (c.slot-values.ensures.stands settings (blocks_before settings k) h.sender);
  damage = c.turn.ensures.stands settings k h.damage;
  receiver = receiver_on settings k c.turn.new.soft c.slot_into.new.self (heard c settings k h)
      (c.slot_into.ensures.stands settings (received_before settings k) h.receiver);
}
