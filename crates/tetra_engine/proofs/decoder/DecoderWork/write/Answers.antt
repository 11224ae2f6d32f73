use Rattle.std.proofs.Common.{sym, subst, ap, ◌∙◌, map, ◌++◌, ◌∷◌, []}
use Rattle.std.specs.Prelude.{nat_abs}
use Rattle.tetra_bits.specs.declared.soft.TheConstants.{SOFT_MAX}
use Rattle.tetra_session.specs.Heard.{ReceiverStands}
use Rattle.tetra_engine.specs.Slots.{soft_values}
use Rattle.tetra_engine.proofs.Framed.{heard_more}
use Rattle.tetra_engine.proofs.Small.{small_fields}
use Rattle.tetra_engine.proofs.SoftSlots.{soft_slots}
use Rattle.tetra_engine.proofs.decoder.DecoderWork.write.Goals as goal

pub returns-clause-stands : goal.returns-clause-stands
returns-clause-stands g c xs x holds =
    let given = ap (λ v. map soft_values xs ++ v ∷ []) (holds.holds.values ∙ ap soft_values holds.bytes) ∙ sym (heard_more xs x) in
    let next = c.slot_into.ensures.stands _ _ holds.stands.intake.receiver in
    record {
      intake = record {
        valid = holds.stands.intake.valid;
        receiver = subst (λ h. ReceiverStands c.args.self.now.intake.settings h c.slot_into.new.self) given next;
      };
    }

pub put_reading-len-requires-clause-small : goal.put_reading-len-requires-clause-small
put_reading-len-requires-clause-small g c =
    let (xs, x, holds) = c.requires in
    small_fields _ (c.slot_into.ensures.bounded _ _ holds.stands.intake.receiver (nat_abs SOFT_MAX) (soft_slots xs) holds.holds.soft)
