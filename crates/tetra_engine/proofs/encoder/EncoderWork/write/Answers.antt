use Rattle.std.proofs.Common.{◌≡◌, sym, subst, ◌∙◌, ◌++◌, ◌∷◌, [], Some}
use Rattle.tetra_session.specs.Sent.{SenderStands}
use Rattle.tetra_engine.proofs.encoder.EncoderWork.write.Goals as goal

pub returns-clause-stands : goal.returns-clause-stands
returns-clause-stands g c xs x holds =
    let both : Some c.in-Some.blocks ≡ Some x = sym c.in-Some.is ∙ holds.held in
    let same : c.in-Some.blocks ≡ x = cc in
    record {
      valid = holds.stands.valid;
      sender = subst (λ blocks. SenderStands c.args.self.now.settings (xs ++ blocks ∷ []) c.slot-values.new.self) same (c.slot-values.ensures.stands _ _ holds.stands.sender);
    }
