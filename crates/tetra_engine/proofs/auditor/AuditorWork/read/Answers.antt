use Rattle.std.proofs.Common.{rules, arith, ◌≡◌, ◌∙◌, ap, sym, subst, length, ◌++◌, ◌∷◌, []}
use Rattle.std.proofs.KnownBytes.{Consumes-trans}
use Rattle.tetra_io.specs.Filling.{TakesFewer}
use Rattle.tetra_session.specs.Heard.{ReceiverStands}
use Rattle.tetra_settings.specs.declared.types.Settings.{Settings}
use Rattle.tetra_engine.specs.Auditing.{auditing, slots_of, front_at, refused_slots}
use Rattle.tetra_engine.specs.Intake.{IntakeStands}
use Rattle.tetra_engine.specs.Refusals.{Counts}
use Rattle.tetra_engine.proofs.Fronts.{ended_behind, fault_behind}
use Rattle.tetra_engine.proofs.Framed.{take_front}
use Rattle.tetra_engine.proofs.Audited.{auditing_stopped, slot_at, short_claim, refused_few, counts_number}
use Rattle.tetra_engine.proofs.auditor.AuditorWork.read.Goals as goal

pub returns-in-Err-clause-gives : goal.returns-in-Err-clause-gives
returns-in-Err-clause-gives g c xs stands slot =
    auditing_stopped c.args.self.now.intake.settings xs _ _ _ c.in-Err.stop (search rules) c.in-Err.ensures.gives

pub returns-in-Ended-clause-gives : goal.returns-in-Ended-clause-gives
returns-in-Ended-clause-gives g c xs stands slot =
    let settings = c.args.self.now.intake.settings in
    let next : IntakeStands c.next.new.self (slots_of xs) = search rules in
    let (holds, came) = c.in_default.ensures.gives in
    let at = slot_at settings xs c.next.new.self c.front_into.new.front c.claim_len-self.result c.next.ensures.settings holds (c.front_into.ensures.front _ (slots_of xs) next.receiver) c.claim_len-self.ensures.length in
    let short = short_claim settings xs c.next.new.self.bytes c.claim_len-self.result at.size at.len_is in
    ended_behind (auditing settings) xs c.next.new.self.bytes c.claim_len-self.result _ c.fill.new.buf _ _ _ short came c.in-Ended.ensures.bytes (search rules) (omega (arith, at.size))

pub returns-in-Fault-clause-gives : goal.returns-in-Fault-clause-gives
returns-in-Fault-clause-gives g c xs stands slot =
    let settings = c.args.self.now.intake.settings in
    let next : IntakeStands c.next.new.self (slots_of xs) = search rules in
    let (holds, came) = c.in_default.ensures.gives in
    let at = slot_at settings xs c.next.new.self c.front_into.new.front c.claim_len-self.result c.next.ensures.settings holds (c.front_into.ensures.front _ (slots_of xs) next.receiver) c.claim_len-self.ensures.length in
    let short = short_claim settings xs c.next.new.self.bytes c.claim_len-self.result at.size at.len_is in
    let size : length c.fill.new.buf ≡ c.claim_len-self.result = search rules in
    fault_behind (auditing settings) xs c.next.new.self.bytes c.claim_len-self.result _ _ _ short came (subst (TakesFewer (g.S.Source.rest c.next.new.src) (g.S.Source.rest c.fill.new.src)) size c.in-Fault.ensures.bytes)

pub returns-in-Whole-clause-gives : goal.returns-in-Whole-clause-gives
returns-in-Whole-clause-gives g c xs stands slot =
    let settings = c.args.self.now.intake.settings in
    let same = c.next.ensures.settings in
    let next : IntakeStands c.next.new.self (slots_of xs) = search rules in
    let (holds, came) = c.in_default.ensures.gives in
    let heard = c.front_into.ensures.front _ (slots_of xs) next.receiver in
    let at = slot_at settings xs c.next.new.self c.front_into.new.front c.claim_len-self.result same holds heard c.claim_len-self.ensures.length in
    let taken = c.front_into.ensures.stands _ (slots_of xs) next.receiver in
    let size : length c.fill.new.buf ≡ c.claim_len-self.result = search rules in
    let few = refused_few settings [] xs in
    let count = counts_number c.args.self.now.refusals _ stands.refusals in (
      (c.next.new.self.bytes, c.fill.new.buf),
      record {
        code = stands.code ∙ ap (λ (s : Settings). s.rows) (sym same);
        intake = record { valid = next.valid; receiver = subst (λ v. ReceiverStands c.next.new.self.settings (slots_of xs ++ v ∷ []) c.front_into.new.self) holds.values taken };
        refusals = subst (λ s. Counts c.args.self.now.refusals (refused_slots s [] xs)) (sym same) stands.refusals;
        counted = omega (arith, few, count, slot);
        slot = slot;
        front = at.front_is ∙ ap (λ s. front_at s xs c.next.new.self.bytes) (sym same);
        formed = c.front_into.ensures.well_formed;
        size = c.claim_len-self.ensures.length;
        within = c.claim_len-self.ensures.most;
        claim = take_front c.claim_len-self.result c.fill.new.buf _ size;
      },
      (at.size, size ∙ at.len_is),
      Consumes-trans _ _ _ _ _ came c.in-Whole.ensures.bytes,
    )
