use Rattle.std.proofs.Common.{rules, ◌≡◌, sym, subst, ap, ◌∙◌, ◌++◌, [], length}
use Rattle.tetra_engine.specs.Auditing.{refused_by, refused_slots, verdict_at}
use Rattle.tetra_engine.specs.Intake.{IntakeStands}
use Rattle.tetra_engine.specs.Refusals.{Counts}
use Rattle.tetra_engine.proofs.Audited.{slots_more, refused_more}
use Rattle.tetra_engine.proofs.auditor.AuditorWork.write.Goals as goal

pub returns-clause-stands : goal.returns-clause-stands
returns-clause-stands g c xs x holds = record {
  code = holds.code;
  intake = subst (IntakeStands c.args.self.now.intake) (sym (slots_more xs x)) holds.intake;
  refusals =
      let settings = c.args.self.now.intake.settings in
      let verdict : c.audit_slot_with-verdict.result ≡ verdict_at settings xs x = search rules in
      let same = ap (λ n. refused_by n c.audit_slot_with-verdict.result) holds.slot ∙ ap (refused_by (length xs)) verdict in
      subst (Counts c.judge.new.self) (ap (λ l. refused_slots settings [] xs ++ l) same ∙ sym (refused_more settings [] xs x)) (c.judge.ensures _ holds.refusals);
}
