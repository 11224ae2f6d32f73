use Rattle.std.proofs.Common.{◌≡◌, ◌+◌, ◌-◌, ◌*◌, ◌/◌, ℕ, false, arith, subst, ◌∙◌, sym}
use Rattle.tetra_bits.specs.lemmas.InPlace.{Begins, begins_all}
use Rattle.tetra_puncture.specs.Outputs.{AreOutputs}
use Rattle.tetra_puncture.specs.Plan.{sent_bit, word}
use Rattle.tetra_puncture.proofs.sending.keep_into.Goals as goal

pub returns-clause-word : goal.returns-clause-word
unfolding word
returns-clause-word g c =
    let p = g.P.Plan.plan in
    let m = c.args.message.now in
    let law = g.met.P.Plan in
    let whole : c.loop-turn.turn ≡ c.SENT-turns.result / 12 = omega arith in
    let front = subst (λ (n : ℕ). Begins (sent_bit p m) false (12 * n) c.loop-turn.sent) whole c.loop-turn.invariant.written in
    let made : AreOutputs p.taps p.outs m c.outputs_of-outputs.result = rw (law.same_taps, law.same_outs) c.outputs_of-outputs.ensures in
    begins_all (sent_bit p m) false p.sent (12 * (c.SENT-turns.result / 12) + (c.SENT-2.result - 12 * (c.SENT-turns.result / 12))) c.write-2.new.sent (c.write-2.ensures.size ∙ sym law.same_sent) (c.write-2.ensures.written m made front) (omega (arith, law.same_sent, c.SENT-turns.ensures, c.SENT-2.ensures))
