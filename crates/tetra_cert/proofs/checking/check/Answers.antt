use Rattle.std.proofs.Common.{arith, ap, sym, refl, subst, ◌∙◌}
use Rattle.tetra_mother.specs.Mother.{next_state}
use Rattle.tetra_puncture.specs.lemmas.Steps.{state_passed_first, state_passed_more}
use Rattle.tetra_puncture.specs.lemmas.Checking.{checked_none, checked_more}
use Rattle.tetra_puncture.specs.Trellis.{bit_taken}
use Rattle.tetra_puncture.specs.Certified.{Fits}
use Rattle.tetra_puncture.specs.Rules.{IsAccepted}
use Rattle.tetra_puncture.specs.Spread.{spread_values}
use Rattle.tetra_puncture.specs.lemmas.Certificates.{accepted_is_certified}
use Rattle.tetra_cert.specs.declared.verdict.Verdict.TheVariants.{Accepted}
use Rattle.tetra_cert.specs.Checked.{IsRight, IsSound, IsFirstOfStates}
use Rattle.tetra_cert.specs.lemmas.Places.{right_is_verdict}
use Rattle.tetra_cert.proofs.Verdicts.{accepted, refused, not_accepted, certified}
use Rattle.tetra_cert.proofs.checking.check.Goals as goal

pub loop-t-init : goal.loop-t-init
loop-t-init g c = record {
  small = omega arith;
  path_is = sym (state_passed_first c.args.message.now);
  checked = checked_none g.P.Plan.plan c.spread_into.new.wide c.args.message.now c.args.potentials.now;
}

pub loop-t-preserved : goal.loop-t-preserved
unfolding IsFirstOfStates
loop-t-preserved g c = record {
  small = c.next-path.ensures.small;
  path_is = c.next-path.ensures.value ∙ (ap (next_state c.loop-t.path) c.taken.ensures
      ∙ (ap (λ s. next_state s (bit_taken c.args.message.now c.loop-t.t)) c.loop-t.invariant.path_is ∙ sym (state_passed_more c.args.message.now c.loop-t.t)));
  checked = checked_more g.P.Plan.plan c.spread_into.new.wide c.args.message.now c.args.potentials.now c.loop-t.t c.loop-t.invariant.checked (record { earlier = c.in_default.ensures });
}

pub returns-in-Some-clause-right : goal.returns-in-Some-clause-right
unfolding IsRight
returns-in-Some-clause-right g c =
    refused g.P.Plan.plan c.args.soft.now c.spread_into.new.wide c.args.message.now c.args.potentials.now c.spread_into.ensures.values
    c.loop-t.t c.in-Some.field-0 (omega (arith, g.met.P.Plan.same_steps, c.STEPS-t-end.ensures)) c.loop-t.invariant.checked c.in-Some.ensures

pub returns-in-Some-clause-value : goal.returns-in-Some-clause-value
returns-in-Some-clause-value g c = right_is_verdict g.P.Plan.plan c.args.soft.now c.args.message.now c.args.potentials.now _ (returns-in-Some-clause-right g c)

pub returns-in-Some-clause-complete : goal.returns-in-Some-clause-complete
returns-in-Some-clause-complete g c = λ ok.
    absurd (not_accepted g.P.Plan.plan c.args.soft.now c.spread_into.new.wide c.args.message.now c.args.potentials.now c.spread_into.ensures.values
    c.loop-t.t c.in-Some.field-0 (omega (arith, g.met.P.Plan.same_steps, c.STEPS-t-end.ensures)) c.in-Some.ensures ok)

pub returns-in-Some-clause-sound : goal.returns-in-Some-clause-sound
unfolding IsSound
returns-in-Some-clause-sound g c = tt

pub returns-clause-right : goal.returns-clause-right
unfolding IsRight
returns-clause-right g c =
    accepted g.P.Plan.plan c.args.soft.now c.spread_into.new.wide c.args.message.now c.args.potentials.now c.spread_into.ensures.values
    c.loop-t.t (omega (arith, g.met.P.Plan.same_steps, c.STEPS-t-end.ensures)) c.loop-t.invariant.checked

pub returns-clause-sound : goal.returns-clause-sound
unfolding IsSound
returns-clause-sound g c =
    let law = g.met.P.Plan in
    let fits : Fits g.P.Plan.plan c.args.soft.now c.args.message.now = record {
      sizes = law.sizes c.requires.sound;
      rise = law.rise c.requires.sound;
      lie = law.lie c.requires.sound;
      message = c.requires.message;
      values = omega (arith, law.same_sent, c.requires.values);
    } in
    certified g.P.Plan.plan c.args.soft.now c.spread_into.new.wide c.args.message.now c.args.potentials.now c.spread_into.ensures.values
    c.loop-t.t fits (omega (arith, law.same_steps, c.STEPS-t-end.ensures)) c.loop-t.invariant.checked

pub returns-clause-value : goal.returns-clause-value
returns-clause-value g c = right_is_verdict g.P.Plan.plan c.args.soft.now c.args.message.now c.args.potentials.now _ (returns-clause-right g c)

pub returns-then-all_hold : goal.returns-then-all_hold
unfolding IsRight IsSound
returns-then-all_hold g c =
    let law = g.met.P.Plan in
    let p = g.P.Plan.plan in
    let r = c.args.soft.now in
    let m = c.args.message.now in
    let table = c.args.potentials.now in
    let fits : Fits p r m = record {
      sizes = law.sizes c.requires.sound;
      rise = law.rise c.requires.sound;
      lie = law.lie c.requires.sound;
      message = c.requires.message;
      values = omega (arith, law.same_sent, c.requires.values);
    } in
    let ok : IsAccepted p (spread_values p r) m table =
    subst (λ w. IsAccepted p w m table) c.spread_into.ensures.values (c.if-all_hold.ensures refl) in
    record {
      right = ok;
      value = right_is_verdict p r m table Accepted ok;
      sound = accepted_is_certified p r m table fits ok;
      complete = λ _. refl;
    }
