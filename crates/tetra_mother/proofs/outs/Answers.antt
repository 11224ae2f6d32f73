use Rattle.std.proofs.Common.{◌≡◌, ◌≢◌, ◌<◌, ◌+◌, length, arith, get_or-set_other, get_or-set_same, below_more, rules}
use Rattle.std.proofs.Common.{◌∙◌, ap, ◌-◌}
use Rattle.tetra_mother.specs.Mother.{edge}
use Rattle.tetra_mother.specs.lemmas.States.{edge_is_output}
use Rattle.tetra_mother.proofs.outs.Goals as goal

pub loop-i-preserved : goal.loop-i-preserved
loop-i-preserved g c =
    let few = g.met.M.Mother.few in
    let lt : c.loop-i.i < length c.loop-i.all = omega (arith, few) in
    record {
      size = search rules;
      done = below_more _ _
          (λ k h. let ne : k ≢ c.loop-i.i = omega arith in rw get_or-set_other (c.loop-i.invariant.done k h))
          (rw get_or-set_same c.output_of.ensures);
      rest = λ k h. let ne : k ≢ c.loop-i.i = omega arith in rw get_or-set_other (c.loop-i.invariant.rest k (omega arith));
    }

pub returns-clause-word : goal.returns-clause-word
returns-clause-word g c =
    λ bits k i s b one le.
    let e : i - 1 + 1 ≡ i = omega arith in
    c.loop-i.invariant.done (i - 1) (omega (arith, c.OUTS-i-end.ensures, le, one))
    ∙ ap (edge g.M.Mother.taps c.args.state c.args.bit) e
    ∙ edge_is_output g.M.Mother.taps bits k i c.args.state c.args.bit s b
