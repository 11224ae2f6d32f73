use Rattle.std.proofs.Common.{◌≡◌, ℕ, ◌≤◌, ◌*◌, ◌+◌, List, get_or, ap, sym, subst, arith, ◌∙◌}
use Rattle.tetra_bits.specs.Readings.{entry}
use Rattle.tetra_puncture.specs.Certified.{Fits}
use Rattle.tetra_puncture.specs.Decoding.{IsBackward, IsTraced}
use Rattle.tetra_puncture.specs.lemmas.Marks.{marked_is_traced}
use Rattle.tetra_trellis.proofs.Shown.{IsSolved, solved}
use Rattle.tetra_trellis.proofs.solving.solve_table.Goals as goal

pub returns : goal.returns
unfolding entry
returns g c =
    let law = g.met.P.Plan in
    let p = g.P.Plan.plan in
    let r = c.args.soft.now in
    let m = c.trace.new.message in
    let table : List (List ℕ) = g.T.Table.rows_of c.fill.new.table in
    let fits : Fits p r m = record {
      sizes = law.sizes c.requires.sound;
      rise = law.rise c.requires.sound;
      lie = law.lie c.requires.sound;
      message = c.trace.ensures.message;
      values = c.requires.size ∙ sym law.same_sent;
    } in
    let all : IsSolved p r m table = solved p r m table fits c.fill.ensures.rows c.fill.ensures.states
    (subst (λ wide. IsBackward p wide table) c.spread_into.ensures.values c.fill.ensures.backward)
    (subst (λ wide. IsTraced p wide table m) c.spread_into.ensures.values
    (marked_is_traced p c.spread_into.new.wide table c.fill.new.marks m c.trace.ensures.message c.fill.ensures.marks c.trace.ensures.marked)) in
    let first : get_or c.row_at.result.now 0 0 ≡ entry table 0 0 = ap (λ row. get_or row 0 0) c.row_at.ensures.row in
    record {
      message = all.message;
      size = c.trace.ensures.message ∙ law.same_steps;
      metric = first ∙ all.metric;
      rows = c.fill.ensures.rows ∙ ap (λ n. n + 1) law.same_steps;
      states = c.fill.ensures.states;
      potentials = all.costs;
      exact = all.exact;
      within = λ top t s soft inside h.
          subst (λ (n : ℕ). entry table t s ≤ top * n) law.same_sent (all.within top t s soft (omega (arith, law.same_steps)) h);
      metric_within = λ top soft.
          let small : entry table 0 0 ≤ top * p.sent = all.within top 0 0 soft (omega arith) (omega arith) in
          subst (λ (n : ℕ). get_or c.row_at.result.now 0 0 ≤ top * n) law.same_sent (omega (arith, first, small));
      accepted = all.accepted;
    }
