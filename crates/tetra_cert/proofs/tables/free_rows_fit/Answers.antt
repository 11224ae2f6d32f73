use Rattle.std.proofs.Common.{◌≡◌, ℕ, inl, inr, arith, refl, subst}
use Rattle.std.proofs.lemmas.Bool.{cases_lt}
use Rattle.tetra_bits.specs.Order.{bit_at}
use Rattle.tetra_puncture.specs.Butterflies.{lane_of}
use Rattle.tetra_puncture.specs.Trellis.{state_passed}
use Rattle.tetra_cert.specs.Tables.{RowFits}
use Rattle.tetra_cert.proofs.Walked.{walk_start, walk_small, walk_step}
use Rattle.tetra_cert.proofs.tables.free_rows_fit.Goals as goal

pub loop-t-init : goal.loop-t-init
loop-t-init g c = record {
  lane_is = walk_start c.args.message.now;
  fits = λ u h. absurd (omega arith);
}

pub row_fits-requires-clause-lane : goal.row_fits-requires-clause-lane
row_fits-requires-clause-lane g c = walk_small c.args.message.now c.loop-t.t c.loop-t.lane c.loop-t.invariant.lane_is

pub loop-t-preserved : goal.loop-t-preserved
loop-t-preserved g c =
    let p = g.P.Plan.plan in
    let wide = c.args.wide.now in
    let table = c.args.table.now in
    let m = c.args.message.now in
    let t = c.loop-t.t in
    record {
      lane_is = walk_step m t c.loop-t.lane c.get-bit.result c.from.result c.loop-t.invariant.lane_is c.get-bit.ensures c.from.ensures;
      fits = λ u h. elim (cases_lt u c.loop-t.t) [
        | inl lt ↦ c.loop-t.invariant.fits u lt
        | inr ge ↦
            let e : c.loop-t.t ≡ u = omega arith in
            let here : RowFits p wide table t (lane_of (state_passed m t)) (bit_at m t) =
            subst (λ b. RowFits p wide table t (lane_of (state_passed m t)) b) c.get-bit.ensures
            (subst (λ (k : ℕ). RowFits p wide table t k c.get-bit.result) c.loop-t.invariant.lane_is (c.if-not-row_fits.ensures refl)) in
            subst (λ (k : ℕ). RowFits p wide table k (lane_of (state_passed m k)) (bit_at m k)) e here
      ];
    }
