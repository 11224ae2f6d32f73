use Rattle.std.proofs.Common.{◌≡◌, ◌+◌, ◌-◌, ◌*◌, ◌^◌, suc, get_or, arith, refl, ap, sym, ◌∙◌}
use Rattle.std.specs.Prelude.{slice_index}
use Rattle.std.proofs.Math.Nat.{pow-succ'}
use Rattle.tetra_rm.proofs.SumTables.{sums_more, sum_of_none}
use Rattle.tetra_rm.proofs.KeyTables.{room_for_more}
use Rattle.tetra_rm.proofs.sums.part_sums.Goals as goal

pub loop-k-init : goal.loop-k-init
loop-k-init c = record {
  doubled = refl;
  sums = λ v h. let first : v ≡ 0 = omega arith in rw first (sym (sum_of_none c.args.rows.now.0 (14 - (c.args.from + c.args.n))));
}

pub grow_sums-requires : goal.grow_sums-requires
grow_sums-requires c = record { room = room_for_more c.loop-k.size c.loop-k.k 6 c.loop-k.invariant.doubled (omega arith) }

pub loop-k-preserved : goal.loop-k-preserved
loop-k-preserved c =
    let next : c.loop-k.k + 1 ≡ suc c.loop-k.k = omega arith in
    let power : 2 ^ suc c.loop-k.k ≡ 2 * 2 ^ c.loop-k.k = pow-succ' 2 c.loop-k.k in
    let doubled : c.loop-k.size * 2 ≡ 2 ^ suc c.loop-k.k = omega (arith, c.loop-k.invariant.doubled) in
    let place : c.args.from + c.args.n - 1 - c.loop-k.k ≡ 13 - (c.loop-k.k + (14 - (c.args.from + c.args.n))) = omega arith in
    record {
      doubled = doubled ∙ ap (λ n. 2 ^ n) (sym next);
      sums = sums_more c.args.rows.now.0 c.loop-k.k (14 - (c.args.from + c.args.n)) c.loop-k.size (get_or c.args.rows.now.0 (c.args.from + c.args.n - 1 - c.loop-k.k) 0) c.loop-k.sums c.grow_sums.new.sums
          (omega arith) c.loop-k.invariant.doubled (ap (slice_index c.args.rows.now.0) place) c.loop-k.invariant.sums c.grow_sums.ensures.first c.grow_sums.ensures.second;
    }

pub returns : goal.returns
returns c = λ v h.
    let end : c.loop-k.k ≡ c.args.n = omega arith in
    let size : c.loop-k.size ≡ 2 ^ c.args.n = c.loop-k.invariant.doubled ∙ ap (λ n. 2 ^ n) end in
    c.loop-k.invariant.sums v (omega arith)
