use Rattle.std.proofs.Common.{FitsSigned, w16, ◌≡◌, ℕ, ◌+◌, ◌-◌, ◌*◌, ◌/◌, ◌^◌, ◌<◌, true, false, suc, get_or, arith, refl, ap, sym, ◌∙◌}
use Rattle.std.specs.Prelude.{slice_index}
use Rattle.std.specs.Int.Bits.{bit_xor}
use Rattle.std.proofs.lemmas.Int.{to_z-of_z, ints}
use Rattle.std.proofs.Math.Nat.{pow-succ'}
use Rattle.tetra_bits.specs.Cost.{cost}
use Rattle.tetra_bits.specs.Soft.{value_at}
use Rattle.tetra_bits.specs.Sums.{add2}
use Rattle.tetra_rm.specs.Search.{part_metric, lane, lane_bit}
use Rattle.tetra_rm.proofs.KeyTables.{lanes_more, lane_keys_small, started_lanes}
use Rattle.tetra_rm.proofs.keys.fill_lane_keys.Goals as goal

pub loop-k-init : goal.loop-k-init
loop-k-init c =
    let started = started_lanes c.args.soft.now (c.args.from + 8 - 0) c.args.place c.args.sums.now c.args.keys.now c.told-keys c.requires.lanes in
    record { doubled = refl; lanes = started.0; keys = started.1 }

pub grow_lanes-requires-clause-small : goal.grow_lanes-requires-clause-small
grow_lanes-requires-clause-small c = λ v j h l.
    let small : lane c.loop-k.keys v j < 2 ^ 29 =
    lane_keys_small c.args.soft.now (c.args.from + 8 - c.loop-k.k) c.loop-k.k (bit_xor v (get_or c.args.sums.now j 0 / 2 ^ c.args.place)) (lane c.loop-k.keys v j) (omega arith) c.requires.within (omega arith) (c.loop-k.invariant.keys v j h l) in
    omega arith

pub grow_lanes-requires-clause-steps : goal.grow_lanes-requires-clause-steps
grow_lanes-requires-clause-steps c = λ j h. (c.lane_bits.ensures.small j h, c.lane_bits-in-loop-k.ensures.small j h)

pub loop-k-preserved : goal.loop-k-preserved
loop-k-preserved c =
    let fits : FitsSigned w16 c.get-value.result = omega (arith, ints, c.get-value.ensures.soft) in
    let zero_value : (j : ℕ) → j < 8 → slice_index c.lane_bits.result j ≡ cost c.get-value.result (add2 (lane_bit c.args.sums.now (c.args.place + c.loop-k.k) j) false) * 16384 = simp to_z-of_z at c.lane_bits.ensures.value in
    let one_value : (j : ℕ) → j < 8 → slice_index c.lane_bits-in-loop-k.result j ≡ cost c.get-value.result (add2 (lane_bit c.args.sums.now (c.args.place + c.loop-k.k) j) true) * 16384 = simp to_z-of_z at c.lane_bits-in-loop-k.ensures.value in
    let place : c.args.from + 7 - c.loop-k.k ≡ c.args.from + 8 - (c.loop-k.k + 1) = omega arith in
    let value : c.get-value.result ≡ value_at c.args.soft.now (c.args.from + 8 - (c.loop-k.k + 1)) = c.get-value.ensures.value ∙ ap (value_at c.args.soft.now) place in
    let next : c.loop-k.k + 1 ≡ suc c.loop-k.k = omega arith in
    let behind : c.args.from + 8 - c.loop-k.k ≡ suc (c.args.from + 8 - (c.loop-k.k + 1)) = omega arith in
    let power : 2 ^ suc c.loop-k.k ≡ 2 * 2 ^ c.loop-k.k = pow-succ' 2 c.loop-k.k in
    let doubled : c.loop-k.size * 2 ≡ 2 ^ suc c.loop-k.k = omega (arith, c.loop-k.invariant.doubled) in
    let more : (v j : ℕ) → v < c.loop-k.size * 2 → j < 8 → lane c.grow_lanes.new.keys v j ≡ part_metric c.args.soft.now (c.args.from + 8 - (c.loop-k.k + 1)) (suc c.loop-k.k) (bit_xor v (get_or c.args.sums.now j 0 / 2 ^ c.args.place)) * 16384 =
    lanes_more c.args.soft.now (c.args.from + 8 - (c.loop-k.k + 1)) c.loop-k.k c.loop-k.size c.args.place c.args.sums.now c.lane_bits.result c.lane_bits-in-loop-k.result c.loop-k.keys c.grow_lanes.new.keys
    (omega arith) c.loop-k.invariant.doubled
    (λ j h. zero_value j h ∙ ap (λ s. cost s (add2 (lane_bit c.args.sums.now (c.args.place + c.loop-k.k) j) false) * 16384) value)
    (λ j h. one_value j h ∙ ap (λ s. cost s (add2 (lane_bit c.args.sums.now (c.args.place + c.loop-k.k) j) true) * 16384) value)
    (λ v j h l. c.loop-k.invariant.keys v j h l ∙ ap (λ from. part_metric c.args.soft.now from c.loop-k.k (bit_xor v (get_or c.args.sums.now j 0 / 2 ^ c.args.place)) * 16384) behind)
    c.grow_lanes.ensures.first c.grow_lanes.ensures.second in
    record {
      doubled = doubled ∙ ap (λ n. 2 ^ n) (sym next);
      lanes = c.grow_lanes.ensures.lanes;
      keys = λ v j h l. more v j h l ∙ ap (λ n. part_metric c.args.soft.now (c.args.from + 8 - (c.loop-k.k + 1)) n (bit_xor v (get_or c.args.sums.now j 0 / 2 ^ c.args.place)) * 16384) (sym next);
    }

pub returns-clause-keys : goal.returns-clause-keys
returns-clause-keys c = λ v j h l.
    let end : c.loop-k.k ≡ 8 = omega arith in
    let from : c.args.from + 8 - c.loop-k.k ≡ c.args.from = omega arith in
    let size : c.loop-k.size ≡ 2 ^ 8 = c.loop-k.invariant.doubled ∙ ap (λ n. 2 ^ n) end in
    c.loop-k.invariant.keys v j (omega arith) l
    ∙ ap (λ f. part_metric c.args.soft.now f c.loop-k.k (bit_xor v (get_or c.args.sums.now j 0 / 2 ^ c.args.place)) * 16384) from
    ∙ ap (λ n. part_metric c.args.soft.now c.args.from n (bit_xor v (get_or c.args.sums.now j 0 / 2 ^ c.args.place)) * 16384) end

pub returns-clause-fit : goal.returns-clause-fit
returns-clause-fit c = record {
  lanes = c.loop-k.invariant.lanes;
  small = λ v j h l. lane_keys_small c.args.soft.now c.args.from 8 (bit_xor v (get_or c.args.sums.now j 0 / 2 ^ c.args.place)) (lane c.loop-k.keys v j) (omega arith) c.requires.within (omega arith) (returns-clause-keys c v j h l);
}
