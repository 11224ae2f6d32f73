use Rattle.std.proofs.Common.{FitsSigned, w16, ◌≡◌, ◌+◌, ◌-◌, ◌*◌, ◌^◌, ◌<◌, ◌≤◌, true, false, ℕ, suc, get_or, arith, refl, ap, sym, ◌∙◌}
use Rattle.std.proofs.lemmas.Int.{to_z-of_z, ints}
use Rattle.std.proofs.Math.Nat.{pow-succ', mul-le-mul_right, pow-le-pow_right}
use Rattle.std.specs.Prelude.{slice_index}
use Rattle.tetra_bits.specs.Cost.{cost}
use Rattle.tetra_bits.specs.Soft.{value_at}
use Rattle.tetra_rm.specs.Search.{part_metric}
use Rattle.tetra_rm.proofs.Parts.{part_none}
use Rattle.tetra_rm.proofs.KeyTables.{keys_more, keys_small, room_for_more}
use Rattle.tetra_rm.proofs.keys.part_keys.Goals as goal

pub loop-k-init : goal.loop-k-init
loop-k-init c = record {
  doubled = refl;
  weighed = omega arith;
  keys = λ v h. let first : v ≡ 0 = omega arith in rw first (let none : part_metric c.args.soft.now (c.args.from + c.args.n - 0) 0 0 ≡ 0 = part_none c.args.soft.now (c.args.from + c.args.n - 0) 0 in omega arith);
}

pub grow-requires-clause-room : goal.grow-requires-clause-room
grow-requires-clause-room c = room_for_more c.loop-k.size c.loop-k.k 6 c.loop-k.invariant.doubled (omega arith)

pub grow-requires-clause-small : goal.grow-requires-clause-small
grow-requires-clause-small c = λ v h.
    let room : c.loop-k.size + c.loop-k.size ≤ 64 = grow-requires-clause-room c in
    let small : get_or c.loop-k.keys v 0 < 2 ^ 29 =
    keys_small c.args.soft.now (c.args.from + c.args.n - c.loop-k.k) c.loop-k.k v c.args.unit (get_or c.loop-k.keys v 0) (omega arith) c.requires.within (omega arith) (omega arith) c.requires.unit (c.loop-k.invariant.keys v h) in
    omega arith

pub loop-k-preserved : goal.loop-k-preserved
loop-k-preserved c =
    let fits : FitsSigned w16 c.get-value.result = omega (arith, ints, c.get-value.ensures.soft) in
    let zero_value = simp to_z-of_z at c.bit_key.ensures.value in
    let one_value = simp to_z-of_z at c.bit_key-in-loop-k.ensures.value in
    let place : c.args.from + c.args.n - 1 - c.loop-k.k ≡ c.args.from + c.args.n - (c.loop-k.k + 1) = omega arith in
    let value : c.get-value.result ≡ value_at c.args.soft.now (c.args.from + c.args.n - (c.loop-k.k + 1)) = c.get-value.ensures.value ∙ ap (value_at c.args.soft.now) place in
    let zero_key : c.bit_key.result ≡ cost (value_at c.args.soft.now (c.args.from + c.args.n - (c.loop-k.k + 1))) false * 16384 = zero_value ∙ ap (λ s. cost s false * 16384) value in
    let one_key : c.bit_key-in-loop-k.result ≡ cost (value_at c.args.soft.now (c.args.from + c.args.n - (c.loop-k.k + 1))) true * 16384 = one_value ∙ ap (λ s. cost s true * 16384) value in
    let next : c.loop-k.k + 1 ≡ suc c.loop-k.k = omega arith in
    let behind : c.args.from + c.args.n - c.loop-k.k ≡ suc (c.args.from + c.args.n - (c.loop-k.k + 1)) = omega arith in
    let power : 2 ^ suc c.loop-k.k ≡ 2 * 2 ^ c.loop-k.k = pow-succ' 2 c.loop-k.k in
    let doubled : c.loop-k.size * 2 ≡ 2 ^ suc c.loop-k.k = omega (arith, c.loop-k.invariant.doubled) in
    let more : (v : ℕ) → v < c.loop-k.size * 2 → slice_index c.grow.new.keys v ≡ part_metric c.args.soft.now (c.args.from + c.args.n - (c.loop-k.k + 1)) (suc c.loop-k.k) v * 16384 + v * c.args.unit =
    keys_more c.args.soft.now (c.args.from + c.args.n - (c.loop-k.k + 1)) c.loop-k.k c.loop-k.size c.args.unit c.loop-k.weight c.bit_key.result (c.bit_key-in-loop-k.result + c.loop-k.weight) c.loop-k.keys c.grow.new.keys
    (omega arith) c.loop-k.invariant.doubled c.loop-k.invariant.weighed zero_key (ap (λ n. n + c.loop-k.weight) one_key)
    (λ v h. c.loop-k.invariant.keys v h ∙ ap (λ from. part_metric c.args.soft.now from c.loop-k.k v * 16384 + v * c.args.unit) behind)
    c.grow.ensures.first c.grow.ensures.second in
    record {
      doubled = doubled ∙ ap (λ n. 2 ^ n) (sym next);
      weighed = omega (arith, c.loop-k.invariant.weighed);
      keys = λ v h. more v h ∙ ap (λ n. part_metric c.args.soft.now (c.args.from + c.args.n - (c.loop-k.k + 1)) n v * 16384 + v * c.args.unit) (sym next);
    }

weight_small : (size unit weight : ℕ) → weight ≡ size * unit → size ≤ 32 → unit ≤ 512 → weight ≤ 16384
weight_small size unit weight e h l = let most : size * unit ≤ 32 * unit = mul-le-mul_right unit h in omega arith

pub overflow_add-bit_key : goal.overflow_add-bit_key
overflow_add-bit_key c =
    let room : c.loop-k.size + c.loop-k.size ≤ 64 = room_for_more c.loop-k.size c.loop-k.k 6 c.loop-k.invariant.doubled (omega arith) in
    let small : c.loop-k.weight ≤ 16384 = weight_small c.loop-k.size c.args.unit c.loop-k.weight c.loop-k.invariant.weighed (omega arith) c.requires.unit in
    record { fits = omega (arith, c.bit_key-in-loop-k.ensures.small) }

pub overflow_mul-weight : goal.overflow_mul-weight
overflow_mul-weight c =
    let room : c.loop-k.size + c.loop-k.size ≤ 64 = room_for_more c.loop-k.size c.loop-k.k 6 c.loop-k.invariant.doubled (omega arith) in
    let small : c.loop-k.weight ≤ 16384 = weight_small c.loop-k.size c.args.unit c.loop-k.weight c.loop-k.invariant.weighed (omega arith) c.requires.unit in
    record { fits = omega arith }

pub returns-clause-keys : goal.returns-clause-keys
returns-clause-keys c = λ v h.
    let end : c.loop-k.k ≡ c.args.n = omega arith in
    let from : c.args.from + c.args.n - c.loop-k.k ≡ c.args.from = omega arith in
    let size : c.loop-k.size ≡ 2 ^ c.args.n = c.loop-k.invariant.doubled ∙ ap (λ n. 2 ^ n) end in
    c.loop-k.invariant.keys v (omega arith) ∙ ap (λ f. part_metric c.args.soft.now f c.loop-k.k v * 16384 + v * c.args.unit) from ∙ ap (λ n. part_metric c.args.soft.now c.args.from n v * 16384 + v * c.args.unit) end

pub returns-clause-small : goal.returns-clause-small
returns-clause-small c = λ v h.
    let most : 2 ^ c.args.n ≤ 2 ^ 6 = pow-le-pow_right (omega arith) c.requires.few in
    keys_small c.args.soft.now c.args.from c.args.n v c.args.unit (get_or c.loop-k.keys v 0) (omega arith) c.requires.within c.requires.few (omega arith) c.requires.unit (returns-clause-keys c v h)
