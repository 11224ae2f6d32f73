-- The laws of the plan of rate 148/432.
use Prim.Native.Nat.{zero, suc}
use Rattle.std.proofs.Common.{ℕ, ◌+◌, ◌-◌, ◌*◌, ◌/◌, ◌%◌, ◌<◌, ◌≤◌, ◌≡◌, [], ◌∷◌, slice_index, arith, refl, lit≤}
use Rattle.tetra_puncture.specs.lemmas.Differ.{IsSent, words_differ}
use Rattle.tetra_puncture.specs.Places.{p148, patterned}
use Rattle.tetra_puncture.specs.Plan.{WordsDiffer, HasSizes, PlacesRise, PlacesLie}

pub p148_sizes : HasSizes p148
p148_sizes = record {
  few_outs = (omega arith, omega arith);
  few_steps = (omega arith, omega arith);
  few_sent = omega arith;
}

-- an entry of the pattern: a third of the rests beside a step of four
at_rest : (r : ℕ) → r < 6 → slice_index (1 ∷ 2 ∷ 3 ∷ 5 ∷ 6 ∷ 7 ∷ []) r ≡ r + r / 3 + 1
at_rest zero h = refl
at_rest (suc zero) h = refl
at_rest (suc (suc zero)) h = refl
at_rest (suc (suc (suc zero))) h = refl
at_rest (suc (suc (suc (suc zero)))) h = refl
at_rest (suc (suc (suc (suc (suc zero))))) h = refl
at_rest (suc (suc (suc (suc (suc (suc r)))))) h = absurd (omega arith)

entry_place : ℕ → ℕ
entry_place i = patterned 8 (1 ∷ 2 ∷ 3 ∷ 5 ∷ 6 ∷ 7 ∷ []) 6 i

place_at : (i g r : ℕ) → r < 6 → i ≡ 6 * g + r + 1 → entry_place i ≡ 8 * g + (r + r / 3 + 1)
unfolding entry_place
place_at i g r small e =
    let q : (i - 1) / 6 ≡ g = omega arith in
    let m : (i - 1) % 6 ≡ r = omega arith in
    rw (q, m) (omega (arith, at_rest r small))

entries_rise : (i j : ℕ) → 1 ≤ i → i < j → entry_place i < entry_place j
entries_rise i j one less =
    let a = place_at i ((i - 1) / 6) ((i - 1) % 6) (omega arith) (omega arith) in
    let b = place_at j ((j - 1) / 6) ((j - 1) % 6) (omega arith) (omega arith) in
    let up : (i - 1) / 6 ≤ (j - 1) / 6 = omega arith in
    omega (arith, a, b, up)

pub p148_rise : PlacesRise p148
unfolding entry_place
p148_rise j a b = entries_rise (j + (j - 1) / 35) (j + 1 + (j + 1 - 1) / 35) (omega arith) (omega arith)

pub p148_lie : PlacesLie p148
unfolding entry_place
p148_lie j a b =
    let i : ℕ = j + (j - 1) / 35 in
    let few : i ≤ 444 = omega arith in
    let u : entry_place i ≡ 8 * ((i - 1) / 6) + ((i - 1) % 6 + (i - 1) % 6 / 3 + 1) =
    place_at i ((i - 1) / 6) ((i - 1) % 6) (omega arith) (omega arith) in
    (omega (arith, u), omega (arith, u))

-- the first output of a step is entry 1 or 4 of its eight places, of which none is passed over
first_of : (k : ℕ) → entry_place (6 * (k / 2) + 3 * (k % 2) + 1) ≡ 4 * k + 1
first_of k =
    let u = place_at (6 * (k / 2) + 3 * (k % 2) + 1) (k / 2) (3 * (k % 2)) (omega arith) (omega arith) in
    omega (arith, u)

kept : (k : ℕ) → k < 148 → IsSent p148 k 1
unfolding entry_place
kept k l =
    let i : ℕ = 6 * (k / 2) + 3 * (k % 2) + 1 in
    let few : i ≤ 442 = omega arith in
    let j : ℕ = i - i / 36 in
    let e : j + (j - 1) / 35 ≡ i = omega arith in
    (j, omega arith, omega arith, rw e (first_of k))

pub p148_differ : WordsDiffer p148
p148_differ = words_differ p148 (record { outs = lit≤ tt; g10 = refl; sent = kept })
