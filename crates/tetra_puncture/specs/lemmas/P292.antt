-- The laws of the plan of rate 292/432.
use Rattle.std.proofs.Common.{ℕ, ◌+◌, ◌-◌, ◌*◌, ◌/◌, ◌%◌, ◌<◌, ◌≤◌, ◌≡◌, ◌⊎◌, inl, inr, arith, refl, lit≤}
use Rattle.std.proofs.lemmas.Bool.{cases_lt}
use Rattle.tetra_puncture.specs.lemmas.Differ.{IsSent, words_differ_next}
use Rattle.tetra_puncture.specs.lemmas.TwoThirds.{at_rest}
use Rattle.tetra_puncture.specs.Places.{p292, two_thirds_place}
use Rattle.tetra_puncture.specs.Plan.{WordsDiffer, HasSizes, PlacesRise, PlacesLie}

pub p292_sizes : HasSizes p292
p292_sizes = record {
  few_outs = (omega arith, omega arith);
  few_steps = (omega arith, omega arith);
  few_sent = omega arith;
}

-- a place of rate 2/3 by the pattern's entry there
place_at : (i g r : ℕ) → r < 3 → i ≡ 3 * g + r + 1 → two_thirds_place i ≡ 8 * g + (r + 1 + 2 * (r / 2))
place_at i g r small e =
    let q : (i - 1) / 3 ≡ g = omega arith in
    let m : (i - 1) % 3 ≡ r = omega arith in
    rw (q, m) (omega (arith, at_rest r small))

-- the places of rate 2/3 rise
two_thirds_rises : (i j : ℕ) → 1 ≤ i → i < j → two_thirds_place i < two_thirds_place j
two_thirds_rises i j one less =
    let a = place_at i ((i - 1) / 3) ((i - 1) % 3) (omega arith) (omega arith) in
    let b = place_at j ((j - 1) / 3) ((j - 1) % 3) (omega arith) (omega arith) in
    let up : (i - 1) / 3 ≤ (j - 1) / 3 = omega arith in
    omega (arith, a, b, up)

pub p292_rise : PlacesRise p292
p292_rise j a b = two_thirds_rises (j + (j - 1) / 65) (j + 1 + (j + 1 - 1) / 65) (omega arith) (omega arith)

pub p292_lie : PlacesLie p292
p292_lie j a b =
    let i : ℕ = j + (j - 1) / 65 in
    let few : i ≤ 438 = omega arith in
    let u = place_at i ((i - 1) / 3) ((i - 1) % 3) (omega arith) (omega arith) in
    (omega (arith, u), omega (arith, u))

-- the entry i of rate 2/3, not the last of 66, is sent bit i - i / 66
sent_entry : (i : ℕ) → 1 ≤ i → i ≤ 438 → 1 ≤ i % 66
    → (j : ℕ) × (1 ≤ j) × (j ≤ 432) × (j + (j - 1) / 65 ≡ i)
sent_entry i one few within = (i - i / 66, omega arith, omega arith, omega arith)

is_sent : (k out i : ℕ) → 1 ≤ i → i ≤ 438 → 1 ≤ i % 66 → two_thirds_place i ≡ 4 * k + out → IsSent p292 k out
is_sent k out i one few within e =
    let s = sent_entry i one few within in
    (s.0, s.1, s.2, rw s.3 e)

first_of : (k : ℕ) → two_thirds_place (3 * (k / 2) + 2 * (k % 2) + 1) ≡ 4 * k + 1
first_of k =
    let u = place_at (3 * (k / 2) + 2 * (k % 2) + 1) (k / 2) (2 * (k % 2)) (omega arith) (omega arith) in
    omega (arith, u)

second_of : (k : ℕ) → k % 2 ≡ 0 → two_thirds_place (3 * (k / 2) + 2) ≡ 4 * k + 2
second_of k even =
    let u = place_at (3 * (k / 2) + 2) (k / 2) 1 (omega arith) (omega arith) in
    omega (arith, u)

kept : (k : ℕ) → k < 292 → IsSent p292 k 1 ⊎ ((k + 1 < 292) × IsSent p292 (k + 1) 1 × IsSent p292 (k + 1) 2)
kept k l =
    let i : ℕ = 3 * (k / 2) + 2 * (k % 2) + 1 in
    elim (cases_lt 0 (i % 66)) [
      | inl within ↦ inl (is_sent k 1 i (omega arith) (omega arith) within (first_of k))
      | inr not_sent ↦
          let odd : k % 2 ≡ 1 = omega arith in
          let more : k + 1 < 292 = omega arith in
          inr (
            more,
            is_sent (k + 1) 1 (3 * ((k + 1) / 2) + 2 * ((k + 1) % 2) + 1) (omega arith) (omega arith) (omega arith) (first_of (k + 1)),
            is_sent (k + 1) 2 (3 * ((k + 1) / 2) + 2) (omega arith) (omega arith) (omega arith) (second_of (k + 1) (omega arith)),
          )
    ]

pub p292_differ : WordsDiffer p292
p292_differ = words_differ_next p292 (record { outs = lit≤ tt; g10 = refl; g11 = refl; g20 = refl; g21 = refl; sent = kept })
