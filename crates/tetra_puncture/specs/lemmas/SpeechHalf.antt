-- The laws of the plan of speech in half a slot.
use Rattle.std.proofs.Common.{ℕ, ◌+◌, ◌-◌, ◌*◌, ◌/◌, ◌%◌, ◌<◌, ◌≤◌, ◌≡◌, inl, inr, true, false, arith, refl, lit≤, ◌∙◌}
use Rattle.std.specs.Prelude.{nat_le}
use Rattle.std.proofs.lemmas.Bool.{cases_lt}
use Rattle.std.proofs.lemmas.Bool.Decides.{nat_tests}
use Rattle.tetra_puncture.specs.Places.{speech_half, speech_half_place, class1_place, half_class2_place}
use Rattle.tetra_puncture.specs.Plan.{WordsDiffer, HasSizes, PlacesRise, PlacesLie}
use Rattle.tetra_puncture.specs.lemmas.Differ.{IsSent, words_differ}
use Rattle.tetra_puncture.specs.lemmas.Speech.{class1_rises, half_rises, class1_lies, half_lies, class1_first, half_first}

pub speech_half_sizes : HasSizes speech_half
speech_half_sizes = record {
  few_outs = (omega arith, omega arith);
  few_steps = (omega arith, omega arith);
  few_sent = omega arith;
}

front : (j : ℕ) → j ≤ 84 → speech_half_place j ≡ class1_place j
front j h = let t : nat_le j 84 ≡ true = grind (arith, nat_tests) in rw t refl

behind : (j : ℕ) → 84 < j → speech_half_place j ≡ 168 + half_class2_place (j - 84)
behind j h = let t : nat_le j 84 ≡ false = grind (arith, nat_tests) in rw t refl

pub speech_half_rise : PlacesRise speech_half
speech_half_rise j a b = elim (cases_lt j 84) [
  | inl early ↦ omega (arith, front j (omega arith), front (j + 1) (omega arith), class1_rises j (j + 1) a (omega arith))
  | inr late ↦ elim (cases_lt 84 j) [
    | inl above ↦ omega (
      arith,
      behind j above,
      behind (j + 1) (omega arith),
      half_rises (j - 84) (j + 1 - 84) (omega arith) (omega arith),
    )
    | inr last ↦ omega (
      arith,
      front j last,
      behind (j + 1) (omega arith),
      class1_lies j 28 a (omega arith),
      half_lies (j + 1 - 84) (omega arith) (omega arith),
    )
  ]
]

pub speech_half_lie : PlacesLie speech_half
speech_half_lie j a b = elim (cases_lt 84 j) [
  | inl above ↦ let l = half_lies (j - 84) (omega arith) (omega arith) in
      (omega (arith, behind j above, l), omega (arith, behind j above, l))
  | inr few ↦ let l = class1_lies j 28 a (omega arith) in (omega (arith, front j few, l), omega (arith, front j few, l))
]

kept : (k : ℕ) → k < 94 → IsSent speech_half k 1
kept k l = elim (cases_lt k 56) [
  | inl early ↦
      let j : ℕ = 3 * (k / 2) + 2 * (k % 2) + 1 in
      let few : j ≤ 84 = omega arith in
      (j, omega arith, omega arith, front j few ∙ class1_first k)
  | inr late ↦
      let n : ℕ = k - 56 in
      let i : ℕ = 17 * (n / 8) + (2 * (n % 8) + (n % 8 + 7) / 8) + 1 in
      let few : i ≤ 81 = omega arith in
      let back : i + 84 - 84 ≡ i = omega arith in
      let first : half_class2_place i ≡ 3 * n + 1 = half_first n in
      (i + 84, omega arith, omega arith, behind (i + 84) (omega arith) ∙ rw back (omega (arith, first)))
]

pub speech_half_differ : WordsDiffer speech_half
speech_half_differ = words_differ speech_half (record { outs = lit≤ tt; g10 = refl; sent = kept })
