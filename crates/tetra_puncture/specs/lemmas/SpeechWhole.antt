-- The laws of the plan of speech in a whole slot.
use Rattle.std.proofs.Common.{ℕ, ◌+◌, ◌-◌, ◌*◌, ◌/◌, ◌%◌, ◌<◌, ◌≤◌, ◌≡◌, inl, inr, true, false, arith, refl, lit≤, ◌∙◌}
use Rattle.std.specs.Prelude.{nat_le}
use Rattle.std.proofs.lemmas.Bool.{cases_lt}
use Rattle.std.proofs.lemmas.Bool.Decides.{nat_tests}
use Rattle.tetra_puncture.specs.Places.{speech_whole, speech_whole_place, class1_place, whole_class2_place}
use Rattle.tetra_puncture.specs.Plan.{WordsDiffer, HasSizes, PlacesRise, PlacesLie}
use Rattle.tetra_puncture.specs.lemmas.Differ.{IsSent, words_differ}
use Rattle.tetra_puncture.specs.lemmas.Speech.{class1_rises, whole_rises, class1_lies, whole_lies, class1_first, whole_first}

pub speech_whole_sizes : HasSizes speech_whole
speech_whole_sizes = record {
  few_outs = (omega arith, omega arith);
  few_steps = (omega arith, omega arith);
  few_sent = omega arith;
}

front : (j : ℕ) → j ≤ 168 → speech_whole_place j ≡ class1_place j
front j h = let t : nat_le j 168 ≡ true = grind (arith, nat_tests) in rw t refl

behind : (j : ℕ) → 168 < j → speech_whole_place j ≡ 336 + whole_class2_place (j - 168)
behind j h = let t : nat_le j 168 ≡ false = grind (arith, nat_tests) in rw t refl

pub speech_whole_rise : PlacesRise speech_whole
speech_whole_rise j a b = elim (cases_lt j 168) [
  | inl early ↦ omega (arith, front j (omega arith), front (j + 1) (omega arith), class1_rises j (j + 1) a (omega arith))
  | inr late ↦ elim (cases_lt 168 j) [
    | inl above ↦ omega (
      arith,
      behind j above,
      behind (j + 1) (omega arith),
      whole_rises (j - 168) (j + 1 - 168) (omega arith) (omega arith),
    )
    | inr last ↦ omega (
      arith,
      front j last,
      behind (j + 1) (omega arith),
      class1_lies j 56 a (omega arith),
      whole_lies (j + 1 - 168) 18 (omega arith) (omega arith),
    )
  ]
]

pub speech_whole_lie : PlacesLie speech_whole
speech_whole_lie j a b = elim (cases_lt 168 j) [
  | inl above ↦ let l = whole_lies (j - 168) 18 (omega arith) (omega arith) in
      (omega (arith, behind j above, l), omega (arith, behind j above, l))
  | inr few ↦ let l = class1_lies j 56 a (omega arith) in (omega (arith, front j few, l), omega (arith, front j few, l))
]

kept : (k : ℕ) → k < 184 → IsSent speech_whole k 1
kept k l = elim (cases_lt k 112) [
  | inl early ↦
      let j : ℕ = 3 * (k / 2) + 2 * (k % 2) + 1 in
      let few : j ≤ 168 = omega arith in
      (j, omega arith, omega arith, front j few ∙ class1_first k)
  | inr late ↦
      let n : ℕ = k - 112 in
      let i : ℕ = 9 * (n / 4) + (2 * (n % 4) + (n % 4 + 3) / 4) + 1 in
      let few : i ≤ 162 = omega arith in
      let back : i + 168 - 168 ≡ i = omega arith in
      let first : whole_class2_place i ≡ 3 * n + 1 = whole_first n in
      (i + 168, omega arith, omega arith, behind (i + 168) (omega arith) ∙ rw back (omega (arith, first)))
]

pub speech_whole_differ : WordsDiffer speech_whole
speech_whole_differ = words_differ speech_whole (record { outs = lit≤ tt; g10 = refl; sent = kept })
