-- The laws of the plans of rate 2/3.
use Prim.Native.Nat.{zero, suc}
use Rattle.std.proofs.Common.{ℕ, ◌+◌, ◌-◌, ◌*◌, ◌/◌, ◌%◌, ◌<◌, ◌≡◌, [], ◌∷◌, slice_index, arith, refl, lit≤}
use Rattle.tetra_puncture.specs.lemmas.Differ.{KeepsFirst, words_differ}
use Rattle.tetra_puncture.specs.Plan.{WordsDiffer, HasSizes, PlacesRise, PlacesLie}
use Rattle.tetra_puncture.specs.Places.{two_thirds, IsTwoThirds}

-- an entry of the pattern
pub at_rest : (r : ℕ) → r < 3 → slice_index (1 ∷ 2 ∷ 5 ∷ []) r ≡ r + 1 + 2 * (r / 2)
at_rest zero h = refl
at_rest (suc zero) h = refl
at_rest (suc (suc zero)) h = refl
at_rest (suc (suc (suc r))) h = absurd (omega arith)

pub two_thirds_sizes : (steps sent : ℕ) → IsTwoThirds steps sent → HasSizes (two_thirds steps sent)
two_thirds_sizes steps sent h = record {
  few_outs = (omega arith, omega arith);
  few_steps = (omega arith, omega arith);
  few_sent = omega arith;
}

pub two_thirds_rise : (steps sent : ℕ) → IsTwoThirds steps sent → PlacesRise (two_thirds steps sent)
two_thirds_rise steps sent h j a b =
    let p : (j - 1) % 3 < 3 = omega arith in
    let q : (j + 1 - 1) % 3 < 3 = omega arith in
    let u = at_rest ((j - 1) % 3) p in
    let v = at_rest ((j + 1 - 1) % 3) q in
    omega (arith, u, v)

pub two_thirds_lie : (steps sent : ℕ) → IsTwoThirds steps sent → PlacesLie (two_thirds steps sent)
two_thirds_lie steps sent h j a b =
    let p : (j - 1) % 3 < 3 = omega arith in
    let u = at_rest ((j - 1) % 3) p in
    (omega (arith, u), omega (arith, u))

two_thirds_first : (steps sent : ℕ) → IsTwoThirds steps sent → KeepsFirst (two_thirds steps sent)
two_thirds_first steps sent h = record {
  outs = lit≤ tt;
  g10 = refl;
  sent = λ k l.
      let u = at_rest (2 * (k % 2)) (omega arith) in
      let q : (3 * (k / 2) + 2 * (k % 2) + 1 - 1) / 3 ≡ k / 2 = omega arith in
      let r : (3 * (k / 2) + 2 * (k % 2) + 1 - 1) % 3 ≡ 2 * (k % 2) = omega arith in
      (3 * (k / 2) + 2 * (k % 2) + 1, omega arith, omega arith, rw (q, r) (omega (arith, u)));
}

pub two_thirds_differ : (steps sent : ℕ) → IsTwoThirds steps sent → WordsDiffer (two_thirds steps sent)
two_thirds_differ steps sent h = words_differ (two_thirds steps sent) (two_thirds_first steps sent h)
