-- Lists that are written in place, an entry a turn, until they are the list of a formula.
use Rattle.std.proofs.Common.{◌≡◌, ℕ, ◌+◌, ◌<◌, ◌≤◌, inl, inr, List, length, get_or, arith, ap, ◌∙◌}
use Rattle.std.specs.Prelude.{slice_set}
use Rattle.std.proofs.lemmas.Bool.{cases_lt}
use Rattle.std.proofs.lemmas.List.{get_or-set_same, get_or-set_other}
use Rattle.tetra_bits.specs.Numbered.{numbered, is_numbered}

module _ {X : Type 0} (f : ℕ → X) (d : X) where
  -- the first i entries are f 1, f 2 and so on up to f i
  abbrev pub Begins : ℕ → List X → Type 0
  Begins i xs = (k : ℕ) → k < i → get_or xs k d ≡ f (k + 1)

  pub begins_none : (xs : List X) → Begins 0 xs
  begins_none xs k h = absurd (omega (arith, h))

  -- one more is written
  pub begins_set : (i : ℕ) (old new : List X) (x : X) → Begins i old → new ≡ slice_set old i x → i < length old
      → x ≡ f (i + 1) → Begins (i + 1) new
  begins_set i old new x before en within ex k h = elim (cases_lt k i) [
    | inl lt ↦ ap (λ xs. get_or xs k d) en ∙ get_or-set_other old i k x d (omega (arith, lt)) ∙ before k lt
    | inr ge ↦
        let here : k ≡ i = omega (arith, ge, h) in
        rw here (ap (λ xs. get_or xs i d) en ∙ get_or-set_same old i x d within ∙ ex)
  ]

  -- all are written
  pub begins_all : (n i : ℕ) (xs : List X) → length xs ≡ n → Begins i xs → n ≤ i → xs ≡ numbered f n
  begins_all n i xs size all end =
      is_numbered f n d xs size (λ k h. let below : k < i = omega (arith, h, end) in all k below)
