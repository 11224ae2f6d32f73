-- Turning a sign at a time.
use Rattle.std.proofs.Common.{◌≡◌, ℕ, ◌+◌, ◌-◌, ◌%◌, ◌<◌, ◌≢◌, ◌⊎◌, true, false, List, length, get_or, nat_eq, refl, sym, ap, ◌∙◌, arith, add-one, inl, inr, zero, suc}
use Rattle.std.specs.Prelude.{ℤ, pos, neg_ℤ, slice_set}
use Rattle.std.proofs.Math.IntN.{neg_ℤ-neg_ℤ}
use Rattle.std.proofs.lemmas.Bool.Decides.{eqb_tells}
use Rattle.std.proofs.lemmas.List.{get_or-set_same, get_or-set_other, length-set}
use Rattle.tetra_bits.specs.Numbered.{length-numbered, get_or-numbered, is_numbered, all_numbered}
use Rattle.tetra_bits.specs.Soft.{IsSoft, AllSoft, value_at}
use Rattle.tetra_bits.specs.Sums.{sum_below, bit_number}
use Rattle.tetra_bits.specs.lemmas.Within.{neg_within, soft_at}
use Rattle.tetra_gen.specs.Damaged.{position, times_named, turned, turned_at, turned_by, damaged, DamageKeepsLength, DamageKeepsSoft}

even_or_odd : (r : ℕ) → r < 2 → (r ≡ 0) ⊎ (r ≡ 1)
even_or_odd zero h = inl refl
even_or_odd (suc zero) h = inr refl
even_or_odd (suc (suc r)) h = absurd (omega (arith, h))

-- a sign is turned once more
turned_more : (n : ℕ) (value : ℤ) → turned (n + 1) value ≡ neg_ℤ (turned n value)
unfolding turned
turned_more n value = elim (even_or_odd (n % 2) (omega arith)) [
  | inl even ↦ let odd : (n + 1) % 2 ≡ 1 = omega (arith, even) in rw (odd, even) refl
  | inr odd ↦ let even : (n + 1) % 2 ≡ 0 = omega (arith, odd) in rw (even, odd) (sym (neg_ℤ-neg_ℤ value))
]

turned_none : (value : ℤ) → turned 0 value ≡ value
unfolding turned
turned_none value = refl

turned_soft : (n : ℕ) (value : ℤ) → IsSoft value → IsSoft (turned n value)
unfolding turned
turned_soft n value soft = elim (even_or_odd (n % 2) (omega arith)) as (λ _. IsSoft (turned n value)) [
  | inl even ↦ rw even soft
  | inr odd ↦ rw odd (neg_within 127 value soft)
]

module _ (words : ℕ → ℕ) (i : ℕ) where
  -- one word more
  times_more : (d p : ℕ) → times_named words i (d + 1) p ≡ times_named words i d p + bit_number (nat_eq (position (words (i + d))) p)
  unfolding times_named sum_below
  times_more d p = rw add-one refl

  no_times : (p : ℕ) → times_named words i 0 p ≡ 0
  unfolding times_named sum_below
  no_times p = refl

  turned_here : (d : ℕ) (values : List ℤ) (p : ℕ) → nat_eq (position (words (i + d))) p ≡ true
      → turned_at words i (d + 1) values p ≡ neg_ℤ (turned_at words i d values p)
  unfolding turned_at
  turned_here d values p named = rw (times_more d p, named) (turned_more (times_named words i d p) (value_at values (p - 1)))

  kept_there : (d : ℕ) (values : List ℤ) (p : ℕ) → nat_eq (position (words (i + d))) p ≡ false
      → turned_at words i (d + 1) values p ≡ turned_at words i d values p
  unfolding turned_at
  kept_there d values p other =
      let same : times_named words i d p + 0 ≡ times_named words i d p = omega arith in
      rw (times_more d p, other) (ap (λ n. turned n (value_at values (p - 1))) same)

  pub length-turned : (count : ℕ) (values : List ℤ) → length (turned_by words i count values) ≡ length values
  unfolding turned_by
  length-turned count values = length-numbered (turned_at words i count values) (length values)

  -- no word turns nothing
  pub turned_by_none : (values : List ℤ) → values ≡ turned_by words i 0 values
  unfolding turned_by turned_at
  turned_by_none values = is_numbered (turned_at words i 0 values) (length values) (pos 0) values refl (λ k h.
      let back : k + 1 - 1 ≡ k = omega arith in
      rw (no_times (k + 1), back) (sym (turned_none (get_or values k (pos 0)))))

  -- one word more turns the value at its position
  pub turned_by_more : (d place : ℕ) (values old new : List ℤ) → old ≡ turned_by words i d values → place + 1 ≡ position (words (i + d)) → place < length values
      → new ≡ slice_set old place (neg_ℤ (get_or old place (pos 0))) → new ≡ turned_by words i (d + 1) values
  unfolding turned_by
  turned_by_more d place values old new before named within set =
      let f = turned_at words i d values in
      let n = length values in
      let size : length old ≡ n = ap length before ∙ length-numbered f n in
      let entry : (k : ℕ) → k < n → get_or old k (pos 0) ≡ f (k + 1) = λ k h. ap (λ xs. get_or xs k (pos 0)) before ∙ get_or-numbered f n k (pos 0) h in
      is_numbered (turned_at words i (d + 1) values) n (pos 0) new (ap length set ∙ length-set old place (neg_ℤ (get_or old place (pos 0))) ∙ size) (λ k h.
      elim (eqb_tells (position (words (i + d))) (k + 1)) [
        | inl here ↦
            let same : k ≡ place = omega (arith, here.1, named) in
            rw same (ap (λ xs. get_or xs place (pos 0)) set ∙ get_or-set_same old place (neg_ℤ (get_or old place (pos 0))) (pos 0) (omega (arith, size, within))
            ∙ ap neg_ℤ (entry place within) ∙ sym (turned_here d values (place + 1) (rw same at here.0)))
        | inr other ↦
            let apart : k ≢ place = λ e. other.1 (sym named ∙ ap (λ (j : ℕ). j + 1) (sym e)) in
            ap (λ xs. get_or xs k (pos 0)) set ∙ get_or-set_other old place k (neg_ℤ (get_or old place (pos 0))) (pos 0) apart
            ∙ entry k h ∙ sym (kept_there d values (k + 1) other.0)
      ])

  turned_at_soft : (count : ℕ) (values : List ℤ) → AllSoft values → (p : ℕ) → IsSoft (turned_at words i count values p)
  unfolding turned_at
  turned_at_soft count values soft p = turned_soft (times_named words i count p) (value_at values (p - 1)) (soft_at values soft (p - 1))

  pub turned_by_soft : (count : ℕ) (values : List ℤ) → AllSoft values → AllSoft (turned_by words i count values)
  unfolding turned_by
  turned_by_soft count values soft = all_numbered IsSoft (turned_at words i count values) (length values) (turned_at_soft count values soft)

pub keeps_length : DamageKeepsLength
unfolding damaged
keeps_length settings k values = length-turned _ _ _ values

pub keeps_soft : DamageKeepsSoft
unfolding damaged
keeps_soft settings k values soft = turned_by_soft _ _ _ values soft
