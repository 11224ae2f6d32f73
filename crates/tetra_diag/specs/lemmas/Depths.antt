-- Facts on depths.
use Rattle.std.proofs.Common.{ℕ, ◌*◌, ◌/◌, ◌≤◌, ◌≡◌, ◌⊎◌, inl, inr, refl, lit≤}
use Rattle.std.proofs.lemmas.Bool.{or_cases, eqb-true}
use Rattle.tetra_diag.specs.Diagonal.{IsDepth}

pub depth_cases : (n : ℕ) → IsDepth n → (n ≡ 1) ⊎ ((n ≡ 4) ⊎ (n ≡ 8))
depth_cases n h = elim (or_cases _ _ h) [
  | inl a ↦ inl (eqb-true n 1 a)
  | inr b ↦ elim (or_cases _ _ b) [ inl c ↦ inr (inl (eqb-true n 4 c)) | inr d ↦ inr (inr (eqb-true n 8 d)) ]
]

-- a slot word has n parts of 432 / n bits
pub record IsWidth (n width : ℕ) : Type 0 where
  pub whole : width * n ≡ 432
  pub some : 1 ≤ n
  pub most : n ≤ 8
  pub wide : 1 ≤ width

pub depth_width : (n : ℕ) → IsDepth n → IsWidth n (432 / n)
depth_width n h = elim (depth_cases n h) [
  | inl e ↦ rw e (record { whole = refl; some = lit≤ tt; most = lit≤ tt; wide = lit≤ tt })
  | inr f ↦ elim f [
    | inl e ↦ rw e (record { whole = refl; some = lit≤ tt; most = lit≤ tt; wide = lit≤ tt })
    | inr e ↦ rw e (record { whole = refl; some = lit≤ tt; most = lit≤ tt; wide = lit≤ tt })
  ]
]
