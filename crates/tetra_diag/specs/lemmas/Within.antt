-- Values from -top to top stay so.
use Rattle.std.proofs.Common.{ℕ, ◌+◌, ◌-◌, ◌*◌, ◌/◌, ◌%◌, ◌<◌, ◌≡◌, inl, inr, true, false, List, [], length, get_or, arith, nat_lt, ℤ}
use Rattle.std.specs.Prelude.{All, IfSome}
use Rattle.std.proofs.lemmas.Bool.{lt-ltb, le-ltb, cases_lt}
use Rattle.std.proofs.lemmas.List.{get_or_past}
use Rattle.tetra_bits.specs.Numbered.{length-numbered, get_or-numbered}
use Rattle.tetra_bits.specs.Soft.{IsWithin, AllWithin}
use Rattle.tetra_bits.specs.lemmas.Within.{within_at}
use Rattle.tetra_diag.specs.Diagonal.{gathered_value, gathered}

module _ (top : ℕ) (words : List (List ℤ)) (all : All (AllWithin top) words) where
  word_within : (m : ℕ) → AllWithin top (get_or words m [])
  word_within m = elim (cases_lt m (length words)) as (λ _. AllWithin top (get_or words m [])) [
    | inl lt ↦ all m [] lt
    | inr past ↦ rw (get_or_past words m [] past) (λ k d h. absurd (omega arith))
  ]

  value_within : (n q : ℕ) → IsWithin top (gathered_value n words q)
  unfolding gathered_value
  value_within n q =
      within_at top (get_or words (length words - n + (q - 1) % n) []) (word_within (length words - n + (q - 1) % n))
      ((q - 1) % n * (432 / n) + (q - 1) / n + 1 - 1)

  pub gathered_within : (n : ℕ) → IfSome (gathered n words) (AllWithin top)
  unfolding gathered
  gathered_within n =
      elim (cases_lt (length words) n) [
        | inl lt ↦
            let t : nat_lt (length words) n ≡ true = lt-ltb _ _ lt in
            rw t tt
        | inr ge ↦
            let t : nat_lt (length words) n ≡ false = le-ltb _ _ ge in
            rw t
            (λ k d h.
            let c : k < 432 = omega (arith, length-numbered (gathered_value n words) 432) in
            rw (get_or-numbered (gathered_value n words) 432 k d c) (value_within n (k + 1)))
      ]
