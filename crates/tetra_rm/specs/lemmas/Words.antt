-- The words of messages.
use Rattle.std.proofs.Common.{◌≡◌, ℕ, ◌+◌, ◌<◌, ◌⊎◌, inl, inr, Bool, List, ◌++◌, length, length-append, take, ap, sym, ◌∙◌}
use Rattle.std.proofs.Math.Seq.{take-append_seam}
use Rattle.std.specs.Prelude.{ℤ}
use Rattle.tetra_bits.specs.Digits.{digits}
use Rattle.tetra_bits.specs.Undamaged.{IsUndamaged}
use Rattle.tetra_bits.specs.lemmas.Written.{written_free, others_cost, free_is_best}
use Rattle.tetra_rm.specs.Code.{rows_sum, access_word, access_metric, best_access, WordsDiffer, UndamagedArrives}
use Rattle.tetra_rm.specs.lemmas.Numbers.{length-digits}

pub length-access_word : (rows : List ℕ) (message : List Bool) → length (access_word rows message) ≡ length message + 16
unfolding access_word
length-access_word rows message =
    length-append message (digits 16 (rows_sum rows message 14)) ∙ ap (λ n. length message + n) (length-digits 16 (rows_sum rows message 14))

same_front : {X : Type 0} (a b x y : List X) → length a ≡ length b → a ++ x ≡ b ++ y → a ≡ b
same_front a b x y l e = sym (take-append_seam a x) ∙ ap (λ n. take n (a ++ x)) l ∙ ap (take (length b)) e ∙ take-append_seam b y

pub differ : WordsDiffer
unfolding access_word
differ rows message other l e =
    same_front message other (digits 16 (rows_sum rows message 14)) (digits 16 (rows_sum rows other 14)) l e

module _ (rows : List ℕ) (message : List Bool) (soft : List ℤ) (size : length message ≡ 14) (u : IsUndamaged (access_word rows message) soft) where
  costs_nothing : access_metric rows soft message ≡ 0
  unfolding access_metric
  costs_nothing = written_free (access_word rows message) soft u

  others : (other : List Bool) → length other ≡ 14 → (message ≡ other) ⊎ (0 < access_metric rows soft other)
  unfolding access_metric
  others other l =
      let same_size : length (access_word rows other) ≡ length (access_word rows message) =
      length-access_word rows other ∙ ap (λ n. n + 16) (l ∙ sym size) ∙ sym (length-access_word rows message) in
      elim (others_cost (access_word rows message) (access_word rows other) soft u same_size) [
        | inl same ↦ inl (sym (differ rows other message (l ∙ sym size) same))
        | inr costs ↦ inr costs
      ]

  read_back : (best_access rows soft ≡ message) × (access_metric rows soft message ≡ 0)
  unfolding best_access
  read_back = (sym (free_is_best 14 (access_metric rows soft) message size costs_nothing others), costs_nothing)

pub arrives : UndamagedArrives
arrives rows message soft size u = read_back rows message soft size u
