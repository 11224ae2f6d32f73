-- Gathering undoes spreading: what holds between bits and values at each place of the last n slot words holds at each
-- place of the block that they complete.
use Rattle.std.specs.Prelude.{ℕ, ◌+◌, ◌<◌, ◌≤◌, ◌≡◌, Bool, ℤ, List, [], length, take, slice_index_or, All, IfSome}
use Rattle.tetra_bits.specs.Undamaged.{IsUndamaged, IsNoneWrong}
use Rattle.tetra_diag.specs.Diagonal.{IsDepth, spread_word, gathered, complete_block}

-- each of the last n words stands to the slot word of its block as P says
pub record EachWord (P : List Bool → List ℤ → Type 0) (n : ℕ) (blocks : List (List Bool)) (words : List (List ℤ))
    : Type 0 where
  pub size : length words ≡ length blocks
  pub each : (m : ℕ) → m < length words → length words ≤ m + n
      → P (spread_word n (take (m + 1) blocks)) (slice_index_or words m [])

-- blocks whose words all arrive undamaged arrive undamaged
abbrev pub UndamagedArrives : Type 0
UndamagedArrives =
    (n : ℕ) (blocks : List (List Bool)) (words : List (List ℤ)) → IsDepth n → All (λ b. length b ≡ 432) blocks
    → EachWord IsUndamaged n blocks words → IfSome (gathered n words) (IsUndamaged (complete_block n blocks))

-- blocks of whose words no value has the wrong sign arrive with no wrong sign
abbrev pub NoneWrongArrives : Type 0
NoneWrongArrives =
    (n : ℕ) (blocks : List (List Bool)) (words : List (List ℤ)) → IsDepth n → All (λ b. length b ≡ 432) blocks
    → EachWord IsNoneWrong n blocks words → IfSome (gathered n words) (IsNoneWrong (complete_block n blocks))
