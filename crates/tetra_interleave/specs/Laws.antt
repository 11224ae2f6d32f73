-- The laws of interleavers.
use Rattle.std.specs.Prelude.{ℕ, ◌*◌, ◌≡◌, Bool, false, List, length, ℤ, pos}
use Rattle.tetra_bits.specs.Undamaged.{IsUndamaged, IsNoneWrong}
use Rattle.tetra_interleave.specs.Block.{block_place, IsBlock}
use Rattle.tetra_interleave.specs.Matrix.{matrix_place}
use Rattle.tetra_interleave.specs.Placed.{IsOneToOne, placed, taken}

-- back after out is the list itself, and out after back too
pub record IsUndone {X : Type 0} (d : X) (n : ℕ) (place : ℕ → ℕ) (x : List X) : Type 0 where
  pub back : taken d n place (placed d n place x) ≡ x
  pub out : placed d n place (taken d n place x) ≡ x

-- so it is for bits and for soft values, at all places that are one-to-one
abbrev pub AllAreUndone : Type 0
AllAreUndone = (n : ℕ) (place : ℕ → ℕ) → IsOneToOne n place
    → ((x : List Bool) → length x ≡ n → IsUndone false n place x)
    × ((x : List ℤ) → length x ≡ n → IsUndone (pos 0) n place x)

-- the places of block interleavers and of matrices are one-to-one
abbrev pub BlocksAreOneToOne : Type 0
BlocksAreOneToOne = (k a inv : ℕ) → IsBlock k a inv → IsOneToOne k (block_place k a)

abbrev pub MatricesAreOneToOne : Type 0
MatricesAreOneToOne = (rows cols : ℕ) → IsOneToOne (rows * cols) (matrix_place rows cols)

-- values that have the signs of interleaved bits have, taken back, the signs of the bits
abbrev pub StayUndamaged : Type 0
StayUndamaged = (n : ℕ) (place : ℕ → ℕ) (bits : List Bool) (soft : List ℤ) → IsOneToOne n place → length bits ≡ n
    → IsUndamaged (placed false n place bits) soft → IsUndamaged bits (taken (pos 0) n place soft)

-- and values none of which has the wrong sign have none of it, taken back
abbrev pub StayNoneWrong : Type 0
StayNoneWrong = (n : ℕ) (place : ℕ → ℕ) (bits : List Bool) (soft : List ℤ) → IsOneToOne n place → length bits ≡ n
    → IsNoneWrong (placed false n place bits) soft → IsNoneWrong bits (taken (pos 0) n place soft)
