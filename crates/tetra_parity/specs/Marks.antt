-- The mark of a message. This project's own.
use Rattle.std.specs.Prelude.{◌≡◌, ◌≢◌, ◌↔◌, Bool, cond, List}
use Rattle.tetra_bits.specs.declared.reading.Mark.{Mark}
use Rattle.tetra_bits.specs.declared.reading.Mark.TheVariants.{Good, Bad, Unchecked, NotYet}
use Rattle.tetra_parity.specs.Parity.{Holds, holds_of, with_parity}
use Rattle.tetra_parity.specs.declared.kind.Parity.{Parity}
use Rattle.tetra_parity.specs.declared.kind.Parity.TheVariants.{Nothing, Four, Eight, Sixteen}

-- Unchecked where there is no parity, else by a test of it
unfoldable pub mark_by : Parity → Bool → Mark
mark_by Nothing holds = Unchecked
mark_by Four holds = cond holds Good Bad
mark_by Eight holds = cond holds Good Bad
mark_by Sixteen holds = cond holds Good Bad

-- the mark of a message: Good exactly where its parity holds
unfoldable pub mark_of : Parity → List Bool → Mark
mark_of parity message = mark_by parity (holds_of parity message)

-- when each mark comes
pub record IsMarked (parity : Parity) (mark : Mark) (message : List Bool) : Type 0 where
  pub good : (mark ≡ Good) ↔ ((parity ≢ Nothing) × Holds parity message)
  pub bad : (mark ≡ Bad) ↔ ((parity ≢ Nothing) × (Holds parity message → ⊥))
  pub unchecked : (mark ≡ Unchecked) ↔ (parity ≡ Nothing)
  pub here : mark ≢ NotYet

-- the mark as a function is right
abbrev pub MarksAreRight : Type 0
MarksAreRight = (parity : Parity) (message : List Bool) → IsMarked parity (mark_of parity message) message

-- the mark of a block with its parity
unfoldable pub good_mark : Parity → Mark
good_mark Nothing = Unchecked
good_mark Four = Good
good_mark Eight = Good
good_mark Sixteen = Good

-- a block with its parity is marked so
abbrev pub BlocksAreGood : Type 0
BlocksAreGood = (parity : Parity) (block : List Bool) → mark_of parity (with_parity parity block) ≡ good_mark parity
