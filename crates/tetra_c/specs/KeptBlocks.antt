-- The blocks that a sender for C keeps of a timeslot.
use Rattle.std.specs.Prelude.{ℕ, ◌≡◌, ◌-◌, ◌≤◌, Bool, List, map, take, slice_index}
use Rattle.tetra_bits.specs.Numbered.{numbered}
use Rattle.tetra_diag.specs.Diagonal.{last}
use Rattle.tetra_diag.specs.Ring.{IsRing, turned}
use Rattle.tetra_c.specs.Bytes.{is_one}
use Rattle.tetra_c.specs.declared.kept_blocks.TetraKeptBlock.{TetraKeptBlock}
use Rattle.tetra_c.specs.declared.kept_blocks.TetraKeptBlocks.{TetraKeptBlocks}

-- the bits of a block
abbrev pub kept_bits : TetraKeptBlock → List Bool
kept_bits block = numbered (λ k. is_one (slice_index block.bits (k - 1))) 432

-- the blocks that are kept, as they stand
abbrev pub kept_blocks : TetraKeptBlocks → List (List Bool)
kept_blocks kept = map kept_bits (take kept.count kept.blocks)

-- the last n of these blocks are kept
pub record KeepsLast (n : ℕ) (blocks : List (List Bool)) (kept : TetraKeptBlocks) : Type 0 where
  pub few : kept.count ≤ n
  pub ring : IsRing n kept.oldest (kept_blocks kept)
  pub last : turned kept.oldest (kept_blocks kept) ≡ last n blocks

-- what is kept of a timeslot stands for the blocks that its slots brought: nothing is asked where they are not spread
abbrev pub KeptStands : ℕ → List (List Bool) → TetraKeptBlocks → Type 0
KeptStands n blocks kept = 1 ≤ n → KeepsLast n blocks kept
