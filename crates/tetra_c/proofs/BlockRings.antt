-- The blocks that are kept of a timeslot, one block on.
use Rattle.std.proofs.Common.{ℕ, ◌+◌, ◌-◌, ◌<◌, ◌≤◌, ◌≡◌, Bool, true, false, List, [], ◌∷◌, ◌++◌, length, map, take, get_or, arith, refl, ap, sym, ◌∙◌, inl, inr}
use Rattle.std.specs.Prelude.{IsTrue, All, slice_index}
use Rattle.std.proofs.lemmas.Bool.{cases_lt}
use Rattle.std.proofs.lemmas.List.{length-map, get_or-map, drop_all}
use Rattle.tetra_bits.specs.Numbered.{is_numbered, length-numbered, get_or-numbered}
use Rattle.tetra_bits.specs.Sums.{bit_number}
use Rattle.tetra_diag.specs.Ring.{Puts}
use Rattle.tetra_diag.specs.lemmas.Rings.{turned_put, ring_put}
use Rattle.tetra_c.specs.Bytes.{is_one, bytes_of}
use Rattle.tetra_c.specs.KeptBlocks.{kept_bits, kept_blocks, KeepsLast, KeptStands}
use Rattle.tetra_c.specs.Rings.{is_ring}
use Rattle.tetra_c.specs.declared.kept_blocks.TetraKeptBlock.{TetraKeptBlock}
use Rattle.tetra_c.specs.declared.kept_blocks.TetraKeptBlocks.{TetraKeptBlocks}
use Rattle.tetra_c.proofs.RingTests.{ring_holds, taken_few}

pub block_size : (block : TetraKeptBlock) → length (kept_bits block) ≡ 432
block_size block = length-numbered (λ k. is_one (slice_index block.bits (k - 1))) 432

-- a bit that is read
pub block_bit : (block : TetraKeptBlock) (i : ℕ) → i < 432 → get_or (kept_bits block) i false ≡ is_one (slice_index block.bits i)
block_bit block i within =
    let back : i + 1 - 1 ≡ i = omega arith in
    get_or-numbered (λ k. is_one (slice_index block.bits (k - 1))) 432 i false within ∙ ap (λ j. is_one (slice_index block.bits j)) back

one_of : (b : Bool) → is_one (bit_number b) ≡ b
one_of true = refl
one_of false = refl

-- a block whose bits are written
pub block_written : (row : TetraKeptBlock) (block : List Bool) → length block ≡ 432 → row.bits ≡ bytes_of block → kept_bits row ≡ block
block_written row block size written =
    sym (is_numbered (λ k. is_one (slice_index row.bits (k - 1))) 432 false block size
    (λ k low.
    let back : k + 1 - 1 ≡ k = omega arith in
    let within : k < length block = omega (arith, size) in
    sym (ap (λ j. is_one (slice_index row.bits j)) back ∙ ap (λ bytes. is_one (get_or bytes k 0)) written
    ∙ ap is_one (get_or-map bit_number block k false 0 within) ∙ one_of (get_or block k false))))

-- each block has 432 bits
pub blocks_whole : (blocks : List TetraKeptBlock) → All (λ b. length (kept_bits b) ≡ 432) blocks
blocks_whole blocks = λ k block low. block_size _

-- the test finds a ring where the last n blocks are kept
pub ring_tested : (n : ℕ) (blocks : List (List Bool)) (kept : TetraKeptBlocks) → KeepsLast n blocks kept → IsTrue (is_ring n kept.count kept.oldest)
ring_tested n blocks kept keeps =
    let l : length (kept_blocks kept) ≤ kept.count =
    omega (arith, length-map (take kept.count kept.blocks) kept_bits, taken_few kept.count kept.blocks) in
    ring_holds n kept.count kept.oldest
    (record { low = keeps.ring.low; few = keeps.few; straight = λ h. keeps.ring.straight (omega (arith, l, h)) })

-- and where they stand for the blocks of a timeslot
pub stands_tested : (n : ℕ) (blocks : List (List Bool)) (kept : TetraKeptBlocks) → KeptStands n blocks kept → IsTrue (is_ring n kept.count kept.oldest)
stands_tested n blocks kept stands = elim (cases_lt 0 n) [
  | inl some ↦ ring_tested n blocks kept (stands (omega arith))
  | inr none ↦ let z : n ≡ 0 = omega arith in rw z refl
]

-- the last n blocks, one block on
pub keeps_put : (n : ℕ) (blocks : List (List Bool)) (old new : TetraKeptBlocks) (block : List Bool) → new.count ≤ n → KeepsLast n blocks old
    → Puts n old.oldest (kept_blocks old) block new.oldest (kept_blocks new) → KeepsLast n (blocks ++ block ∷ []) new
keeps_put n blocks old new block few keeps puts =
    record {
      few = few;
      ring = ring_put n old.oldest new.oldest (kept_blocks old) (kept_blocks new) block keeps.ring puts;
      last = turned_put n old.oldest new.oldest blocks (kept_blocks old) (kept_blocks new) block keeps.ring puts keeps.last;
    }

-- no block yet
pub keeps_none : (n : ℕ) (kept : TetraKeptBlocks) → 1 ≤ n → kept.count ≡ 0 → kept.oldest ≡ 0 → KeepsLast n [] kept
keeps_none n kept some count oldest =
    let none : kept_blocks kept ≡ [] = ap (λ m. map kept_bits (take m kept.blocks)) count in
    record {
      few = omega (arith, count);
      ring = record { low = omega (arith, oldest, some); few = omega (arith, ap length none); straight = λ _. oldest };
      last = rw (none, oldest) (sym (drop_all (0 - n) [] (omega arith)));
    }
