-- The channels of EN 300 392-2 clause 8, from the bits of a block (type 1) to the bits that are sent
-- (type 5); the names of the stages are those of clause 8.2.1.
use Rattle.std.specs.Prelude.{◌≡◌, ℕ, ◌+◌, ◌<◌, ◌⊎◌, Bool, false, cond, nat_eq, ℤ, pos, List}
use Rattle.tetra_bits.specs.Digits.{digits}
use Rattle.tetra_interleave.specs.Block.{IsBlock, block_place}
use Rattle.tetra_interleave.specs.Placed.{placed, taken}
use Rattle.tetra_parity.specs.Parity.{with_parity}
use Rattle.tetra_parity.specs.declared.kind.Parity.{Parity}
use Rattle.tetra_parity.specs.declared.kind.Parity.TheVariants.{Nothing, Sixteen}
use Rattle.tetra_puncture.specs.Places.{two_thirds, p292, p148}
use Rattle.tetra_puncture.specs.Plan.{CodePlan, word}
use Rattle.tetra_rm.specs.Code.{access_word}
use Rattle.tetra_scramble.specs.Flips.{flipped, turned}

-- a coded channel: the parity of its blocks, the plan of its code, and the number a of its block interleaver, which has
-- as many entries as the plan sends bits
pub record Channel : Type 0 where
  pub parity : Parity
  pub a : ℕ
  pub plan : CodePlan

-- the channels: 60, 92, 124 and 268 bits with 16 parity bits, and protected data of 288 and of 144 bits with none
abbrev pub bsch : Channel
bsch = record { parity = Sixteen; a = 11; plan = two_thirds 80 120 }

abbrev pub hu : Channel
hu = record { parity = Sixteen; a = 13; plan = two_thirds 112 168 }

abbrev pub half : Channel
half = record { parity = Sixteen; a = 101; plan = two_thirds 144 216 }

abbrev pub full : Channel
full = record { parity = Sixteen; a = 103; plan = two_thirds 288 432 }

abbrev pub data48 : Channel
data48 = record { parity = Nothing; a = 103; plan = p292 }

abbrev pub data24 : Channel
data24 = record { parity = Nothing; a = 103; plan = p148 }

-- the message of a block: the block followed by its parity, where the channel has parity. The four tail
-- bits come with its word: both together are the type-2 bits
unfoldable pub message_of : Channel → List Bool → List Bool
message_of channel block = with_parity channel.parity block

-- type-3 bits: the sent word
unfoldable pub type3_bits : Channel → List Bool → List Bool
type3_bits channel block = word channel.plan (message_of channel block)

-- the place of type-3 bit i among the type-4 bits
abbrev pub type4_place : Channel → ℕ → ℕ
type4_place channel = block_place channel.plan.sent channel.a

-- type-4 bits: interleaved
unfoldable pub type4_bits : Channel → List Bool → List Bool
type4_bits channel block = placed false channel.plan.sent (type4_place channel) (type3_bits channel block)

-- type-5 bits: scrambled from key bit 1 on
unfoldable pub type5_bits : Channel → List Bool → List Bool → List Bool
type5_bits channel key block = flipped (type4_bits channel block) key 1

-- the type-5 bits of a word of type-3 bits that is no block's own, as the slot words of protected data are:
-- interleaved, and scrambled from key bit 1 on
unfoldable pub word_bits : Channel → List Bool → List Bool → List Bool
word_bits channel key word = flipped (placed false channel.plan.sent (type4_place channel) word) key 1

-- received type-5 values in the order of type-3 bits: the signs turned where the key bit is 1, and the
-- interleaver undone
unfoldable pub front_values : Channel → List Bool → List ℤ → List ℤ
front_values channel key soft = taken (pos 0) channel.plan.sent (type4_place channel) (turned soft key 1)

-- type-5 bits of an uncoded block
unfoldable pub raw_bits : List Bool → List Bool → List Bool
raw_bits key block = flipped block key 1

-- type-5 bits of an access field
unfoldable pub access_bits : List ℕ → List Bool → ℕ → List Bool
access_bits rows key message = flipped (access_word rows (digits 14 message)) key 1

-- the kind of so many parity bits, 16 or none
abbrev pub parity_of : ℕ → Parity
parity_of par = cond (nat_eq par 16) Sixteen Nothing

-- the channel whose numbers are written in a type
abbrev pub coded : ℕ → ℕ → CodePlan → Channel
coded par a plan = record { parity = parity_of par; a = a; plan = plan }

-- such numbers fit together: 16 parity bits or none, and a block interleaver that fits the plan
pub record IsChannel (sound : Type 0) (par k a inv : ℕ) (plan : CodePlan) : Type 0 where
  pub is_sound : sound
  pub sent : plan.sent ≡ k
  pub parity : (par ≡ 0) ⊎ (par ≡ 16)
  pub room : par + 4 < plan.steps
  pub block : IsBlock k a inv
