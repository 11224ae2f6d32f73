-- What is read of a block that came undamaged.
use Rattle.std.specs.Prelude.{◌≡◌, ℕ, ◌+◌, ◌<◌, ◌^◌, ◌⊎◌, Bool, ℤ, List, length, Some, None}
use Rattle.tetra_bits.specs.Digits.{digits}
use Rattle.tetra_bits.specs.Order.{StandsBefore}
use Rattle.tetra_bits.specs.Undamaged.{IsUndamaged, IsNoneWrong}
use Rattle.tetra_bits.specs.declared.reading.Mark.TheVariants.{Unchecked}
use Rattle.tetra_bits.specs.declared.reading.Reading.{Reading}
use Rattle.tetra_parity.specs.Marks.{good_mark}
use Rattle.tetra_parity.specs.Parity.{width}
use Rattle.tetra_puncture.specs.ToGo.{potentials_of}
use Rattle.tetra_scramble.specs.Flips.{turned}
use Rattle.tetra_channels.specs.Channels.{Channel, message_of, type3_bits, type5_bits, word_bits, front_values, raw_bits, access_bits}
use Rattle.tetra_channels.specs.Fields.{coded_reading, raw_reading, access_reading}

-- the block with its parity, without cost, and Good where the channel has parity
unfoldable pub written_reading : Channel → List Bool → List ℤ → Reading
written_reading channel block soft =
    record {
      mark = good_mark channel.parity;
      metric = 0;
      bits = message_of channel block;
      potentials = Some (potentials_of channel.plan soft);
    }

-- values that have the signs of the type-5 bits of a block are read as that block
abbrev pub UndamagedIsRead : Channel → Type 0
UndamagedIsRead channel =
    (key block : List Bool) (soft : List ℤ) → length block + width channel.parity + 4 ≡ channel.plan.steps
    → IsUndamaged (type5_bits channel key block) soft
    → coded_reading channel (front_values channel key soft)
    ≡ written_reading channel block (front_values channel key soft)

-- so are values that have the signs of its type-3 bits
abbrev pub UndamagedWordIsRead : Channel → Type 0
UndamagedWordIsRead channel =
    (block : List Bool) (soft : List ℤ) → length block + width channel.parity + 4 ≡ channel.plan.steps
    → IsUndamaged (type3_bits channel block) soft
    → coded_reading channel soft ≡ written_reading channel block soft

-- values that have the signs of a word as it is sent have those of the word, in the order of type-3 bits
abbrev pub UndamagedWordArrives : Channel → Type 0
UndamagedWordArrives channel =
    (key word : List Bool) (soft : List ℤ) → length word ≡ channel.plan.sent
    → IsUndamaged (word_bits channel key word) soft
    → IsUndamaged word (front_values channel key soft)

-- plain bits without cost
unfoldable pub written_plain : List Bool → Reading
written_plain bits = record { mark = Unchecked; metric = 0; bits = bits; potentials = None }

-- values that have the signs of the type-5 bits of an uncoded block are read as that block
abbrev pub UndamagedRawIsRead : Type 0
UndamagedRawIsRead = (key block : List Bool) (soft : List ℤ) → IsUndamaged (raw_bits key block) soft
    → raw_reading (turned soft key 1) ≡ written_plain block

-- values that have the signs of the type-5 bits of an access field are read as its message
abbrev pub UndamagedAccessIsRead : Type 0
UndamagedAccessIsRead = (rows : List ℕ) (key : List Bool) (message : ℕ) (soft : List ℤ) → message < 2 ^ 14
    → IsUndamaged (access_bits rows key message) soft
    → access_reading rows (turned soft key 1) ≡ written_plain (digits 14 message)

-- these bits, or some that stand before them in bit order
abbrev pub IsUpTo : List Bool → List Bool → Type 0
IsUpTo bits found = (found ≡ bits) ⊎ StandsBefore found bits

-- a reading without cost, of these bits or of some that stand before them
pub record IsReadUpTo (bits : List Bool) (reading : Reading) : Type 0 where
  pub free : reading.metric ≡ 0
  pub up_to : IsUpTo bits reading.bits

-- values none of which has the wrong sign for the type-3 bits of a block, though some may be 0, are read as that block
-- or as one that stands before it
abbrev pub NoneWrongWordIsRead : Channel → Type 0
NoneWrongWordIsRead channel =
    (block : List Bool) (soft : List ℤ) → length block + width channel.parity + 4 ≡ channel.plan.steps
    → IsNoneWrong (type3_bits channel block) soft → IsReadUpTo (message_of channel block) (coded_reading channel soft)

-- values none of which has the wrong sign for a word as it is sent have none of it for the word, in the order of type-3
-- bits
abbrev pub NoneWrongWordArrives : Channel → Type 0
NoneWrongWordArrives channel =
    (key word : List Bool) (soft : List ℤ) → length word ≡ channel.plan.sent
    → IsNoneWrong (word_bits channel key word) soft → IsNoneWrong word (front_values channel key soft)

-- so it is for an uncoded block
abbrev pub NoneWrongRawIsRead : Type 0
NoneWrongRawIsRead = (key block : List Bool) (soft : List ℤ) → IsNoneWrong (raw_bits key block) soft
    → IsReadUpTo block (raw_reading (turned soft key 1))
