-- The summary of a trial: sums over its slots. This project's own.
use Rattle.std.specs.Prelude.{ℕ, ℤ, List, map, zip, sum_by}
use Rattle.std.specs.List.{range_with_len}
use Rattle.tetra_bits.specs.Sums.{sum_below, bit_number}
use Rattle.tetra_settings.specs.declared.readings.SlotReading.{SlotReading}
use Rattle.tetra_settings.specs.declared.types.Settings.{Settings}
use Rattle.tetra_settings.specs.declared.blocks.SlotBlocks.{SlotBlocks}
use Rattle.tetra_session.specs.Sent.{slot_written}
use Rattle.tetra_session.specs.Heard.{slot_reading}
use Rattle.tetra_gen.specs.Made.{made}
use Rattle.tetra_gen.specs.Damaged.{damaged}
use Rattle.tetra_trial.specs.Columns.{Column, Good, Bad, Unchecked, NotYet, Equal, Differ, Other, Metric, adds}
use Rattle.tetra_trial.specs.Sent.{has_letter, in_place}
use Rattle.tetra_trial.specs.declared.tally.Tally.{Tally}

-- the blocks of the slots before slot k
unfoldable pub blocks_before : Settings → ℕ → List SlotBlocks
blocks_before settings k = map (made settings) (range_with_len 0 k)

-- slot k as it is received: as its blocks are sent behind those before, and damaged
unfoldable pub received : Settings → ℕ → List ℤ
received settings k = damaged settings k (slot_written settings (blocks_before settings k) (made settings k))

-- the slots that are received before slot k
unfoldable pub received_before : Settings → ℕ → List (List ℤ)
received_before settings k = map (received settings) (range_with_len 0 k)

-- the reading of slot k
unfoldable pub reading_of : Settings → ℕ → SlotReading
reading_of settings k = slot_reading settings (received_before settings k) (received settings k)

-- what the fields of slot k add to a number
unfoldable pub slot_adds : Settings → Column → ℕ → ℕ
slot_adds settings column k =
    let reading = reading_of settings k in
    sum_by (λ pair. adds column pair.0 pair.1)
    (zip reading.fields.items (in_place settings (blocks_before settings k) (made settings k) reading.letter))

-- what the fields of all slots add to a number
abbrev pub total : Settings → Column → ℕ
total settings column = sum_below settings.slots (slot_adds settings column)

-- 1 where slot k is read with the letter that was sent
unfoldable pub kind_adds : Settings → ℕ → ℕ
kind_adds settings k = bit_number (has_letter (made settings k) (reading_of settings k).letter)

-- the summary
unfoldable pub tally_of : Settings → Tally
tally_of settings = record {
  slots = settings.slots;
  kinds = sum_below settings.slots (kind_adds settings);
  good = total settings Good;
  bad = total settings Bad;
  unchecked = total settings Unchecked;
  notyet = total settings NotYet;
  equal = total settings Equal;
  differ = total settings Differ;
  other = total settings Other;
  metric = total settings Metric;
}
