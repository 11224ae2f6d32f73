-- Decoding of slots that encoding wrote.
use Prim.Native.Nat.{zero, suc}
use Rattle.std.proofs.Common.{◌≡◌, ℕ, ◌-◌, ◌<◌, ◌≤◌, List, [], ◌∷◌, ◌++◌, length, map, true, false, nat_lt, nat_eq, ℤ, pos, negsuc, arith, refl, sym, ap, subst, ◌∙◌, length-append, append-nil, All}
use Rattle.std.proofs.lemmas.Bool.Decides.{nat_tests}
use Rattle.std.proofs.lemmas.Int.{ints}
use Rattle.std.proofs.lemmas.List.{length-map}
use Rattle.std.specs.Bool.{⊤}
use Rattle.std.specs.List.{concat}
use Rattle.tetra_bits.specs.Soft.{IsSoft, AllSoft, soft_value}
use Rattle.tetra_records.specs.Readings.{reading_spelling}
use Rattle.tetra_session.specs.Arrives.{SlotsArrive, WrittenSlotsArrive}
use Rattle.tetra_session.specs.Data.{DataArrives}
use Rattle.tetra_session.specs.Heard.{letter_heard, block_heard, slot_front, slot_reading}
use Rattle.tetra_session.specs.Sent.{slot_written, KeepsSlot}
use Rattle.tetra_settings.specs.Slots.{mode_of, use_of}
use Rattle.tetra_settings.specs.declared.blocks.SlotBlocks.{SlotBlocks}
use Rattle.tetra_settings.specs.declared.readings.SlotReading.{SlotReading}
use Rattle.tetra_settings.specs.declared.types.Form.{Form}
use Rattle.tetra_settings.specs.declared.types.Settings.{Settings}
use Rattle.tetra_engine.specs.declared.status.Status.TheVariants.{Done}
use Rattle.tetra_engine.proofs.DataReadings.{readings_of, over_slots, all_over_slots}
use Rattle.tetra_engine.specs.Agreeing.{to_read_back}
use Rattle.tetra_engine.specs.Arriving.{IsKept, AreReceived, AreRead, records, NameBlocks, slots_for, ReceivedIsDecoded, EncodedIsDecoded}
use Rattle.tetra_engine.specs.Decoding.{decoding, framed}
use Rattle.tetra_engine.specs.Encoding.{encoding}
use Rattle.tetra_engine.specs.Outcomes.{Outcome}
use Rattle.tetra_engine.specs.Shapes.{AreInputs, spellings, outputs}
use Rattle.tetra_engine.specs.Slots.{soft_values, value_byte, slot_bytes}

module _ (settings : Settings) (form : Form) (max : ℕ) where
  -- neither form nor number of slots has a part in what is read
  reading_same : (history : List (List ℤ)) (soft : List ℤ) → slot_reading (to_read_back settings form max) history soft ≡ slot_reading settings history soft
  unfolding slot_reading slot_front block_heard letter_heard use_of mode_of
  reading_same history soft = refl

  spelled : (slots before : List (List ℕ)) → outputs (decoding (to_read_back settings form max)) before slots ≡ records form slots (readings_of settings before slots)
  unfolding readings_of
  spelled [] before = refl
  spelled (slot ∷ slots) before =
      ap (λ reading. framed form slot (reading_spelling form reading) ++ outputs (decoding (to_read_back settings form max)) (before ++ slot ∷ []) slots) (reading_same (map soft_values before) (soft_values slot))
      ∙ ap (λ rest. framed form slot (reading_spelling form (slot_reading settings (map soft_values before) (soft_values slot))) ++ rest) (spelled slots (before ++ slot ∷ []))

  as_they_are : (slots : List (List ℕ)) → concat slots ≡ spellings (decoding (to_read_back settings form max)) slots
  as_they_are [] = refl
  as_they_are (slot ∷ slots) = ap (λ rest. slot ++ rest) (as_they_are slots)

  inputs : (slots before : List (List ℕ)) → All (λ slot. length slot ≡ 510) slots → AreInputs (decoding (to_read_back settings form max)) before slots
  inputs [] before sizes = tt
  inputs (slot ∷ slots) before sizes = (sizes 0 slot (omega arith), inputs slots (before ++ slot ∷ []) (λ k d within. sizes (suc k) d (omega arith)))

  -- each slot that is undamaged is read as its blocks
  read : SlotsArrive → (all sent : List SlotBlocks) (slots before : List (List ℕ)) → length before ≡ length sent → length slots ≡ length all → AreInputs (encoding settings) sent all
      → AreRead (IsKept settings) sent all slots (readings_of settings before slots)
  unfolding readings_of
  read arrive [] sent [] before same many each = tt
  read arrive [] sent (slot ∷ slots) before same many each = absurd (omega arith)
  read arrive (blocks ∷ all) sent [] before same many each = absurd (omega arith)
  read arrive (blocks ∷ all) sent (slot ∷ slots) before same many each = (
    arrive settings sent blocks (map soft_values before) (soft_values slot) each.0 (length-map before soft_values ∙ same),
    read arrive all (sent ++ blocks ∷ []) slots (before ++ slot ∷ []) (omega (arith, length-append before (slot ∷ []), length-append sent (blocks ∷ []))) (omega arith) each.1,
  )

no_more : (slot rest : List ℕ) → length slot ≡ 510 → [] ≡ slot ++ rest → ⊥
no_more slot rest size e = absurd (omega (arith, ap length e, length-append slot rest))

pub received_is_decoded : SlotsArrive → DataArrives → ReceivedIsDecoded
received_is_decoded arrive arrive_data settings form max bytes end ran received few each = record {
  xs = received;
  rest = [];
  cut = record {
    whole = as_they_are settings form max received ∙ sym (append-nil (spellings (decoding (to_read_back settings form max)) received));
    each = inputs settings form max received [] each.sizes;
    few = omega (arith, each.many, ran.slots);
    longest = λ below slot rest fits e. no_more slot rest fits e;
  };
  closes = refl;
  slots = ran.slots ∙ sym each.many;
  output = record {
    readings = readings_of settings [] received;
    read = read settings form max arrive ran.xs [] received [] refl each.many ran.cut.each;
    over_slots = over_slots settings arrive_data ran.xs received each.many ran.cut.each;
    spelled = spelled settings form max received [];
  };
}

-- a soft value is read from its own byte
value_back : (v : ℤ) → IsSoft v → soft_value (value_byte v) ≡ v
value_back (pos n) soft =
    let below : n < 128 = omega (arith, ints, soft.1) in
    let low : nat_lt n 128 ≡ true = grind (arith, nat_tests) in
    rw low refl
value_back (negsuc n) soft =
    let above : n ≤ 126 = omega (arith, ints, soft.0) in
    let low : nat_lt (255 - n) 128 ≡ false = grind (arith, nat_tests) in
    let edge : nat_eq (255 - n) 128 ≡ false = grind (arith, nat_tests) in
    let same : 255 - (255 - n) ≡ n = omega arith in
    rw (low, edge, same) refl

slot_back : (values : List ℤ) → AllSoft values → soft_values (slot_bytes values) ≡ values
slot_back [] soft = refl
slot_back (v ∷ values) soft =
    ap (λ x. x ∷ soft_values (slot_bytes values)) (value_back v (soft 0 v (omega arith)))
    ∙ ap (λ rest. v ∷ rest) (slot_back values (λ k d within. soft (suc k) d (omega arith)))

module _ (settings : Settings) (keep : WrittenSlotsArrive) where
  kept : (history : List SlotBlocks) (blocks : SlotBlocks) → IsKept settings history blocks (slot_bytes (slot_written settings history blocks))
  kept history blocks =
      let own = keep settings history blocks in
      subst (KeepsSlot settings history blocks) (sym (slot_back (slot_written settings history blocks) own.soft)) own.kept

  long : (history : List SlotBlocks) (blocks : SlotBlocks) → length (slot_bytes (slot_written settings history blocks)) ≡ 510
  long history blocks = length-map (slot_written settings history blocks) value_byte ∙ (keep settings history blocks).size

  -- as many slots are written as there are blocks, each of 510 bytes
  many : (all before : List SlotBlocks) → length (slots_for settings before all) ≡ length all
  many [] before = refl
  many (blocks ∷ all) before = ap (λ n. suc n) (many all (before ++ blocks ∷ []))

  sizes : (all before : List SlotBlocks) → All (λ slot. length slot ≡ 510) (slots_for settings before all)
  sizes [] before k d within = absurd (omega arith)
  sizes (blocks ∷ all) before zero d within = long before blocks
  sizes (blocks ∷ all) before (suc k) d within = sizes all (before ++ blocks ∷ []) k d (omega arith)

  received : (all : List SlotBlocks) → AreReceived all (slots_for settings [] all)
  received all = record { many = many all []; sizes = sizes all [] }

  all_read : (all before : List SlotBlocks) (readings : List SlotReading) → AreRead (IsKept settings) before all (slots_for settings before all) readings
      → AreRead (λ sent blocks slot. ⊤) before all (slots_for settings before all) readings
  all_read [] before [] read = tt
  all_read [] before (reading ∷ readings) read = absurd read
  all_read (blocks ∷ all) before [] read = absurd read
  all_read (blocks ∷ all) before (reading ∷ readings) read = (λ _. read.0 (kept before blocks), all_read all (before ++ blocks ∷ []) readings read.1)

one_by_one : (settings : Settings) (all before : List SlotBlocks) → concat (slots_for settings before all) ≡ outputs (encoding settings) before all
one_by_one settings [] before = refl
one_by_one settings (blocks ∷ all) before = ap (λ rest. slot_bytes (slot_written settings before blocks) ++ rest) (one_by_one settings all (before ++ blocks ∷ []))

pub encoded_is_decoded : SlotsArrive → DataArrives → WrittenSlotsArrive → EncodedIsDecoded
encoded_is_decoded arrive arrive_data keep settings form max bytes written end ran few =
    let anything : Outcome (encoding settings) settings.max bytes (λ output. ⊤) end = record { xs = ran.xs; rest = ran.rest; cut = ran.cut; closes = ran.closes; slots = ran.slots; output = tt } in
    let slots : List (List ℕ) = slots_for settings [] ran.xs in
    let decoded = received_is_decoded arrive arrive_data settings form max bytes end anything slots few (received settings keep ran.xs) in
    let same : concat slots ≡ written = one_by_one settings ran.xs [] ∙ ran.output in
    let named : NameBlocks (λ before blocks slot. ⊤) settings form ran.xs slots (outputs (decoding (to_read_back settings form max)) [] decoded.xs) = record { readings = decoded.output.readings; read = all_read settings keep ran.xs [] decoded.output.readings decoded.output.read; over_slots = all_over_slots settings (kept settings keep) ran.xs decoded.output.readings decoded.output.over_slots; spelled = decoded.output.spelled } in
    let again : Outcome (decoding (to_read_back settings form max)) max (concat slots) (NameBlocks (λ before blocks slot. ⊤) settings form ran.xs slots) (record { status = Done; slots = end.slots }) =
    record { xs = decoded.xs; rest = decoded.rest; cut = decoded.cut; closes = decoded.closes; slots = decoded.slots; output = named } in
    rw same at again
