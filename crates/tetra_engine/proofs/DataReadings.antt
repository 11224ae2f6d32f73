-- Of protected data over several slots, decoding reads each block whose slots are undamaged.
use Prim.Native.Nat.{zero, suc}
use Rattle.std.proofs.Common.{◌≡◌, ℕ, ◌+◌, ◌<◌, ◌≤◌, List, [], ◌∷◌, ◌++◌, length, take, map, get_or, ℤ, arith, refl, sym, ap, subst, ◌∙◌}
use Rattle.std.proofs.lemmas.List.{append_assoc, append-nil, get_or-map, get_or-take, length-map, length-take, length-take-le, map_more, take_more}
use Rattle.std.specs.Bool.{⊤}
use Rattle.tetra_session.specs.Data.{IsKept as IsUndamaged, DataRead, DataArrives}
use Rattle.tetra_session.specs.Heard.{letter_heard, slot_reading}
use Rattle.tetra_session.specs.Sent.{slot_written, KeepsSlot}
use Rattle.tetra_session.specs.Time.{depth}
use Rattle.tetra_settings.specs.Blocks.{Fits}
use Rattle.tetra_settings.specs.Readings.{traffic_name}
use Rattle.tetra_settings.specs.Slots.{timeslot_of, mode_of, use_of}
use Rattle.tetra_settings.specs.declared.blocks.SlotBlocks.{SlotBlocks}
use Rattle.tetra_settings.specs.declared.readings.FieldName.{FieldName}
use Rattle.tetra_settings.specs.declared.readings.FieldName.TheVariants.{Whole}
use Rattle.tetra_settings.specs.declared.readings.SlotReading.{SlotReading}
use Rattle.tetra_settings.specs.declared.slots.Letter.{Letter}
use Rattle.tetra_settings.specs.declared.slots.SlotUse.TheVariants.{Traffic}
use Rattle.tetra_settings.specs.declared.types.Settings.{Settings}
use Rattle.tetra_engine.specs.Arriving.{IsKept, AreDataRead, DataIsRead, slots_for}
use Rattle.tetra_engine.specs.Encoding.{encoding}
use Rattle.tetra_engine.specs.Shapes.{Shape, AreInputs}
use Rattle.tetra_engine.specs.Slots.{soft_values, slot_bytes}

-- the readings of slots behind those before
unfoldable pub readings_of : Settings → List (List ℕ) → List (List ℕ) → List SlotReading
readings_of settings before [] = []
readings_of settings before (slot ∷ slots) = slot_reading settings (map soft_values before) (soft_values slot) ∷ readings_of settings (before ++ slot ∷ []) slots

-- what stands before an entry
onward : {X : Type 0} (before xs : List X) (x : X) (t : ℕ) → (before ++ x ∷ []) ++ take t xs ≡ before ++ take (suc t) (x ∷ xs)
onward before xs x t = append_assoc before (x ∷ []) (take t xs)

-- the reading of slot t
reading_at : (settings : Settings) (slots before : List (List ℕ)) (t : ℕ) (none : List ℕ) (other : SlotReading) → t < length slots
    → get_or (readings_of settings before slots) t other ≡ slot_reading settings (map soft_values (before ++ take t slots)) (soft_values (get_or slots t none))
unfolding readings_of
reading_at settings [] before t none other below = absurd (omega (arith, below))
reading_at settings (slot ∷ slots) before zero none other below = ap (λ all. slot_reading settings (map soft_values all) (soft_values slot)) (sym (append-nil before))
reading_at settings (slot ∷ slots) before (suc t) none other below =
    reading_at settings slots (before ++ slot ∷ []) t none other (omega (arith, below))
    ∙ ap (λ all. slot_reading settings (map soft_values all) (soft_values (get_or slots t none))) (onward before slots slot t)

-- input t fits behind those before it
input_at : {X : Type 0} (shape : Shape X) (xs before : List X) (t : ℕ) (other : X) → t < length xs → AreInputs shape before xs → shape.Fits (before ++ take t xs) (get_or xs t other)
input_at shape [] before t other below each = absurd (omega (arith, below))
input_at shape (x ∷ xs) before zero other below each = subst (λ all. shape.Fits all x) (sym (append-nil before)) each.0
input_at shape (x ∷ xs) before (suc t) other below each =
    subst (λ all. shape.Fits all (get_or xs t other)) (onward before xs x t) (input_at shape xs (before ++ x ∷ []) t other (omega (arith, below)) each.1)

-- the slot that is written for blocks t
written_at : (settings : Settings) (all before : List SlotBlocks) (t : ℕ) (other : SlotBlocks) (none : List ℕ) → t < length all
    → get_or (slots_for settings before all) t none ≡ slot_bytes (slot_written settings (before ++ take t all) (get_or all t other))
written_at settings [] before t other none below = absurd (omega (arith, below))
written_at settings (blocks ∷ all) before zero other none below = ap (λ sent. slot_bytes (slot_written settings sent blocks)) (sym (append-nil before))
written_at settings (blocks ∷ all) before (suc t) other none below =
    written_at settings all (before ++ blocks ∷ []) t other none (omega (arith, below))
    ∙ ap (λ sent. slot_bytes (slot_written settings sent (get_or all t other))) (onward before all blocks t)

some_entry : {X : Type 0} (xs : List X) (t : ℕ) → t < length xs → X
some_entry [] t below = absurd (omega (arith, below))
some_entry (x ∷ xs) t below = x

-- the front of a front
take_of_take : {X : Type 0} (xs : List X) (t u : ℕ) → u ≤ t → take u (take t xs) ≡ take u xs
take_of_take [] zero u low = refl
take_of_take [] (suc t) u low = refl
take_of_take (x ∷ xs) t zero low = refl
take_of_take (x ∷ xs) zero (suc u) low = absurd (omega (arith, low))
take_of_take (x ∷ xs) (suc t) (suc u) low = ap (λ rest. x ∷ rest) (take_of_take xs t u (omega (arith, low)))

module _ (settings : Settings) (arrive : DataArrives) (blocks : List SlotBlocks) (slots : List (List ℕ)) (same : length slots ≡ length blocks) (each : AreInputs (encoding settings) [] blocks) where
  -- slot u of those up to slot t
  undamaged : (t u : ℕ) → t < length slots → u < t + 1 → ((other : SlotBlocks) (none : List ℕ) → IsKept settings (take u blocks) (get_or blocks u other) (get_or slots u none))
      → IsUndamaged settings (take (t + 1) blocks) (map soft_values (take (t + 1) slots)) u
  undamaged t u below within kept =
      let here : u < length blocks = omega (arith, below, within, same) in
      let long : length (take u blocks) ≡ u = length-take-le u blocks (omega (arith, here)) in
      let front : take u (take (t + 1) blocks) ≡ take u blocks = take_of_take blocks (t + 1) u (omega (arith, within)) in
      let entry : (other : SlotBlocks) → get_or blocks u other ≡ get_or (take (t + 1) blocks) u other = λ other. sym (get_or-take (t + 1) blocks u other within) in
      let input : (other : SlotBlocks) → (encoding settings).Fits (take u blocks) (get_or (take (t + 1) blocks) u other) =
      λ other. subst ((encoding settings).Fits (take u blocks)) (entry other) (input_at (encoding settings) blocks [] u other here each) in
      let many : u < length (take (t + 1) slots) = omega (arith, within, below, length-take-le (t + 1) slots (omega (arith, below))) in
      let heard : (silent : List ℤ) → soft_values (get_or slots u []) ≡ get_or (map soft_values (take (t + 1) slots)) u silent =
      λ silent. ap soft_values (sym (get_or-take (t + 1) slots u [] within)) ∙ sym (get_or-map soft_values (take (t + 1) slots) u [] silent many) in
      record {
        fits = λ other. subst (λ n. Fits settings n (get_or (take (t + 1) blocks) u other)) long (input other);
        kept = λ other silent.
            subst (λ soft. KeepsSlot settings (take u (take (t + 1) blocks)) (get_or (take (t + 1) blocks) u other) soft) (heard silent)
            (subst (λ sent. KeepsSlot settings sent (get_or (take (t + 1) blocks) u other) (soft_values (get_or slots u []))) (sym front)
            (subst (λ x. KeepsSlot settings (take u blocks) x (soft_values (get_or slots u []))) (entry other) (kept other [])));
      }

  -- what the session reads of slot t
  data_read : (t : ℕ) (none : List ℕ) → t < length slots → use_of settings t ≡ Traffic → 1 ≤ depth (mode_of settings t)
      → DataRead settings (timeslot_of settings.at t) (take (t + 1) blocks) (map soft_values (take (t + 1) slots)) (letter_heard settings t (soft_values (get_or slots t none)))
      (traffic_name (mode_of settings t) Whole) (slot_reading settings (map soft_values (take t slots)) (soft_values (get_or slots t none)))
  data_read t none below traffic deep =
      let here : t < length blocks = omega (arith, below, same) in
      let x : SlotBlocks = some_entry blocks t here in
      let soft : List ℤ = soft_values (get_or slots t none) in
      let earlier : List (List ℤ) = map soft_values (take t slots) in
      let long : length (take t blocks) ≡ t = length-take-le t blocks (omega (arith, here)) in
      let heard : length earlier ≡ length (take t blocks) = length-map (take t slots) soft_values ∙ length-take-le t slots (omega (arith, below)) ∙ sym long in
      let letter : Letter = letter_heard settings t soft in
      let name : FieldName = traffic_name (mode_of settings t) Whole in
      let reading : SlotReading = slot_reading settings earlier soft in
      let read : DataRead settings (timeslot_of settings.at t) (take t blocks ++ get_or blocks t x ∷ []) (earlier ++ soft ∷ []) letter name reading =
      subst (λ n. use_of settings n ≡ Traffic → 1 ≤ depth (mode_of settings n)
      → DataRead settings (timeslot_of settings.at n) (take t blocks ++ get_or blocks t x ∷ []) (earlier ++ soft ∷ []) (letter_heard settings n soft) (traffic_name (mode_of settings n) Whole) reading) long
      (arrive settings (take t blocks) (get_or blocks t x) earlier soft heard) traffic deep in
      subst (λ received. DataRead settings (timeslot_of settings.at t) (take (t + 1) blocks) received letter name reading) (sym (map_more soft_values slots t none below))
      (subst (λ sent. DataRead settings (timeslot_of settings.at t) sent (earlier ++ soft ∷ []) letter name reading) (sym (take_more blocks t x here)) read)

  -- the same of the reading with number t
  pub over_slots : AreDataRead (IsKept settings) settings blocks slots (readings_of settings [] slots)
  over_slots t none other below traffic deep =
      let many : length (take (t + 1) blocks) ≡ t + 1 = length-take-le (t + 1) blocks (omega (arith, below, same)) in
      let read = data_read t none below traffic deep in
      let is : slot_reading settings (map soft_values (take t slots)) (soft_values (get_or slots t none)) ≡ get_or (readings_of settings [] slots) t other = sym (reading_at settings slots [] t none other below) in
      subst (DataIsRead _ settings _ _ _ _) is
      record {
        early = read.early;
        complete = λ long last whole. read.complete long (λ u within counted near. undamaged t u below (omega (arith, within, many)) (last u within counted near)) whole;
        stolen = λ long last. read.stolen long (λ u within counted near. undamaged t u below (omega (arith, within, many)) (last u within counted near));
      }

-- of slots as they are written all are undamaged
module _ (settings : Settings) (kept : (history : List SlotBlocks) (blocks : SlotBlocks) → IsKept settings history blocks (slot_bytes (slot_written settings history blocks))) (blocks : List SlotBlocks) where
  here : (t : ℕ) (other : SlotBlocks) (none : List ℕ) → t < length blocks → IsKept settings (take t blocks) (get_or blocks t other) (get_or (slots_for settings [] blocks) t none)
  here t other none below = subst (IsKept settings (take t blocks) (get_or blocks t other)) (sym (written_at settings blocks [] t other none below)) (kept (take t blocks) (get_or blocks t other))

  pub all_over_slots : (readings : List SlotReading) → AreDataRead (IsKept settings) settings blocks (slots_for settings [] blocks) readings
      → AreDataRead (λ before blocks slot. ⊤) settings blocks (slots_for settings [] blocks) readings
  all_over_slots readings read t none other below traffic deep =
      let own = read t none other below traffic deep in
      let all : (u : ℕ) → u < length (take (t + 1) blocks) → (entry : SlotBlocks) (empty : List ℕ) → IsKept settings (take u blocks) (get_or blocks u entry) (get_or (slots_for settings [] blocks) u empty) =
      λ u within entry empty. here u entry empty (omega (arith, within, length-take (t + 1) blocks)) in
      record {
        early = own.early;
        complete = λ long last whole. own.complete long (λ u within counted near. all u within) whole;
        stolen = λ long last. own.stolen long (λ u within counted near. all u within);
      }
