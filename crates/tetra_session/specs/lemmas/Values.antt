-- The values of the fields of a slot: how many they are, and how great.
use Rattle.std.proofs.Common.{◌≡◌, ℕ, ◌+◌, ◌-◌, Bool, true, false, cond, nat_lt, List, [], ◌∷◌, ◌++◌, Option, None, Some, ℤ, pos, length, replicate, take, drop, refl, ap, ◌∙◌}
use Rattle.std.specs.Prelude.{All, MatchOption, IfSome}
use Rattle.std.proofs.lemmas.List.{length-append, length-replicate}
use Rattle.std.proofs.lemmas.List.Elements.{All-nil, All-cons, All-head, All-tail, All-append, All-push, All-map, All-weaker, All-take, All-drop, All-replicate}
use Rattle.tetra_bits.specs.Numbered.{numbered, all_numbered, length-numbered}
use Rattle.tetra_bits.specs.Soft.{IsWithin, AllWithin}
use Rattle.tetra_bits.specs.lemmas.Within.{within_at}
use Rattle.tetra_bursts.specs.Table.{is_part, normal_down, sync_down, control_up}
use Rattle.tetra_bursts.specs.Slot.{read}
use Rattle.tetra_bursts.specs.Fields.{halves, first_half, second_half, sync_field, aach_field, aach_sync, sub_first, sub_second, FieldsHaveSizes}
use Rattle.tetra_bursts.specs.declared.table.Part.{Part}
use Rattle.tetra_bursts.specs.declared.table.Part.TheVariants.{First, Second, Aach as AachPart, Sync as SyncPart}
use Rattle.tetra_bursts.specs.declared.table.Span.{Span}
use Rattle.tetra_bursts.specs.declared.table.Train.TheVariants.{N}
use Rattle.tetra_channels.specs.Channels.{Channel, bsch, hu, half, full, data48, data24, type4_place, front_values}
use Rattle.tetra_diag.specs.Diagonal.{gathered_value, gathered}
use Rattle.tetra_diag.specs.lemmas.Within.{gathered_within}
use Rattle.tetra_interleave.specs.Matrix.{matrix_place}
use Rattle.tetra_interleave.specs.Placed.{taken, entry_from}
use Rattle.tetra_interleave.specs.lemmas.Placed.{length-taken}
use Rattle.tetra_scramble.specs.Flips.{turned}
use Rattle.tetra_scramble.specs.lemmas.Entries.{length-turned, turned_within}
use Rattle.tetra_scramble.specs.Key.{key_of}
use Rattle.tetra_speech.specs.Words.{whole_front, half_front}
use Rattle.tetra_settings.specs.Readings.{sizes, MayBeNotYet}
use Rattle.tetra_settings.specs.Slots.{timeslot_of, mode_of}
use Rattle.tetra_settings.specs.declared.types.Dir.{Dir}
use Rattle.tetra_settings.specs.declared.types.Mode.{Mode}
use Rattle.tetra_settings.specs.declared.types.Settings.{Settings}
use Rattle.tetra_settings.specs.declared.readings.FieldName.{FieldName}
use Rattle.tetra_settings.specs.declared.readings.FieldName.TheVariants.{Aach, Sync, Half, Hu, Full, D72, D48, D24, Whole, Single}
use Rattle.tetra_session.specs.Heard.{key_for, place_values, second_stolen, traffic_letter, values_there, word_heard, words_heard, block_heard, is_spread, values_of}
use Rattle.tetra_session.specs.Readers.{Reader, Access, Plain, Trellis, WholeSpeech, HalfSpeech, reader, heard_by}
use Rattle.tetra_session.specs.Spots.{is_downlink, load_place, spot_values, spot_size, FitsSpot}
use Rattle.tetra_session.specs.Time.{timeslot_mode, depth, counts, picked, own}
use Rattle.tetra_session.specs.declared.spots.Place.{Place}
use Rattle.tetra_session.specs.declared.spots.Spot.{Spot}
use Rattle.tetra_session.specs.declared.spots.Spot.TheVariants.{Access as AccessSpot, SyncAccess, Sync as SyncSpot, FirstBlock, SecondBlock, WholeSlot, Rest, Nowhere, FirstSubslot, SecondSubslot}

-- what is read from values within top is within top
kept : (top : ℕ) (b : Bool) (n : ℕ) (soft : List ℤ) → AllWithin top soft → AllWithin top (cond b (take n soft) [])
kept top true n soft all = All-take (IsWithin top) n soft all
kept top false n soft all = All-nil (IsWithin top)

read_within : (top : ℕ) (part : Part) (table : List Span) (soft : List ℤ) → AllWithin top soft → AllWithin top (read part table soft)
unfolding read
read_within top part [] soft all = All-nil (IsWithin top)
read_within top part (s ∷ rest) soft all =
    All-append (IsWithin top) (cond (is_part part s.part) (take s.count soft) []) (read part rest (drop s.count soft))
    (kept top (is_part part s.part) s.count soft all) (read_within top part rest (drop s.count soft) (All-drop (IsWithin top) s.count soft all))

zero_within : (top : ℕ) → IsWithin top (pos 0)
zero_within top = within_at top [] (All-nil (IsWithin top)) 0

silent_within : (top n : ℕ) → AllWithin top (replicate n (pos 0))
silent_within top n = All-replicate (IsWithin top) n (pos 0) (zero_within top)

pub spot_within : (top : ℕ) (dir : Dir) (spot : Spot) (soft : List ℤ) → AllWithin top soft → AllWithin top (spot_values dir spot soft)
unfolding first_half second_half sync_field aach_field aach_sync sub_first sub_second
spot_within top dir AccessSpot soft all = read_within top AachPart (normal_down N) soft all
spot_within top dir SyncAccess soft all = read_within top AachPart sync_down soft all
spot_within top dir SyncSpot soft all = read_within top SyncPart sync_down soft all
spot_within top dir FirstBlock soft all = read_within top First (halves (is_downlink dir)) soft all
spot_within top dir SecondBlock soft all = read_within top Second (halves (is_downlink dir)) soft all
spot_within top dir WholeSlot soft all =
    All-append (IsWithin top) (first_half (is_downlink dir) soft) (second_half (is_downlink dir) soft)
    (read_within top First (halves (is_downlink dir)) soft all) (read_within top Second (halves (is_downlink dir)) soft all)
spot_within top dir Rest soft all =
    All-append (IsWithin top) (replicate 216 (pos 0)) (second_half (is_downlink dir) soft)
    (silent_within top 216) (read_within top Second (halves (is_downlink dir)) soft all)
spot_within top dir Nowhere soft all = silent_within top 432
spot_within top dir FirstSubslot soft all = read_within top First control_up soft all
spot_within top dir SecondSubslot soft all = read_within top Second control_up soft all

taken_within : (top n : ℕ) (place : ℕ → ℕ) (values : List ℤ) → AllWithin top values → AllWithin top (taken (pos 0) n place values)
unfolding taken entry_from
taken_within top n place values all = all_numbered (IsWithin top) (entry_from (pos 0) place values) n (λ i. within_at top values all (place i - 1))

front_within : (top : ℕ) (channel : Channel) (key : List Bool) (values : List ℤ) → AllWithin top values → AllWithin top (front_values channel key values)
unfolding front_values
front_within top channel key values all = taken_within top channel.plan.sent (type4_place channel) (turned values key 1) (turned_within top values key 1 all)

heard_within : (top : ℕ) (by_ : Reader) (key : List Bool) (values : List ℤ) → AllWithin top values → AllWithin top (heard_by by_ key values)
unfolding whole_front half_front
heard_within top Access key values all = turned_within top values key 1 all
heard_within top Plain key values all = turned_within top values key 1 all
heard_within top (Trellis channel) key values all = front_within top channel key values all
heard_within top WholeSpeech key values all = taken_within top 432 (matrix_place 24 18) (turned values key 1) (turned_within top values key 1 all)
heard_within top HalfSpeech key values all = taken_within top 216 (matrix_place 24 9) (turned values key 1) (turned_within top values key 1 all)

-- the values of a field are as great as those of its slot
pub place_within : (top : ℕ) (dir : Dir) (key : List Bool) (soft : List ℤ) (place : Place) → AllWithin top soft → AllWithin top (place_values dir key soft place)
unfolding place_values
place_within top dir key soft place all =
    heard_within top (reader place.name) (key_for key place.name) (spot_values dir place.spot soft) (spot_within top dir place.spot soft all)

-- the values at a spot of a slot of 510 positions
pub spot_length : FieldsHaveSizes → (dir : Dir) (spot : Spot) (soft : List ℤ) → length soft ≡ 510 → length (spot_values dir spot soft) ≡ spot_size spot
spot_length law dir AccessSpot soft h = (law soft h).access
spot_length law dir SyncAccess soft h = (law soft h).access_sync
spot_length law dir SyncSpot soft h = (law soft h).synchronisation
spot_length law dir FirstBlock soft h = (law soft h).block_1 (is_downlink dir)
spot_length law dir SecondBlock soft h = (law soft h).block_2 (is_downlink dir)
spot_length law dir WholeSlot soft h =
    let first = (law soft h).block_1 (is_downlink dir) in
    let second = (law soft h).block_2 (is_downlink dir) in
    length-append (first_half (is_downlink dir) soft) (second_half (is_downlink dir) soft) ∙ rw (first, second) refl
spot_length law dir Rest soft h =
    let second = (law soft h).block_2 (is_downlink dir) in
    length-append (replicate 216 (pos 0)) (second_half (is_downlink dir) soft)
    ∙ ap (λ n. length (replicate 216 (pos 0)) + n) second ∙ ap (λ n. n + 216) (length-replicate 216 (pos 0))
spot_length law dir Nowhere soft h = length-replicate 432 (pos 0)
spot_length law dir FirstSubslot soft h = (law soft h).subslot_1
spot_length law dir SecondSubslot soft h = (law soft h).subslot_2

-- after the key a field has as many values as the table of fields says
pub heard_size : (name : FieldName) (key : List Bool) (values : List ℤ) → length values ≡ (sizes name).values
    → length (heard_by (reader name) key values) ≡ (sizes name).values
unfolding front_values whole_front half_front
heard_size Aach key values h = length-turned values key 1 ∙ h
heard_size Sync key values h = length-taken (pos 0) 120 (type4_place bsch) (turned values key 1)
heard_size Half key values h = length-taken (pos 0) 216 (type4_place half) (turned values key 1)
heard_size Hu key values h = length-taken (pos 0) 168 (type4_place hu) (turned values key 1)
heard_size Full key values h = length-taken (pos 0) 432 (type4_place full) (turned values key 1)
heard_size D72 key values h = length-turned values key 1 ∙ h
heard_size D48 key values h = length-taken (pos 0) 432 (type4_place data48) (turned values key 1)
heard_size D24 key values h = length-taken (pos 0) 432 (type4_place data24) (turned values key 1)
heard_size Whole key values h = length-taken (pos 0) 432 (matrix_place 24 18) (turned values key 1)
heard_size Single key values h = length-taken (pos 0) 216 (matrix_place 24 9) (turned values key 1)

pub place_size : FieldsHaveSizes → (dir : Dir) (key : List Bool) (soft : List ℤ) (place : Place) → FitsSpot dir place → length soft ≡ 510
    → length (place_values dir key soft place) ≡ (sizes place.name).values
unfolding place_values
place_size law dir key soft place fit h =
    heard_size place.name (key_for key place.name) (spot_values dir place.spot soft) (spot_length law dir place.spot soft h ∙ fit.size)

-- the values of a field are those at its place, or of protected data those of a block
pub values_size : (name : FieldName) (block : Option (List ℤ)) (values : List ℤ) → IfSome block (λ v. length v ≡ 432) → length values ≡ (sizes name).values
    → MatchOption (values_of name block values) (MayBeNotYet name) (λ v. length v ≡ (sizes name).values)
values_size Aach block values whole h = h
values_size Sync block values whole h = h
values_size Half block values whole h = h
values_size Hu block values whole h = h
values_size Full block values whole h = h
values_size D72 block values whole h = h
values_size D48 None values whole h = tt
values_size D48 (Some v) values whole h = whole
values_size D24 None values whole h = tt
values_size D24 (Some v) values whole h = whole
values_size Whole block values whole h = h
values_size Single block values whole h = h

pub values_within : (top : ℕ) (name : FieldName) (block : Option (List ℤ)) (values : List ℤ) → IfSome block (AllWithin top) → AllWithin top values
    → IfSome (values_of name block values) (AllWithin top)
values_within top name block values of_block of_values =
    elim (is_spread name) as (λ b. IfSome (cond b block (Some values)) (AllWithin top)) [ true ↦ of_block | false ↦ of_values ]

-- the entries that are picked, and what is brought from them
picked_all : {X : Type 0} (P : X → Type 0) (meets : ℕ → Bool) (t : ℕ) (xs : List X) → All P xs → All P (picked meets t xs)
picked_all P meets t [] all = All-nil P
picked_all P meets t (x ∷ xs) all =
    let rest : All P (picked meets (t + 1) xs) = picked_all P meets (t + 1) xs (All-tail P x xs all) in
    elim (meets t) as (λ b. All P (cond b (x ∷ picked meets (t + 1) xs) (picked meets (t + 1) xs))) [
      | true ↦ All-cons P x (picked meets (t + 1) xs) (All-head P x xs all) rest
      | false ↦ rest
    ]

own_all : {X : Type 0} (P : X → Type 0) (at c : ℕ) (history : List X) → All P history → All P (own at c history)
unfolding own
own_all P at c history all = picked_all P (counts at c) 0 history all

there_within : (top : ℕ) (dir : Dir) (key : List Bool) (soft : List ℤ) (load : Option Place) → AllWithin top soft → AllWithin top (values_there dir key soft load)
there_within top dir key soft None all = All-nil (IsWithin top)
there_within top dir key soft (Some load) all = place_within top dir key soft load all

pub word_within : (top : ℕ) (dir : Dir) (key : List Bool) (mode : Mode) (soft : List ℤ) → AllWithin top soft → AllWithin top (word_heard dir key mode soft)
unfolding word_heard
word_within top dir key mode soft all =
    there_within top dir key soft (load_place (traffic_letter dir soft) mode (second_stolen dir key soft)) all

words_within : (top : ℕ) (settings : Settings) (c : ℕ) (history : List (List ℤ)) → All (AllWithin top) history → All (AllWithin top) (words_heard settings c history)
words_within top settings c history all =
    All-map (AllWithin top) (word_heard settings.dir (key_of settings.colour) (timeslot_mode settings c)) (own settings.at c history)
    (All-weaker (AllWithin top) (λ soft. AllWithin top (word_heard settings.dir (key_of settings.colour) (timeslot_mode settings c) soft))
    (word_within top settings.dir (key_of settings.colour) (timeslot_mode settings c)) (own settings.at c history) (own_all (AllWithin top) settings.at c history all))

-- a block that is complete has 432 values
gathered_size : (n : ℕ) (words : List (List ℤ)) → IfSome (gathered n words) (λ v. length v ≡ 432)
unfolding gathered
gathered_size n words =
    elim (nat_lt (length words) n) as (λ b. IfSome (cond b None (Some (numbered (gathered_value n words) 432))) (λ v. length v ≡ 432)) [
      | true ↦ tt
      | false ↦ length-numbered (gathered_value n words) 432
    ]

pub block_size : (settings : Settings) (history : List (List ℤ)) (soft : List ℤ) → IfSome (block_heard settings history soft) (λ v. length v ≡ 432)
unfolding block_heard
block_size settings history soft =
    gathered_size (depth (mode_of settings (length history)))
    (words_heard settings (timeslot_of settings.at (length history)) history ++ word_heard settings.dir (key_of settings.colour) (mode_of settings (length history)) soft ∷ [])

-- and is as great as the slots from which it comes
pub block_within : (top : ℕ) (settings : Settings) (history : List (List ℤ)) (soft : List ℤ) → All (AllWithin top) history → AllWithin top soft
    → IfSome (block_heard settings history soft) (AllWithin top)
unfolding block_heard
block_within top settings history soft all last =
    let c = timeslot_of settings.at (length history) in
    let word = word_heard settings.dir (key_of settings.colour) (mode_of settings (length history)) soft in
    gathered_within top (words_heard settings c history ++ word ∷ [])
    (All-push (AllWithin top) (words_heard settings c history) word (words_within top settings c history all)
    (word_within top settings.dir (key_of settings.colour) (mode_of settings (length history)) soft last))
    (depth (mode_of settings (length history)))
