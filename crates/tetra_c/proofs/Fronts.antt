-- The fields of a front, read one by one.
use Rattle.std.proofs.Common.{ℕ, ◌≡◌, ◌≤◌, ◌<◌, ◌+◌, ◌-◌, ℤ, Bool, List, [], ◌∷◌, ◌++◌, length, map, take, drop, get_or, None, ap, sym, refl, ◌∙◌, append_assoc, length-drop, arith}
use Rattle.std.specs.List.{flat_map}
use Rattle.std.proofs.lemmas.Grind.{flat_map-append}
use Rattle.std.proofs.lemmas.List.{get_or-map, get_or_append_left, length-map, map-append, take_all, take-append-drop}
use Rattle.tetra_scramble.specs.Key.{key_of}
use Rattle.tetra_settings.specs.declared.types.Dir.{Dir}
use Rattle.tetra_settings.specs.declared.types.Dir.TheVariants.{Dl, Ul}
use Rattle.tetra_settings.specs.declared.slots.Letter.{Letter}
use Rattle.tetra_settings.specs.declared.slots.Letter.TheVariants.{F, H, S, T, P, Q, C}
use Rattle.tetra_settings.specs.declared.readings.Field.{Field}
use Rattle.tetra_settings.specs.declared.types.Settings.{Settings}
use Rattle.tetra_records.specs.lemmas.Lengths.{rooms, rooms_left, rooms_by_names, rooms_more, row_fits}
use Rattle.tetra_session.specs.Begun.{IsBegun, GoesOn}
use Rattle.tetra_session.specs.Fronts.{IsFront}
use Rattle.tetra_session.specs.Heard.{letter_heard, slot_front, slot_reading, field_heard}
use Rattle.tetra_session.specs.Readers.{read_field, read_front}
use Rattle.tetra_session.specs.Spots.{places_before_load}
use Rattle.tetra_session.specs.declared.front.Front.{Front}
use Rattle.tetra_session.specs.declared.front.FrontField.{FrontField}

-- what is read of the front of a slot is the reading of the slot
pub front_read : (found settings : Settings) (history : List (List ℤ)) (soft : List ℤ) (front : Front) → found ≡ settings
    → front ≡ slot_front settings history soft → read_front found.rows.0 front ≡ slot_reading settings history soft
unfolding slot_reading
front_read found settings history soft front same is = rw (same, is) refl

-- a field that is read stands at its place
pub read_at : (rows : List ℕ) (fields : List FrontField) (i : ℕ) (heard : FrontField) (field other : Field)
    → heard ≡ get_or fields i heard → i < length fields → field ≡ read_field rows heard
    → field ≡ get_or (map (read_field rows) fields) i other
read_at rows fields i heard field other is within read =
    read ∙ ap (read_field rows) is ∙ sym (get_or-map (read_field rows) fields i heard other within)

same_names : (rows : List ℕ) (fields : List FrontField)
    → map (λ field. field.name) (map (read_field rows) fields) ≡ map (λ field. field.name) fields
unfolding read_field
same_names rows [] = refl
same_names rows (field ∷ fields) = ap (λ names. field.name ∷ names) (same_names rows fields)

-- the fields of a front, read, have room in 18,743 bytes, the letter included
pub front_fits : (rows : List ℕ) (front : Front) → IsFront front
    → 1 + rooms_left (map (read_field rows) front.fields.items) ≤ 18743
front_fits rows front formed =
    let fits = row_fits _ _ formed.row in
    let same = rooms_by_names (map (read_field rows) front.fields.items) ∙ ap rooms (same_names rows front.fields.items) in
    omega (arith, fits, same)

-- the fields in front of a load have room too
before_fits : (rows : List ℕ) (dir : Dir) (key : List Bool) (soft : List ℤ) (letter : Letter)
    → 1 + rooms_left (map (read_field rows) (map (field_heard dir key None soft) (places_before_load dir letter))) ≤ 18743
unfolding rooms_left read_field field_heard
before_fits rows Dl key soft F = omega arith
before_fits rows Dl key soft H = omega arith
before_fits rows Dl key soft S = omega arith
before_fits rows Dl key soft T = omega arith
before_fits rows Dl key soft P = omega arith
before_fits rows Dl key soft Q = omega arith
before_fits rows Dl key soft C = omega arith
before_fits rows Ul key soft F = omega arith
before_fits rows Ul key soft H = omega arith
before_fits rows Ul key soft S = omega arith
before_fits rows Ul key soft T = omega arith
before_fits rows Ul key soft P = omega arith
before_fits rows Ul key soft Q = omega arith
before_fits rows Ul key soft C = omega arith

pub begun_fits : (rows : List ℕ) (settings : Settings) (t : ℕ) (soft : List ℤ) (front : Front) → IsBegun settings t soft front
    → 1 + rooms_left (map (read_field rows) front.fields.items) ≤ 18743
begun_fits rows settings t soft front begun =
    rw begun.fields (before_fits rows settings.dir (key_of settings.colour) soft (letter_heard settings t soft))

-- a front that goes on
module _ (rows : List ℕ) (old new : Front) (on : GoesOn old new) where
  abbrev pub rest : List FrontField
  rest = drop (length old.fields.items) new.fields.items

  in_two : new.fields.items ≡ old.fields.items ++ rest
  in_two =
      sym (take-append-drop (length old.fields.items) new.fields.items) ∙ ap (λ l. l ++ rest) on.fields

  read_in_two : map (read_field rows) new.fields.items ≡ map (read_field rows) old.fields.items ++ map (read_field rows) rest
  read_in_two = ap (map (read_field rows)) in_two ∙ map-append (read_field rows) old.fields.items rest

  -- what is read of its first fields stands there too
  pub read_before : (k : ℕ) (field : Field) → k < length old.fields.items
      → get_or (map (read_field rows) old.fields.items) k field ≡ get_or (map (read_field rows) new.fields.items) k field
  read_before k field below =
      let long : k < length (map (read_field rows) old.fields.items) = omega (arith, below, length-map old.fields.items (read_field rows)) in
      sym (get_or_append_left (map (read_field rows) old.fields.items) (map (read_field rows) rest) field k long)
      ∙ ap (λ l. get_or l k field) (sym read_in_two)

  -- the room of its other fields
  pub rest_fits : IsFront new → 1 + rooms_left (map (read_field rows) old.fields.items) + rooms_left (map (read_field rows) rest) ≤ 18743
  rest_fits formed =
      let fits = front_fits rows new formed in
      let both = ap rooms_left read_in_two ∙ rooms_more (map (read_field rows) old.fields.items) (map (read_field rows) rest) in
      omega (arith, fits, both)

  -- its fields are spelled in two parts
  pub spelled_in_two : (spell : Field → List ℕ) (start first whole : List ℕ)
      → first ≡ start ++ flat_map spell (map (read_field rows) old.fields.items)
      → whole ≡ first ++ flat_map spell (map (read_field rows) rest)
      → whole ≡ start ++ flat_map spell (map (read_field rows) new.fields.items)
  spelled_in_two spell start first whole before behind =
      let front = map (read_field rows) old.fields.items in
      let back = map (read_field rows) rest in
      behind ∙ ap (λ l. l ++ flat_map spell back) before
      ∙ append_assoc start (flat_map spell front) (flat_map spell back)
      ∙ ap (λ l. start ++ l) (sym (flat_map-append spell front back) ∙ ap (flat_map spell) (sym read_in_two))

-- the fields from a place on
pub from_place : (n : ℕ) (fields items : List FrontField) → fields ≡ items → take (length fields - n) (drop n fields) ≡ drop n items
from_place n fields items same =
    take_all (length fields - n) (drop n fields) (omega (arith, length-drop n fields)) ∙ ap (drop n) same
