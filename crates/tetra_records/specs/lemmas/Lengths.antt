-- How long the parts of a reading record are.
use Rattle.std.proofs.Common.{◌≡◌, ℕ, ◌+◌, ◌≤◌, inl, inr, Bool, List, [], ◌∷◌, length, map, drop, take, get_or, ◌++◌, ◌<◌, arith, refl, ap, sym, ◌∙◌, None, Some}
use Rattle.std.specs.List.{flat_map}
use Rattle.std.proofs.Math.Seq.{drop-cons}
use Rattle.std.proofs.lemmas.List.{flat_map_more, take_more}
use Prim.Native.Nat.{suc}
use Rattle.std.specs.declared.option.Option.{Option}
use Rattle.tetra_bits.specs.Numbered.{length-numbered}
use Rattle.tetra_bits.specs.Packed.{packed, packed_byte, bytes_for}
use Rattle.tetra_bits.specs.declared.reading.Mark.{Mark}
use Rattle.tetra_bits.specs.declared.reading.Mark.TheVariants.{Good, Bad, Unchecked, NotYet}
use Rattle.tetra_settings.specs.Readings.{certificate_rows, rows_of, HasRows, IsRow, IsReadLetter, names_of}
use Rattle.tetra_settings.specs.Blocks.{IsTrafficMode}
use Rattle.tetra_settings.specs.declared.readings.Field.{Field}
use Rattle.tetra_settings.specs.declared.readings.FieldName.{FieldName}
use Rattle.tetra_settings.specs.declared.slots.Letter.{Letter}
use Rattle.tetra_settings.specs.declared.slots.Letter.TheVariants.{F, H, S, T, P, Q, C}
use Rattle.tetra_settings.specs.declared.types.Mode.{Mode}
use Rattle.tetra_settings.specs.declared.types.Mode.TheVariants.{Sig, Cb, D72, D48, D24, Speech}
use Rattle.tetra_records.specs.Rooms.{room_of}

pub length-packed : (bits : List Bool) → length (packed bits) ≡ bytes_for (length bits)
unfolding packed
length-packed bits = length-numbered (packed_byte bits) (bytes_for (length bits))

rows_few : (name : FieldName) (mark : Mark) → rows_of name mark ≤ certificate_rows name
rows_few name Good = omega arith
rows_few name Bad = omega arith
rows_few name Unchecked = omega arith
rows_few name NotYet = omega arith

-- a table has no more rows than its field may have
pub table_fits : (name : FieldName) (mark : Mark) (rows : List (List ℕ)) (potentials : Option (List (List ℕ))) → HasRows (rows_of name mark) potentials → potentials ≡ Some rows → length rows ≤ certificate_rows name
table_fits name mark rows None h e = cc
table_fits name mark rows (Some table) h e =
    let few : rows_of name mark ≤ certificate_rows name = rows_few name mark in
    let same : table ≡ rows = cc in
    let long : length table ≡ rows_of name mark = h.1 in
    let also : length table ≡ length rows = ap length same in
    omega arith

-- the room of fields
pub rooms : List FieldName → ℕ
rooms [] = 0
rooms (name ∷ names) = room_of name + rooms names

most : (letter : Letter) (mode : Mode) → IsReadLetter letter → IsTrafficMode mode → rooms (names_of letter mode) ≤ 18737
unfolding rooms
most F mode r m = omega arith
most H mode r m = omega arith
most S mode r m = omega arith
most C mode r m = omega arith
most Q mode r m = absurd r
most T Sig r m = absurd m
most T Cb r m = absurd m
most T D72 r m = omega arith
most T (D48 span) r m = omega arith
most T (D24 span) r m = omega arith
most T Speech r m = omega arith
most P Sig r m = absurd m
most P Cb r m = absurd m
most P D72 r m = omega arith
most P (D48 span) r m = omega arith
most P (D24 span) r m = omega arith
most P Speech r m = omega arith

-- the names of a record have room in 18,743 bytes, its letter included
pub row_fits : (byte : ℕ) (names : List FieldName) → IsRow byte names → 1 + rooms names ≤ 18743
unfolding rooms
row_fits byte names (letter, mode, r, m, e, inl h) = let few = most letter mode r m in rw h (omega arith)
row_fits byte names (letter, mode, r, m, e, inr h) = let few = most letter mode r m in rw h (omega arith)

-- the room of fields by their names
unfoldable pub rooms_left : List Field → ℕ
rooms_left [] = 0
rooms_left (field ∷ fields) = room_of field.name + rooms_left fields

pub rooms_by_names : (fields : List Field) → rooms_left fields ≡ rooms (map (λ field. field.name) fields)
unfolding rooms_left rooms
rooms_by_names [] = refl
rooms_by_names (field ∷ fields) = ap (λ n. room_of field.name + n) (rooms_by_names fields)

-- the room of a field and of those behind it
pub rooms_from : (fields : List Field) (i : ℕ) (field : Field) → field ≡ get_or fields i field → i < length fields → rooms_left (drop i fields) ≡ room_of field.name + rooms_left (drop (i + 1) fields)
unfolding rooms_left
rooms_from fields i field e h =
    let next : i + 1 ≡ suc i = omega arith in
    rw (drop-cons fields i field h, next) (ap (λ f. room_of f.name + rooms_left (drop (suc i) fields)) (sym e))

-- the room of fields and of more fields
pub rooms_more : (fields more : List Field) → rooms_left (fields ++ more) ≡ rooms_left fields + rooms_left more
unfolding rooms_left
rooms_more [] more = omega arith
rooms_more (field ∷ fields) more = let rest = rooms_more fields more in omega (arith, rest)

-- one more field is spelled
pub spelled_more : (spell : Field → List ℕ) (start old new : List ℕ) (fields : List Field) (i : ℕ) (field : Field) → field ≡ get_or fields i field → i < length fields
    → old ≡ start ++ flat_map spell (take i fields) → new ≡ old ++ spell field → new ≡ start ++ flat_map spell (take (i + 1) fields)
spelled_more spell start old new fields i field e h o n =
    n ∙ ap (λ xs. xs ++ spell field) o ∙ flat_map_more spell start (take i fields) field ∙ ap (λ xs. start ++ flat_map spell xs) (ap (λ f. take i fields ++ f ∷ []) e ∙ sym (take_more fields i field h))
