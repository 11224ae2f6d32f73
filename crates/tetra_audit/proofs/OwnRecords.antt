-- The record that is defined for a slot agrees.
use Prim.Native.Nat.{suc}
use Rattle.std.proofs.Common.{◌≡◌, inl, inr, ℕ, ◌+◌, ◌*◌, ◌<◌, ◌≤◌, Bool, List, [], ◌∷◌, ◌++◌, length, drop, length-append, map, sum_by, ℤ, Option, Some, None, arith, refl, sym, ap, subst, le_trans, ◌∙◌}
use Rattle.std.proofs.lemmas.List.Elements.{All-map, All-weaker}
use Rattle.std.proofs.lemmas.List.Sums.{sum_by-cons}
use Rattle.std.proofs.lemmas.Simd.{map-map}
use Rattle.std.specs.List.{All, flat_map}
use Rattle.std.specs.Prelude.{IfSome, MatchOption, nat_abs}
use Rattle.tetra_bits.specs.Numbered.{get_or-numbered}
use Rattle.tetra_bits.specs.Packed.{packed}
use Rattle.tetra_bits.specs.Readings.{entry, mark_byte}
use Rattle.tetra_bits.specs.Soft.{AllSoft}
use Rattle.tetra_bits.specs.declared.reading.Mark.{Mark}
use Rattle.tetra_bits.specs.declared.reading.Mark.TheVariants.{Good, Bad, Unchecked, NotYet}
use Rattle.tetra_bits.specs.declared.reading.Reading.{Reading}
use Rattle.tetra_bits.specs.declared.soft.TheConstants.{SOFT_MAX}
use Rattle.tetra_bursts.specs.Fields.{FieldsHaveSizes}
use Rattle.tetra_puncture.specs.Plan.{CodePlan, HasSizes, PlacesRise, PlacesLie}
use Rattle.tetra_puncture.specs.Spread.{spread_values}
use Rattle.tetra_puncture.specs.ToGo.{potentials_of, potential_row}
use Rattle.tetra_puncture.specs.lemmas.OwnCosts.{costs_to_go_are_accepted}
use Rattle.tetra_puncture.specs.lemmas.Shapes.{length-potentials_of, length-potential_row}
use Rattle.tetra_records.specs.Readings.{two_bytes, certificate_bytes, field_bytes, reading_spelling}
use Rattle.tetra_rm.specs.declared.table.Rows.{Rows}
use Rattle.tetra_session.specs.Fronts.{IsFrontField, IsFront, IsBounded}
use Rattle.tetra_session.specs.Heard.{letter_heard, place_values, values_of, block_heard, field_heard, fields_heard, slot_front, slot_reading}
use Rattle.tetra_session.specs.Readers.{CodedPart, reader, coded_part, field_reading, read_field, read_front}
use Rattle.tetra_session.specs.Spots.{places_of, FitsSpot, ArePlaces}
use Rattle.tetra_session.specs.declared.front.FrontField.{FrontField}
use Rattle.tetra_session.specs.declared.front.Front.{Front}
use Rattle.tetra_session.specs.declared.spots.Place.{Place}
use Rattle.tetra_session.specs.lemmas.Fields.{reading_bounded_of}
use Rattle.tetra_session.specs.lemmas.Places.{are_places}
use Rattle.tetra_session.specs.lemmas.Values.{place_size, place_within, values_size, values_within, block_size, block_within}
use Rattle.tetra_settings.specs.Readings.{sizes, MayBeNotYet}
use Rattle.tetra_settings.specs.Slots.{byte_of, mode_of}
use Rattle.tetra_settings.specs.declared.readings.Field.{Field}
use Rattle.tetra_settings.specs.declared.slots.Letter.{Letter}
use Rattle.tetra_settings.specs.declared.slots.Letter.TheVariants.{F, H, S, T, P, Q, C}
use Rattle.tetra_settings.specs.declared.types.Dir.{Dir}
use Rattle.tetra_settings.specs.declared.types.Form.TheVariants.{Audit}
use Rattle.tetra_audit.specs.Agreement.{IsCertificate, AreCertified, IsRight, AreRight, AreBytes, OwnRecordsAgree}
use Rattle.tetra_audit.specs.Fields.{field_length, claim_length}
use Rattle.tetra_audit.specs.Verdicts.{slot_verdict}
use Rattle.tetra_audit.specs.declared.verdict.SlotVerdict.TheVariants.{Agrees}
use Rattle.tetra_audit.proofs.FieldCases.{IsPlain, IsCoded, plain_or_coded}
use Rattle.tetra_audit.proofs.RightClaims.{agrees_exactly}
use Rattle.tetra_audit.proofs.RightFields.{right_length}
use Rattle.tetra_audit.proofs.SmallBytes.{first_byte, both_bytes, no_byte, number_bytes, packed_bytes, table_are_bytes}

-- the costs to go are a certificate
certificate : (plan : CodePlan) (values : List ℤ) → HasSizes plan → PlacesRise plan → PlacesLie plan → length values ≡ plan.sent → IsCertificate plan values (potentials_of plan values)
unfolding potentials_of
certificate plan values sizes rise lie sent = record {
  rows = length-potentials_of plan values;
  states = λ k d within.
      let inside : k < plan.steps + 1 = omega (arith, length-potentials_of plan values) in
      ap length (get_or-numbered (potential_row plan (spread_values plan values)) (plan.steps + 1) k d inside) ∙ length-potential_row plan (spread_values plan values) (k + 1);
  accepted = costs_to_go_are_accepted plan values sizes rise lie sent;
}

-- the defined reading of a field is right
module _ (rows : List ℕ) (field : FrontField) where
  plain_certified : IsPlain rows field.name field.soft → AreCertified (coded_part (reader field.name)) field.soft (field_reading rows field.name field.soft).potentials
  plain_certified plain = subst (λ (p : Option (List (List ℕ))). AreCertified (coded_part (reader field.name)) field.soft p) (sym plain.alone) plain.certified

  coded_certified : IsCoded rows field.name field.soft → AreCertified (coded_part (reader field.name)) field.soft (field_reading rows field.name field.soft).potentials
  coded_certified coded =
      let values : List ℤ = drop coded.part.before coded.soft in
      let costs : List (List ℕ) = potentials_of coded.part.plan values in
      subst (λ (p : Option (List (List ℕ))). AreCertified (coded_part (reader field.name)) field.soft p) (sym coded.has.potentials)
      (subst (λ (v : Option (List ℤ)). AreCertified (coded_part (reader field.name)) v (Some costs)) (sym coded.there)
      (subst (λ (p : Option CodedPart). AreCertified p (Some coded.soft) (Some costs)) (sym coded.of_part)
      (certificate coded.part.plan values coded.has.sizes coded.has.rise coded.has.lie coded.has.sent)))

  own_right : IsFrontField field → IsRight rows field (read_field rows field)
  unfolding read_field
  own_right is = record {
    name = refl;
    mark = refl;
    metric = refl;
    bits = refl;
    potentials = elim (plain_or_coded rows field is) [ inl plain ↦ plain_certified plain | inr coded ↦ coded_certified coded ];
  }

-- numbers that fit two bytes
certificate_are_bytes : (potentials : Option (List (List ℕ))) → IfSome potentials (λ table. (t s : ℕ) → entry table t s ≤ 65535) → AreBytes (certificate_bytes Audit potentials)
certificate_are_bytes None small = no_byte
certificate_are_bytes (Some table) small = table_are_bytes table small

mark_small : (mark : Mark) → mark_byte mark < 256
mark_small Good = omega arith
mark_small Bad = omega arith
mark_small Unchecked = omega arith
mark_small NotYet = omega arith

letter_small : (letter : Letter) → byte_of letter < 256
letter_small F = omega arith
letter_small H = omega arith
letter_small S = omega arith
letter_small T = omega arith
letter_small P = omega arith
letter_small Q = omega arith
letter_small C = omega arith

all_small : (top : ℕ) (potentials : Option (List (List ℕ))) → top * 432 ≤ 65535 → IfSome potentials (λ table. (t s : ℕ) → entry table t s ≤ top * 432) → IfSome potentials (λ table. (t s : ℕ) → entry table t s ≤ 65535)
all_small top None few small = tt
all_small top (Some table) few small = λ t s. le_trans (small t s) few

-- the bytes of a field whose numbers are so great
field_are_bytes : (top : ℕ) (field : Field) → top * 432 ≤ 65535 → IsBounded top field → AreBytes (field_bytes Audit field)
unfolding field_bytes
field_are_bytes top field few small =
    let reading : Reading = field.reading in
    let behind : List ℕ = certificate_bytes Audit reading.potentials in
    first_byte (mark_byte reading.mark) (two_bytes reading.metric ++ packed reading.bits ++ behind) (mark_small reading.mark)
    (both_bytes (two_bytes reading.metric) (packed reading.bits ++ behind) (number_bytes reading.metric (le_trans small.metric few))
    (both_bytes (packed reading.bits) behind (packed_bytes reading.bits) (certificate_are_bytes reading.potentials (all_small top reading.potentials few small.potentials))))

-- the fields of a front, read
module _ (rows : List ℕ) where
  rights : (fields : List FrontField) → All IsFrontField fields → AreRight rows fields (map (read_field rows) fields)
  rights [] is = tt
  rights (field ∷ fields) is =
      (own_right rows field (is 0 field (omega arith)), rights fields (λ k d h. is (suc k) d (omega arith)))

  fields_long : (fields : List FrontField) → All IsFrontField fields → length (flat_map (field_bytes Audit) (map (read_field rows) fields)) ≡ sum_by field_length fields
  fields_long [] is = refl
  fields_long (field ∷ fields) is =
      let here : IsFrontField field = is 0 field (omega arith) in
      let first : length (field_bytes Audit (read_field rows field)) ≡ field_length field = right_length rows field (read_field rows field) (own_right rows field here) here in
      let rest : length (flat_map (field_bytes Audit) (map (read_field rows) fields)) ≡ sum_by field_length fields = fields_long fields (λ k d h. is (suc k) d (omega arith)) in
      omega (arith, first, rest, sum_by-cons field_length field fields, length-append (field_bytes Audit (read_field rows field)) (flat_map (field_bytes Audit) (map (read_field rows) fields)))

fields_are_bytes : (top : ℕ) (fields : List Field) → top * 432 ≤ 65535 → All (IsBounded top) fields → AreBytes (flat_map (field_bytes Audit) fields)
fields_are_bytes top [] few small = no_byte
fields_are_bytes top (field ∷ fields) few small =
    both_bytes (field_bytes Audit field) (flat_map (field_bytes Audit) fields) (field_are_bytes top field few (small 0 field (omega arith))) (fields_are_bytes top fields few (λ k d h. small (suc k) d (omega arith)))

-- the record of a front
module _ (rows : Rows) (front : Front) (top : ℕ) (few : top * 432 ≤ 65535) (is : IsFront front)
    (bounded : All (IsBounded top) (map (read_field rows.0) front.fields.items)) (letter : front.letter < 256) where
  unfoldable claim : List ℕ
  claim = reading_spelling Audit (read_front rows.0 front)

  long : length claim ≡ claim_length front
  unfolding claim reading_spelling read_front claim_length
  long = omega (arith, fields_long rows.0 front.fields.items is.fields)

  bytes : AreBytes claim
  unfolding claim reading_spelling read_front
  bytes = first_byte front.letter _ letter (fields_are_bytes top (map (read_field rows.0) front.fields.items) few bounded)

  pub agrees : (length (reading_spelling Audit (read_front rows.0 front)) ≡ claim_length front) × (slot_verdict rows front (reading_spelling Audit (read_front rows.0 front)) ≡ Agrees)
  unfolding claim read_front
  agrees = (
    long,
    (agrees_exactly rows front claim is bytes long).1 (record {
      claimed = map (read_field rows.0) front.fields.items;
      right = rights rows.0 front.fields.items is.fields;
      spelled = refl;
    }),
  )

-- the front of a slot, with the block that is complete, or none
module _ (law : FieldsHaveSizes) (rows : List ℕ) (dir : Dir) (key : List Bool) (block : Option (List ℤ)) (soft : List ℤ) (size : length soft ≡ 510)
    (whole : IfSome block (λ values. length values ≡ 432)) (of_block : IfSome block AllSoft) (all : AllSoft soft) where
  abbrev values_at : Place → Option (List ℤ)
  values_at place = values_of place.name block (place_values dir key soft place)

  sized : (place : Place) → FitsSpot dir place → MatchOption (values_at place) (MayBeNotYet place.name) (λ values. length values ≡ (sizes place.name).values)
  sized place fit = values_size place.name block (place_values dir key soft place) whole (place_size law dir key soft place fit size)

  place_formed : (place : Place) → FitsSpot dir place → IsFrontField (field_heard dir key block soft place)
  unfolding field_heard
  place_formed place fit = record { soft = sized place fit }

  place_bounded : (place : Place) → FitsSpot dir place → IsBounded (nat_abs SOFT_MAX) (read_field rows (field_heard dir key block soft place))
  unfolding field_heard read_field
  place_bounded place fit =
      reading_bounded_of (nat_abs SOFT_MAX) place.name rows (values_at place) (sized place fit)
      (values_within (nat_abs SOFT_MAX) place.name block (place_values dir key soft place) of_block (place_within (nat_abs SOFT_MAX) dir key soft place all))

  names : (places : List Place) → map (λ field. field.name) (map (field_heard dir key block soft) places) ≡ map (λ place. place.name) places
  unfolding field_heard
  names places = map-map (λ field. field.name) (field_heard dir key block soft) places

  formed : (letter : Letter) (places : List Place) → ArePlaces dir letter places → IsFront (record { letter = byte_of letter; fields = record { items = map (field_heard dir key block soft) places } })
  formed letter places are = record {
    row = rw (names places) are.row;
    fields = All-map IsFrontField (field_heard dir key block soft) places (All-weaker (FitsSpot dir) (λ place. IsFrontField (field_heard dir key block soft place)) place_formed places are.fit);
  }

  all_bounded : (letter : Letter) (places : List Place) → ArePlaces dir letter places → All (IsBounded (nat_abs SOFT_MAX)) (map (read_field rows) (map (field_heard dir key block soft) places))
  all_bounded letter places are =
      All-map (IsBounded (nat_abs SOFT_MAX)) (read_field rows) (map (field_heard dir key block soft) places)
      (All-map (λ field. IsBounded (nat_abs SOFT_MAX) (read_field rows field)) (field_heard dir key block soft) places
      (All-weaker (FitsSpot dir) (λ place. IsBounded (nat_abs SOFT_MAX) (read_field rows (field_heard dir key block soft place))) place_bounded places are.fit))

pub own_records_agree : FieldsHaveSizes → OwnRecordsAgree
unfolding slot_front slot_reading fields_heard
own_records_agree law settings history soft valid earlier size all =
    let t : ℕ = length history in
    let heard : Letter = letter_heard settings t soft in
    let block : Option (List ℤ) = block_heard settings history soft in
    let whole : IfSome block (λ values. length values ≡ 432) = block_size settings history soft in
    let within : IfSome block AllSoft = block_within (nat_abs SOFT_MAX) settings history soft earlier all in
    let are : (second_stolen : Bool) → ArePlaces settings.dir heard (places_of settings.dir heard (mode_of settings t) second_stolen) = λ second_stolen. are_places settings t soft second_stolen valid in
    agrees settings.rows (slot_front settings history soft) (nat_abs SOFT_MAX) (omega arith)
    (formed law settings.rows.0 settings.dir _ block soft size whole within all heard _ (are _))
    (all_bounded law settings.rows.0 settings.dir _ block soft size whole within all heard _ (are _))
    (letter_small heard)
