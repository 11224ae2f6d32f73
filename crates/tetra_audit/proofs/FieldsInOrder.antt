-- The fields of a slot, one behind the other.
use Prim.Native.Nat.{suc}
use Rattle.std.proofs.Common.{◌≡◌, ◌≢◌, ◌⊎◌, inl, inr, ℕ, ◌+◌, ◌-◌, ◌*◌, ◌<◌, ◌≤◌, false, true, eqb, List, [], ◌∷◌, length, take, drop, get_or, map, sum_by, ℤ, Option, Some, None, arith, refl, sym, ap, ◌∙◌}
use Rattle.std.proofs.Math.Seq.{drop-cons}
use Rattle.std.proofs.lemmas.Bool.Decides.{nat_tests}
use Rattle.std.proofs.lemmas.List.{drop_all, drop-drop}
use Rattle.std.proofs.lemmas.List.Sums.{sum_by-cons}
use Rattle.tetra_bits.specs.Packed.{bytes_for}
use Rattle.tetra_rm.specs.declared.table.Rows.{Rows}
use Rattle.tetra_session.specs.Fronts.{IsFront}
use Rattle.tetra_session.specs.declared.front.FrontField.{FrontField}
use Rattle.tetra_session.specs.declared.front.Front.{Front}
use Rattle.tetra_settings.specs.Readings.{message_bits, certificate_rows, names_of, IsReadLetter}
use Rattle.tetra_settings.specs.declared.readings.FieldName.{FieldName}
use Rattle.tetra_settings.specs.declared.readings.FieldName.TheVariants.{Aach}
use Rattle.tetra_settings.specs.declared.slots.Letter.{Letter}
use Rattle.tetra_settings.specs.declared.slots.Letter.TheVariants.{F, H, S, T, P, Q, C}
use Rattle.tetra_settings.specs.declared.types.Mode.{Mode}
use Rattle.tetra_settings.specs.declared.types.Mode.TheVariants.{Sig, Cb, D72 as D72Mode, D48 as D48Mode, D24 as D24Mode, Speech}
use Rattle.tetra_audit.specs.Fields.{field_length, claim_length, claimed_rows}
use Rattle.tetra_audit.specs.Verdicts.{field_why, fields_verdict, slot_verdict, verdict_by}
use Rattle.tetra_audit.specs.declared.verdict.FieldWhy.{FieldWhy}
use Rattle.tetra_audit.specs.declared.verdict.SlotVerdict.TheVariants.{Agrees, Kind, Field}

-- the verdict, as far as the fields have come
module _ (rows : Rows) (front : Front) (claim : List ℕ) where
  pub other_letter : get_or claim 0 0 ≢ front.letter → slot_verdict rows front claim ≡ Kind
  unfolding slot_verdict
  other_letter ne = let e : eqb (get_or claim 0 0) front.letter ≡ false = grind (arith, nat_tests) in rw e refl

  pub first_field : get_or claim 0 0 ≡ front.letter → slot_verdict rows front claim ≡ fields_verdict rows.0 0 front.fields.items (drop 1 claim)
  unfolding slot_verdict
  first_field is = let e : eqb (get_or claim 0 0) front.letter ≡ true = grind (arith, nat_tests) in rw e refl

-- the field numbered i and those behind it
module _ (rows : List ℕ) (fields : List FrontField) (claim : List ℕ) (i at end : ℕ) (field : FrontField) (inside : i < length fields) (is : field ≡ get_or fields i field) (next : end ≡ at + field_length field) where
  split : drop i fields ≡ field ∷ drop (i + 1) fields
  split = let more : suc i ≡ i + 1 = omega arith in drop-cons fields i field inside ∙ (ap (λ f. f ∷ drop (suc i) fields) (sym is) ∙ ap (λ n. field ∷ drop n fields) more)

  here : take (end - at) (drop at claim) ≡ take (field_length field) (drop at claim)
  here = let n : end - at ≡ field_length field = omega arith in ap (λ n. take n (drop at claim)) n

  behind : drop (field_length field) (drop at claim) ≡ drop end claim
  behind = drop-drop (field_length field) at claim ∙ ap (λ n. drop n claim) (sym next)

  whole : fields_verdict rows i (drop i fields) (drop at claim) ≡ verdict_by i (field_why rows field (take (end - at) (drop at claim))) (fields_verdict rows (i + 1) (drop (i + 1) fields) (drop end claim))
  unfolding fields_verdict
  whole =
      ap (λ fs. fields_verdict rows i fs (drop at claim)) split
      ∙ (ap (λ part. verdict_by i (field_why rows field part) (fields_verdict rows (i + 1) (drop (i + 1) fields) (drop (field_length field) (drop at claim)))) (sym here)
      ∙ ap (λ rest. verdict_by i (field_why rows field (take (end - at) (drop at claim))) (fields_verdict rows (i + 1) (drop (i + 1) fields) rest)) behind)

  pub goes_on : None ≡ field_why rows field (take (end - at) (drop at claim)) → fields_verdict rows i (drop i fields) (drop at claim) ≡ fields_verdict rows (i + 1) (drop (i + 1) fields) (drop end claim)
  goes_on none = whole ∙ ap (λ why. verdict_by i why (fields_verdict rows (i + 1) (drop (i + 1) fields) (drop end claim))) (sym none)

  pub stops : (why : FieldWhy) → Some why ≡ field_why rows field (take (end - at) (drop at claim)) → fields_verdict rows i (drop i fields) (drop at claim) ≡ Field i why
  stops why some = whole ∙ ap (λ w. verdict_by i w (fields_verdict rows (i + 1) (drop (i + 1) fields) (drop end claim))) (sym some)

pub none_left : (rows : List ℕ) (fields : List FrontField) (claim : List ℕ) (i at : ℕ) → length fields ≤ i → fields_verdict rows i (drop i fields) (drop at claim) ≡ Agrees
unfolding fields_verdict
none_left rows fields claim i at past = ap (λ fs. fields_verdict rows i fs (drop at claim)) (drop_all i fields past)

-- how long a claim is
most_of : FieldName → ℕ
most_of name = 3 + bytes_for (message_bits name) + 32 * certificate_rows name

rows_at_most : (name : FieldName) (soft : Option (List ℤ)) → claimed_rows name soft ≤ certificate_rows name
rows_at_most name None = omega arith
rows_at_most name (Some soft) = omega arith

field_at_most : (field : FrontField) → field_length field ≤ most_of field.name
unfolding field_length most_of
field_at_most field = omega (arith, rows_at_most field.name field.soft)

fields_at_most : (fields : List FrontField) → sum_by field_length fields ≤ sum_by most_of (map (λ field. field.name) fields)
fields_at_most [] = omega arith
fields_at_most (field ∷ fields) =
    omega (arith, field_at_most field, fields_at_most fields, sum_by-cons field_length field fields, sum_by-cons most_of field.name (map (λ field. field.name) fields))

names_at_most : (letter : Letter) (mode : Mode) → IsReadLetter letter → sum_by most_of (names_of letter mode) ≤ 18737
unfolding most_of
names_at_most F mode is = omega arith
names_at_most H mode is = omega arith
names_at_most S mode is = omega arith
names_at_most C mode is = omega arith
names_at_most T Sig is = omega arith
names_at_most T Cb is = omega arith
names_at_most T D72Mode is = omega arith
names_at_most T (D48Mode span) is = omega arith
names_at_most T (D24Mode span) is = omega arith
names_at_most T Speech is = omega arith
names_at_most P Sig is = omega arith
names_at_most P Cb is = omega arith
names_at_most P D72Mode is = omega arith
names_at_most P (D48Mode span) is = omega arith
names_at_most P (D24Mode span) is = omega arith
names_at_most P Speech is = omega arith
names_at_most Q mode is = absurd is

row_at_most : (letter : Letter) (mode : Mode) (names : List FieldName) → IsReadLetter letter → (names ≡ names_of letter mode) ⊎ (names ≡ Aach ∷ names_of letter mode) → sum_by most_of names ≤ 18742
unfolding most_of
row_at_most letter mode names is (inl e) = let s : sum_by most_of names ≡ sum_by most_of (names_of letter mode) = ap (sum_by most_of) e in omega (arith, names_at_most letter mode is)
row_at_most letter mode names is (inr e) = let s : sum_by most_of names ≡ 5 + sum_by most_of (names_of letter mode) = ap (sum_by most_of) e ∙ sum_by-cons most_of Aach (names_of letter mode) in omega (arith, names_at_most letter mode is)

pub claim_at_most : (front : Front) → IsFront front → claim_length front ≤ 18743
unfolding claim_length
claim_at_most front is =
    let row = is.row in
    omega (arith, fields_at_most front.fields.items, row_at_most row.0 row.1 (map (λ field. field.name) front.fields.items) row.2 row.5)
