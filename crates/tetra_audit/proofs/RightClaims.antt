-- A claim that agrees spells right readings, and such a claim agrees.
use Prim.Native.Nat.{suc}
use Rattle.std.proofs.Common.{◌≡◌, inl, inr, ℕ, ◌+◌, ◌<◌, ◌≤◌, Bool, true, false, cond, eqb, List, [], ◌∷◌, ◌++◌, length, take, drop, get_or, sum_by, Option, Some, None, arith, refl, sym, ap, ◌∙◌, length-drop}
use Rattle.std.proofs.Math.Seq.{take-append_seam, drop-append_seam}
use Rattle.std.proofs.lemmas.Bool.{cases_lt}
use Rattle.std.proofs.lemmas.Bool.Decides.{nat_tests}
use Rattle.std.proofs.lemmas.List.{get_or-take, get_or-drop, get_or_past, length-take, length-take-le, take-append-drop}
use Rattle.std.proofs.lemmas.List.Sums.{sum_by-cons}
use Rattle.std.specs.List.{All, flat_map}
use Rattle.tetra_records.specs.Readings.{field_bytes, reading_spelling}
use Rattle.tetra_session.specs.Fronts.{IsFrontField}
use Rattle.tetra_session.specs.declared.front.FrontField.{FrontField}
use Rattle.tetra_settings.specs.declared.readings.Field.{Field}
use Rattle.tetra_settings.specs.declared.types.Form.TheVariants.{Audit}
use Rattle.tetra_audit.specs.Agreement.{AreRight, IsRightClaim, AgreesExactly}
use Rattle.tetra_audit.specs.Fields.{field_length, claim_length}
use Rattle.tetra_audit.specs.Verdicts.{field_why, verdict_by, fields_verdict, slot_verdict}
use Rattle.tetra_audit.specs.declared.verdict.FieldWhy.{FieldWhy}
use Rattle.tetra_audit.specs.declared.verdict.SlotVerdict.{SlotVerdict}
use Rattle.tetra_audit.specs.declared.verdict.SlotVerdict.TheVariants.{Agrees, Kind}
use Rattle.tetra_audit.proofs.RightFields.{Reads, field_agrees, right_length}

-- right readings of all fields, whose bytes these are
record ReadAll (rows : List ℕ) (fields : List FrontField) (bytes : List ℕ) : Type 0 where
  pub claimed : List Field
  pub right : AreRight rows fields claimed
  pub spells : bytes ≡ flat_map (field_bytes Audit) claimed

no_verdict : (i : ℕ) (why : Option FieldWhy) (later : SlotVerdict) → verdict_by i why later ≡ Agrees → (why ≡ None) × (later ≡ Agrees)
no_verdict i None later e = (refl, e)
no_verdict i (Some why) later e = absurd (cc)

small_taken : (bytes : List ℕ) (n : ℕ) → ((k : ℕ) → get_or bytes k 0 < 256) → (k : ℕ) → get_or (take n bytes) k 0 < 256
small_taken bytes n small k = elim (cases_lt k n) [
  | inl lt ↦ let e : get_or (take n bytes) k 0 ≡ get_or bytes k 0 = get_or-take n bytes k 0 lt in omega (arith, small k)
  | inr le ↦ let e : get_or (take n bytes) k 0 ≡ 0 = get_or_past (take n bytes) k 0 (omega (arith, length-take n bytes)) in omega arith
]

small_dropped : (bytes : List ℕ) (n : ℕ) → ((k : ℕ) → get_or bytes k 0 < 256) → (k : ℕ) → get_or (drop n bytes) k 0 < 256
small_dropped bytes n small k = let e : get_or (drop n bytes) k 0 ≡ get_or bytes (n + k) 0 = get_or-drop n bytes k 0 in omega (arith, small (n + k))

no_bytes : (bytes : List ℕ) → length bytes ≡ 0 → bytes ≡ []
no_bytes [] e = refl
no_bytes (b ∷ bytes) e = absurd (omega arith)

fields_read : (rows : List ℕ) (fields : List FrontField) (i : ℕ) (bytes : List ℕ) → All IsFrontField fields → ((k : ℕ) → get_or bytes k 0 < 256) → length bytes ≡ sum_by field_length fields →
    fields_verdict rows i fields bytes ≡ Agrees → ReadAll rows fields bytes
unfolding fields_verdict
fields_read rows [] i bytes is small size e = record { claimed = []; right = tt; spells = no_bytes bytes size }
fields_read rows (field ∷ fields) i bytes is small size e =
    let sum : length bytes ≡ field_length field + sum_by field_length fields = size ∙ sum_by-cons field_length field fields in
    let both = no_verdict i (field_why rows field (take (field_length field) bytes)) (fields_verdict rows (i + 1) fields (drop (field_length field) bytes)) e in
    let first : Reads rows field (take (field_length field) bytes) =
    (field_agrees rows field (take (field_length field) bytes) (small_taken bytes (field_length field) small) (length-take-le (field_length field) bytes (omega arith))
    (is 0 field (omega arith))).0 both.0 in
    let rest : ReadAll rows fields (drop (field_length field) bytes) =
    fields_read rows fields (i + 1) (drop (field_length field) bytes) (λ k d h. is (suc k) d (omega arith)) (small_dropped bytes (field_length field) small)
    (omega (arith, length-drop (field_length field) bytes)) both.1 in
    record {
      claimed = first.claimed ∷ rest.claimed;
      right = (first.right, rest.right);
      spells = sym (take-append-drop (field_length field) bytes) ∙ (ap (λ part. part ++ drop (field_length field) bytes) first.spells ∙ ap (λ part. field_bytes Audit first.claimed ++ part) rest.spells);
    }

fields_agree : (rows : List ℕ) (fields : List FrontField) (i : ℕ) (bytes : List ℕ) → All IsFrontField fields → ((k : ℕ) → get_or bytes k 0 < 256) → (claimed : List Field) → AreRight rows fields claimed →
    bytes ≡ flat_map (field_bytes Audit) claimed → fields_verdict rows i fields bytes ≡ Agrees
unfolding fields_verdict
fields_agree rows [] i bytes is small claimed right e = refl
fields_agree rows (field ∷ fields) i bytes is small [] right e = absurd right
fields_agree rows (field ∷ fields) i bytes is small (claim ∷ more) right e =
    let here : IsFrontField field = is 0 field (omega arith) in
    let long : field_length field ≡ length (field_bytes Audit claim) = sym (right_length rows field claim right.0 here) in
    let taken : take (field_length field) bytes ≡ field_bytes Audit claim =
    ap (take (field_length field)) e ∙ (ap (λ n. take n (field_bytes Audit claim ++ flat_map (field_bytes Audit) more)) long ∙ take-append_seam (field_bytes Audit claim) (flat_map (field_bytes Audit) more)) in
    let dropped : drop (field_length field) bytes ≡ flat_map (field_bytes Audit) more =
    ap (drop (field_length field)) e ∙ (ap (λ n. drop n (field_bytes Audit claim ++ flat_map (field_bytes Audit) more)) long ∙ drop-append_seam (field_bytes Audit claim) (flat_map (field_bytes Audit) more)) in
    let size : length (take (field_length field) bytes) ≡ field_length field = ap length taken ∙ sym long in
    let first : field_why rows field (take (field_length field) bytes) ≡ None =
    (field_agrees rows field (take (field_length field) bytes) (small_taken bytes (field_length field) small) size here).1 (record { claimed = claim; right = right.0; spells = taken }) in
    let rest : fields_verdict rows (i + 1) fields (drop (field_length field) bytes) ≡ Agrees =
    fields_agree rows fields (i + 1) (drop (field_length field) bytes) (λ k d h. is (suc k) d (omega arith)) (small_dropped bytes (field_length field) small) more right.1 dropped in
    rw (first, rest) refl

-- the letter
no_kind : (b : Bool) (later : SlotVerdict) → cond b later Kind ≡ Agrees → (b ≡ true) × (later ≡ Agrees)
no_kind true later e = (refl, e)
no_kind false later e = absurd (cc)

letter_first : (claim : List ℕ) (letter : ℕ) → 1 ≤ length claim → get_or claim 0 0 ≡ letter → claim ≡ letter ∷ drop 1 claim
letter_first [] letter h e = absurd (omega arith)
letter_first (c ∷ claim) letter h e = ap (λ x. x ∷ claim) e

pub agrees_exactly : AgreesExactly
unfolding slot_verdict claim_length reading_spelling
agrees_exactly rows front claim is small size = (there, back)
  where
    there : slot_verdict rows front claim ≡ Agrees → IsRightClaim rows.0 front claim
    there e =
        let both = no_kind (eqb (get_or claim 0 0) front.letter) (fields_verdict rows.0 0 front.fields.items (drop 1 claim)) e in
        let letter : get_or claim 0 0 ≡ front.letter = let b = both.0 in grind (arith, nat_tests) in
        let read : ReadAll rows.0 front.fields.items (drop 1 claim) =
        fields_read rows.0 front.fields.items 0 (drop 1 claim) is.fields (small_dropped claim 1 small) (omega (arith, length-drop 1 claim)) both.1 in
        record { claimed = read.claimed; right = read.right; spelled = letter_first claim front.letter (omega arith) letter ∙ ap (λ rest. front.letter ∷ rest) read.spells }

    back : IsRightClaim rows.0 front claim → slot_verdict rows front claim ≡ Agrees
    back right =
        let letter : get_or claim 0 0 ≡ front.letter = ap (λ c. get_or c 0 0) right.spelled in
        let same : eqb (get_or claim 0 0) front.letter ≡ true = grind (arith, nat_tests) in
        let later : fields_verdict rows.0 0 front.fields.items (drop 1 claim) ≡ Agrees =
        fields_agree rows.0 front.fields.items 0 (drop 1 claim) is.fields (small_dropped claim 1 small) right.claimed right.right (ap (drop 1) right.spelled) in
        rw (same, later) refl
