-- Two claims that agree with one front.
use Prim.Native.Nat.{suc}
use Rattle.std.proofs.Common.{◌≡◌, inl, inr, ℕ, ◌+◌, ◌-◌, ◌*◌, ◌<◌, ◌≤◌, Bool, List, [], ◌∷◌, ◌++◌, length, take, drop, get_or, ℤ, Option, Some, None, arith, refl, sym, ap, subst, ◌∙◌}
use Rattle.std.proofs.Math.Seq.{take-append_seam, drop-append_seam}
use Rattle.std.specs.List.{All, flat_map}
use Rattle.tetra_bits.specs.Packed.{bytes_for, packed}
use Rattle.tetra_bits.specs.Readings.{entry, mark_byte}
use Rattle.tetra_bits.specs.declared.reading.Mark.{Mark}
use Rattle.tetra_bits.specs.declared.reading.Reading.{Reading}
use Rattle.tetra_puncture.specs.Best.{best_of}
use Rattle.tetra_puncture.specs.Certified.{Fits, IsCertified, CostToGoIsOne}
use Rattle.tetra_puncture.specs.Plan.{CodePlan}
use Rattle.tetra_puncture.specs.Spread.{spread_values}
use Rattle.tetra_puncture.specs.Trellis.{state_passed}
use Rattle.tetra_puncture.specs.lemmas.Certificates.{accepted_is_certified}
use Rattle.tetra_puncture.specs.lemmas.Shapes.{length-best_of}
use Rattle.tetra_puncture.specs.lemmas.Steps.{state_passed_small}
use Rattle.tetra_records.specs.Readings.{two_bytes, table_bytes, certificate_bytes, field_bytes, reading_spelling}
use Rattle.tetra_rm.specs.declared.table.Rows.{Rows}
use Rattle.tetra_session.specs.Fronts.{IsFrontField, IsFront}
use Rattle.tetra_session.specs.Readers.{CodedPart, reader, coded_part, field_reading}
use Rattle.tetra_session.specs.declared.front.FrontField.{FrontField}
use Rattle.tetra_session.specs.declared.front.Front.{Front}
use Rattle.tetra_settings.specs.Readings.{message_bits}
use Rattle.tetra_settings.specs.declared.readings.Field.{Field}
use Rattle.tetra_settings.specs.declared.types.Form.TheVariants.{Audit}
use Rattle.tetra_audit.specs.Agreement.{IsCertificate, AreCertified, IsRight, AreRight, IsRightClaim, AreBytes}
use Rattle.tetra_audit.specs.Claims.{claimed_bits, bits_part, table_part}
use Rattle.tetra_audit.specs.Fields.{field_length, claim_length}
use Rattle.tetra_audit.specs.Pairs.{head_part, claimed_message, IsSamePotential, IsSameAlong, AreSameAlong, IsSameOutside, IsSameOnPath, EachField, AgreeOutside, AgreeOnPath}
use Rattle.tetra_audit.specs.Verdicts.{slot_verdict}
use Rattle.tetra_audit.specs.declared.verdict.SlotVerdict.TheVariants.{Agrees}
use Rattle.tetra_audit.proofs.Agreeing.{defined, bits_spelled, table_spelled, length-packed}
use Rattle.tetra_audit.proofs.FieldCases.{IsCoded, plain_or_coded}
use Rattle.tetra_audit.proofs.RightClaims.{agrees_exactly}
use Rattle.tetra_audit.proofs.RightFields.{right_length, right_table, right_coded}
use Rattle.tetra_audit.proofs.SmallBytes.{packed_bytes}
use Rattle.tetra_audit.proofs.Spelled.{byte_at, entry_at, claimed_at}
use Rattle.tetra_audit.proofs.Testing.{claimed_is}

-- the bytes of a field in front of its certificate
unfoldable head : Mark → ℕ → List Bool → List ℕ
head mark metric bits = (mark_byte mark ∷ two_bytes metric) ++ packed bits

same_head : (mark mark' : Mark) (metric metric' : ℕ) (bits bits' : List Bool) → mark ≡ mark' → metric ≡ metric' → bits ≡ bits' → head mark metric bits ≡ head mark' metric' bits'
same_head mark mark' metric metric' bits bits' e f g = rw (e, f, g) refl

length-head : (mark : Mark) (metric : ℕ) (bits : List Bool) → length (head mark metric bits) ≡ 3 + bytes_for (length bits)
unfolding head
length-head mark metric bits = omega (arith, length-packed bits)

head_of : (claimed : Field) (len : ℕ) → length claimed.reading.bits ≡ len → head_part len (field_bytes Audit claimed) ≡ head claimed.reading.mark claimed.reading.metric claimed.reading.bits
unfolding head field_bytes
head_of claimed len size =
    let reading : Reading = claimed.reading in
    let front : List ℕ = (mark_byte reading.mark ∷ two_bytes reading.metric) ++ packed reading.bits in
    let many : bytes_for (length reading.bits) ≡ bytes_for len = ap bytes_for size in
    let size_is : length front ≡ 3 + bytes_for (length reading.bits) = length-head reading.mark reading.metric reading.bits in
    let long : 3 + bytes_for len ≡ length front = omega (arith, many, size_is) in
    ap (λ n. take n (front ++ certificate_bytes Audit reading.potentials)) long ∙ take-append_seam front (certificate_bytes Audit reading.potentials)

one_cost : CostToGoIsOne
one_cost p wide t s n n' h h' =
    let a : n ≤ n' = omega (arith, h.least h'.reached.0 h'.reached.1, h'.reached.2) in
    let b : n' ≤ n = omega (arith, h'.least h.reached.0 h.reached.1, h.reached.2) in
    omega arith

-- two certificates of one block
module _ (plan : CodePlan) (values : List ℤ) (a b : List (List ℕ)) (is_a : IsCertificate plan values a) (is_b : IsCertificate plan values b) where
  same_entry : Fits plan values (best_of plan values) → (t : ℕ) → t ≤ plan.steps → let s = state_passed (best_of plan values) t in entry a t s ≡ entry b t s
  same_entry fits t h =
      let m : List Bool = best_of plan values in
      let shown_a : IsCertified plan values m a = accepted_is_certified plan values m a fits is_a.accepted in
      let shown_b : IsCertified plan values m b = accepted_is_certified plan values m b fits is_b.accepted in
      one_cost plan (spread_values plan values) t (state_passed m t) (entry a t (state_passed m t)) (entry b t (state_passed m t)) (shown_a.on_path t h) (shown_b.on_path t h)

  same_potential : (t s : ℕ) → t ≤ plan.steps → s < 16 → entry a t s ≡ entry b t s → IsSamePotential (table_bytes a) (table_bytes b) t s
  unfolding entry
  same_potential t s h small e =
      let in_a : t < length a = omega (arith, is_a.rows) in
      let in_b : t < length b = omega (arith, is_b.rows) in
      let first : 2 * (16 * t + s) ≡ 32 * t + (2 * s + 0) = omega arith in
      let next : 2 * (16 * t + s) + 1 ≡ 32 * t + (2 * s + 1) = omega arith in
      record {
        number = claimed_at (table_bytes a) t s ∙ entry_at a is_a.states t s in_a small ∙ e ∙ sym (claimed_at (table_bytes b) t s ∙ entry_at b is_b.states t s in_b small);
        higher = rw first (byte_at a is_a.states t s 0 in_a small (omega arith) ∙ ap (λ n. get_or (two_bytes n) 0 0) e ∙ sym (byte_at b is_b.states t s 0 in_b small (omega arith)));
        lower = rw next (byte_at a is_a.states t s 1 in_a small (omega arith) ∙ ap (λ n. get_or (two_bytes n) 1 0) e ∙ sym (byte_at b is_b.states t s 1 in_b small (omega arith)));
      }

potential_by : (x x' y y' : List ℕ) (t s s' : ℕ) → x ≡ x' → y ≡ y' → s ≡ s' → IsSamePotential x' y' t s' → IsSamePotential x y t s
potential_by x x' y y' t s s' e f g is = rw (e, f, g) is

-- the parts of a right reading of a field of which a trellis reads a part
module _ (rows : List ℕ) (field : FrontField) (coded : IsCoded rows field.name field.soft) where
  fits_best : let values = drop coded.part.before coded.soft in Fits coded.part.plan values (best_of coded.part.plan values)
  fits_best =
      let few : 6 ≤ coded.part.plan.steps = coded.has.sizes.few_steps.0 in
      let long : length (best_of coded.part.plan (drop coded.part.before coded.soft)) ≡ coded.part.plan.steps - 4 = length-best_of coded.part.plan (drop coded.part.before coded.soft) in
      record { sizes = coded.has.sizes; rise = coded.has.rise; lie = coded.has.lie; message = omega arith; values = coded.has.sent }

  module _ (claimed : Field) (right : IsRight rows field claimed) where
    table_read : table_part (message_bits field.name) (field_bytes Audit claimed) ≡ table_bytes (right_table rows field claimed right coded).0
    unfolding defined
    table_read =
        let reading : Reading = field_reading rows field.name field.soft in
        let table = right_table rows field claimed right coded in
        ap (table_part (message_bits field.name)) (right_coded rows field claimed right table.0 table.1)
        ∙ table_spelled reading.mark reading.metric reading.bits (table_bytes table.0) (message_bits field.name) coded.has.bits

    message_read : claimed_message coded.part (message_bits field.name) (field_bytes Audit claimed) ≡ best_of coded.part.plan (drop coded.part.before coded.soft)
    unfolding defined
    message_read =
        let reading : Reading = field_reading rows field.name field.soft in
        let table = right_table rows field claimed right coded in
        let len : ℕ = message_bits field.name in
        let size : length reading.bits ≡ len = coded.has.bits in
        let bits : bits_part len (field_bytes Audit claimed) ≡ packed reading.bits =
        ap (bits_part len) (right_coded rows field claimed right table.0 table.1) ∙ bits_spelled reading.mark reading.metric reading.bits (table_bytes table.0) len size in
        let read : reading.bits ≡ claimed_bits (packed reading.bits) len =
        claimed_is (packed reading.bits) len reading.bits (packed_bytes reading.bits) (length-packed reading.bits ∙ ap bytes_for size) size refl in
        ap (λ part. coded.part.coded (claimed_bits part len)) bits ∙ ap coded.part.coded (sym read) ∙ coded.has.is_best

  along : (a b : Field) → IsRight rows field a → IsRight rows field b → IsSameAlong coded.part (message_bits field.name) (field_bytes Audit a) (field_bytes Audit b)
  along a b right_a right_b t h =
      let plan : CodePlan = coded.part.plan in
      let values : List ℤ = drop coded.part.before coded.soft in
      let table_a = right_table rows field a right_a coded in
      let table_b = right_table rows field b right_b coded in
      let s : ℕ = state_passed (best_of plan values) t in
      potential_by (table_part (message_bits field.name) (field_bytes Audit a)) (table_bytes table_a.0)
      (table_part (message_bits field.name) (field_bytes Audit b)) (table_bytes table_b.0) t
      (state_passed (claimed_message coded.part (message_bits field.name) (field_bytes Audit a)) t) s
      (table_read a right_a) (table_read b right_b) (ap (λ m. state_passed m t) (message_read a right_a))
      (same_potential plan values table_a.0 table_b.0 table_a.2 table_b.2 t s h (state_passed_small (best_of plan values) t)
      (same_entry plan values table_a.0 table_b.0 table_a.2 table_b.2 fits_best t h))

-- a field without a certificate
nothing_along : (part : Option CodedPart) (values : Option (List ℤ)) (len : ℕ) (first second : List ℕ) → AreCertified part values None → AreSameAlong part values len first second
nothing_along None values len first second is = tt
nothing_along (Some part) None len first second is = tt
nothing_along (Some part) (Some soft) len first second is = absurd is

-- two right readings of one field
module _ (rows : List ℕ) (field : FrontField) (is : IsFrontField field) (a b : Field) (right_a : IsRight rows field a) (right_b : IsRight rows field b) where
  many : length (field_reading rows field.name field.soft).bits ≡ message_bits field.name
  many = elim (plain_or_coded rows field is) [ inl plain ↦ plain.bits | inr coded ↦ coded.has.bits ]

  same_outside : IsSameOutside field (field_bytes Audit a) (field_bytes Audit b)
  same_outside =
      head_of a (message_bits field.name) (ap length right_a.bits ∙ many)
      ∙ same_head a.reading.mark b.reading.mark a.reading.metric b.reading.metric a.reading.bits b.reading.bits (right_a.mark ∙ sym right_b.mark) (right_a.metric ∙ sym right_b.metric) (right_a.bits ∙ sym right_b.bits)
      ∙ sym (head_of b (message_bits field.name) (ap length right_b.bits ∙ many))

  coded_along : IsCoded rows field.name field.soft → AreSameAlong (coded_part (reader field.name)) field.soft (message_bits field.name) (field_bytes Audit a) (field_bytes Audit b)
  coded_along coded =
      subst (λ (v : Option (List ℤ)). AreSameAlong (coded_part (reader field.name)) v (message_bits field.name) (field_bytes Audit a) (field_bytes Audit b)) (sym coded.there)
      (subst (λ (p : Option CodedPart). AreSameAlong p (Some coded.soft) (message_bits field.name) (field_bytes Audit a) (field_bytes Audit b)) (sym coded.of_part)
      (along rows field coded a b right_a right_b))

  same_on_path : IsSameOnPath field (field_bytes Audit a) (field_bytes Audit b)
  same_on_path = elim (plain_or_coded rows field is) [
    | inl plain ↦ nothing_along (coded_part (reader field.name)) field.soft (message_bits field.name) (field_bytes Audit a) (field_bytes Audit b) plain.certified
    | inr coded ↦ coded_along coded
  ]

-- what holds of the bytes of two right readings of one field holds of each field
module _ (rows : List ℕ) (IsSame : FrontField → List ℕ → List ℕ → Type 0)
    (one : (field : FrontField) → IsFrontField field → (a b : Field) → IsRight rows field a → IsRight rows field b → IsSame field (field_bytes Audit a) (field_bytes Audit b)) where
  module _ (field : FrontField) (is : IsFrontField field) (claimed : Field) (right : IsRight rows field claimed) (behind : List ℕ) where
    long : field_length field ≡ length (field_bytes Audit claimed)
    long = sym (right_length rows field claimed right is)

    taken : take (field_length field) (field_bytes Audit claimed ++ behind) ≡ field_bytes Audit claimed
    taken = ap (λ n. take n (field_bytes Audit claimed ++ behind)) long ∙ take-append_seam (field_bytes Audit claimed) behind

    dropped : drop (field_length field) (field_bytes Audit claimed ++ behind) ≡ behind
    dropped = ap (λ n. drop n (field_bytes Audit claimed ++ behind)) long ∙ drop-append_seam (field_bytes Audit claimed) behind

  each_field : (fields : List FrontField) → All IsFrontField fields → (firsts seconds : List Field) → AreRight rows fields firsts → AreRight rows fields seconds
      → EachField IsSame fields (flat_map (field_bytes Audit) firsts) (flat_map (field_bytes Audit) seconds)
  each_field [] is firsts seconds right_firsts right_seconds = tt
  each_field (field ∷ fields) is [] seconds right_firsts right_seconds = absurd right_firsts
  each_field (field ∷ fields) is (a ∷ firsts) [] right_firsts right_seconds = absurd right_seconds
  each_field (field ∷ fields) is (a ∷ firsts) (b ∷ seconds) right_firsts right_seconds =
      let here : IsFrontField field = is 0 field (omega arith) in
      let rest : EachField IsSame fields (flat_map (field_bytes Audit) firsts) (flat_map (field_bytes Audit) seconds) = each_field fields (λ k d h. is (suc k) d (omega arith)) firsts seconds right_firsts.1 right_seconds.1 in
      let more_a : List ℕ = flat_map (field_bytes Audit) firsts in
      let more_b : List ℕ = flat_map (field_bytes Audit) seconds in (
        subst (λ (x : List ℕ). IsSame field x (take (field_length field) (field_bytes Audit b ++ more_b))) (sym (taken field here a right_firsts.0 more_a))
            (subst (λ (y : List ℕ). IsSame field (field_bytes Audit a) y) (sym (taken field here b right_seconds.0 more_b)) (one field here a b right_firsts.0 right_seconds.0)),
        subst (λ (x : List ℕ). EachField IsSame fields x (drop (field_length field) (field_bytes Audit b ++ more_b))) (sym (dropped field here a right_firsts.0 more_a))
            (subst (λ (y : List ℕ). EachField IsSame fields more_a y) (sym (dropped field here b right_seconds.0 more_b)) rest),
      )

  -- behind the letter
  module _ (front : Front) (is : IsFront front) where
    behind_letter : (first second : List ℕ) → IsRightClaim rows front first → IsRightClaim rows front second → EachField IsSame front.fields.items (drop 1 first) (drop 1 second)
    unfolding reading_spelling
    behind_letter first second right_first right_second =
        let e : drop 1 first ≡ flat_map (field_bytes Audit) right_first.claimed = ap (drop 1) right_first.spelled in
        let f : drop 1 second ≡ flat_map (field_bytes Audit) right_second.claimed = ap (drop 1) right_second.spelled in
        subst (λ (x : List ℕ). EachField IsSame front.fields.items x (drop 1 second)) (sym e)
        (subst (λ (y : List ℕ). EachField IsSame front.fields.items (flat_map (field_bytes Audit) right_first.claimed) y) (sym f)
        (each_field front.fields.items is.fields right_first.claimed right_second.claimed right_first.right right_second.right))

letter_of : (rows : List ℕ) (front : Front) (claim : List ℕ) → IsRightClaim rows front claim → get_or claim 0 0 ≡ front.letter
unfolding reading_spelling
letter_of rows front claim right = ap (λ c. get_or c 0 0) right.spelled

-- two claims that agree
module _ (rows : Rows) (front : Front) (first second : List ℕ) (is : IsFront front) (small_first : AreBytes first) (small_second : AreBytes second)
    (long_first : length first ≡ claim_length front) (long_second : length second ≡ claim_length front)
    (agrees_first : slot_verdict rows front first ≡ Agrees) (agrees_second : slot_verdict rows front second ≡ Agrees) where
  right_first : IsRightClaim rows.0 front first
  right_first = (agrees_exactly rows front first is small_first long_first).0 agrees_first

  right_second : IsRightClaim rows.0 front second
  right_second = (agrees_exactly rows front second is small_second long_second).0 agrees_second

  pub agree_outside : AgreeOutside front first second
  agree_outside = (
    letter_of rows.0 front first right_first ∙ sym (letter_of rows.0 front second right_second),
    behind_letter rows.0 IsSameOutside (same_outside rows.0) front is first second right_first right_second,
  )

  pub agree_on_path : AgreeOnPath front first second
  agree_on_path =
      behind_letter rows.0 IsSameOnPath (same_on_path rows.0) front is first second right_first right_second
