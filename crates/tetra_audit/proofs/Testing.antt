-- The tests of a field.
use Prim.Native.Nat.{zero, suc}
use Rattle.std.proofs.Common.{◌≡◌, ◌≢◌, ◌↔◌, inl, inr, ℕ, ◌+◌, ◌-◌, ◌*◌, ◌<◌, ◌≤◌, Bool, true, false, not, eqb, ◌||◌, List, [], ◌∷◌, length, take, drop, get_or, ℤ, Some, None, arith, refl, sym, ap, subst, ◌∙◌, length-drop}
use Rattle.std.proofs.lemmas.Bool.{cases_lt}
use Rattle.std.proofs.lemmas.Bool.Decides.{nat_tests}
use Rattle.std.proofs.lemmas.List.{get_or-take, get_or-drop, get_or_past, length-take, length-take-le, take_all}
use Rattle.std.proofs.lemmas.Slice.Eq.{bytes_eq-Decides}
use Rattle.std.proofs.Math.Bool.{beq}
use Rattle.std.specs.Cmp.{booleans_Decides}
use Rattle.std.specs.Cmp.Lexicographic.{pointwise, pointwise_decides}
use Rattle.std.specs.List.{list_any, range_with_len}
use Rattle.std.specs.Str.{bytes_eq}
use Rattle.tetra_bits.specs.Packed.{bytes_for, packed, bit_in, HasPad, unpacked_bit}
use Rattle.tetra_bits.specs.Numbered.{numbered, length-numbered}
use Rattle.tetra_bits.specs.lemmas.Packing_lists.{packed_apart, packed_pads, packed_taken, pads_clean}
use Rattle.tetra_bits.specs.declared.reading.Mark.{Mark}
use Rattle.tetra_bits.specs.declared.reading.Reading.{Reading}
use Rattle.tetra_cert.specs.Verdicts.{verdict_of}
use Rattle.tetra_cert.specs.declared.verdict.Verdict.TheVariants.{Accepted, Refused}
use Rattle.tetra_parity.specs.Parity.{same_bits}
use Rattle.tetra_puncture.specs.declared.rule.Rule.{Rule}
use Rattle.tetra_session.specs.Readers.{CodedPart}
use Rattle.tetra_bits.specs.Readings.{mark_byte}
use Rattle.tetra_audit.specs.Claims.{claimed_bits, claimed_table, has_pad, mark_part, metric_part, bits_part, table_part}
use Rattle.tetra_audit.specs.Parts.{head_why, plain_why, part_why}
use Rattle.tetra_audit.specs.Verdicts.{pad_fault, bits_fault, uncoded_fault, cert_fault, metric_fault, mark_fault}
use Rattle.tetra_audit.specs.declared.verdict.FieldWhy.TheVariants.{Pad, Bits, Cert, Metric, Mark as MarkFails}

is_not : (x y : ℕ) → x ≢ y → eqb x y ≡ false
is_not x y e = grind (arith, nat_tests)

pub is_same : (x y : ℕ) → x ≡ y → eqb x y ≡ true
is_same x y e = grind (arith, nat_tests)

not_same : (xs ys : List ℕ) → xs ≢ ys → bytes_eq xs ys ≡ false
not_same xs ys ne = at (bytes_eq xs ys) refl
  where
    at : (b : Bool) → bytes_eq xs ys ≡ b → bytes_eq xs ys ≡ false
    at true e = absurd (ne ((bytes_eq-Decides xs ys).0 e))
    at false e = e

all_same : (xs ys : List ℕ) → xs ≡ ys → bytes_eq xs ys ≡ true
all_same xs ys e = (bytes_eq-Decides xs ys).1 e

-- the test of two lists of bits
pub same_exactly : (xs ys : List Bool) → (same_bits xs ys ≡ true) ↔ (xs ≡ ys)
unfolding same_bits
same_exactly xs ys = (there xs ys, λ e. ap (same_bits xs) (sym e) ∙ back xs)
  where
    there : (xs ys : List Bool) → same_bits xs ys ≡ true → xs ≡ ys
    there [] [] h = refl
    there [] (y ∷ ys) h = cc
    there (x ∷ xs) [] h = cc
    there (true ∷ xs) (true ∷ ys) h = ap (λ l. true ∷ l) (there xs ys h)
    there (true ∷ xs) (false ∷ ys) h = cc
    there (false ∷ xs) (true ∷ ys) h = cc
    there (false ∷ xs) (false ∷ ys) h = ap (λ l. false ∷ l) (there xs ys h)

    back : (xs : List Bool) → same_bits xs xs ≡ true
    back [] = refl
    back (true ∷ xs) = back xs
    back (false ∷ xs) = back xs

bits_differ : (xs ys : List Bool) → xs ≢ ys → same_bits xs ys ≡ false
bits_differ xs ys ne = at (same_bits xs ys) refl
  where
    at : (b : Bool) → same_bits xs ys ≡ b → same_bits xs ys ≡ false
    at true e = absurd (ne ((same_exactly xs ys).0 e))
    at false e = e

-- what `!=` of two lists of bits says
pub bits_unlike : (xs ys : List Bool) → true ≡ not (pointwise beq xs ys) → xs ≢ ys
bits_unlike xs ys e f =
    let is : pointwise beq xs ys ≡ true = (pointwise_decides booleans_Decides xs ys).1 f in
    let clash : true ≡ false = e ∙ ap not is in
    cc

pub bits_alike : (xs ys : List Bool) → false ≡ not (pointwise beq xs ys) → xs ≡ ys
bits_alike xs ys e = at (pointwise beq xs ys) refl
  where
    at : (b : Bool) → pointwise beq xs ys ≡ b → xs ≡ ys
    at true is = (pointwise_decides booleans_Decides xs ys).0 is
    at false is = let clash : false ≡ true = e ∙ ap not is in absurd (cc)

-- what `!=` of two lists of bytes says
pub differs : (xs ys zs : List ℕ) → xs ≡ zs → true ≡ not (bytes_eq xs ys) → ys ≢ zs
differs xs ys zs same e f =
    let is : bytes_eq xs ys ≡ true = (bytes_eq-Decides xs ys).1 (same ∙ sym f) in
    let clash : true ≡ false = e ∙ ap not is in
    cc

pub agrees : (xs ys zs : List ℕ) → xs ≡ zs → false ≡ not (bytes_eq xs ys) → ys ≡ zs
agrees xs ys zs same e = at (bytes_eq xs ys) refl
  where
    at : (b : Bool) → bytes_eq xs ys ≡ b → ys ≡ zs
    at true is = sym ((bytes_eq-Decides xs ys).0 is) ∙ same
    at false is = let clash : false ≡ true = e ∙ ap not is in absurd (cc)

-- the last two tests
pub metric_differs : (metric : ℕ) (mark : Mark) (bytes : List ℕ) → metric_part bytes ≢ metric → head_why metric mark bytes ≡ Some Metric
unfolding head_why metric_fault
metric_differs metric mark bytes h = let e : eqb (metric_part bytes) metric ≡ false = is_not (metric_part bytes) metric h in rw e refl

pub mark_differs : (metric : ℕ) (mark : Mark) (bytes : List ℕ) → metric_part bytes ≡ metric → mark_part bytes ≢ mark_byte mark → head_why metric mark bytes ≡ Some MarkFails
unfolding head_why metric_fault mark_fault
mark_differs metric mark bytes g h =
    let d : eqb (metric_part bytes) metric ≡ true = is_same (metric_part bytes) metric g in
    let e : eqb (mark_part bytes) (mark_byte mark) ≡ false = is_not (mark_part bytes) (mark_byte mark) h in
    rw (d, e) refl

pub head_agrees : (metric : ℕ) (mark : Mark) (bytes : List ℕ) → metric_part bytes ≡ metric → mark_part bytes ≡ mark_byte mark → head_why metric mark bytes ≡ None
unfolding head_why metric_fault mark_fault
head_agrees metric mark bytes g h =
    let d : eqb (metric_part bytes) metric ≡ true = is_same (metric_part bytes) metric g in
    let e : eqb (mark_part bytes) (mark_byte mark) ≡ true = is_same (mark_part bytes) (mark_byte mark) h in
    rw (d, e) refl

-- the pad bits
any_bit : (p : ℕ → Bool) (a n k : ℕ) → a ≤ k → k < a + n → p k ≡ true → list_any p (range_with_len a n) ≡ true
any_bit p a zero k from to is = absurd (omega arith)
any_bit p a (suc n) k from to is = elim (cases_lt a k) [
  | inl lt ↦ let rest : list_any p (range_with_len (a + 1) n) ≡ true = any_bit p (a + 1) n k (omega arith) (omega arith) is in rw rest (or_true (p a))
  | inr le ↦ let e : k ≡ a = omega arith in let here : p a ≡ true = ap p (sym e) ∙ is in rw here refl
]
  where
    or_true : (b : Bool) → (b || true) ≡ true
    or_true true = refl
    or_true false = refl

no_bit : (p : ℕ → Bool) (a n : ℕ) → ((k : ℕ) → a ≤ k → k < a + n → p k ≡ false) → list_any p (range_with_len a n) ≡ false
no_bit p a zero none = refl
no_bit p a (suc n) none =
    let here : p a ≡ false = none a (omega arith) (omega arith) in
    let rest : list_any p (range_with_len (a + 1) n) ≡ false = no_bit p (a + 1) n (λ k from to. none k (omega arith) (omega arith)) in
    rw (here, rest) refl

pub pad_found : (bytes : List ℕ) (len : ℕ) → HasPad bytes len → has_pad bytes len ≡ true
unfolding has_pad
pad_found bytes len (k, behind, within, is) = any_bit (bit_in bytes) len (8 * length bytes - len) k behind (omega arith) is

pub no_pad_found : (bytes : List ℕ) (len : ℕ) → (HasPad bytes len → ⊥) → has_pad bytes len ≡ false
unfolding has_pad
no_pad_found bytes len none = no_bit (bit_in bytes) len (8 * length bytes - len) (λ k from to. pads_clean bytes len none k from (omega arith))

-- the bytes of a part are bytes
pub small_part : (bytes : List ℕ) (n : ℕ) → ((q : ℕ) → get_or bytes q 0 < 256) → (q : ℕ) → get_or (take n (drop 3 bytes)) q 0 < 256
small_part bytes n small q = elim (cases_lt q n) [
  | inl lt ↦ let e : get_or (take n (drop 3 bytes)) q 0 ≡ get_or bytes (3 + q) 0 = get_or-take n (drop 3 bytes) q 0 lt ∙ get_or-drop 3 bytes q 0 in omega (arith, small (3 + q))
  | inr le ↦ let e : get_or (take n (drop 3 bytes)) q 0 ≡ 0 = get_or_past (take n (drop 3 bytes)) q 0 (omega (arith, length-take n (drop 3 bytes))) in omega arith
]

pub length-part : (bytes : List ℕ) (n : ℕ) → 3 + n ≤ length bytes → length (take n (drop 3 bytes)) ≡ n
length-part bytes n h =
    let l : length (drop 3 bytes) ≡ length bytes - 3 = length-drop 3 bytes in
    length-take-le n (drop 3 bytes) (omega arith)

-- bits that are packed so are those that are claimed
pub claimed_is : (part : List ℕ) (len : ℕ) (message : List Bool) → ((q : ℕ) → get_or part q 0 < 256) → length part ≡ bytes_for len → length message ≡ len → packed message ≡ part →
    message ≡ claimed_bits part len
unfolding claimed_bits
claimed_is part len message small size long e =
    let none : HasPad part len → ⊥ = packed_pads message part len long e in
    packed_apart message (numbered (unpacked_bit part) len) (long ∙ sym (length-numbered (unpacked_bit part) len))
    (e ∙ sym (packed_taken part len small size (pads_clean part len none)))

-- the tests of a field, where its bits stand in the n bytes behind the third
module _ (reading : Reading) (bytes : List ℕ) (n len : ℕ) (en : n ≡ bytes_for (length reading.bits)) (el : len ≡ length reading.bits) where
  part_is : take n (drop 3 bytes) ≡ bits_part (length reading.bits) bytes
  part_is = ap (λ k. take k (drop 3 bytes)) en

  pad_there : HasPad (take n (drop 3 bytes)) len → HasPad (bits_part (length reading.bits) bytes) (length reading.bits)
  pad_there h = subst (λ (k : ℕ). HasPad (bits_part (length reading.bits) bytes) k) el (subst (λ (part : List ℕ). HasPad part len) part_is h)

  pad_here : HasPad (bits_part (length reading.bits) bytes) (length reading.bits) → HasPad (take n (drop 3 bytes)) len
  pad_here h = subst (λ (k : ℕ). HasPad (take n (drop 3 bytes)) k) (sym el) (subst (λ (part : List ℕ). HasPad part (length reading.bits)) (sym part_is) h)

  -- whose bits come by no trellis
  pub plain_pad : HasPad (take n (drop 3 bytes)) len → plain_why reading bytes ≡ Some Pad
  unfolding plain_why pad_fault
  plain_pad h = let e : has_pad (bits_part (length reading.bits) bytes) (length reading.bits) ≡ true = pad_found (bits_part (length reading.bits) bytes) (length reading.bits) (pad_there h) in rw e refl

  pub plain_bits : (HasPad (take n (drop 3 bytes)) len → ⊥) → take n (drop 3 bytes) ≢ packed reading.bits → plain_why reading bytes ≡ Some Bits
  unfolding plain_why pad_fault bits_fault
  plain_bits none differ =
      let e : has_pad (bits_part (length reading.bits) bytes) (length reading.bits) ≡ false = no_pad_found (bits_part (length reading.bits) bytes) (length reading.bits) (λ h. none (pad_here h)) in
      let f : bytes_eq (bits_part (length reading.bits) bytes) (packed reading.bits) ≡ false = not_same (bits_part (length reading.bits) bytes) (packed reading.bits) (λ g. differ (part_is ∙ g)) in
      rw (e, f) refl

  pub plain_head : (HasPad (take n (drop 3 bytes)) len → ⊥) → take n (drop 3 bytes) ≡ packed reading.bits → plain_why reading bytes ≡ head_why reading.metric reading.mark bytes
  unfolding plain_why pad_fault bits_fault head_why
  plain_head none same =
      let e : has_pad (bits_part (length reading.bits) bytes) (length reading.bits) ≡ false = no_pad_found (bits_part (length reading.bits) bytes) (length reading.bits) (λ h. none (pad_here h)) in
      let f : bytes_eq (bits_part (length reading.bits) bytes) (packed reading.bits) ≡ true = all_same (bits_part (length reading.bits) bytes) (packed reading.bits) (sym part_is ∙ same) in
      rw (e, f) refl

  -- of which a trellis reads a part
  module _ (part : CodedPart) (soft : List ℤ) where
    pub part_pad : HasPad (take n (drop 3 bytes)) len → part_why part soft reading bytes ≡ Some Pad
    unfolding part_why pad_fault
    part_pad h = let e : has_pad (bits_part (length reading.bits) bytes) (length reading.bits) ≡ true = pad_found (bits_part (length reading.bits) bytes) (length reading.bits) (pad_there h) in rw e refl

    -- what was read of its bits
    module _ (bits : List Bool) (small : (q : ℕ) → get_or bytes q 0 < 256) (long : 3 + n ≤ length bytes) (size : length bits ≡ len) (taken : packed bits ≡ take n (drop 3 bytes)) where
      no_pad : has_pad (bits_part (length reading.bits) bytes) (length reading.bits) ≡ false
      no_pad = no_pad_found (bits_part (length reading.bits) bytes) (length reading.bits) (λ h. packed_pads bits (take n (drop 3 bytes)) len size taken (pad_here h))

      bits_are : bits ≡ claimed_bits (bits_part (length reading.bits) bytes) (length reading.bits)
      bits_are =
          claimed_is (take n (drop 3 bytes)) len bits (small_part bytes n small) (length-part bytes n long ∙ (en ∙ ap bytes_for (sym el))) size taken
          ∙ (ap (λ p. claimed_bits p len) part_is ∙ ap (claimed_bits (bits_part (length reading.bits) bytes)) el)

      pub part_bits : part.uncoded bits ≢ part.uncoded reading.bits → part_why part soft reading bytes ≡ Some Bits
      unfolding part_why pad_fault uncoded_fault
      part_bits differ =
          let claimed : List Bool = claimed_bits (bits_part (length reading.bits) bytes) (length reading.bits) in
          let f : same_bits (part.uncoded claimed) (part.uncoded reading.bits) ≡ false = bits_differ (part.uncoded claimed) (part.uncoded reading.bits) (λ g. differ (ap part.uncoded bits_are ∙ g)) in
          rw (no_pad, f) refl

      -- and of its table, which begins behind so many bytes
      module _ (same : part.uncoded bits ≡ part.uncoded reading.bits) (behind : ℕ) (eb : behind ≡ 3 + n) (table : List (List ℕ)) (rows : ℕ) (er : rows ≡ part.plan.steps + 1)
          (read : table ≡ claimed_table (take (length bytes - behind) (drop behind bytes)) rows) where
        bits_same : same_bits (part.uncoded (claimed_bits (bits_part (length reading.bits) bytes) (length reading.bits))) (part.uncoded reading.bits) ≡ true
        bits_same = (same_exactly _ _).1 (ap part.uncoded (sym bits_are) ∙ same)

        table_is : table ≡ claimed_table (table_part (length reading.bits) bytes) (part.plan.steps + 1)
        table_is =
            let whole : take (length bytes - behind) (drop behind bytes) ≡ drop behind bytes = take_all (length bytes - behind) (drop behind bytes) (omega (arith, length-drop behind bytes)) in
            let from : behind ≡ 3 + bytes_for (length reading.bits) = eb ∙ ap (λ k. 3 + k) en in
            read ∙ (ap (λ p. claimed_table p rows) whole ∙ (ap (λ k. claimed_table (drop k bytes) rows) from ∙ ap (claimed_table (table_part (length reading.bits) bytes)) er))

        verdict_is : verdict_of part.plan (drop part.before soft) (part.coded bits) table
            ≡ verdict_of part.plan (drop part.before soft) (part.coded (claimed_bits (bits_part (length reading.bits) bytes) (length reading.bits))) (claimed_table (table_part (length reading.bits) bytes) (part.plan.steps + 1))
        verdict_is =
            ap (λ m. verdict_of part.plan (drop part.before soft) (part.coded m) table) bits_are
            ∙ ap (verdict_of part.plan (drop part.before soft) (part.coded (claimed_bits (bits_part (length reading.bits) bytes) (length reading.bits)))) table_is

        pub part_cert : (t s : ℕ) (rule : Rule) → Refused t s rule ≡ verdict_of part.plan (drop part.before soft) (part.coded bits) table → part_why part soft reading bytes ≡ Some (Cert t s rule)
        unfolding part_why pad_fault uncoded_fault cert_fault
        part_cert t s rule e = rw (no_pad, bits_same, sym (e ∙ verdict_is)) refl

        pub part_head : (metric : ℕ) (mark : Mark) → Accepted ≡ verdict_of part.plan (drop part.before soft) (part.coded bits) table → metric ≡ reading.metric → mark ≡ reading.mark →
            head_why metric mark bytes ≡ part_why part soft reading bytes
        unfolding part_why pad_fault uncoded_fault cert_fault head_why
        part_head metric mark e em ek = rw (no_pad, bits_same, sym (e ∙ verdict_is), em, ek) refl
