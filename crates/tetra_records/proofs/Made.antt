-- Blocks that are made of the parts of a record.
use Rattle.std.proofs.Common.{◌≡◌, ℕ, ◌+◌, ◌-◌, ◌≤◌, ◌<◌, List, [], ◌∷◌, ◌++◌, length, take, drop, get_or, Bool, true, false, refl, sym, ap, ◌∙◌, subst, inl, inr, Option, arith}
use Rattle.std.specs.Prelude.{slice_index}
use Rattle.std.proofs.Math.Seq.{drop-cons}
use Rattle.std.proofs.lemmas.List.{take-append-drop, take_rest}
use lib.Seq.{take-add}
use Rattle.tetra_settings.specs.declared.types.Mode.{Mode}
use Rattle.tetra_settings.specs.declared.slots.Letter.{Letter}
use Rattle.tetra_settings.specs.declared.slots.Letter.TheVariants.{F, H, S, T, P, Q, C}
use Rattle.tetra_settings.specs.declared.blocks.Body.{Body}
use Rattle.tetra_settings.specs.Blocks.{letter_of, fields_of, field_bits, body_of, Lengths, HasLengths, FitsAccess}
use Rattle.tetra_records.specs.declared.parsing.Layout.{Layout}
use Rattle.tetra_records.specs.Spelling.{access_spelling, mask_spelling, fields_spelling, behind_letter}
use Rattle.tetra_records.specs.Layouts.{access_bytes, mask_bytes, head_bytes, first_sent, second_sent, mask_behind, mask_in, bits_in, IsSent, IsOf, AccessHasPad, MaskHasPad, FieldsHavePad, RecordHasPad}

-- a list of three by its entries
three_of : (xs : List ℕ) → length xs ≡ 3 → get_or xs 0 0 ∷ get_or xs 1 0 ∷ get_or xs 2 0 ∷ [] ≡ xs
three_of [] e = absurd (omega arith)
three_of (x ∷ []) e = absurd (omega arith)
three_of (x ∷ y ∷ []) e = absurd (omega arith)
three_of (x ∷ y ∷ z ∷ []) e = refl
three_of (x ∷ y ∷ z ∷ w ∷ ws) e = absurd (omega arith)

bits_count : (letter : Letter) (mode : Mode) (first second : Bool) → length (field_bits letter mode first second) ≡ 3
bits_count F mode first second = refl
bits_count H mode first second = refl
bits_count S mode first second = refl
bits_count T mode first second = refl
bits_count P mode first second = refl
bits_count Q mode first second = refl
bits_count C mode first second = refl

-- what a mask sends is what the table of fields goes by
sent_bits : (letter : Letter) (mode : Mode) (mask : ℕ) (first second : Bool) → IsSent letter mask first second
    → field_bits letter mode first second ≡ field_bits letter mode (first_sent letter mask) (second_sent letter mask)
sent_bits F mode mask first second sent = refl
sent_bits H mode mask first second sent = refl
sent_bits S mode mask first second sent = refl
sent_bits T mode mask first second sent = refl
sent_bits P mode mask first second sent = refl
sent_bits Q mode mask first second sent = refl
sent_bits C mode mask first second sent = rw (sent.0, sent.1) refl

-- the entries of the table are the bits of the record
pub bits_read : (layout : Layout) (bytes xs : List ℕ) (first second : Bool) → IsSent layout.letter (mask_in layout bytes) first second → xs ≡ field_bits layout.letter layout.mode first second
    → get_or xs 0 0 ∷ get_or xs 1 0 ∷ get_or xs 2 0 ∷ [] ≡ bits_in layout bytes
bits_read layout bytes xs first second sent e =
    three_of xs (ap length e ∙ bits_count layout.letter layout.mode first second) ∙ e ∙ sent_bits layout.letter layout.mode (mask_in layout bytes) first second sent

letter_made : (letter : Letter) (first second : Bool) (a b c : List Bool) → letter_of (body_of letter first second a b c) ≡ letter
letter_made F first second a b c = refl
letter_made H first second a b c = refl
letter_made S first second a b c = refl
letter_made T first second a b c = refl
letter_made P first second a b c = refl
letter_made Q first second a b c = refl
letter_made C first second a b c = refl

empty : (bits : List Bool) → length bits ≡ 0 → [] ≡ bits
empty [] e = refl
empty (b ∷ bits) e = absurd (omega arith)

-- the fields of a body are those that it is made of
fields_made : (letter : Letter) (mode : Mode) (first second : Bool) (a b c : List Bool) → Lengths (a ∷ b ∷ c ∷ []) (field_bits letter mode first second)
    → fields_of (body_of letter first second a b c) ≡ a ∷ b ∷ c ∷ []
fields_made F mode first second a b c l = rw (← empty b l.1.0, ← empty c l.1.1.0)
fields_made H mode first second a b c l = rw (← empty c l.1.1.0)
fields_made S mode first second a b c l = rw (← empty c l.1.1.0)
fields_made T mode first second a b c l = rw (← empty b l.1.0, ← empty c l.1.1.0)
fields_made P mode first second a b c l = rw (← empty c l.1.1.0)
fields_made Q mode first second a b c l = refl
fields_made C mode true true a b c l = rw (← empty c l.1.1.0)
fields_made C mode true false a b c l = rw (← empty b l.1.0, ← empty c l.1.1.0)
fields_made C mode false true a b c l = rw (← empty a l.0, ← empty c l.1.1.0)
fields_made C mode false false a b c l = rw (← empty a l.0, ← empty b l.1.0, ← empty c l.1.1.0)

one_byte : (at : ℕ) (bytes : List ℕ) → at + 1 ≤ length bytes → take 1 (drop at bytes) ≡ slice_index bytes at ∷ []
one_byte at bytes h = let within : at < length bytes = omega arith in rw (drop-cons bytes at 0) refl

-- the mask of a body is the byte in its place
mask_made : (letter : Letter) (at : ℕ) (bytes : List ℕ) (first second : Bool) (a b c : List Bool) → at + mask_bytes letter ≤ length bytes
    → IsSent letter (mask_behind letter at bytes) first second → mask_spelling (body_of letter first second a b c) ≡ take (mask_bytes letter) (drop at bytes)
mask_made F at bytes first second a b c h sent = refl
mask_made H at bytes first second a b c h sent = refl
mask_made S at bytes first second a b c h sent = refl
mask_made T at bytes first second a b c h sent = refl
mask_made P at bytes first second a b c h sent = refl
mask_made Q at bytes first second a b c h sent = refl
mask_made C at bytes true true a b c h sent = ap (λ n. n ∷ []) (sym sent.2) ∙ sym (one_byte at bytes h)
mask_made C at bytes true false a b c h sent = ap (λ n. n ∷ []) (sym sent.2) ∙ sym (one_byte at bytes h)
mask_made C at bytes false true a b c h sent = ap (λ n. n ∷ []) (sym sent.2) ∙ sym (one_byte at bytes h)
mask_made C at bytes false false a b c h sent = ap (λ n. n ∷ []) (sym sent.2) ∙ sym (one_byte at bytes h)

-- what is behind the head
pub rest_is : (bytes : List ℕ) (n h : ℕ) → n ≡ h → take (length bytes - n) (drop n bytes) ≡ drop h bytes
rest_is bytes n h e = take_rest bytes n ∙ ap (λ k. drop k bytes) e

three_parts : (at more : ℕ) (bytes : List ℕ) → (take at bytes ++ take more (drop at bytes)) ++ drop (at + more) bytes ≡ bytes
three_parts at more bytes = ap (λ l. l ++ drop (at + more) bytes) (sym (take-add at more bytes)) ∙ take-append-drop (at + more) bytes

module _ (layout : Layout) (bytes : List ℕ) (access : Option ℕ) (first second : Bool) (xs : List ℕ) (head : head_bytes layout ≤ length bytes)
    (sent : IsSent layout.letter (mask_in layout bytes) first second) (table : xs ≡ field_bits layout.letter layout.mode first second) where
  -- the lengths of the fields are those of the table
  pub lengths_made : (a b c : List Bool) → Lengths (a ∷ b ∷ c ∷ []) (get_or xs 0 0 ∷ get_or xs 1 0 ∷ get_or xs 2 0 ∷ []) → Lengths (a ∷ b ∷ c ∷ []) (field_bits layout.letter layout.mode first second)
  lengths_made a b c lengths =
      subst (Lengths (a ∷ b ∷ c ∷ [])) (three_of xs (ap length table ∙ bits_count layout.letter layout.mode first second) ∙ table) lengths

  -- the blocks of the parts
  pub made : (body : Body) (a b c : List Bool) → body ≡ body_of layout.letter first second a b c → HasLengths layout.mode body → FitsAccess layout.dir access
      → access_spelling access ≡ take (access_bytes layout.dir) bytes → Lengths (a ∷ b ∷ c ∷ []) (get_or xs 0 0 ∷ get_or xs 1 0 ∷ get_or xs 2 0 ∷ [])
      → fields_spelling (a ∷ b ∷ c ∷ []) ≡ drop (head_bytes layout) bytes
      → IsOf layout (record { aach = access; body = body }) × (behind_letter (record { aach = access; body = body }) ≡ bytes)
  unfolding behind_letter
  made body a b c is_body has fits in_front lengths fields = (
    record { letter = ap letter_of is_body ∙ letter_made layout.letter first second a b c; lengths = has; access = fits },
    (let mask : mask_spelling body ≡ take (mask_bytes layout.letter) (drop (access_bytes layout.dir) bytes) =
        ap mask_spelling is_body ∙ mask_made layout.letter (access_bytes layout.dir) bytes first second a b c head sent in
        let own : fields_of body ≡ a ∷ b ∷ c ∷ [] = ap fields_of is_body ∙ fields_made layout.letter layout.mode first second a b c (lengths_made a b c lengths) in
        rw (in_front, mask, own, fields) (three_parts (access_bytes layout.dir) (mask_bytes layout.letter) bytes)),
  )

  -- a pad bit of a field
  pub pad_of_fields : FieldsHavePad (get_or xs 0 0 ∷ get_or xs 1 0 ∷ get_or xs 2 0 ∷ []) (drop (head_bytes layout) bytes) → RecordHasPad layout bytes
  pad_of_fields h = inr (inr (subst (λ l. FieldsHavePad l (drop (head_bytes layout) bytes)) (bits_read layout bytes xs first second sent table) h))

  -- no pad bit anywhere
  pub no_pad : (AccessHasPad layout.dir bytes → ⊥) → (MaskHasPad layout.letter (mask_in layout bytes) → ⊥)
      → (FieldsHavePad (get_or xs 0 0 ∷ get_or xs 1 0 ∷ get_or xs 2 0 ∷ []) (drop (head_bytes layout) bytes) → ⊥) → RecordHasPad layout bytes → ⊥
  no_pad a m f (inl h) = a h
  no_pad a m f (inr (inl h)) = m h
  no_pad a m f (inr (inr h)) = f (subst (λ l. FieldsHavePad l (drop (head_bytes layout) bytes)) (sym (bits_read layout bytes xs first second sent table)) h)
