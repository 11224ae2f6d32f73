-- What a letter and the bytes behind it say of the told bytes that they came from.
use Rattle.std.proofs.Common.{◌≡◌, ℕ, ◌≤◌, ◌<◌, List, [], ◌∷◌, ◌++◌, length, length-append, take, Bool, true, false, nat_le, refl, sym, ap, ◌∙◌, subst, inr, Option, Some, None, Ok, Err, arith, length-take, find, nat_eq, append-nil}
use Rattle.std.specs.Prelude.{slice_index}
use Rattle.std.specs.Io.KnownBytes.{Consumes}
use Rattle.std.proofs.KnownBytes.{Consumes-trans}
use Rattle.std.proofs.Math.Seq.{take-append_seam}
use Rattle.std.proofs.lemmas.Bool.{eqb-true}
use Rattle.tetra_io.specs.lemmas.Told.{AreTold-some, AreTold-behind, Went-behind}
use Rattle.tetra_settings.specs.declared.types.Settings.{Settings}
use Rattle.tetra_settings.specs.declared.slots.Letter.{Letter}
use Rattle.tetra_settings.specs.declared.blocks.SlotBlocks.{SlotBlocks}
use Rattle.tetra_settings.specs.Slots.{byte_of, letters, letter_of_byte}
use Rattle.tetra_settings.specs.Blocks.{letter_of, HasLengths, FitsAccess}
use Rattle.tetra_records.specs.declared.faults.RecordFault.TheVariants.{UnknownKind, WrongKind, PadBit, Truncated}
use Rattle.tetra_records.specs.declared.faults.NextFault.{NextFault}
use Rattle.tetra_records.specs.declared.faults.NextFault.TheVariants.{Source, Bad}
use Rattle.tetra_records.specs.declared.parsing.Layout.{Layout}
use Rattle.tetra_records.specs.Spelling.{behind_letter, spelling}
use Rattle.tetra_records.specs.Layouts.{head_bytes, record_bytes, IsOf, RecordHasPad}
use Rattle.tetra_records.specs.Buffers.{TakesLess, EndsShort, BehindGives}
use Rattle.tetra_records.specs.Records.{layout_of, allows_letter, why, why_behind, taken, taken_behind, BeginsNone, TakesPart, RecordGives, PadBehind, HasPadBit}
use Rattle.tetra_records.proofs.Beginnings.{unknown_begins, wrong_begins, short_begins, padded_begins}
use Rattle.tetra_records.proofs.Filled.{size_kept}

-- a buffer of one byte
pub one_of : (buf : List ℕ) → length buf ≡ 1 → buf ≡ slice_index buf 0 ∷ []
one_of [] e = absurd (omega arith)
one_of (b ∷ []) e = refl
one_of (b ∷ c ∷ buf) e = absurd (omega arith)

found_passes : {X : Type 0} (p : X → Bool) (xs : List X) (x : X) → find p xs ≡ Some x → p x ≡ true
found_passes p [] x e = cc
found_passes p (y ∷ ys) x e = passed (p y) refl (found_passes p ys x) where
  passed : (b : Bool) → p y ≡ b → (find p ys ≡ Some x → p x ≡ true) → p x ≡ true
  passed true h later = let found : Some y ≡ Some x = rw h at e in let same : y ≡ x = cc in rw (← same) h
  passed false h later = later (rw h at e)

-- the letter of a byte has that byte
letter_byte : (byte : ℕ) (letter : Letter) → letter_of_byte byte ≡ Some letter → byte_of letter ≡ byte
unfolding letter_of_byte
letter_byte byte letter e = eqb-true (byte_of letter) byte (found_passes (λ l. nat_eq (byte_of l) byte) letters letter e)

too_short : (n m : ℕ) → m < n → nat_le n m ≡ false
too_short n m h = grind arith

long_enough : (n m : ℕ) → n ≤ m → nat_le n m ≡ true
long_enough n m h = grind arith

module _ (settings : Settings) (t byte : ℕ) where
  -- the reasons, by what is known of the letter
  why_unknown : (bytes : List ℕ) → letter_of_byte byte ≡ None → why settings t (byte ∷ bytes) ≡ UnknownKind
  unfolding why
  why_unknown bytes unknown = ap (λ l. why_behind settings t l bytes) unknown

  why_wrong : (bytes : List ℕ) (letter : Letter) → letter_of_byte byte ≡ Some letter → allows_letter settings t letter ≡ false → why settings t (byte ∷ bytes) ≡ WrongKind
  unfolding why
  why_wrong bytes letter known wrong = ap (λ l. why_behind settings t l bytes) known ∙ rw wrong refl

  why_short : (bytes : List ℕ) (letter : Letter) → letter_of_byte byte ≡ Some letter → allows_letter settings t letter ≡ true
      → length bytes < record_bytes (layout_of settings t letter) bytes → why settings t (byte ∷ bytes) ≡ Truncated
  unfolding why
  why_short bytes letter known right short =
      ap (λ l. why_behind settings t l bytes) known ∙ rw (right, too_short (record_bytes (layout_of settings t letter) bytes) (length bytes) short) refl

  why_padded : (bytes : List ℕ) (letter : Letter) → letter_of_byte byte ≡ Some letter → allows_letter settings t letter ≡ true
      → record_bytes (layout_of settings t letter) bytes ≤ length bytes → why settings t (byte ∷ bytes) ≡ PadBit
  unfolding why
  why_padded bytes letter known right long =
      ap (λ l. why_behind settings t l bytes) known ∙ rw (right, long_enough (record_bytes (layout_of settings t letter) bytes) (length bytes) long) refl

  pub unknown_from : (old mid : Option (List ℕ)) → Consumes old mid (byte ∷ []) → letter_of_byte byte ≡ None → BeginsNone settings t UnknownKind old mid
  unfolding taken
  unknown_from old mid came unknown =
      let (ys, told) = AreTold-some mid in
      record {
        bytes = byte ∷ ys;
        told = AreTold-behind old mid (byte ∷ []) ys came told;
        some = omega arith;
        none = unknown_begins settings t byte ys unknown;
        reason = why_unknown ys unknown;
        pads = λ is. absurd (cc is);
        went = came;
      }

  pub wrong_from : (old mid : Option (List ℕ)) (letter : Letter) → Consumes old mid (byte ∷ []) → letter_of_byte byte ≡ Some letter → allows_letter settings t letter ≡ false
      → BeginsNone settings t WrongKind old mid
  unfolding taken
  wrong_from old mid letter came known wrong =
      let (ys, told) = AreTold-some mid in
      record {
        bytes = byte ∷ ys;
        told = AreTold-behind old mid (byte ∷ []) ys came told;
        some = omega arith;
        none = wrong_begins settings t byte ys letter known wrong;
        reason = why_wrong ys letter known wrong;
        pads = λ is. absurd (cc is);
        went = came;
      }

  module _ (letter : Letter) (known : letter_of_byte byte ≡ Some letter) (right : allows_letter settings t letter ≡ true) where
    -- the bytes end inside the record
    short_from : (old mid new : Option (List ℕ)) → Consumes old mid (byte ∷ []) → EndsShort (layout_of settings t letter) mid new → BeginsNone settings t Truncated old new
    unfolding taken
    short_from old mid new came (ms, told, short, more) = record {
      bytes = byte ∷ ms;
      told = AreTold-behind old mid (byte ∷ []) ms came told;
      some = omega arith;
      none = short_begins settings t byte ms letter known short;
      reason = why_short ms letter known right short;
      pads = λ is. absurd (cc is);
      went = Consumes-trans old mid new (byte ∷ []) ms came more;
    }

    -- a read failed inside the record
    part_from : (old mid new : Option (List ℕ)) → Consumes old mid (byte ∷ []) → TakesLess (layout_of settings t letter) mid new → TakesPart settings t old new
    part_from old mid new came (part, short, went) =
        (byte ∷ part, Went-behind old mid new (byte ∷ []) part came went, inr (short_begins settings t byte part letter known short, why_short part letter known right short))

    pub failed_from : (layout : Layout) (old mid new : Option (List ℕ)) (buf : List ℕ) (fault : NextFault) → layout ≡ layout_of settings t letter → Consumes old mid (byte ∷ [])
        → BehindGives layout mid new (Err fault) buf → RecordGives settings t old new (Err fault)
    failed_from layout old mid new buf (Source fault) same came gives = part_from old mid new came (subst (λ l. TakesLess l mid new) same gives)
    failed_from layout old mid new buf (Bad fault) same came gives =
        subst (λ f. BeginsNone settings t f old new) (sym gives.0)
        (short_from old mid new came (subst (λ l. EndsShort l mid new) same gives.1))

    -- the record is whole
    module _ (layout : Layout) (old mid new : Option (List ℕ)) (buf : List ℕ) (n : ℕ) (same : layout ≡ layout_of settings t letter) (long : length buf ≡ 88)
        (came : Consumes old mid (byte ∷ [])) (gives : BehindGives layout mid new (Ok n) buf) where
      -- the bytes of the record in what is told
      told_size : (ys : List ℕ) → record_bytes (layout_of settings t letter) (take n buf ++ ys) ≡ length (take n buf)
      told_size ys =
          let size : length (take n buf) ≡ n = omega (arith, length-take n buf, gives.1) in
          let head : head_bytes (layout_of settings t letter) ≤ length (take n buf) = omega (arith, size, gives.0, ap head_bytes same) in
          size_kept (layout_of settings t letter) (take n buf) ys head ∙ ap (λ l. record_bytes l (take n buf)) (sym same) ∙ sym gives.2 ∙ sym size

      told_record : (ys : List ℕ) → take (record_bytes (layout_of settings t letter) (take n buf ++ ys)) (take n buf ++ ys) ≡ take n buf
      told_record ys = ap (λ k. take k (take n buf ++ ys)) (told_size ys) ∙ take-append_seam (take n buf) ys

      -- a pad bit of the record is one of what is told
      pad_told : (ys : List ℕ) → RecordHasPad layout (take n buf)
          → RecordHasPad (layout_of settings t letter) (take (record_bytes (layout_of settings t letter) (take n buf ++ ys)) (take n buf ++ ys))
      pad_told ys pad = subst (RecordHasPad (layout_of settings t letter)) (sym (told_record ys)) (subst (λ l. RecordHasPad l (take n buf)) same pad)

      pad_is_told : (ys : List ℕ) → RecordHasPad layout (take n buf) → HasPadBit settings t (byte ∷ (take n buf ++ ys))
      unfolding HasPadBit
      pad_is_told ys pad = subst (λ l. PadBehind settings t l (take n buf ++ ys)) (sym known) (pad_told ys pad)

      -- and the other way round
      record_pad : HasPadBit settings t (byte ∷ take n buf) → RecordHasPad layout (take n buf)
      unfolding HasPadBit
      record_pad pad =
          let whole : take (record_bytes (layout_of settings t letter) (take n buf)) (take n buf) ≡ take n buf =
          subst (λ l. take (record_bytes (layout_of settings t letter) l) l ≡ take n buf) (append-nil (take n buf)) (told_record []) in
          subst (λ l. RecordHasPad l (take n buf)) (sym same) (subst (RecordHasPad (layout_of settings t letter)) whole (subst (λ l. PadBehind settings t l (take n buf)) known pad))

      pub blocks_from : (blocks : SlotBlocks) → IsOf layout blocks → behind_letter blocks ≡ take n buf → (RecordHasPad layout (take n buf) → ⊥) → RecordGives settings t old new (Ok (Some blocks))
      unfolding spelling
      blocks_from blocks own behind clean =
          let its : letter_of blocks.body ≡ letter = own.letter ∙ ap (λ l. l.letter) same in
          let first : byte_of (letter_of blocks.body) ≡ byte = ap byte_of its ∙ letter_byte byte letter known in
          let whole : (byte ∷ []) ++ take n buf ≡ byte_of (letter_of blocks.body) ∷ behind_letter blocks = sym (ap (λ b. b ∷ behind_letter blocks) first ∙ ap (λ l. byte ∷ l) behind) in (
            record {
              letter = ap (allows_letter settings t) its ∙ right;
              lengths = subst (λ l. HasLengths l.mode blocks.body) same own.lengths;
              access = subst (λ l. FitsAccess l.dir blocks.aach) same own.access;
            },
            λ pad. clean (record_pad (subst (HasPadBit settings t) (sym whole) pad)),
            subst (Consumes old new) whole (Consumes-trans old mid new (byte ∷ []) (take n buf) came gives.3),
          )

      pub padded_from : RecordHasPad layout (take n buf) → BeginsNone settings t PadBit old new
      unfolding taken
      padded_from pad =
          let (ys, told) = AreTold-some new in
          let bytes = take n buf ++ ys in
          let record_is : take (taken_behind settings t (letter_of_byte byte) bytes) bytes ≡ take n buf = ap (λ o. take (taken_behind settings t o bytes) bytes) known ∙ told_record ys in
          record {
            bytes = byte ∷ bytes;
            told = AreTold-behind old mid (byte ∷ []) bytes came (AreTold-behind mid new (take n buf) ys gives.3 told);
            some = omega arith;
            none = padded_begins settings t byte bytes letter known (pad_told ys pad);
            reason = why_padded bytes letter known right (omega (arith, told_size ys, length-append (take n buf) ys));
            pads = λ is. pad_is_told ys pad;
            went = subst (λ l. Consumes old new (byte ∷ l)) (sym record_is) (Consumes-trans old mid new (byte ∷ []) (take n buf) came gives.3);
          }
