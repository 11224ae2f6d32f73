-- What bytes that begin with a record are, and which begin with none.
use Rattle.std.proofs.Common.{◌≡◌, ℕ, ◌<◌, List, ◌∷◌, ◌++◌, length, length-append, take, true, false, refl, sym, ap, ◌∙◌, subst, Some, None, arith}
use Rattle.std.proofs.Math.Seq.{take-append_seam}
use Rattle.tetra_settings.specs.declared.types.Settings.{Settings}
use Rattle.tetra_settings.specs.declared.slots.Letter.{Letter}
use Rattle.tetra_settings.specs.declared.slots.Letter.TheVariants.{F, H, S, T, P, Q, C}
use Rattle.tetra_settings.specs.declared.blocks.SlotBlocks.{SlotBlocks}
use Rattle.tetra_settings.specs.Slots.{mode_of, byte_of, letter_of_byte}
use Rattle.tetra_settings.specs.Blocks.{letter_of, Fits}
use Rattle.tetra_records.specs.Spelling.{behind_letter, spelling}
use Rattle.tetra_records.specs.Layouts.{record_bytes, RecordHasPad}
use Rattle.tetra_records.specs.Records.{layout_of, allows_letter, NoneBegins, IsUnambiguous}
use Rattle.tetra_records.proofs.Behind.{behind_length, behind_clean, same_blocks}

-- the byte of a letter is that letter's
letter_found : (letter : Letter) → letter_of_byte (byte_of letter) ≡ Some letter
unfolding letter_of_byte
letter_found F = refl
letter_found H = refl
letter_found S = refl
letter_found T = refl
letter_found P = refl
letter_found Q = refl
letter_found C = refl

same_letter : (x y : Letter) → byte_of x ≡ byte_of y → x ≡ y
same_letter x y e = let both : Some x ≡ Some y = sym (letter_found x) ∙ ap letter_of_byte e ∙ letter_found y in cc both

-- the record of a slot names its blocks
pub unambiguous : (settings : Settings) → IsUnambiguous settings
unfolding spelling
unambiguous settings t x y u v fx fy e =
    let byte : byte_of (letter_of x.body) ≡ byte_of (letter_of y.body) = cc e in
    let more : behind_letter x ++ u ≡ behind_letter y ++ v = cc e in
    same_blocks settings.dir (mode_of settings t) x y u v fx.access fy.access fx.lengths fy.lengths (same_letter (letter_of x.body) (letter_of y.body) byte) more

module _ (settings : Settings) (t byte : ℕ) (bytes : List ℕ) where
  -- a first byte that is no letter
  pub unknown_begins : letter_of_byte byte ≡ None → NoneBegins settings t (byte ∷ bytes)
  unfolding NoneBegins spelling
  unknown_begins unknown blocks rest fits e =
      let same : byte ≡ byte_of (letter_of blocks.body) = cc e in
      let found : None ≡ Some (letter_of blocks.body) = sym unknown ∙ ap letter_of_byte same ∙ letter_found (letter_of blocks.body) in
      cc found

  module _ (letter : Letter) (known : letter_of_byte byte ≡ Some letter) where
    its_letter : (blocks : SlotBlocks) (rest : List ℕ) → byte ∷ bytes ≡ spelling blocks ++ rest → letter ≡ letter_of blocks.body
    unfolding spelling
    its_letter blocks rest e =
        let same : byte ≡ byte_of (letter_of blocks.body) = cc e in
        let found : Some letter ≡ Some (letter_of blocks.body) = sym known ∙ ap letter_of_byte same ∙ letter_found (letter_of blocks.body) in
        cc found

    its_bytes : (blocks : SlotBlocks) (rest : List ℕ) → byte ∷ bytes ≡ spelling blocks ++ rest → bytes ≡ behind_letter blocks ++ rest
    unfolding spelling
    its_bytes blocks rest e = cc e

    -- a letter that the slot may not carry
    pub wrong_begins : allows_letter settings t letter ≡ false → NoneBegins settings t (byte ∷ bytes)
    unfolding NoneBegins
    wrong_begins wrong blocks rest fits e =
        let both : false ≡ true = sym wrong ∙ ap (allows_letter settings t) (its_letter blocks rest e) ∙ fits.letter in
        cc both

    own_length : (blocks : SlotBlocks) (rest : List ℕ) → Fits settings t blocks → byte ∷ bytes ≡ spelling blocks ++ rest
        → length (behind_letter blocks) ≡ record_bytes (layout_of settings t letter) bytes
    own_length blocks rest fits e =
        behind_length settings.dir (mode_of settings t) blocks fits.access fits.lengths rest
        ∙ ap (λ l. record_bytes (layout_of settings t l) (behind_letter blocks ++ rest)) (sym (its_letter blocks rest e))
        ∙ ap (record_bytes (layout_of settings t letter)) (sym (its_bytes blocks rest e))

    -- too few bytes behind the letter
    pub short_begins : length bytes < record_bytes (layout_of settings t letter) bytes → NoneBegins settings t (byte ∷ bytes)
    unfolding NoneBegins
    short_begins short blocks rest fits e =
        omega (arith, own_length blocks rest fits e, ap length (its_bytes blocks rest e), length-append (behind_letter blocks) rest)

    -- a pad bit that is 1
    pub padded_begins : RecordHasPad (layout_of settings t letter) (take (record_bytes (layout_of settings t letter) bytes) bytes) → NoneBegins settings t (byte ∷ bytes)
    unfolding NoneBegins
    padded_begins pad blocks rest fits e =
        let own : take (record_bytes (layout_of settings t letter) bytes) bytes ≡ behind_letter blocks =
        ap (λ n. take n bytes) (sym (own_length blocks rest fits e)) ∙ ap (take (length (behind_letter blocks))) (its_bytes blocks rest e) ∙ take-append_seam (behind_letter blocks) rest in
        behind_clean settings.dir (mode_of settings t) blocks fits.access fits.lengths
        (subst (λ l. RecordHasPad (layout_of settings t l) (behind_letter blocks)) (its_letter blocks rest e) (subst (RecordHasPad (layout_of settings t letter)) own pad))
