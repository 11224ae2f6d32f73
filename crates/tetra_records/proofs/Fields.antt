-- The fields of a body, one by one, and the room that they take.
use Rattle.std.proofs.Common.{◌≡◌, ℕ, ◌+◌, ◌<◌, ◌≤◌, List, [], ◌∷◌, ◌++◌, length, length-append, map, get_or, Bool, refl, sym, ap, ◌∙◌, Option, Some, None, append_assoc, append-nil, arith}
use Rattle.std.specs.Prelude.{slice_index_or}
use Rattle.std.proofs.Math.ListN.{get_or-map}
use Rattle.std.proofs.lemmas.List.{get_or_default}
use Rattle.tetra_settings.specs.Slots.{byte_of}
use Rattle.tetra_bits.specs.Numbered.{length-numbered, numbered_none}
use Rattle.tetra_bits.specs.Packed.{packed, packed_byte, bytes_for}
use Rattle.tetra_settings.specs.declared.types.Mode.{Mode}
use Rattle.tetra_settings.specs.declared.types.Mode.TheVariants.{Sig, Cb, D72, D48, D24, Speech}
use Rattle.tetra_settings.specs.declared.blocks.Body.{Body}
use Rattle.tetra_settings.specs.declared.blocks.Body.TheVariants.{Full, Halves, Sync, Traffic, Stolen, Both, Control}
use Rattle.tetra_settings.specs.declared.blocks.SlotBlocks.{SlotBlocks}
use Rattle.tetra_settings.specs.Blocks.{letter_of, fields_of, HasLengths, IsTrafficMode, AreWellFormed}
use Rattle.tetra_records.specs.Spelling.{access_spelling, mask_spelling, fields_spelling, behind_letter, spelling}

pub packed_length : (bits : List Bool) → length (packed bits) ≡ bytes_for (length bits)
unfolding packed
packed_length bits = length-numbered (packed_byte bits) (bytes_for (length bits))

-- a field that is not there takes no bytes
pub packed_none : packed [] ≡ []
unfolding packed
packed_none = numbered_none (packed_byte [])

-- field i of a body, counted from 0
abbrev pub field_at : Body → ℕ → List Bool
field_at body i = slice_index_or (fields_of body) i []

-- three fields are spelled one behind the other
pub three_spelled : (body : Body) → fields_spelling (fields_of body) ≡ (packed (field_at body 0) ++ packed (field_at body 1)) ++ packed (field_at body 2)
three_spelled (Full block) = simp (append_assoc, append-nil)
three_spelled (Halves first second) = simp (append_assoc, append-nil)
three_spelled (Sync sync half) = simp (append_assoc, append-nil)
three_spelled (Traffic load) = simp (append_assoc, append-nil)
three_spelled (Stolen first load) = simp (append_assoc, append-nil)
three_spelled (Both first second load) = simp (append_assoc, append-nil)
three_spelled (Control first second) = simp (append_assoc, append-nil)

-- the bytes of a body
abbrev pub body_bytes : Body → ℕ
body_bytes body = length (mask_spelling body) + bytes_for (length (field_at body 0)) + bytes_for (length (field_at body 1)) + bytes_for (length (field_at body 2))

-- a body of some traffic mode is short
short_body : (mode : Mode) (body : Body) → IsTrafficMode mode → HasLengths mode body → body_bytes body ≤ 86
short_body mode (Full block) traffic lengths = omega (arith, lengths.0)
short_body mode (Halves first second) traffic lengths = omega (arith, lengths.0, lengths.1.0)
short_body mode (Sync sync half) traffic lengths = omega (arith, lengths.0, lengths.1.0)
short_body D72 (Traffic load) traffic lengths = omega (arith, lengths.0)
short_body (D48 span) (Traffic load) traffic lengths = omega (arith, lengths.0)
short_body (D24 span) (Traffic load) traffic lengths = omega (arith, lengths.0)
short_body Speech (Traffic load) traffic lengths = omega (arith, lengths.0)
short_body D72 (Stolen first load) traffic lengths = omega (arith, lengths.0, lengths.1.0)
short_body (D48 span) (Stolen first load) traffic lengths = omega (arith, lengths.0, lengths.1.0)
short_body (D24 span) (Stolen first load) traffic lengths = omega (arith, lengths.0, lengths.1.0)
short_body Speech (Stolen first load) traffic lengths = omega (arith, lengths.0, lengths.1.0)
short_body D72 (Both first second load) traffic lengths = omega (arith, lengths.0, lengths.1.0, lengths.1.1.0)
short_body (D48 span) (Both first second load) traffic lengths = omega (arith, lengths.0, lengths.1.0, lengths.1.1.0)
short_body (D24 span) (Both first second load) traffic lengths = omega (arith, lengths.0, lengths.1.0, lengths.1.1.0)
short_body Speech (Both first second load) traffic lengths = omega (arith, lengths.0, lengths.1.0, lengths.1.1.0)
short_body mode (Control None None) traffic lengths = omega (arith, lengths.0, lengths.1.0)
short_body mode (Control None (Some y)) traffic lengths = omega (arith, lengths.0, lengths.1.0)
short_body mode (Control (Some x) None) traffic lengths = omega (arith, lengths.0, lengths.1.0)
short_body mode (Control (Some x) (Some y)) traffic lengths = omega (arith, lengths.0, lengths.1.0)
short_body Sig body traffic lengths = absurd traffic
short_body Cb body traffic lengths = absurd traffic

pub short_blocks : (blocks : SlotBlocks) → AreWellFormed blocks → body_bytes blocks.body ≤ 86
short_blocks blocks well = short_body well.lengths.0 blocks.body well.lengths.1 well.lengths.2

pub short_access : (access : Option ℕ) → length (access_spelling access) ≤ 2
short_access None = omega arith
short_access (Some message) = omega arith

fields_count : (body : Body) → length (fields_of body) ≡ 3
fields_count (Full block) = refl
fields_count (Halves first second) = refl
fields_count (Sync sync half) = refl
fields_count (Traffic load) = refl
fields_count (Stolen first load) = refl
fields_count (Both first second load) = refl
fields_count (Control first second) = refl

-- what a list of fields has at a place
pub field_is : {X : Type 0} (f : X → List Bool) (xs : List X) (body : Body) (i : ℕ) (d : X) → map f xs ≡ fields_of body → i < 3 → f (get_or xs i d) ≡ field_at body i
field_is f xs body i d e below =
    sym (get_or-map f xs i d) ∙ ap (λ l. get_or l i (f d)) e ∙ get_or_default (fields_of body) i (f d) [] (omega (arith, fields_count body))

pieces : (x a m p q r : List ℕ) → ((((x ++ a) ++ m) ++ p) ++ q) ++ r ≡ x ++ ((a ++ m) ++ ((p ++ q) ++ r))
pieces x a m p q r = simp append_assoc

grown : (old new : List ℕ) (bits : List Bool) → new ≡ old ++ packed bits → length new ≡ length old + bytes_for (length bits)
grown old new bits e = ap length e ∙ length-append old (packed bits) ∙ ap (λ n. length old + n) (packed_length bits)

module _ (blocks : SlotBlocks) (letter access mask : List ℕ) (at_letter : letter ≡ byte_of (letter_of blocks.body) ∷ [])
    (at_access : access ≡ letter ++ access_spelling blocks.aach) (at_mask : mask ≡ access ++ mask_spelling blocks.body) where
  mask_length : length mask ≡ 1 + length (access_spelling blocks.aach) + length (mask_spelling blocks.body)
  mask_length =
      omega (arith, ap length at_mask, length-append access (mask_spelling blocks.body), ap length at_access, length-append letter (access_spelling blocks.aach), ap length at_letter)

  -- there is room for each field
  pub room_first : (a : List Bool) → a ≡ field_at blocks.body 0 → AreWellFormed blocks → length mask + bytes_for (length a) ≤ 89
  room_first a is_a well = omega (arith, short_blocks blocks well, short_access blocks.aach, mask_length, ap length is_a)

  pub room_second : (first : List ℕ) (a b : List Bool) → first ≡ mask ++ packed a → a ≡ field_at blocks.body 0 → b ≡ field_at blocks.body 1 → AreWellFormed blocks
      → length first + bytes_for (length b) ≤ 89
  room_second first a b at_first is_a is_b well =
      omega (arith, short_blocks blocks well, short_access blocks.aach, mask_length, grown mask first a at_first, ap length is_a, ap length is_b)

  pub room_third : (first second : List ℕ) (a b c : List Bool) → first ≡ mask ++ packed a → second ≡ first ++ packed b → a ≡ field_at blocks.body 0 → b ≡ field_at blocks.body 1
      → c ≡ field_at blocks.body 2 → AreWellFormed blocks → length second + bytes_for (length c) ≤ 89
  room_third first second a b c at_first at_second is_a is_b is_c well =
      omega (arith, short_blocks blocks well, short_access blocks.aach, mask_length, grown mask first a at_first, grown first second b at_second, ap length is_a, ap length is_b, ap length is_c)

  -- the pieces of a record
  pub recorded : (first second third : List ℕ) (a b c : List Bool) → first ≡ mask ++ packed a → second ≡ first ++ packed b → third ≡ second ++ packed c → a ≡ field_at blocks.body 0
      → b ≡ field_at blocks.body 1 → c ≡ field_at blocks.body 2 → third ≡ spelling blocks
  unfolding spelling behind_letter
  recorded first second third a b c at_first at_second at_third is_a is_b is_c =
      rw (at_third, at_second, at_first, at_mask, at_access, at_letter, is_a, is_b, is_c)
      (pieces (byte_of (letter_of blocks.body) ∷ []) (access_spelling blocks.aach) (mask_spelling blocks.body) (packed (field_at blocks.body 0)) (packed (field_at blocks.body 1)) (packed (field_at blocks.body 2))
      ∙ ap (λ l. byte_of (letter_of blocks.body) ∷ ((access_spelling blocks.aach ++ mask_spelling blocks.body) ++ l)) (sym (three_spelled blocks.body)))
