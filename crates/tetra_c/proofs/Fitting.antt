-- Blocks that C may give a slot fit it.
use Rattle.std.proofs.Common.{ℕ, ◌≡◌, Bool, List, [], ◌∷◌, length, ◌∙◌}
use Rattle.std.specs.Prelude.{IsTrue, nat_eq, ◌&&◌, slice_index}
use Rattle.std.proofs.lemmas.Bool.{and_parts, ltb-true, eqb-true}
use Rattle.tetra_settings.specs.Blocks.{Fits, FitsAccess, HasLengths, Lengths, field_bits, letter_of}
use Rattle.tetra_settings.specs.Slots.{is_allowed, use_of, mode_of}
use Rattle.tetra_settings.specs.declared.types.Dir.{Dir}
use Rattle.tetra_settings.specs.declared.types.Dir.TheVariants.{Dl, Ul}
use Rattle.tetra_settings.specs.declared.types.Mode.{Mode}
use Rattle.tetra_settings.specs.declared.types.Settings.{Settings}
use Rattle.tetra_settings.specs.declared.slots.Letter.{Letter}
use Rattle.tetra_settings.specs.declared.slots.Letter.TheVariants.{F, H, S, T, P, Q, C}
use Rattle.tetra_settings.specs.declared.blocks.SlotBlocks.{SlotBlocks}
use Rattle.tetra_c.specs.Bytes.{is_one}
use Rattle.tetra_c.specs.Blocks.{has_lengths, has_access, may_carry, access_of}
use Rattle.tetra_c.specs.declared.blocks.TetraBlocks.{TetraBlocks}

-- three lists whose lengths stand in a table
three : (letter : Letter) (mode : Mode) (first second : Bool) (a b c : List Bool)
    → length a ≡ slice_index (field_bits letter mode first second) 0 → length b ≡ slice_index (field_bits letter mode first second) 1
    → length c ≡ slice_index (field_bits letter mode first second) 2 → Lengths (a ∷ b ∷ c ∷ []) (field_bits letter mode first second)
three F mode first second a b c p q r = (p, (q, (r, tt)))
three H mode first second a b c p q r = (p, (q, (r, tt)))
three S mode first second a b c p q r = (p, (q, (r, tt)))
three T mode first second a b c p q r = (p, (q, (r, tt)))
three P mode first second a b c p q r = (p, (q, (r, tt)))
three Q mode first second a b c p q r = (p, (q, (r, tt)))
three C mode first second a b c p q r = (p, (q, (r, tt)))

-- what the tests say
pub record Carries (settings : Settings) (t : ℕ) (blocks : TetraBlocks) (letter : Letter) : Type 0 where
  pub allowed : IsTrue (is_allowed settings.dir (use_of settings t) letter)
  pub lengths : IsTrue (has_lengths blocks (field_bits letter (mode_of settings t) (is_one blocks.sends_first) (is_one blocks.sends_second)))
  pub access : IsTrue (has_access settings.dir blocks.aach)

pub carries : (settings : Settings) (t : ℕ) (blocks : TetraBlocks) (letter : Letter) → IsTrue (may_carry settings t blocks letter) → Carries settings t blocks letter
carries settings t blocks letter h =
    let table = field_bits letter (mode_of settings t) (is_one blocks.sends_first) (is_one blocks.sends_second) in
    let tests = and_parts (is_allowed settings.dir (use_of settings t) letter && has_lengths blocks table) (has_access settings.dir blocks.aach) h in
    let front = and_parts (is_allowed settings.dir (use_of settings t) letter) (has_lengths blocks table) tests.0 in
    record { allowed = front.0; lengths = front.1; access = tests.1 }

module _ (bits : ℕ → ℕ) (table : List ℕ) where
  pub record AreEqual : Type 0 where
    pub first : bits 0 ≡ slice_index table 0
    pub second : bits 1 ≡ slice_index table 1
    pub third : bits 2 ≡ slice_index table 2

  equal : IsTrue (nat_eq (bits 0) (slice_index table 0) && nat_eq (bits 1) (slice_index table 1) && nat_eq (bits 2) (slice_index table 2)) → AreEqual
  equal h =
      let tests = and_parts (nat_eq (bits 0) (slice_index table 0) && nat_eq (bits 1) (slice_index table 1)) (nat_eq (bits 2) (slice_index table 2)) h in
      let front = and_parts (nat_eq (bits 0) (slice_index table 0)) (nat_eq (bits 1) (slice_index table 1)) tests.0 in
      record {
        first = eqb-true (bits 0) (slice_index table 0) front.0;
        second = eqb-true (bits 1) (slice_index table 1) front.1;
        third = eqb-true (bits 2) (slice_index table 2) tests.1;
      }

-- the fields have the lengths of the table
pub fields_fit : (blocks : TetraBlocks) (letter : Letter) (mode : Mode) (first second : Bool) (a b c : List Bool)
    → first ≡ is_one blocks.sends_first → second ≡ is_one blocks.sends_second
    → IsTrue (has_lengths blocks (field_bits letter mode (is_one blocks.sends_first) (is_one blocks.sends_second)))
    → length a ≡ slice_index blocks.bits 0 → length b ≡ slice_index blocks.bits 1 → length c ≡ slice_index blocks.bits 2
    → Lengths (a ∷ b ∷ c ∷ []) (field_bits letter mode first second)
fields_fit blocks letter mode first second a b c ef es fits la lb lc =
    let e = equal (slice_index blocks.bits) (field_bits letter mode (is_one blocks.sends_first) (is_one blocks.sends_second)) fits in
    rw (ef, es)
    (three letter mode (is_one blocks.sends_first) (is_one blocks.sends_second) a b c (la ∙ e.first) (lb ∙ e.second) (lc ∙ e.third))

access_fits : (dir : Dir) (message : ℕ) → IsTrue (has_access dir message) → FitsAccess dir (access_of dir message)
access_fits Dl message h = ltb-true message 16384 h
access_fits Ul message h = tt

pub blocks_fit : (settings : Settings) (t : ℕ) (blocks : TetraBlocks) (letter : Letter) (found : SlotBlocks)
    → Carries settings t blocks letter → found.aach ≡ access_of settings.dir blocks.aach
    → letter_of found.body ≡ letter → HasLengths (mode_of settings t) found.body → Fits settings t found
blocks_fit settings t blocks letter found may access is lengths = record {
  letter = rw is may.allowed;
  lengths = lengths;
  access = rw access (access_fits settings.dir blocks.aach may.access);
}
