-- Blocks that are made fit their slots.
use Rattle.std.proofs.Common.{◌≡◌, ℕ, ◌+◌, ◌-◌, ◌%◌, ◌^◌, ◌<◌, Bool, true, false, List, [], ◌∷◌, length, nat_eq, if◌then◌else◌, refl, arith}
use Rattle.std.specs.Prelude.{IsTrue, slice_index, slice_index_or}
use Rattle.std.proofs.lemmas.List.Elements.{All-get_or, All-from_recursion}
use Rattle.std.proofs.lemmas.Nat.{shr_below}
use Rattle.tetra_settings.specs.Slots.{use_of, use_in, mode_of, frame_of, timeslot_of, HasUse, is_allowed, letters_of}
use Rattle.tetra_settings.specs.Blocks.{letter_of, field_bits, HasLengths, FitsAccess}
use Rattle.tetra_settings.specs.Validity.{HasMode, IsValid}
use Rattle.tetra_settings.specs.declared.types.Dir.{Dir}
use Rattle.tetra_settings.specs.declared.types.Dir.TheVariants.{Dl, Ul}
use Rattle.tetra_settings.specs.declared.types.Mode.{Mode}
use Rattle.tetra_settings.specs.declared.types.Mode.TheVariants.{Sig, Cb, D72, D48, D24, Speech}
use Rattle.tetra_settings.specs.declared.types.Settings.{Settings}
use Rattle.tetra_settings.specs.declared.slots.Letter.{Letter}
use Rattle.tetra_settings.specs.declared.slots.Letter.TheVariants.{F, H, S, T, P, Q, C}
use Rattle.tetra_settings.specs.declared.slots.SlotUse.{SlotUse}
use Rattle.tetra_settings.specs.declared.slots.SlotUse.TheVariants.{Signalling, Control, Traffic}
use Rattle.tetra_gen.specs.Words.{leading}
use Rattle.tetra_gen.specs.Made.{made_word, letter_drawn, access_made, field_begin, nth_field, body_drawn, head_made, first_word, made, MadeFit}
use Rattle.tetra_gen.specs.lemmas.Drawing.{word_small, length-field}

in_traffic : (last : Bool) → HasUse Dl (if last then Signalling else Traffic)
in_traffic true = tt
in_traffic false = tt

has_use_in : (dir : Dir) (mode : Mode) (frame : ℕ) → HasMode dir mode → HasUse dir (use_in mode frame)
has_use_in Dl Sig frame has = tt
has_use_in Dl Cb frame has = absurd has
has_use_in Dl D72 frame has = in_traffic (nat_eq frame 18)
has_use_in Dl (D48 span) frame has = in_traffic (nat_eq frame 18)
has_use_in Dl (D24 span) frame has = in_traffic (nat_eq frame 18)
has_use_in Dl Speech frame has = in_traffic (nat_eq frame 18)
has_use_in Ul mode frame has = tt

has_use : (settings : Settings) (k : ℕ) → IsValid settings → HasUse settings.dir (use_of settings k)
unfolding use_of mode_of
has_use settings k valid = has_use_in settings.dir (mode_of settings k) (frame_of settings.at k) (valid.modes (timeslot_of settings.at k - 1))

module _ (dir : Dir) (slot : SlotUse) (a : Letter) (is_a : IsTrue (is_allowed dir slot a)) where
  one_allowed : (w : ℕ) → IsTrue (is_allowed dir slot (slice_index_or (a ∷ []) (w % 1) F))
  one_allowed w =
      let Has = λ (letter : Letter). IsTrue (is_allowed dir slot letter) in
      All-get_or Has (a ∷ []) (w % 1) F (omega arith) (All-from_recursion Has (a ∷ []) (is_a, tt))

  three_allowed : (b c : Letter) → IsTrue (is_allowed dir slot b) → IsTrue (is_allowed dir slot c) → (w : ℕ)
      → IsTrue (is_allowed dir slot (slice_index_or (a ∷ b ∷ c ∷ []) (w % 3) F))
  three_allowed b c is_b is_c w =
      let Has = λ (letter : Letter). IsTrue (is_allowed dir slot letter) in
      All-get_or Has (a ∷ b ∷ c ∷ []) (w % 3) F (omega arith) (All-from_recursion Has (a ∷ b ∷ c ∷ []) (is_a, (is_b, (is_c, tt))))

-- a letter is drawn of those that are allowed
letter_allowed : (dir : Dir) (slot : SlotUse) (w : ℕ) → HasUse dir slot → IsTrue (is_allowed dir slot (letter_drawn (letters_of dir slot) w))
unfolding letter_drawn
letter_allowed Dl Signalling w has = three_allowed Dl Signalling F refl H S refl refl w
letter_allowed Dl Control w has = absurd has
letter_allowed Dl Traffic w has = three_allowed Dl Traffic T refl P Q refl refl w
letter_allowed Ul Signalling w has = one_allowed Ul Signalling F refl w
letter_allowed Ul Control w has = one_allowed Ul Control C refl w
letter_allowed Ul Traffic w has = three_allowed Ul Traffic T refl P Q refl refl w

module _ (words : ℕ → ℕ) where
  size : (i : ℕ) (sizes : List ℕ) (n : ℕ) → length (nth_field words i sizes n) ≡ slice_index sizes n
  unfolding nth_field
  size i sizes n = length-field words (field_begin i sizes n) (slice_index sizes n)

  letter_of_drawn : (letter : Letter) (first second : Bool) (sizes : List ℕ) (i : ℕ) → letter_of (body_drawn words letter first second sizes i) ≡ letter
  unfolding body_drawn
  letter_of_drawn F first second sizes i = refl
  letter_of_drawn H first second sizes i = refl
  letter_of_drawn S first second sizes i = refl
  letter_of_drawn T first second sizes i = refl
  letter_of_drawn P first second sizes i = refl
  letter_of_drawn Q first second sizes i = refl
  letter_of_drawn C first second sizes i = refl

  drawn_lengths : (letter : Letter) (mode : Mode) (first second : Bool) (i : ℕ)
      → HasLengths mode (body_drawn words letter first second (field_bits letter mode first second) i)
  unfolding body_drawn
  drawn_lengths F mode first second i = (size i _ 0, (refl, (refl, tt)))
  drawn_lengths H mode first second i = (size i _ 0, (size i _ 1, (refl, tt)))
  drawn_lengths S mode first second i = (size i _ 0, (size i _ 1, (refl, tt)))
  drawn_lengths T mode first second i = (size i _ 0, (refl, (refl, tt)))
  drawn_lengths P mode first second i = (size i _ 0, (size i _ 1, (refl, tt)))
  drawn_lengths Q mode first second i = (size i _ 0, (size i _ 1, (size i _ 2, tt)))
  drawn_lengths C mode true true i = (size i _ 0, (size i _ 1, (refl, tt)))
  drawn_lengths C mode true false i = (size i _ 0, (refl, (refl, tt)))
  drawn_lengths C mode false true i = (refl, (size i _ 1, (refl, tt)))
  drawn_lengths C mode false false i = (refl, (refl, (refl, tt)))

  access_fits : (dir : Dir) (i : ℕ) → words i < 2 ^ 32 → FitsAccess dir (access_made dir words i)
  unfolding leading
  access_fits Dl i small = shr_below (words i) 14 18 small
  access_fits Ul i small = tt

pub made_fits : MadeFit
unfolding made head_made
made_fits settings k valid =
    let i = first_word settings k in
    let head = head_made settings k i in
    let sizes = field_bits head.letter (mode_of settings k) head.first head.second in
    record {
      letter = rw (letter_of_drawn (made_word settings) head.letter head.first head.second sizes head.fields) (letter_allowed settings.dir (use_of settings k) (made_word settings i) (has_use settings k valid));
      lengths = drawn_lengths (made_word settings) head.letter (mode_of settings k) head.first head.second head.fields;
      access = access_fits (made_word settings) settings.dir (i + 1) (word_small settings.draw 1 (i + 1));
    }
