-- What a maker that stands for settings and a number of slots draws is what they define.
use Rattle.std.proofs.Common.{◌≡◌, ℕ, ◌+◌, Bool, List, Option, refl, sym, ap, ◌∙◌, arith, add-one, add-zero}
use Rattle.std.specs.Prelude.{slice_index}
use Rattle.rand_pcg.specs.Lcg.{Lcg}
use Rattle.tetra_settings.specs.Slots.{use_of, mode_of, letters_of}
use Rattle.tetra_settings.specs.Blocks.{field_bits}
use Rattle.tetra_settings.specs.declared.types.Mode.{Mode}
use Rattle.tetra_settings.specs.declared.types.Settings.{Settings}
use Rattle.tetra_settings.specs.declared.slots.Letter.{Letter}
use Rattle.tetra_settings.specs.declared.slots.SlotUse.{SlotUse}
use Rattle.tetra_settings.specs.declared.blocks.Body.{Body}
use Rattle.tetra_settings.specs.declared.blocks.SlotBlocks.{SlotBlocks}
use Rattle.tetra_bits.specs.Sums.{sum_below}
use Rattle.tetra_gen.specs.Words.{generator, word, words_for}
use Rattle.tetra_gen.specs.Made.{letter_drawn, access_words, access_made, mask_words, sends_made, field_begin, body_drawn, Head, head_made, body_made, word_behind, first_word, made}

-- where fields begin
pub begin_none : (i : ℕ) (sizes : List ℕ) → i ≡ field_begin i sizes 0
unfolding field_begin sum_below
begin_none i sizes = sym (add-zero i)

pub begin_more : (i : ℕ) (sizes : List ℕ) (n : ℕ) → field_begin i sizes n + words_for (slice_index sizes n) ≡ field_begin i sizes (n + 1)
unfolding field_begin sum_below
begin_more i sizes n = rw add-one (omega arith)

abbrev pub slot_blocks : Option ℕ → Body → SlotBlocks
slot_blocks aach body = record { aach = aach; body = body }

module _ (settings s : Settings) (k turn : ℕ) (slot : SlotUse) (mode : Mode) (allowed : List Letter) (letter : Letter) (first second : Bool) (same : s ≡ settings) (turns : turn ≡ k)
    (slot_is : slot ≡ use_of s turn) (mode_is : mode ≡ mode_of s turn) (allowed_is : allowed ≡ letters_of s.dir slot)
    (letter_is : letter ≡ letter_drawn allowed (word settings.draw 1 (first_word settings k)))
    (first_is : first ≡ sends_made letter (word settings.draw 1) (first_word settings k + 1 + access_words s.dir) 1)
    (second_is : second ≡ sends_made letter (word settings.draw 1) (first_word settings k + 1 + access_words s.dir) 2) where
  -- the first word of the fields
  abbrev fields : ℕ
  fields = first_word settings k + 1 + access_words s.dir + mask_words letter

  abbrev head : Head
  head = record { letter = letter; first = first; second = second; fields = fields }

  head_is : head ≡ head_made settings k (first_word settings k)
  unfolding head_made
  head_is = rw (first_is, second_is, letter_is, allowed_is, slot_is, same, turns) refl

  mode_same : mode ≡ mode_of settings k
  mode_same = mode_is ∙ rw (same, turns) refl

  pub made_is : (aach : Option ℕ) (body : Body) → aach ≡ access_made s.dir (word settings.draw 1) (first_word settings k + 1)
      → body ≡ body_drawn (word settings.draw 1) letter first second (field_bits letter mode first second) fields → slot_blocks aach body ≡ made settings k
  unfolding made
  made_is aach body aach_is body_is =
      let aach_same = aach_is ∙ ap (λ (t : Settings). access_made t.dir (word settings.draw 1) (first_word settings k + 1)) same in
      let body_same = body_is ∙ ap (λ (m : Mode). body_drawn (word settings.draw 1) letter first second (field_bits letter m first second) fields) mode_same ∙ ap (body_made settings k) head_is in
      λ i. slot_blocks (aach_same i) (body_same i)

  pub words_are : (words : Lcg) → words ≡ generator settings.draw 1 (field_begin fields (field_bits letter mode first second) 3)
      → words ≡ generator settings.draw 1 (first_word settings (k + 1))
  unfolding first_word
  words_are words are =
      let behind : word_behind settings k (head_made settings k (first_word settings k)) ≡ first_word settings (k + 1) = rw add-one refl in
      are ∙ ap (λ (m : Mode). generator settings.draw 1 (field_begin fields (field_bits letter m first second) 3)) mode_same
      ∙ ap (λ (h : Head). generator settings.draw 1 (word_behind settings k h)) head_is ∙ ap (generator settings.draw 1) behind
