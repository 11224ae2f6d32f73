-- The blocks that are made of a number. This project's own.
--
-- A slot draws a word for its letter, then on the downlink its access field, then for a letter C a word for its mask,
-- and then its fields in their order.
use Prim.Native.Nat.{zero, suc}
use Rattle.std.specs.Prelude.{ℕ, ◌≡◌, ◌+◌, ◌%◌, Bool, false, List, length, slice_index, slice_index_or, Some, None}
use Rattle.std.specs.declared.option.Option.{Option}
use Rattle.tetra_bits.specs.Digits.{digit}
use Rattle.tetra_bits.specs.Sums.{sum_below}
use Rattle.tetra_settings.specs.Slots.{use_of, mode_of, letters_of}
use Rattle.tetra_settings.specs.Blocks.{field_bits, body_of, Fits}
use Rattle.tetra_settings.specs.Validity.{IsValid}
use Rattle.tetra_settings.specs.declared.types.Dir.{Dir}
use Rattle.tetra_settings.specs.declared.types.Dir.TheVariants.{Dl, Ul}
use Rattle.tetra_settings.specs.declared.types.Settings.{Settings}
use Rattle.tetra_settings.specs.declared.slots.Letter.{Letter}
use Rattle.tetra_settings.specs.declared.slots.Letter.TheVariants.{F, H, S, T, P, Q, C}
use Rattle.tetra_settings.specs.declared.blocks.Body.{Body}
use Rattle.tetra_settings.specs.declared.blocks.SlotBlocks.{SlotBlocks}
use Rattle.tetra_gen.specs.declared.maker.Maker.{Maker}
use Rattle.tetra_gen.specs.Words.{generator, word, words_for, field, leading}

-- word i of those that blocks are drawn from: those of stream 1
abbrev pub made_word : Settings → ℕ → ℕ
made_word settings i = word settings.draw 1 i

-- the letter that a word draws of those that a slot may carry
unfoldable pub letter_drawn : List Letter → ℕ → Letter
letter_drawn allowed w = slice_index_or allowed (w % length allowed) F

-- the letter of slot k, whose first word is word i
abbrev pub letter_made : Settings → ℕ → ℕ → Letter
letter_made settings k i = letter_drawn (letters_of settings.dir (use_of settings k)) (made_word settings i)

-- how many words an access field takes
abbrev pub access_words : Dir → ℕ
access_words Dl = words_for 14
access_words Ul = 0

-- the access field that begins with word i: the first 14 bits of the word
abbrev pub access_made : Dir → (ℕ → ℕ) → ℕ → Option ℕ
access_made Dl words i = Some (leading 14 (words i))
access_made Ul words i = None

-- how many words the mask of a letter takes
abbrev pub mask_words : Letter → ℕ
mask_words F = 0
mask_words H = 0
mask_words S = 0
mask_words T = 0
mask_words P = 0
mask_words Q = 0
mask_words C = 1

-- whether the mask that a word draws sends subslot n, 1 or 2: two binary digits, that of the first subslot the higher
abbrev pub sends_drawn : ℕ → ℕ → Bool
sends_drawn w n = digit 2 (w % 4) n

-- whether a letter sends subslot n, where word i draws its mask
abbrev pub sends_made : Letter → (ℕ → ℕ) → ℕ → ℕ → Bool
sends_made F words i n = false
sends_made H words i n = false
sends_made S words i n = false
sends_made T words i n = false
sends_made P words i n = false
sends_made Q words i n = false
sends_made C words i n = sends_drawn (words i) n

-- the first word of field n, counted from 0, of fields of these sizes that begin with word i
unfoldable pub field_begin : ℕ → List ℕ → ℕ → ℕ
field_begin i sizes n = i + sum_below n (λ m. words_for (slice_index sizes m))

-- field n of them
unfoldable pub nth_field : (ℕ → ℕ) → ℕ → List ℕ → ℕ → List Bool
nth_field words i sizes n = field words (field_begin i sizes n) (slice_index sizes n)

-- what is drawn of a slot before its fields: its letter and the subslots that are sent; and the first word of the fields
pub record Head : Type 0 where
  pub letter : Letter
  pub first : Bool
  pub second : Bool
  pub fields : ℕ

-- the head of slot k, whose first word is word i
unfoldable pub head_made : Settings → ℕ → ℕ → Head
head_made settings k i =
    let letter = letter_made settings k i in
    let mask = i + 1 + access_words settings.dir in
    record {
      letter = letter;
      first = sends_made letter (made_word settings) mask 1;
      second = sends_made letter (made_word settings) mask 2;
      fields = mask + mask_words letter;
    }

-- the body of a letter whose fields of these sizes begin with word i
unfoldable pub body_drawn : (ℕ → ℕ) → Letter → Bool → Bool → List ℕ → ℕ → Body
body_drawn words letter first second sizes i =
    body_of letter first second (nth_field words i sizes 0) (nth_field words i sizes 1) (nth_field words i sizes 2)

-- the sizes of the fields of slot k
abbrev pub sizes_made : Settings → ℕ → Head → List ℕ
sizes_made settings k head = field_bits head.letter (mode_of settings k) head.first head.second

-- the body of slot k
abbrev pub body_made : Settings → ℕ → Head → Body
body_made settings k head =
    body_drawn (made_word settings) head.letter head.first head.second (sizes_made settings k head) head.fields

-- the first word behind slot k
abbrev pub word_behind : Settings → ℕ → Head → ℕ
word_behind settings k head = field_begin head.fields (sizes_made settings k head) 3

-- the first word of slot k
unfoldable pub first_word : Settings → ℕ → ℕ
first_word settings zero = 0
first_word settings (suc k) = word_behind settings k (head_made settings k (first_word settings k))

-- the blocks of slot k
unfoldable pub made : Settings → ℕ → SlotBlocks
made settings k =
    let i = first_word settings k in
    record {
      aach = access_made settings.dir (made_word settings) (i + 1);
      body = body_made settings k (head_made settings k i);
    }

-- a maker of the settings that has made k slots
pub record MakerStands (settings : Settings) (k : ℕ) (maker : Maker) : Type 0 where
  pub same : maker.settings ≡ settings
  pub turn : maker.turn ≡ k
  pub words : maker.words ≡ generator settings.draw 1 (first_word settings k)

-- blocks that are made fit their slots
abbrev pub MadeFit : Type 0
MadeFit = (settings : Settings) (k : ℕ) → IsValid settings → Fits settings k (made settings k)
