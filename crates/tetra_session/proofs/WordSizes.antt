-- How many type-5 bits there are.
use Rattle.std.proofs.Common.{ℕ, ◌≡◌, ◌+◌, Bool, List, length, take, drop, arith, ap, ◌∙◌}
use Rattle.std.proofs.lemmas.List.{length-take-le, length-drop}
use Rattle.tetra_bits.specs.Digits.{digits}
use Rattle.tetra_bits.specs.Numbered.{length-numbered}
use Rattle.tetra_channels.specs.Channels.{Channel, data48, data24, type4_bits, type5_bits, word_bits, raw_bits, access_bits}
use Rattle.tetra_interleave.specs.Placed.{placed}
use Rattle.tetra_rm.specs.lemmas.Words.{length-access_word}
use Rattle.tetra_scramble.specs.Flips.{flipped}
use Rattle.tetra_scramble.specs.lemmas.Entries.{length-flipped}
use Rattle.tetra_settings.specs.declared.types.Mode.{Mode}
use Rattle.tetra_settings.specs.declared.types.Mode.TheVariants.{Sig, Cb, D72, D48, D24, Speech}
use Rattle.tetra_settings.specs.declared.slots.Letter.{Letter}
use Rattle.tetra_speech.specs.Words.{whole_type4, half_type4}
use Rattle.tetra_session.specs.Sent.{load_word, rest_word}
use Rattle.tetra_session.proofs.FittingData.{CarriesLoad}

pub coded_size : (channel : Channel) (key block : List Bool) → length (type5_bits channel key block) ≡ channel.plan.sent
unfolding type5_bits type4_bits placed
coded_size channel key block = length-flipped _ key 1 ∙ length-numbered _ channel.plan.sent

pub raw_size : (key block : List Bool) → length (raw_bits key block) ≡ length block
unfolding raw_bits
raw_size key block = length-flipped block key 1

pub word_size : (channel : Channel) (key word : List Bool) → length (word_bits channel key word) ≡ channel.plan.sent
unfolding word_bits placed
word_size channel key word = length-flipped _ key 1 ∙ length-numbered _ channel.plan.sent

speech_size : (key a b : List Bool) → length (flipped (whole_type4 a b) key 1) ≡ 432
unfolding whole_type4 placed
speech_size key a b = length-flipped _ key 1 ∙ length-numbered _ 432

frame_size : (key frame : List Bool) → length (flipped (half_type4 frame) key 1) ≡ 216
unfolding half_type4 placed
frame_size key frame = length-flipped _ key 1 ∙ length-numbered _ 216

pub access_size : (rows : List ℕ) (key : List Bool) (message : ℕ) → length (access_bits rows key message) ≡ 30
unfolding access_bits digits
access_size rows key message = length-flipped _ key 1 ∙ length-access_word rows (digits 14 message) ∙ ap (λ n. n + 16) (length-numbered _ 14)

-- the two blocks of a word
module _ (word : List Bool) (size : length word ≡ 432) where
  pub first_size : length (take 216 word) ≡ 216
  first_size = length-take-le 216 word (omega (arith, size))

  pub second_size : length (drop 216 word) ≡ 216
  second_size = let d = length-drop 216 word in omega (arith, d, size)

-- the word of a load of data or of speech
pub load_size : (key : List Bool) (mode : Mode) (letter : Letter) (before : List (List Bool)) (load : List Bool) → CarriesLoad mode letter load
    → length (load_word key mode before load) ≡ 432
load_size key D72 letter before load h = raw_size key load ∙ h.1
load_size key (D48 span) letter before load h = word_size data48 key _
load_size key (D24 span) letter before load h = word_size data24 key _
load_size key Sig letter before load h = absurd h.0
load_size key Cb letter before load h = absurd h.0
load_size key Speech letter before load h = speech_size key (take 137 load) (take 137 (drop 137 load))

-- and what stands of it in block 2 where the first half is stolen
pub rest_size : (key : List Bool) (mode : Mode) (letter : Letter) (before : List (List Bool)) (load : List Bool) → CarriesLoad mode letter load
    → length (rest_word key mode before load) ≡ 216
rest_size key D72 letter before load h = second_size (load_word key D72 before load) (load_size key D72 letter before load h)
rest_size key (D48 span) letter before load h = second_size (load_word key (D48 span) before load) (load_size key (D48 span) letter before load h)
rest_size key (D24 span) letter before load h = second_size (load_word key (D24 span) before load) (load_size key (D24 span) letter before load h)
rest_size key Sig letter before load h = absurd h.0
rest_size key Cb letter before load h = absurd h.0
rest_size key Speech letter before load h = frame_size key load
