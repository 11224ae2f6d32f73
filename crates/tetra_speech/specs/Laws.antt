-- Laws of speech.
use Rattle.std.specs.Prelude.{◌≡◌, Bool, List, length, drop, ℤ, Some}
use Rattle.tetra_bits.specs.Undamaged.{IsUndamaged}
use Rattle.tetra_bits.specs.declared.reading.Mark.TheVariants.{Good}
use Rattle.tetra_bits.specs.declared.reading.Reading.{Reading}
use Rattle.tetra_interleave.specs.Placed.{IsOneToOne}
use Rattle.tetra_puncture.specs.Places.{speech_whole, speech_half}
use Rattle.tetra_puncture.specs.ToGo.{potentials_of}
use Rattle.tetra_speech.specs.Classes.{classes_of, class_place, frame_of}
use Rattle.tetra_speech.specs.Frames.{whole_uncoded, whole_coded, whole_bits, half_uncoded, half_coded, half_bits}
use Rattle.tetra_speech.specs.Words.{whole_message, whole_type3, half_message, half_type3, whole_type4, half_type4, whole_front, half_front}
use Rattle.tetra_speech.specs.Reading.{whole_reading, half_reading}
use Rattle.tetra_speech.specs.declared.tables.Classes.{Classes}

-- every bit of a frame stands in exactly one class
abbrev pub EachInOneClass : Type 0
EachInOneClass = IsOneToOne 137 class_place

-- classes of these sizes
pub record AreClasses (c : Classes) : Type 0 where
  pub zero : length c.zero ≡ 51
  pub one : length c.one ≡ 56
  pub two : length c.two ≡ 30

-- a frame is found again from its classes, and classes from their frame
pub record ClassesAreUndone : Type 0 where
  pub frames : (frame : List Bool) → length frame ≡ 137 → frame_of (classes_of frame) ≡ frame
  pub classes : (c : Classes) → AreClasses c → classes_of (frame_of c) ≡ c

-- the bits of a reading are found again from their uncoded and coded parts, and the parts from the bits
pub record PartsAreUndone : Type 0 where
  pub whole_again : (bits : List Bool) → length bits ≡ 282 → whole_bits (whole_uncoded bits) (whole_coded bits) ≡ bits
  pub whole_parts : (uncoded coded : List Bool) → length uncoded ≡ 102 → length coded ≡ 180
      → (whole_uncoded (whole_bits uncoded coded) ≡ uncoded) × (whole_coded (whole_bits uncoded coded) ≡ coded)
  pub half_again : (bits : List Bool) → length bits ≡ 141 → half_bits (half_uncoded bits) (half_coded bits) ≡ bits
  pub half_parts : (uncoded coded : List Bool) → length uncoded ≡ 51 → length coded ≡ 90
      → (half_uncoded (half_bits uncoded coded) ≡ uncoded) × (half_coded (half_bits uncoded coded) ≡ coded)

-- values that have the signs of the type-3 bits of frames are read as these frames
unfoldable pub whole_written : List Bool → List Bool → List ℤ → Reading
whole_written a b soft = record {
  mark = Good;
  metric = 0;
  bits = whole_message a b;
  potentials = Some (potentials_of speech_whole (drop 102 soft));
}

unfoldable pub half_written : List Bool → List ℤ → Reading
half_written frame soft = record {
  mark = Good;
  metric = 0;
  bits = half_message frame;
  potentials = Some (potentials_of speech_half (drop 51 soft));
}

pub record UndamagedSpeechIsRead : Type 0 where
  pub whole : (a b : List Bool) (soft : List ℤ) → length a ≡ 137 → length b ≡ 137 → IsUndamaged (whole_type3 a b) soft
      → whole_reading soft ≡ whole_written a b soft
  pub half : (frame : List Bool) (soft : List ℤ) → length frame ≡ 137 → IsUndamaged (half_type3 frame) soft
      → half_reading soft ≡ half_written frame soft

-- values that have the signs of type-4 bits have those of the type-3 bits in their order
pub record UndamagedSpeechArrives : Type 0 where
  pub whole : (a b : List Bool) (soft : List ℤ) → IsUndamaged (whole_type4 a b) soft
      → IsUndamaged (whole_type3 a b) (whole_front soft)
  pub half : (frame : List Bool) (soft : List ℤ) → IsUndamaged (half_type4 frame) soft
      → IsUndamaged (half_type3 frame) (half_front soft)
