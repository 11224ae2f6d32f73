-- What is read of speech over type-3 values: the uncoded bits one by one, and the coded ones first-least in coding order,
-- which parity has no part in. The metric is that of the coded part. This project's own.
use Rattle.std.specs.Prelude.{List, take, drop, ℤ, Some}
use Rattle.tetra_bits.specs.Plain.{best_plain}
use Rattle.tetra_bits.specs.declared.reading.Reading.{Reading}
use Rattle.tetra_parity.specs.Marks.{mark_of}
use Rattle.tetra_parity.specs.declared.kind.Parity.TheVariants.{Four, Eight}
use Rattle.tetra_puncture.specs.Best.{best_of, message_metric}
use Rattle.tetra_puncture.specs.Places.{speech_whole, speech_half}
use Rattle.tetra_puncture.specs.ToGo.{potentials_of}
use Rattle.tetra_speech.specs.Frames.{whole_bits, half_bits}

-- of a whole slot: Good exactly where the 8 parity bits hold on the 60 bits of class 2
unfoldable pub whole_reading : List ℤ → Reading
whole_reading soft =
    let coded = drop 102 soft in
    let message = best_of speech_whole coded in
    record {
      mark = mark_of Eight (drop 112 message);
      metric = message_metric speech_whole coded message;
      bits = whole_bits (best_plain (take 102 soft)) message;
      potentials = Some (potentials_of speech_whole coded);
    }

-- of half a slot: Good exactly where the 4 parity bits hold on the 30 bits of class 2
unfoldable pub half_reading : List ℤ → Reading
half_reading soft =
    let coded = drop 51 soft in
    let message = best_of speech_half coded in
    record {
      mark = mark_of Four (drop 56 message);
      metric = message_metric speech_half coded message;
      bits = half_bits (best_plain (take 51 soft)) message;
      potentials = Some (potentials_of speech_half coded);
    }
