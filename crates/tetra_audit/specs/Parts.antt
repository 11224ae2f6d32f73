-- The tests of one field, by the kind of the field.
use Rattle.std.specs.Prelude.{◌≡◌, ℕ, ◌*◌, Bool, List, [], ◌∷◌, length, take, drop, ℤ}
use Rattle.std.specs.declared.option.Option.{Option}
use Rattle.tetra_bits.specs.Plain.{best_plain}
use Rattle.tetra_bits.specs.declared.reading.Mark.{Mark}
use Rattle.tetra_bits.specs.declared.reading.Reading.{Reading}
use Rattle.tetra_channels.specs.Channels.{Channel}
use Rattle.tetra_channels.specs.Fields.{coded_reading}
use Rattle.tetra_parity.specs.Marks.{mark_of}
use Rattle.tetra_parity.specs.declared.kind.Parity.{Parity}
use Rattle.tetra_puncture.specs.Best.{best_of, message_metric}
use Rattle.tetra_puncture.specs.Plan.{CodePlan}
use Rattle.tetra_session.specs.Readers.{CodedPart, whole_part}
use Rattle.tetra_speech.specs.Frames.{trellis_part, uncoded_part}
use Rattle.tetra_audit.specs.Verdicts.{first_of, plain_tests, coded_tests, metric_fault, mark_fault}
use Rattle.tetra_audit.specs.declared.verdict.FieldWhy.{FieldWhy}

-- the last two
unfoldable pub head_why : ℕ → Mark → List ℕ → Option FieldWhy
head_why metric mark bytes = first_of (metric_fault metric bytes ∷ mark_fault mark bytes ∷ [])

-- those of a field whose bits come by no trellis
unfoldable pub plain_why : Reading → List ℕ → Option FieldWhy
plain_why reading bytes = first_of (plain_tests reading bytes)

-- those of a field of which a trellis reads this part
unfoldable pub part_why : CodedPart → List ℤ → Reading → List ℕ → Option FieldWhy
part_why part soft reading bytes = first_of (coded_tests part soft reading bytes)

-- those of a field of a channel
abbrev pub coded_why : Channel → List ℤ → List ℕ → Option FieldWhy
coded_why channel soft bytes = part_why (whole_part channel.plan) soft (coded_reading channel soft) bytes

-- the part of speech in this many frames: 51 of the 216 values of each are read one by one
abbrev pub speech_part : ℕ → CodePlan → (List Bool → List Bool) → (List Bool → List Bool) → CodedPart
speech_part frames plan uncoded coded = record { plan = plan; before = 51 * frames; uncoded = uncoded; coded = coded }

-- a reading of speech in this many frames, and how its bits are parted: behind the 56 bits of class 1 of each frame the
-- message is protected by parity
pub record IsSpeech (frames : ℕ) (parity : Parity) (plan : CodePlan) (uncoded coded : List Bool → List Bool) (soft : List ℤ) (reading : Reading) : Type 0 where
  pub uncoded_is : (bits : List Bool) → length bits ≡ 141 * frames → uncoded bits ≡ uncoded_part bits
  pub coded_is : (bits : List Bool) → length bits ≡ 141 * frames → coded bits ≡ trellis_part bits
  pub bits : length reading.bits ≡ 141 * frames
  pub plain : uncoded reading.bits ≡ best_plain (take (51 * frames) soft)
  pub metric : reading.metric ≡ message_metric plan (drop (51 * frames) soft) (best_of plan (drop (51 * frames) soft))
  pub mark : reading.mark ≡ mark_of parity (drop (56 * frames) (best_of plan (drop (51 * frames) soft)))
