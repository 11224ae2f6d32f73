-- What is read of speech from what the decoder answers.
use Rattle.std.proofs.Common.{◌≡◌, ℕ, Bool, List, take, drop, Some, refl, subst}
use Rattle.std.specs.Prelude.{ℤ}
use Rattle.tetra_bits.specs.Parts.{InParts}
use Rattle.tetra_bits.specs.Plain.{best_plain}
use Rattle.tetra_bits.specs.declared.reading.Mark.{Mark}
use Rattle.tetra_bits.specs.declared.reading.Reading.{Reading}
use Rattle.tetra_parity.specs.Marks.{mark_of}
use Rattle.tetra_parity.specs.declared.kind.Parity.{Parity}
use Rattle.tetra_parity.specs.declared.kind.Parity.TheVariants.{Four, Eight}
use Rattle.tetra_puncture.specs.Best.{best_of, message_metric}
use Rattle.tetra_puncture.specs.Places.{speech_whole, speech_half}
use Rattle.tetra_puncture.specs.Plan.{CodePlan}
use Rattle.tetra_puncture.specs.ToGo.{potentials_of}
use Rattle.tetra_speech.specs.Frames.{whole_bits, half_bits}
use Rattle.tetra_speech.specs.Reading.{whole_reading, half_reading}

-- what is read over n uncoded values and the coded ones behind them; the mark is that of the message without its first
-- bits, class 1
abbrev pub reading_over : CodePlan → Parity → ℕ → ℕ → (List Bool → List Bool → List Bool) → List ℤ → Reading
reading_over p parity n first bits_of soft =
    let coded = drop n soft in
    let message = best_of p coded in
    record {
      mark = mark_of parity (drop first message);
      metric = message_metric p coded message;
      bits = bits_of (best_plain (take n soft)) message;
      potentials = Some (potentials_of p coded);
    }

-- coded values are solved to this message, metric and table
pub record IsSolved (p : CodePlan) (coded : List ℤ) (message : List Bool) (metric : ℕ) (rows : List (List ℕ)) : Type 0 where
  pub best : message ≡ best_of p coded
  pub costs : metric ≡ message_metric p coded message
  pub exact : rows ≡ potentials_of p coded

pub is_reading_over : (p : CodePlan) (parity : Parity) (n first : ℕ) (bits_of : List Bool → List Bool → List Bool)
    (soft coded : List ℤ) (message part plain bits : List Bool) (mark : Mark) (metric : ℕ) (rows : List (List ℕ))
    → coded ≡ drop n soft → IsSolved p coded message metric rows → part ≡ drop first message
    → mark ≡ mark_of parity part → plain ≡ best_plain (take n soft) → bits ≡ bits_of plain message
    → ◌≡◌ {A = Reading} (record { mark = mark; metric = metric; bits = bits; potentials = Some rows })
    (reading_over p parity n first bits_of soft)
is_reading_over p parity n first bits_of soft coded message part plain bits mark metric rows ec s ep em el eb =
    rw (em, ep, s.costs, s.exact, eb, el, s.best, ec) refl

pub whole_reading_is : (soft : List ℤ) → reading_over speech_whole Eight 102 112 whole_bits soft ≡ whole_reading soft
unfolding whole_reading
whole_reading_is soft = refl

pub half_reading_is : (soft : List ℤ) → reading_over speech_half Four 51 56 half_bits soft ≡ half_reading soft
unfolding half_reading
half_reading_is soft = refl

-- the parts of a reading
pub in_parts : (mark : Mark) (metric : ℕ) (bits : List Bool) (rows : List (List ℕ)) (reading : Reading)
    → ◌≡◌ {A = Reading} (record { mark = mark; metric = metric; bits = bits; potentials = Some rows }) reading
    → InParts reading (record { mark = mark; metric = metric }) bits rows
in_parts mark metric bits rows reading is =
    subst (λ r. InParts r (record { mark = mark; metric = metric }) bits rows) is (record { mark = refl; metric = refl; bits = refl; rows = refl })
