-- Slots of 510 bytes at the front of the input.
use Rattle.std.proofs.Common.{◌≡◌, ℕ, ◌<◌, List, [], ◌∷◌, ◌++◌, length, take, map, refl, ap, sym, ◌∙◌, arith, length-append, Ok, Err, Result}
use Rattle.std.proofs.Math.Seq.{take-append_seam}
use Rattle.std.proofs.lemmas.List.{map-append}
use Rattle.std.specs.declared.option.Option.{Option}
use Rattle.tetra_settings.specs.declared.types.Settings.{Settings}
use Rattle.tetra_engine.specs.declared.decoder.Decoder.{Decoder}
use Rattle.tetra_engine.specs.declared.work.Stop.{Stop}
use Rattle.tetra_engine.specs.Decoder.{DecoderStands, DecoderHolds}
use Rattle.tetra_engine.specs.Intake.{IntakeStands, IntakeGives}
use Rattle.tetra_engine.specs.Decoding.{decoding}
use Rattle.tetra_engine.specs.Slots.{soft_values}
use Rattle.tetra_engine.specs.Working.{ReadGives}
use Rattle.tetra_engine.proofs.Fronts.{IsShort}
use Rattle.tetra_engine.proofs.Intakes.{slot_stopped}

-- the slots so far, and one more
pub heard_more : (before : List (List ℕ)) (slot : List ℕ) → map soft_values (before ++ slot ∷ []) ≡ map soft_values before ++ soft_values slot ∷ []
heard_more before slot = map-append soft_values before (slot ∷ [])

-- as many bytes as a front has are the front
pub take_front : (n : ℕ) (front u : List ℕ) → length front ≡ n → take n (front ++ u) ≡ front
take_front n front u size = ap (λ m. take m (front ++ u)) (sym size) ∙ take-append_seam front u

-- fewer bytes than a slot has begin none, for decoding
pub short_slot : (settings : Settings) (before : List (List ℕ)) → IsShort (decoding settings) before [] 510
short_slot settings before = record {
  none = λ u few x rest fits e. absurd (omega (arith, ap length e, length-append x rest, fits));
  stops = λ u few. refl;
}

-- its slots
pub decoding_read : (settings : Settings) (d : Decoder) (before : List (List ℕ)) (old new : Option (List ℕ)) (result : Result (Unit {0}) Stop)
    → IntakeStands d.intake (map soft_values before) → length before < 16777216
    → IntakeGives d.intake old new result → ReadGives (decoding settings) before old new (DecoderHolds d before) (DecoderStands d before) result
decoding_read settings d before old new (Ok u) stands few gives = (
  d.intake.bytes,
  record { stands = record { intake = stands }; few = few; holds = gives.0; bytes = refl },
  gives.0.size,
  gives.1,
)
decoding_read settings d before old new (Err stop) stands few gives =
    slot_stopped (decoding settings) before (short_slot settings before) old new (DecoderStands d before) stop (record { intake = stands }) gives
