-- Slots with what is claimed for them, at the front of the input.
use Rattle.std.proofs.Common.{◌≡◌, ℕ, ◌≤◌, List, [], ◌∷◌, ◌++◌, length, ap, sym, ◌∙◌, arith, refl, length-append, append_assoc, append-nil, Option}
use Rattle.std.proofs.lemmas.List.{map-append}
use Rattle.std.specs.declared.option.Option.{Option}
use Rattle.tetra_settings.specs.declared.types.Settings.{Settings}
use Rattle.tetra_engine.specs.declared.refusals.Refusals.{Refusals}
use Rattle.tetra_engine.specs.declared.intake.Intake.{Intake}
use Rattle.tetra_engine.specs.declared.work.Stop.{Stop}
use Rattle.tetra_audit.specs.declared.verdict.SlotVerdict.{SlotVerdict}
use Rattle.tetra_audit.specs.declared.verdict.SlotVerdict.TheVariants.{Agrees, Kind, Field}
use Rattle.tetra_session.specs.Heard.{slot_front}
use Rattle.tetra_session.specs.declared.front.Front.{Front}
use Rattle.tetra_audit.specs.Fields.{claim_length}
use Rattle.tetra_engine.specs.Auditing.{Claimed, auditing, slots_of, front_at, refused_by, refused_slots, verdict_at}
use Rattle.tetra_engine.specs.Refusals.{Counts}
use Rattle.tetra_engine.specs.Slots.{soft_values}
use Rattle.tetra_engine.specs.Intake.{IntakeStops, HoldsSlot}
use Rattle.tetra_engine.specs.Working.{StopGives}
use Rattle.tetra_engine.proofs.Cuts.{same_front}
use Rattle.tetra_engine.proofs.Fronts.{IsShort}
use Rattle.tetra_engine.proofs.Intakes.{slot_stopped}

-- the slots so far, and one more
pub slots_more : (before : List Claimed) (input : Claimed) → slots_of (before ++ input ∷ []) ≡ slots_of before ++ soft_values input.0 ∷ []
slots_more before input = map-append (λ i. soft_values i.0) before (input ∷ [])

-- the slot of an input that begins the bytes
slot_of_input : (x : Claimed) (slot u rest : List ℕ) → length x.0 ≡ 510 → length slot ≡ 510 → slot ++ u ≡ (x.0 ++ x.1) ++ rest → x.0 ≡ slot
slot_of_input x slot u rest sx sy e = same_front 510 x.0 slot (x.1 ++ rest) u sx sy (sym (append_assoc x.0 x.1 rest) ∙ sym e)

-- fewer bytes than a slot has
pub short_first : (settings : Settings) (before : List Claimed) → IsShort (auditing settings) before [] 510
short_first settings before = record {
  none = λ u few x rest fits e. absurd (omega (arith, ap length e, length-append (x.0 ++ x.1) rest, length-append x.0 x.1, fits.0));
  stops = λ u few. refl;
}

-- what the stops of its slots say of an audit
pub auditing_stopped : (settings : Settings) (before : List Claimed) (old new : Option (List ℕ)) (Stands : Type 0) (stop : Stop) → Stands
    → IntakeStops old new stop → StopGives (auditing settings) before old new Stands stop
auditing_stopped settings before old new Stands stop stands stops = slot_stopped (auditing settings) before (short_first settings before) old new Stands stop stands stops

-- a slot behind which bytes of the record are missing
pub short_claim : (settings : Settings) (before : List Claimed) (slot : List ℕ) (len : ℕ) → length slot ≡ 510
    → len ≡ claim_length (front_at settings before slot) → IsShort (auditing settings) before slot len
short_claim settings before slot len size is = record {
  none = λ u few x rest fits e.
      let same = slot_of_input x slot u rest fits.0 size e in
      let long : length x.1 ≡ len = fits.1 ∙ ap (λ s. claim_length (front_at settings before s)) same ∙ sym is in
      absurd (omega (arith, ap length e, length-append slot u, length-append (x.0 ++ x.1) rest, length-append x.0 x.1, fits.0));
  stops = λ u few. refl;
}

-- a slot that was read, what a receiver takes from it, and the length of its record
pub record SlotAt (settings : Settings) (before : List Claimed) (slot : List ℕ) (front : Front) (len : ℕ) : Type 0 where
  pub size : length slot ≡ 510
  pub front_is : front ≡ front_at settings before slot
  pub len_is : len ≡ claim_length (front_at settings before slot)

pub slot_at : (settings : Settings) (before : List Claimed) (intake : Intake) (front : Front) (len : ℕ) → intake.settings ≡ settings → HoldsSlot intake
    → front ≡ slot_front intake.settings (slots_of before) intake.soft → len ≡ claim_length front → SlotAt settings before intake.bytes front len
slot_at settings before intake front len same holds heard long =
    let is : front ≡ front_at settings before intake.bytes = heard ∙ ap (λ s. slot_front s (slots_of before) intake.soft) same ∙ ap (slot_front settings (slots_of before)) holds.values in
    record { size = holds.size; front_is = is; len_is = long ∙ ap claim_length is }

-- one slot more that is refused or not
pub refused_more : (settings : Settings) (before inputs : List Claimed) (input : Claimed)
    → refused_slots settings before (inputs ++ input ∷ []) ≡ refused_slots settings before inputs ++ refused_by (length (before ++ inputs)) (verdict_at settings (before ++ inputs) input)
refused_more settings before [] input =
    append-nil (refused_by (length before) (verdict_at settings before input)) ∙ ap (λ b. refused_by (length b) (verdict_at settings b input)) (sym (append-nil before))
refused_more settings before (x ∷ xs) input =
    ap (λ l. refused_by (length before) (verdict_at settings before x) ++ l) (refused_more settings (before ++ x ∷ []) xs input)
    ∙ sym (append_assoc (refused_by (length before) (verdict_at settings before x)) (refused_slots settings (before ++ x ∷ []) xs) _)
    ∙ ap (λ b. (refused_by (length before) (verdict_at settings before x) ++ refused_slots settings (before ++ x ∷ []) xs) ++ refused_by (length b) (verdict_at settings b input)) (append_assoc before (x ∷ []) xs)

one_at_most : (slot : ℕ) (verdict : SlotVerdict) → length (refused_by slot verdict) ≤ 1
one_at_most slot Agrees = omega arith
one_at_most slot Kind = omega arith
one_at_most slot (Field index why) = omega arith

-- no more are refused than there are
pub refused_few : (settings : Settings) (before inputs : List Claimed) → length (refused_slots settings before inputs) ≤ length inputs
refused_few settings before [] = omega arith
refused_few settings before (x ∷ xs) =
    let one = one_at_most (length before) (verdict_at settings before x) in
    let more = refused_few settings (before ++ x ∷ []) xs in
    omega (arith, length-append (refused_by (length before) (verdict_at settings before x)) (refused_slots settings (before ++ x ∷ []) xs), one, more)

-- the count is the number of the slots
pub counts_number : (r : Refusals) (slots : List ℕ) → Counts r slots → r.count ≡ length slots
counts_number r [] counts = counts
counts_number r (slot ∷ slots) counts = counts.1
