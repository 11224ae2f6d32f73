-- A receiver as C has it, one slot on.
use Rattle.std.proofs.Common.{ℕ, ◌-◌, ◌+◌, ◌<◌, ◌≡◌, ◌≢◌, ℤ, List, [], ◌∷◌, ◌++◌, Some, None, length, set, get_or, arith, ap, sym, ◌∙◌, nat_eq, true, false, subst}
use Rattle.std.proofs.lemmas.Bool.{ne_eqb, eq-eqb}
use Rattle.std.proofs.lemmas.List.{length_push}
use Rattle.tetra_audit.specs.Fields.{claim_length}
use Rattle.tetra_scramble.specs.Key.{key_of}
use Rattle.tetra_settings.specs.Slots.{timeslot_of}
use Rattle.tetra_settings.specs.declared.types.Settings.{Settings}
use Rattle.tetra_session.specs.Heard.{HeardStands, word_heard}
use Rattle.tetra_session.specs.Time.{own, depth, timeslot_mode}
use Rattle.tetra_session.specs.declared.front.Front.{Front}
use Rattle.tetra_session.specs.lemmas.FourSteps.{turn_now, four_turned}
use Rattle.tetra_c.specs.KeptWords.{KeptStands}
use Rattle.tetra_c.specs.Receivers.{ReceiverIs, AreClear, none_kept}
use Rattle.tetra_c.specs.Records.{claim_fault}
use Rattle.tetra_c.specs.Settings.{settings_of}
use Rattle.tetra_c.specs.declared.fault.Fault.TheVariants.{Length}
use Rattle.tetra_c.specs.declared.kept_words.TetraKeptWords.{TetraKeptWords}
use Rattle.tetra_c.specs.declared.receiver.TetraReceiver.{TetraReceiver}
use Rattle.tetra_c.proofs.WordRings.{keeps_none}

-- a receiver that has read no slot
pub receiver_begins : (settings : Settings) (receiver : TetraReceiver) → settings_of receiver.settings ≡ settings → receiver.turn ≡ 0
    → AreClear receiver.lanes → ReceiverIs settings [] receiver
unfolding own
receiver_begins settings receiver same turn clear = record {
  same = same;
  turn = turn;
  timeslots = λ c low high.
      let none = clear (c - 1) (omega (arith, low, high)) in
      λ some. keeps_none (depth (timeslot_mode settings c)) (get_or receiver.lanes (c - 1) none_kept) some none.0 none.1;
}

module _ (settings : Settings) (history : List (List ℤ)) (old : TetraReceiver) (at : ℕ) (is : ReceiverIs settings history old)
    (here : at + 1 ≡ timeslot_of settings.at old.turn) (within : at < 4) (four : length old.lanes ≡ 4) where
  -- the lane of the slot whose turn it is stands
  pub lane_now : (seen : TetraKeptWords) → HeardStands KeptStands settings old.turn history (get_or old.lanes at seen)
  lane_now seen =
      let back : at + 1 - 1 ≡ at = omega arith in
      subst (λ i. HeardStands KeptStands settings old.turn history (get_or old.lanes i seen)) back
      (turn_now KeptStands (word_heard settings.dir (key_of settings.colour)) none_kept settings old.turn history old.lanes (at + 1) seen
      is.turn four here (omega arith) (omega (arith, within)) is.timeslots)

  -- and the receiver behind it
  pub receiver_turned : (soft : List ℤ) (lane : TetraKeptWords) (new : TetraReceiver) → new.settings ≡ old.settings → new.turn ≡ old.turn + 1
      → new.lanes ≡ set old.lanes at lane → HeardStands KeptStands settings old.turn (history ++ soft ∷ []) lane
      → ReceiverIs settings (history ++ soft ∷ []) new
  receiver_turned soft lane new same turn lanes stands =
      let back : at + 1 - 1 ≡ at = omega arith in
      let there : set old.lanes (at + 1 - 1) lane ≡ new.lanes = ap (λ i. set old.lanes i lane) back ∙ sym lanes in
      record {
        same = ap settings_of same ∙ is.same;
        turn = turn ∙ ap (λ n. n + 1) is.turn ∙ sym (length_push history soft);
        timeslots = rw (← there)
            (four_turned KeptStands (word_heard settings.dir (key_of settings.colour)) none_kept settings old.turn history soft old.lanes (at + 1) lane
            is.turn four here (omega arith) (omega (arith, within)) stands is.timeslots);
      }

-- a claim that is longer or shorter than its record
pub other_length : (front : Front) (claim : List ℕ) → length claim ≢ claim_length front → Some Length ≡ claim_fault front claim
other_length front claim differs =
    let test : nat_eq (length claim) (claim_length front) ≡ false = ne_eqb _ _ differs in
    rw test

pub same_length : (front : Front) (claim : List ℕ) → length claim ≡ claim_length front → None ≡ claim_fault front claim
same_length front claim same =
    let test : nat_eq (length claim) (claim_length front) ≡ true = eq-eqb _ _ same in
    rw test
