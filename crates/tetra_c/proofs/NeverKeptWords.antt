-- What is kept in a receiver that stands for its slots is not refused.
use Rattle.std.proofs.Common.{ℕ, ◌-◌, ◌≤◌, ◌≡◌, ◌≢◌, ℤ, true, List, Option, Some, None, refl, ap, sym, ◌∙◌, subst, lit≤}
use Rattle.std.specs.Prelude.{negsuc, slice_index_or}
use Rattle.std.proofs.lemmas.Bool.{and_from}
use Rattle.tetra_settings.specs.declared.types.Settings.{Settings}
use Rattle.tetra_session.specs.Heard.{words_heard}
use Rattle.tetra_session.specs.Time.{depth, timeslot_mode}
use Rattle.tetra_session.specs.declared.front.Front.{Front}
use Rattle.tetra_c.specs.Faults.{number_of}
use Rattle.tetra_c.specs.Receivers.{ReceiverIs, is_lane, are_lanes, none_kept, state_fault, receiver_fault}
use Rattle.tetra_c.specs.Records.{claim_fault}
use Rattle.tetra_c.specs.Settings.{settings_fault, settings_of}
use Rattle.tetra_c.specs.declared.fault.Fault.{Fault}
use Rattle.tetra_c.specs.declared.fault.Fault.TheVariants.{Turn, Length}
use Rattle.tetra_c.specs.declared.receiver.TetraReceiver.{TetraReceiver}
use Rattle.tetra_c.proofs.NeverKept.{Other, either, first, other_number, settings_other}
use Rattle.tetra_c.proofs.WordRings.{stands_tested}

state_other : (receiver : TetraReceiver) → are_lanes (settings_of receiver.settings) receiver.lanes ≡ true → Other (state_fault receiver)
state_other receiver kept = rw kept (either _ (Some Turn) None tt tt)

-- what is found where the first test finds nothing, and else what it finds
by_either : (x y z : Option Fault) → Other x → Other y → (x ≢ None → z ≡ x) → (x ≡ None → z ≡ y) → Other z
by_either None y z p q found next = subst Other (sym (next refl)) q
by_either (Some fault) y z p q found next = subst Other (sym (found (λ e. cc))) p

module _ (settings : Settings) (history : List (List ℤ)) (receiver : TetraReceiver) (h : ReceiverIs settings history receiver) where
  lane : (c : ℕ) → 1 ≤ c → c ≤ 4 → is_lane settings receiver.lanes c ≡ true
  lane c low high =
      stands_tested (depth (timeslot_mode settings c)) (words_heard settings c history) (slice_index_or receiver.lanes (c - 1) none_kept) (h.timeslots c low high)

  lanes : are_lanes settings receiver.lanes ≡ true
  lanes = and_from _ _ (and_from _ _ (and_from _ _ (lane 1 (lit≤ tt) (lit≤ tt)) (lane 2 (lit≤ tt) (lit≤ tt))) (lane 3 (lit≤ tt) (lit≤ tt))) (lane 4 (lit≤ tt) (lit≤ tt))

  receiver_other : Other (receiver_fault receiver)
  receiver_other =
      first (settings_fault receiver.settings) _ (settings_other receiver.settings)
      (state_other receiver (ap (λ s. are_lanes s receiver.lanes) h.same ∙ lanes))

  pub words_never_kept : (fault : Fault) → receiver_fault receiver ≡ Some fault → number_of fault ≢ negsuc 6
  words_never_kept fault e = other_number fault (subst Other e receiver_other)

  -- a claim is refused for its length besides
  pub claim_never_kept : (fault : Fault) (front : Front) (claim : List ℕ) → (receiver_fault receiver ≢ None → Some fault ≡ receiver_fault receiver)
      → (receiver_fault receiver ≡ None → Some fault ≡ claim_fault front claim) → number_of fault ≢ negsuc 6
  claim_never_kept fault front claim found next =
      other_number fault
      (by_either (receiver_fault receiver) (claim_fault front claim) (Some fault) receiver_other (either _ (Some Length) None tt tt) found next)
