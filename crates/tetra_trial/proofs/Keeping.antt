-- The loads of four timeslots, one slot on.
use Rattle.std.proofs.Common.{ℕ, ◌+◌, ◌-◌, ◌≤◌, ◌≡◌, ◌≢◌, inl, inr, Bool, true, false, nat_lt, List, [], ◌∷◌, ◌++◌, length, set, get_or, arith, refl, sym, ap, ◌∙◌}
use Rattle.std.proofs.Math.ListN.{get_or-append}
use Rattle.std.proofs.lemmas.Bool.{cases_lt, lt-ltb, le-ltb}
use Rattle.std.proofs.lemmas.List.{length_push}
use Rattle.tetra_settings.specs.Slots.{timeslot_of, mode_of, use_of}
use Rattle.tetra_settings.specs.declared.types.Settings.{Settings}
use Rattle.tetra_settings.specs.declared.slots.SlotUse.TheVariants.{Traffic as TrafficUse}
use Rattle.tetra_settings.specs.declared.blocks.SlotBlocks.{SlotBlocks}
use Rattle.tetra_session.specs.Sent.{load_of}
use Rattle.tetra_session.specs.Time.{timeslot_mode, depth}
use Rattle.tetra_session.specs.lemmas.FourSteps.{four_silent, four_taken, four_now}
use Rattle.tetra_trial.specs.Kept.{LaneStands, KeptStands}
use Rattle.tetra_trial.specs.Loads.{LoadsStand, load_before}
use Rattle.tetra_trial.specs.Sent.{load_brought, loads_sent}
use Rattle.tetra_trial.specs.declared.kept.Kept.{Kept}
use Rattle.tetra_trial.specs.declared.loads.Loads.{Loads}

-- the slot carries no traffic
pub kept_silent : (settings : Settings) (history : List SlotBlocks) (x : SlotBlocks) (old new : Kept) → KeptStands settings history old
    → new.settings ≡ old.settings → new.turn ≡ old.turn + 1 → new.timeslots ≡ old.timeslots → use_of old.settings old.turn ≢ TrafficUse
    → KeptStands settings (history ++ x ∷ []) new
kept_silent settings history x old new h s n l f =
    record {
      same = s ∙ h.same;
      turn = n ∙ ap (λ k. k + 1) h.turn ∙ sym (length_push history x);
      timeslots = λ none. rw l (four_silent LaneStands load_brought none settings history x old.timeslots (λ m pushed more lane e stands. inl e)
          (rw (← h.same, ← h.turn) f) (h.timeslots none));
    }

-- one load more
lane_more : (n : ℕ) (load : List Bool) (old new : Loads) → ((loads : List (List Bool)) → LoadsStand loads old → LoadsStand (loads ++ load ∷ []) new)
    → (pushed : List (List Bool)) → LaneStands n pushed old → LaneStands n (pushed ++ load ∷ []) new
lane_more n load old new step pushed (inl e) = inl e
lane_more n load old new step pushed (inr h) = inr (step pushed h)

-- the slot carries the next load of its timeslot
pub kept_taken : (settings : Settings) (history : List SlotBlocks) (x : SlotBlocks) (old new : Kept) (c : ℕ) (load : List Bool) (seen lane : Loads)
    → KeptStands settings history old → new.settings ≡ old.settings → new.turn ≡ old.turn + 1 → c ≡ timeslot_of old.settings.at old.turn → 1 ≤ c → c ≤ 4
    → new.timeslots ≡ set old.timeslots (c - 1) lane → length old.timeslots ≡ 4 → use_of old.settings old.turn ≡ TrafficUse → load_of x.body ≡ load
    → ((loads : List (List Bool)) → LoadsStand loads (get_or old.timeslots (c - 1) seen) → LoadsStand (loads ++ load ∷ []) lane)
    → KeptStands settings (history ++ x ∷ []) new
kept_taken settings history x old new c load seen lane h s n t low high l z f b step =
    let carries : use_of settings (length history) ≡ TrafficUse = rw (← h.same, ← h.turn) f in
    let here : c ≡ timeslot_of settings.at (length history) = rw (← h.same, ← h.turn) t in
    record {
      same = s ∙ h.same;
      turn = n ∙ ap (λ k. k + 1) h.turn ∙ sym (length_push history x);
      timeslots = λ none. rw l (four_taken LaneStands load_brought none settings history x old.timeslots c load seen lane z here low high carries b
          (lane_more (depth (timeslot_mode settings c)) load (get_or old.timeslots (c - 1) seen) lane step) (h.timeslots none));
    }

spread_stands : (n : ℕ) (loads : List (List Bool)) (kept : Loads) → 1 ≤ n → LaneStands n loads kept → LoadsStand loads kept
spread_stands n loads kept some (inl e) = absurd (omega arith)
spread_stands n loads kept some (inr h) = h

-- the timeslot whose turn it is, where its blocks are spread
pub kept_now : (settings : Settings) (history : List SlotBlocks) (old : Kept) (c : ℕ) (seen : Loads) → KeptStands settings history old
    → c ≡ timeslot_of old.settings.at old.turn → 1 ≤ c → c ≤ 4 → length old.timeslots ≡ 4 → 1 ≤ depth (mode_of settings (length history))
    → LoadsStand (loads_sent settings (timeslot_of settings.at (length history)) history) (get_or old.timeslots (c - 1) seen)
kept_now settings history old c seen h t low high z some =
    let here : c ≡ timeslot_of settings.at (length history) = rw (← h.same, ← h.turn) t in
    spread_stands (depth (mode_of settings (length history))) (loads_sent settings (timeslot_of settings.at (length history)) history) (get_or old.timeslots (c - 1) seen) some
    (rw (← here) (four_now LaneStands load_brought seen settings history old.timeslots c seen z here low high (h.timeslots seen)))

-- the load that lies one more before one more
pub before_more : (n count : ℕ) (loads : List (List Bool)) (load : List Bool) → count ≡ n + 1
    → load_before n loads ≡ load_before count (loads ++ load ∷ [])
before_more n count loads load e =
    let long = length_push loads load in
    elim (cases_lt n (length loads)) [
      | inl few ↦
          let a : nat_lt n (length loads) ≡ true = lt-ltb n (length loads) few in
          let b : nat_lt count (length (loads ++ load ∷ [])) ≡ true = lt-ltb count (length (loads ++ load ∷ [])) (omega (arith, e, long)) in
          let same : length (loads ++ load ∷ []) - 1 - count ≡ length loads - 1 - n = omega (arith, e, long) in
          rw (a, b, same, get_or-append loads (load ∷ []) [] (length loads - 1 - n) (omega arith)) refl
      | inr many ↦
          let a : nat_lt n (length loads) ≡ false = le-ltb n (length loads) many in
          let b : nat_lt count (length (loads ++ load ∷ [])) ≡ false = le-ltb count (length (loads ++ load ∷ [])) (omega (arith, e, long)) in
          rw (a, b) refl
    ]
