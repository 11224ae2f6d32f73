-- Four timeslots, one slot on.
use Prim.Native.Nat.{zero, suc}
use Rattle.std.proofs.Common.{ℕ, ◌-◌, ◌<◌, ◌≤◌, ◌≡◌, ◌≢◌, inl, inr, length, set, map, List, [], ◌∷◌, ◌++◌, arith, true, false, ◌∙◌, sym, ap, refl, get_or}
use Rattle.std.proofs.lemmas.List.{map-append, get_or-set_same, get_or-set_other, get_or_default}
use Rattle.std.proofs.lemmas.Bool.{cases_eq}
use Rattle.tetra_settings.specs.Slots.{timeslot_of, mode_of, use_of}
use Rattle.tetra_settings.specs.declared.types.Mode.{Mode}
use Rattle.tetra_settings.specs.declared.types.Settings.{Settings}
use Rattle.tetra_settings.specs.declared.slots.SlotUse.TheVariants.{Traffic}
use Rattle.tetra_session.specs.Four.{all_brought, FourStand, TurnStands}
use Rattle.tetra_session.specs.Time.{own, timeslot_mode, depth, counts}
use Rattle.tetra_session.specs.lemmas.Picked.{own_other, own_more, counts_elsewhere, counts_here, counts_silent}

pub one_to_four : (P : ℕ → Type 0) → P 1 → P 2 → P 3 → P 4 → (k : ℕ) → 1 ≤ k → k ≤ 4 → P k
one_to_four P a b c d zero low h = absurd (omega arith)
one_to_four P a b c d (suc zero) low h = a
one_to_four P a b c d (suc (suc zero)) low h = b
one_to_four P a b c d (suc (suc (suc zero))) low h = c
one_to_four P a b c d (suc (suc (suc (suc zero)))) low h = d
one_to_four P a b c d (suc (suc (suc (suc (suc k))))) low h = absurd (omega arith)

module _ {X Y L : Type 0} (Stands : ℕ → List Y → L → Type 0) (brought : Mode → X → Y) (none : L) where
  -- no slot yet
  pub four_none : (settings : Settings) (a b c d : L) → Stands (depth (timeslot_mode settings 1)) [] a → Stands (depth (timeslot_mode settings 2)) [] b → Stands (depth (timeslot_mode settings 3)) [] c
      → Stands (depth (timeslot_mode settings 4)) [] d → FourStand Stands brought none settings [] (a ∷ b ∷ c ∷ d ∷ [])
  unfolding own
  four_none settings a b c d p q r s =
      one_to_four (λ (k : ℕ). Stands (depth (timeslot_mode settings k)) (all_brought brought settings k []) (get_or (a ∷ b ∷ c ∷ d ∷ []) (k - 1) none)) p q r s

  brought_other : (settings : Settings) (c : ℕ) (history : List X) (x : X) → counts settings.at c (length history) ≡ false → all_brought brought settings c (history ++ x ∷ []) ≡ all_brought brought settings c history
  brought_other settings c history x h = ap (map (brought (timeslot_mode settings c))) (own_other settings.at c history x h)

  pub brought_more : (settings : Settings) (c : ℕ) (history : List X) (x : X) → counts settings.at c (length history) ≡ true
      → all_brought brought settings c (history ++ x ∷ []) ≡ all_brought brought settings c history ++ brought (timeslot_mode settings c) x ∷ []
  brought_more settings c history x h =
      ap (map (brought (timeslot_mode settings c))) (own_more settings.at c history x h) ∙ map-append (brought (timeslot_mode settings c)) (own settings.at c history) (x ∷ [])

  -- a lane whose slot it is not
  lane_other : (settings : Settings) (history : List X) (x : X) (c : ℕ) (lane : L) → counts settings.at c (length history) ≡ false
      → Stands (depth (timeslot_mode settings c)) (all_brought brought settings c history) lane → Stands (depth (timeslot_mode settings c)) (all_brought brought settings c (history ++ x ∷ [])) lane
  lane_other settings history x c lane e h = rw (brought_other settings c history x e) h

  -- the slot carries no traffic
  pub four_silent : (settings : Settings) (history : List X) (x : X) (lanes : List L)
      → ((n : ℕ) (pushed more : List Y) (lane : L) → n ≡ 0 → Stands n pushed lane → Stands n more lane)
      → use_of settings (length history) ≢ Traffic → FourStand Stands brought none settings history lanes → FourStand Stands brought none settings (history ++ x ∷ []) lanes
  four_silent settings history x lanes idle f h =
      λ c low high. elim (counts_silent settings c (length history) f) [
        | inl e ↦ idle (depth (timeslot_mode settings c)) (all_brought brought settings c history) (all_brought brought settings c (history ++ x ∷ [])) (get_or lanes (c - 1) none) e (h c low high)
        | inr e ↦ lane_other settings history x c (get_or lanes (c - 1) none) e (h c low high)
      ]

  -- the slot brings something to its timeslot
  pub four_taken : (settings : Settings) (history : List X) (x : X) (lanes : List L) (c : ℕ) (y : Y) (seen lane : L) → length lanes ≡ 4 → c ≡ timeslot_of settings.at (length history) → 1 ≤ c → c ≤ 4
      → use_of settings (length history) ≡ Traffic → brought (timeslot_mode settings c) x ≡ y
      → ((pushed : List Y) → Stands (depth (timeslot_mode settings c)) pushed (get_or lanes (c - 1) seen) → Stands (depth (timeslot_mode settings c)) (pushed ++ y ∷ []) lane)
      → FourStand Stands brought none settings history lanes → FourStand Stands brought none settings (history ++ x ∷ []) (set lanes (c - 1) lane)
  four_taken settings history x lanes c y seen lane z e low high f d step h =
      λ k kl kh. elim (cases_eq k c) [
        | inl same ↦
            let m : c - 1 < length lanes = omega (arith, z) in
            let r : get_or (set lanes (c - 1) lane) (k - 1) none ≡ lane = ap (λ i. get_or (set lanes (c - 1) lane) (i - 1) none) same ∙ get_or-set_same lanes (c - 1) lane none m in
            let w : all_brought brought settings c (history ++ x ∷ []) ≡ all_brought brought settings c history ++ y ∷ [] =
            brought_more settings c history x (counts_here settings c (length history) e f) ∙ ap (λ v. all_brought brought settings c history ++ v ∷ []) d in
            let o : Stands (depth (timeslot_mode settings c)) (all_brought brought settings c history) (get_or lanes (c - 1) seen) = rw (get_or_default lanes (c - 1) seen none m) (h c low high) in
            let there : Stands (depth (timeslot_mode settings c)) (all_brought brought settings c (history ++ x ∷ [])) lane = rw w (step (all_brought brought settings c history) o) in
            rw (r, same) there
        | inr other ↦
            let n : k - 1 ≢ c - 1 = λ q. other (omega (arith, q)) in
            let r : get_or (set lanes (c - 1) lane) (k - 1) none ≡ get_or lanes (k - 1) none = get_or-set_other lanes (c - 1) (k - 1) lane none n in
            rw r (lane_other settings history x k (get_or lanes (k - 1) none) (counts_elsewhere settings.at k (length history) (λ q. other (q ∙ sym e))) (h k kl kh))
      ]

  -- the lane whose turn it is
  pub four_now : (settings : Settings) (history : List X) (lanes : List L) (c : ℕ) (seen : L) → length lanes ≡ 4 → c ≡ timeslot_of settings.at (length history) → 1 ≤ c → c ≤ 4 → FourStand Stands brought none settings history lanes
      → Stands (depth (mode_of settings (length history))) (all_brought brought settings c history) (get_or lanes (c - 1) seen)
  unfolding mode_of
  four_now settings history lanes c seen z e low high h =
      let m : c - 1 < length lanes = omega (arith, z) in
      rw (← e, get_or_default lanes (c - 1) seen none m) (h c low high)

  -- for the slot whose turn it is its lane stands
  pub turn_now : (settings : Settings) (t : ℕ) (history : List X) (lanes : List L) (c : ℕ) (seen : L) → t ≡ length history → length lanes ≡ 4 → c ≡ timeslot_of settings.at t → 1 ≤ c → c ≤ 4
      → FourStand Stands brought none settings history lanes → TurnStands Stands brought settings t history (get_or lanes (c - 1) seen)
  turn_now settings t history lanes c seen turn z e low high h =
      let here : c ≡ timeslot_of settings.at (length history) = e ∙ ap (timeslot_of settings.at) turn in
      rw (turn, ← here) (four_now settings history lanes c seen z here low high h)

  -- where the lane of the slot whose turn it is stands with that slot behind it, all four do
  pub four_turned : (settings : Settings) (t : ℕ) (history : List X) (x : X) (lanes : List L) (c : ℕ) (lane : L) → t ≡ length history → length lanes ≡ 4 → c ≡ timeslot_of settings.at t → 1 ≤ c → c ≤ 4
      → TurnStands Stands brought settings t (history ++ x ∷ []) lane
      → FourStand Stands brought none settings history lanes → FourStand Stands brought none settings (history ++ x ∷ []) (set lanes (c - 1) lane)
  unfolding mode_of
  four_turned settings t history x lanes c lane turn z e low high stands h =
      λ k kl kh. elim (cases_eq k c) [
        | inl same ↦
            let m : c - 1 < length lanes = omega (arith, z) in
            let r : get_or (set lanes (c - 1) lane) (k - 1) none ≡ lane = ap (λ i. get_or (set lanes (c - 1) lane) (i - 1) none) same ∙ get_or-set_same lanes (c - 1) lane none m in
            let there : Stands (depth (timeslot_mode settings c)) (all_brought brought settings c (history ++ x ∷ [])) lane = rw e stands in
            rw (r, same) there
        | inr other ↦
            let n : k - 1 ≢ c - 1 = λ q. other (omega (arith, q)) in
            let r : get_or (set lanes (c - 1) lane) (k - 1) none ≡ get_or lanes (k - 1) none = get_or-set_other lanes (c - 1) (k - 1) lane none n in
            let apart : k ≢ timeslot_of settings.at (length history) = λ q. other (q ∙ sym (e ∙ ap (timeslot_of settings.at) turn)) in
            rw r (lane_other settings history x k (get_or lanes (k - 1) none) (counts_elsewhere settings.at k (length history) apart) (h k kl kh))
      ]

-- the lane of the slot whose turn it is, with that slot behind it
module _ {X Y L : Type 0} (Stands : ℕ → List Y → L → Type 0) (brought : Mode → X → Y) (settings : Settings) (t : ℕ) (history : List X) (x : X) (lane : L) where
  -- nothing is spread
  pub turn_idle : ((pushed more : List Y) (l : L) → Stands 0 pushed l → Stands 0 more l) → depth (mode_of settings t) ≡ 0
      → TurnStands Stands brought settings t history lane → TurnStands Stands brought settings t (history ++ x ∷ []) lane
  turn_idle idle none h =
      let c = timeslot_of settings.at t in
      let before : Stands 0 (all_brought brought settings c history) lane = rw none at h in
      rw none (idle (all_brought brought settings c history) (all_brought brought settings c (history ++ x ∷ [])) lane before)

  -- the slot carries no traffic
  pub turn_silent : t ≡ length history → ((pushed more : List Y) (l : L) → Stands 0 pushed l → Stands 0 more l) → use_of settings t ≢ Traffic
      → TurnStands Stands brought settings t history lane → TurnStands Stands brought settings t (history ++ x ∷ []) lane
  unfolding mode_of
  turn_silent turn idle silent h =
      let c = timeslot_of settings.at t in
      elim (counts_silent settings c t silent) [
        | inl e ↦ turn_idle idle e h
        | inr e ↦ lane_other Stands brought lane settings history x c lane (ap (counts settings.at c) (sym turn) ∙ e) h
      ]

  -- it took what the slot brings
  pub turn_taken : t ≡ length history → use_of settings t ≡ Traffic
      → Stands (depth (mode_of settings t)) (all_brought brought settings (timeslot_of settings.at t) history ++ brought (mode_of settings t) x ∷ []) lane
      → TurnStands Stands brought settings t (history ++ x ∷ []) lane
  unfolding mode_of
  turn_taken turn traffic h =
      let c = timeslot_of settings.at t in
      let counted : counts settings.at c (length history) ≡ true = ap (counts settings.at c) (sym turn) ∙ counts_here settings c t refl traffic in
      rw (brought_more Stands brought lane settings c history x counted) h
