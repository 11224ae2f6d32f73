-- Facts on the entries of one timeslot.
use Rattle.std.proofs.Common.{ℕ, ◌+◌, ◌<◌, ◌≤◌, ◌≡◌, ◌≢◌, ◌⊎◌, inl, inr, Bool, true, false, cond, if◌then◌else◌, List, [], ◌∷◌, ◌++◌, length, nat_eq, nat_lt, arith, refl, ap, sym, ◌∙◌}
use Rattle.std.proofs.lemmas.Bool.{cases_eq, and_right}
use Rattle.std.proofs.lemmas.Bool.Decides.{nat_tests}
use Rattle.std.proofs.lemmas.List.{append-nil}
use Rattle.tetra_settings.specs.Slots.{timeslot_of, frame_of, mode_of, use_in, use_of}
use Rattle.tetra_settings.specs.declared.types.Mode.{Mode}
use Rattle.tetra_settings.specs.declared.types.Mode.TheVariants.{Sig, Cb, D72, D48, D24, Speech}
use Rattle.tetra_settings.specs.declared.types.Settings.{Settings}
use Rattle.tetra_settings.specs.declared.slots.SlotUse.TheVariants.{Signalling, Traffic}
use Rattle.tetra_session.specs.Time.{timeslot_mode, depth, counts, picked, own}

module _ {X : Type 0} (p : ℕ → Bool) where
  pub picked_push : (t : ℕ) (xs : List X) (x : X) → picked p t (xs ++ x ∷ []) ≡ picked p t xs ++ cond (p (t + length xs)) (x ∷ []) []
  picked_push t [] x =
      let e : t + 0 ≡ t = omega arith in
      rw e (elim (p t) as (λ b. cond b (x ∷ []) [] ≡ cond b (x ∷ []) []) [ true ↦ refl | false ↦ refl ])
  picked_push t (y ∷ xs) x =
      let e : t + length (y ∷ xs) ≡ t + 1 + length xs = omega arith in
      rw e
      (elim (p t) as (λ b. cond b (y ∷ picked p (t + 1) (xs ++ x ∷ [])) (picked p (t + 1) (xs ++ x ∷ [])) ≡ cond b (y ∷ picked p (t + 1) xs) (picked p (t + 1) xs) ++ cond (p (t + 1 + length xs)) (x ∷ []) []) [
        | true ↦ ap (λ zs. y ∷ zs) (picked_push (t + 1) xs x)
        | false ↦ picked_push (t + 1) xs x
      ])

module _ {X : Type 0} where
  -- a slot that does not count
  pub own_other : (at c : ℕ) (history : List X) (x : X) → counts at c (length history) ≡ false → own at c (history ++ x ∷ []) ≡ own at c history
  unfolding own
  own_other at c history x h =
      let e : 0 + length history ≡ length history = omega arith in
      let f : counts at c (0 + length history) ≡ false = ap (counts at c) e ∙ h in
      picked_push (counts at c) 0 history x ∙ ap (λ b. picked (counts at c) 0 history ++ cond b (x ∷ []) []) f ∙ append-nil (picked (counts at c) 0 history)

  -- a slot that counts
  pub own_more : (at c : ℕ) (history : List X) (x : X) → counts at c (length history) ≡ true → own at c (history ++ x ∷ []) ≡ own at c history ++ x ∷ []
  unfolding own
  own_more at c history x h =
      let e : 0 + length history ≡ length history = omega arith in
      let f : counts at c (0 + length history) ≡ true = ap (counts at c) e ∙ h in
      picked_push (counts at c) 0 history x ∙ ap (λ b. picked (counts at c) 0 history ++ cond b (x ∷ []) []) f

-- which timeslots count a slot
pub counts_elsewhere : (at c t : ℕ) → c ≢ timeslot_of at t → counts at c t ≡ false
counts_elsewhere at c t h = grind (arith, nat_tests)

-- frames and timeslots have their ranges
pub frame_range : (at t : ℕ) → (1 ≤ frame_of at t) × (frame_of at t ≤ 18)
unfolding frame_of
frame_range at t = omega arith

pub timeslot_range : (at t : ℕ) → (1 ≤ timeslot_of at t) × (timeslot_of at t ≤ 4)
unfolding timeslot_of
timeslot_range at t = omega arith

-- traffic is in frames 1 to 17
below_last : (frame : ℕ) → frame ≤ 18 → (if nat_eq frame 18 then Signalling else Traffic) ≡ Traffic → frame < 18
below_last frame low h = elim (cases_eq frame 18) [
  | inl e ↦ let t : nat_eq frame 18 ≡ true = rw e refl in let f : (if nat_eq frame 18 then Signalling else Traffic) ≡ Signalling = rw t refl in absurd (let g : Signalling ≡ Traffic = sym f ∙ h in cc)
  | inr n ↦ grind (arith)
]

last_frame : (frame : ℕ) → (if nat_eq frame 18 then Signalling else Traffic) ≢ Traffic → nat_lt frame 18 ≡ false
last_frame frame h = elim (cases_eq frame 18) [
  | inl e ↦ rw e refl
  | inr n ↦
      let f : nat_eq frame 18 ≡ false = grind (arith, nat_tests) in
      let g : (if nat_eq frame 18 then Signalling else Traffic) ≡ Traffic = rw f refl in
      absurd (h g)
]

-- a slot of traffic counts for its timeslot
traffic_frame : (mode : Mode) (frame : ℕ) → frame ≤ 18 → use_in mode frame ≡ Traffic → frame < 18
traffic_frame Sig frame low h = absurd cc
traffic_frame Cb frame low h = absurd cc
traffic_frame D72 frame low h = below_last frame low h
traffic_frame (D48 span) frame low h = below_last frame low h
traffic_frame (D24 span) frame low h = below_last frame low h
traffic_frame Speech frame low h = below_last frame low h

pub counts_here : (settings : Settings) (c t : ℕ) → c ≡ timeslot_of settings.at t → use_of settings t ≡ Traffic → counts settings.at c t ≡ true
unfolding use_of
counts_here settings c t e h =
    let low : frame_of settings.at t < 18 = traffic_frame (mode_of settings t) (frame_of settings.at t) (frame_range settings.at t).1 h in
    grind (arith, nat_tests)

-- in a slot that is no traffic, each timeslot spreads no blocks or does not count it
silent_in : (mode : Mode) (frame : ℕ) → use_in mode frame ≢ Traffic → (depth mode ≡ 0) ⊎ (nat_lt frame 18 ≡ false)
silent_in Sig frame h = inl refl
silent_in Cb frame h = inl refl
silent_in D72 frame h = inl refl
silent_in (D48 span) frame h = inr (last_frame frame h)
silent_in (D24 span) frame h = inr (last_frame frame h)
silent_in Speech frame h = inl refl

pub counts_silent : (settings : Settings) (c t : ℕ) → use_of settings t ≢ Traffic → (depth (timeslot_mode settings c) ≡ 0) ⊎ (counts settings.at c t ≡ false)
unfolding use_of mode_of
counts_silent settings c t h =
    elim (cases_eq c (timeslot_of settings.at t)) [
      | inl e ↦ elim (silent_in (timeslot_mode settings (timeslot_of settings.at t)) (frame_of settings.at t) h) [
        | inl none ↦ inl (rw e none)
        | inr late ↦ inr (and_right (nat_eq (timeslot_of settings.at t) c) (nat_lt (frame_of settings.at t) 18) late)
      ]
      | inr n ↦ inr (counts_elsewhere settings.at c t n)
    ]
