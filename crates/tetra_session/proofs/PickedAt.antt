-- Two lists of one length, of which the same entries are picked: what was sent in the slots of a timeslot, and what was heard.
use Prim.Native.Nat.{zero, suc}
use Rattle.std.proofs.Common.{ℕ, ◌+◌, ◌<◌, ◌≡◌, Bool, true, false, cond, List, [], ◌∷◌, length, take, get_or, arith, refl, ap, sym, ◌∙◌}
use Rattle.tetra_session.specs.Time.{counts, picked, own}

-- entry i of what is picked from two lists is entry t of both
record At {X Y : Type 0} (p : ℕ → Bool) (u : ℕ) (xs : List X) (ys : List Y) (i : ℕ) (d : X) (e : Y) : Type 0 where
  t : ℕ
  below : t < length xs
  meets : p (u + t) ≡ true
  front : picked p u (take t xs) ≡ take i (picked p u xs)
  first : get_or (picked p u xs) i d ≡ get_or xs t d
  second : get_or (picked p u ys) i e ≡ get_or ys t e

module _ {X Y : Type 0} (p : ℕ → Bool) where
  step : (b : Bool) (u : ℕ) (x : X) (xs : List X) (y : Y) (ys : List Y) (i : ℕ) (d : X) (e : Y) → p u ≡ b → ((j : ℕ) → j < length (picked p (u + 1) xs) → At p (u + 1) xs ys j d e)
      → i < length (cond b (x ∷ picked p (u + 1) xs) (picked p (u + 1) xs)) → At p u (x ∷ xs) (y ∷ ys) i d e
  step true u x xs y ys zero d e q rest h =
      let z : u + 0 ≡ u = omega arith in
      record { t = 0; below = omega arith; meets = ap p z ∙ q; front = refl; first = rw q refl; second = rw q refl }
  step true u x xs y ys (suc i) d e q rest h =
      let a = rest i (omega arith) in
      let z : u + suc a.t ≡ u + 1 + a.t = omega arith in
      record { t = suc a.t; below = omega (arith, a.below); meets = ap p z ∙ a.meets; front = rw q (ap (λ w. x ∷ w) a.front); first = rw q a.first; second = rw q a.second }
  step false u x xs y ys i d e q rest h =
      let a = rest i h in
      let z : u + suc a.t ≡ u + 1 + a.t = omega arith in
      record { t = suc a.t; below = omega (arith, a.below); meets = ap p z ∙ a.meets; front = rw q a.front; first = rw q a.first; second = rw q a.second }

  picked_at : (u : ℕ) (xs : List X) (ys : List Y) (i : ℕ) (d : X) (e : Y) → length ys ≡ length xs → i < length (picked p u xs) → At p u xs ys i d e
  picked_at u [] ys i d e l h = absurd (omega arith)
  picked_at u (x ∷ xs) [] i d e l h = absurd (omega arith)
  picked_at u (x ∷ xs) (y ∷ ys) i d e l h = step (p u) u x xs y ys i d e refl (λ j k. picked_at (u + 1) xs ys j d e (omega arith) k) h

  picked_long : (u : ℕ) (xs : List X) (ys : List Y) → length ys ≡ length xs → length (picked p u ys) ≡ length (picked p u xs)
  picked_long u [] [] l = refl
  picked_long u [] (y ∷ ys) l = absurd (omega arith)
  picked_long u (x ∷ xs) [] l = absurd (omega arith)
  picked_long u (x ∷ xs) (y ∷ ys) l =
      let r : length (picked p (u + 1) ys) ≡ length (picked p (u + 1) xs) = picked_long (u + 1) xs ys (omega arith) in
      elim (p u) as (λ b. length (cond b (y ∷ picked p (u + 1) ys) (picked p (u + 1) ys)) ≡ length (cond b (x ∷ picked p (u + 1) xs) (picked p (u + 1) xs))) [ true ↦ omega arith | false ↦ r ]

-- slot m of a timeslot is slot t of all
pub record Slot {X Y : Type 0} (at c : ℕ) (sent : List X) (heard : List Y) (m : ℕ) (d : X) (e : Y) : Type 0 where
  pub t : ℕ
  pub below : t < length sent
  pub counted : counts at c t ≡ true
  pub earlier : own at c (take t sent) ≡ take m (own at c sent)
  pub sent_is : get_or (own at c sent) m d ≡ get_or sent t d
  pub heard_is : get_or (own at c heard) m e ≡ get_or heard t e

module _ {X Y : Type 0} (at c : ℕ) (sent : List X) (heard : List Y) (same : length heard ≡ length sent) where
  pub slot_at : (m : ℕ) (d : X) (e : Y) → m < length (own at c sent) → Slot at c sent heard m d e
  unfolding own
  slot_at m d e h =
      let a = picked_at (counts at c) 0 sent heard m d e same h in
      let z : 0 + a.t ≡ a.t = omega arith in
      record { t = a.t; below = a.below; counted = ap (counts at c) (sym z) ∙ a.meets; earlier = a.front; sent_is = a.first; heard_is = a.second }

  pub own_long : length (own at c heard) ≡ length (own at c sent)
  unfolding own
  own_long = picked_long (counts at c) 0 sent heard same
