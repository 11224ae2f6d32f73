-- The entries of a timeslot are the same where its slots are.
use Prim.Native.Nat.{suc}
use Rattle.std.proofs.Common.{ℕ, ◌+◌, ◌<◌, ◌≡◌, Bool, true, false, cond, List, [], ◌∷◌, length, take, get_or, arith, refl, ap, sym, ◌∙◌}
use Rattle.std.proofs.lemmas.Bool.{and_parts, eqb-true}
use Rattle.std.proofs.lemmas.List.{get_or-take, length-take-le}
use Rattle.tetra_settings.specs.Slots.{timeslot_of}
use Rattle.tetra_settings.specs.declared.types.Settings.{Settings}
use Rattle.tetra_session.specs.Apart.{SameOn, AgreeOn}
use Rattle.tetra_session.specs.Time.{counts, picked, own}

module _ {X : Type 0} (p : ℕ → Bool) where
  head_same : (b : Bool) (x y : X) (a z : List X) → (b ≡ true → x ≡ y) → a ≡ z → cond b (x ∷ a) a ≡ cond b (y ∷ z) z
  head_same true x y a z h e = let f : x ≡ y = h refl in cc
  head_same false x y a z h e = e

  picked_same : (u : ℕ) (a b : List X) → length a ≡ length b → ((t : ℕ) (d : X) → t < length a → p (u + t) ≡ true → get_or a t d ≡ get_or b t d) → picked p u a ≡ picked p u b
  picked_same u [] [] l h = refl
  picked_same u [] (y ∷ b) l h = absurd (omega arith)
  picked_same u (x ∷ a) [] l h = absurd (omega arith)
  picked_same u (x ∷ a) (y ∷ b) l h =
      head_same (p u) x y (picked p (u + 1) a) (picked p (u + 1) b)
      (λ e. let z : u + 0 ≡ u = omega arith in h 0 x (omega arith) (ap p z ∙ e))
      (picked_same (u + 1) a b (omega arith) (λ t d k e. let z : u + suc t ≡ u + 1 + t = omega arith in h (suc t) d (omega arith) (ap p z ∙ e)))

module _ {X : Type 0} where
  -- lists that are equal on the slots of a timeslot have the same entries of it
  pub own_same : (at c : ℕ) (a b : List X) → SameOn at c a b → own at c a ≡ own at c b
  unfolding own
  own_same at c a b s =
      picked_same (counts at c) 0 a b s.long
      (λ t d k e. let z : 0 + t ≡ t = omega arith in s.entries t d k (eqb-true (timeslot_of at t) c ((and_parts _ _ (sym (ap (counts at c) z) ∙ e)).0)))

  -- and so have their first entries
  pub same_take : (at c t : ℕ) (a b : List X) → t < length a → SameOn at c a b → SameOn at c (take t a) (take t b)
  same_take at c t a b l s =
      let n : t < length b = omega (arith, s.long) in
      let la : length (take t a) ≡ t = length-take-le t a (omega arith) in
      let lb : length (take t b) ≡ t = length-take-le t b (omega arith) in
      record {
        long = la ∙ sym lb;
        entries = λ k d h e. let m : k < t = omega arith in rw (get_or-take t a k d m, get_or-take t b k d m) (s.entries k d (omega arith) e);
      }

-- an answer that is decided by the slot's own settings, by its number and by the earlier slots of its timeslot is the same
module _ {X Y : Type 0} (answer : Settings → List X → X → Y)
    (same : (c : ℕ) (s z : Settings) → AgreeOn c s z → (t : ℕ) → timeslot_of s.at t ≡ c → (history other : List X) (x : X) → length history ≡ t → length other ≡ t
    → own s.at c history ≡ own z.at c other → answer s history x ≡ answer z other x) where
  pub apart : (c : ℕ) (s z : Settings) (a b : List X) → AgreeOn c s z → SameOn s.at c a b → (t : ℕ) (d : X) → t < length a → timeslot_of s.at t ≡ c → answer s (take t a) (get_or a t d) ≡ answer z (take t b) (get_or b t d)
  apart c s z a b agree on t d within here =
      let la : length (take t a) ≡ t = length-take-le t a (omega arith) in
      let lb : length (take t b) ≡ t = length-take-le t b (omega (arith, on.long)) in
      let owns : own s.at c (take t a) ≡ own z.at c (take t b) = own_same s.at c (take t a) (take t b) (same_take s.at c t a b within on) ∙ ap (λ k. own k c (take t b)) agree.at in
      same c s z agree t here (take t a) (take t b) (get_or a t d) la lb owns ∙ ap (answer z (take t b)) (on.entries t d within here)
