-- What the five rules show.
use Prim.Native.Nat.{suc}
use Rattle.std.proofs.Common.{◌≡◌, ℕ, ◌+◌, ◌-◌, ◌<◌, ◌≤◌, ◌⊎◌, inl, inr, Bool, true, false, List, [], ◌∷◌, replicate, length, drop, ℤ, arith, refl, sym, ◌∙◌, ap, subst, length-drop}
use Rattle.std.proofs.lemmas.List.{get_or-drop, append_cancel_right}
use Rattle.std.proofs.lemmas.Bool.{cases_lt}
use Rattle.tetra_bits.specs.Least.{Ranks}
use Rattle.tetra_bits.specs.Order.{StandsBefore, bit_at}
use Rattle.tetra_bits.specs.Readings.{entry}
use Rattle.tetra_bits.specs.lemmas.Best.{only_best}
use Rattle.tetra_mother.specs.Mother.{next_state}
use Rattle.tetra_puncture.specs.Best.{IsFirstLeast, message_metric, best_of}
use Rattle.tetra_puncture.specs.Certified.{IsCertified, Fits, AcceptedIsCertified}
use Rattle.tetra_puncture.specs.Plan.{CodePlan, IsMessage, tailed}
use Rattle.tetra_puncture.specs.Rules.{Holds, IsAccepted}
use Rattle.tetra_puncture.specs.Spread.{spread_values}
use Rattle.tetra_puncture.specs.Trellis.{cost_from, IsAllowed, IsContinuation, IsCostToGo, over_branch, bit_taken, state_passed}
use Rattle.tetra_puncture.specs.declared.rule.Rule.TheVariants.{End, Edge0, Edge1, Path, Tie}
use Rattle.tetra_puncture.specs.lemmas.Beats.{OnPath, Beats, entry_on_path, beats_all}
use Rattle.tetra_puncture.specs.lemmas.Paths.{metric_is_cost}
use Rattle.tetra_puncture.specs.lemmas.Potentials.{IsPotential, entry_below}
use Rattle.tetra_puncture.specs.lemmas.Steps.{bit_taken_is, bit_taken_tail, length-tailed, state_passed_first, state_passed_more, state_passed_small}

accepted_edge : (p : CodePlan) (wide : List ℤ) (m : List Bool) (table : List (List ℕ)) → IsAccepted p wide m table →
    (t s : ℕ) (b : Bool) → t < p.steps → s < 16 → IsAllowed p t b → entry table t s ≤ over_branch p wide table t s b
unfolding IsAccepted Holds IsAllowed
accepted_edge p wide m table ok t s false inside small allowed = ok t s Edge0 (omega arith) small inside
accepted_edge p wide m table ok t s true inside small allowed = ok t s Edge1 (omega arith) small (allowed refl)

accepted_potential : (p : CodePlan) (wide : List ℤ) (m : List Bool) (table : List (List ℕ)) → IsAccepted p wide m table → IsPotential p wide table
unfolding IsAccepted Holds
accepted_potential p wide m table ok = record {
  end = λ s small. ok p.steps s End (omega arith) small refl;
  edge = accepted_edge p wide m table ok;
}

-- the rules along the end of the message's bits from step t on
along : (p : CodePlan) (wide : List ℤ) (m : List Bool) (table : List (List ℕ)) → IsAccepted p wide m table →
    (bits : List Bool) (t : ℕ) → t + length bits ≡ p.steps → ((k : ℕ) → bit_at bits k ≡ bit_taken m (t + k)) →
    OnPath p wide table t (state_passed m t) bits
unfolding IsAccepted Holds OnPath
along p wide m table ok [] t long same = tt
along p wide m table ok (b ∷ bits) t long same =
    let s : ℕ = state_passed m t in
    let small : s < 16 = state_passed_small m t in
    let here : bit_taken m t ≡ b = let e : t ≡ t + 0 = omega arith in ap (bit_taken m) e ∙ sym (same 0) in
    let next : state_passed m (t + 1) ≡ next_state s b = state_passed_more m t ∙ ap (next_state s) here in
    let rest : OnPath p wide table (t + 1) (state_passed m (t + 1)) bits =
    along p wide m table ok bits (t + 1) (omega arith) (λ k. let e : t + suc k ≡ t + 1 + k = omega arith in same (suc k) ∙ ap (bit_taken m) e) in
    let P : ℕ → Type 0 = λ u. OnPath p wide table (t + 1) u bits in (
      ok t s Path (omega arith) small (omega arith) refl ∙ ap (over_branch p wide table t s) here,
      (λ one. ok t s Tie (omega arith) small (omega arith) refl (here ∙ one)),
      subst P next rest,
    )

-- the bits of a message from step t on are a continuation
message_continues : (p : CodePlan) (m : List Bool) → IsMessage p m → (bits : List Bool) (t : ℕ) → t + length bits ≡ p.steps →
    ((k : ℕ) → bit_at bits k ≡ bit_taken m (t + k)) → IsContinuation p t bits
message_continues p m is bits t long same = record {
  to_the_end = long;
  zeros = λ k h. same k ∙ bit_taken_tail m (t + k) (omega arith);
}

taken_behind : (m : List Bool) (t k : ℕ) → bit_at (drop t (tailed m)) k ≡ bit_taken m (t + k)
unfolding bit_taken
taken_behind m t k = get_or-drop t (tailed m) k false

taken_all : (m : List Bool) (k : ℕ) → bit_at (tailed m) k ≡ bit_taken m (0 + k)
unfolding bit_taken
taken_all m k = let e : k ≡ 0 + k = omega arith in ap (bit_at (tailed m)) e

pub whole_continues : (p : CodePlan) (m : List Bool) → IsMessage p m → IsContinuation p 0 (tailed m)
whole_continues p m is = message_continues p m is (tailed m) 0 (omega (arith, length-tailed m)) (taken_all m)

same_without_tail : (a b : List Bool) → tailed a ≡ tailed b → a ≡ b
unfolding tailed
same_without_tail a b e = append_cancel_right a b (replicate 4 false) e

tailed_at : (m : List Bool) (k : ℕ) → bit_at (tailed m) k ≡ bit_at m k
unfolding bit_taken
tailed_at m k = bit_taken_is m k

-- the tail bits aside, the order is that of the messages
stands_without_tail : (a b : List Bool) → length a ≡ length b → StandsBefore (tailed a) (tailed b) → StandsBefore a b
stands_without_tail a b long h =
    let one : bit_at b h.place ≡ true = sym (tailed_at b h.place) ∙ h.one_there in
    record {
      place = h.place;
      within = elim (cases_lt h.place (length a)) [
        | inl lt ↦ lt
        | inr le ↦ let zero : bit_taken b h.place ≡ false = bit_taken_tail b h.place (omega arith) in absurd (clash (bit_taken b h.place) zero (bit_taken_is b h.place ∙ one))
      ];
      same_below = λ k lt. sym (tailed_at a k) ∙ h.same_below k lt ∙ tailed_at b k;
      zero_here = sym (tailed_at a h.place) ∙ h.zero_here;
      one_there = one;
    }
  where
    clash : (b : Bool) → b ≡ false → b ≡ true → ⊥
    clash b e f = cc

module _ (p : CodePlan) (r : List ℤ) (m : List Bool) (table : List (List ℕ)) (fits : Fits p r m) (ok : IsAccepted p (spread_values p r) m table) where
  pot : IsPotential p (spread_values p r) table
  pot = accepted_potential p (spread_values p r) m table ok

  start : state_passed m 0 ≡ 0
  start = state_passed_first m

  on : OnPath p (spread_values p r) table 0 0 (tailed m)
  on =
      let P : ℕ → Type 0 = λ u. OnPath p (spread_values p r) table 0 u (tailed m) in
      subst P start (along p (spread_values p r) m table ok (tailed m) 0 (omega (arith, length-tailed m, fits.message)) (taken_all m))

  metric_is : entry table 0 0 ≡ message_metric p r m
  metric_is =
      entry_on_path p (spread_values p r) table pot (tailed m) 0 0 (omega arith) (whole_continues p m fits.message) on
      ∙ sym (metric_is_cost p r m fits.rise fits.lie fits.values fits.message)

  below : (t s n : ℕ) → t ≤ p.steps → s < 16 → IsCostToGo p (spread_values p r) t s n → entry table t s ≤ n
  below t s n within small go =
      let P : ℕ → Type 0 = λ u. entry table t s ≤ u in
      subst P go.reached.2 (entry_below p (spread_values p r) table pot go.reached.0 t s small go.reached.1)

  on_path : (t : ℕ) → t ≤ p.steps → IsCostToGo p (spread_values p r) t (state_passed m t) (entry table t (state_passed m t))
  on_path t within =
      let wide : List ℤ = spread_values p r in
      let rest : List Bool = drop t (tailed m) in
      let long : t + length rest ≡ p.steps = omega (arith, length-tailed m, length-drop t (tailed m), fits.message) in
      let c : IsContinuation p t rest = message_continues p m fits.message rest t long (taken_behind m t) in
      let small : state_passed m t < 16 = state_passed_small m t in
      record {
        reached = (rest, c, sym (entry_on_path p wide table pot rest t (state_passed m t) small c (along p wide m table ok rest t long (taken_behind m t))));
        least = λ bits d. entry_below p wide table pot bits t (state_passed m t) small d;
      }

  pick : (other : List Bool) → IsMessage p other → Beats (entry table 0 0) (cost_from p (spread_values p r) 0 0 (tailed other)) (tailed m) (tailed other) →
      (m ≡ other) ⊎ Ranks (message_metric p r) m other
  unfolding Beats Ranks
  pick other is (inl e) = inl (same_without_tail m other e)
  pick other is (inr (inl h)) = inr (inl (omega (arith, h, metric_is, metric_is_cost p r other fits.rise fits.lie fits.values is)))
  pick other is (inr (inr h)) =
      inr (inr (omega (arith, h.0, metric_is, metric_is_cost p r other fits.rise fits.lie fits.values is), stands_without_tail m other (omega (arith, fits.message)) h.1))

  beats : (other : List Bool) → length other ≡ p.steps - 4 → (m ≡ other) ⊎ Ranks (message_metric p r) m other
  beats other long =
      let is : IsMessage p other = omega (arith, fits.message) in
      pick other is (beats_all p (spread_values p r) table pot (tailed m) (tailed other) 0 0 (omega arith) (whole_continues p m fits.message) (whole_continues p other is) on)

  first_least : IsFirstLeast p r m
  first_least = record { has_length = omega (arith, fits.message); beats = beats }

  pub certified : IsCertified p r m table
  unfolding best_of
  certified = record {
    first_least = first_least;
    is_best = only_best (p.steps - 4) (message_metric p r) m first_least;
    metric_is = metric_is;
    below = below;
    on_path = on_path;
  }

pub accepted_is_certified : AcceptedIsCertified
accepted_is_certified p r m table fits ok = certified p r m table fits ok
