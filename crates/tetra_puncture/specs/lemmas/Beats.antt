-- Bits that meet the path and tie rules beat all others.
use Rattle.std.proofs.Common.{◌≡◌, ℕ, ◌+◌, ◌<◌, ◌≤◌, ◌⊎◌, inl, inr, Bool, true, false, List, [], ◌∷◌, ℤ, arith, refl, sym, ◌∙◌, ap, subst}
use Rattle.std.proofs.Math.Nat.{eq-or-lt_of_le}
use Rattle.tetra_bits.specs.Order.{StandsBefore}
use Rattle.tetra_bits.specs.Readings.{entry}
use Rattle.tetra_bits.specs.lemmas.Best.{before_more, zero_before_one}
use Rattle.tetra_mother.specs.Mother.{next_state}
use Rattle.tetra_mother.specs.lemmas.States.{next_small}
use Rattle.tetra_puncture.specs.Plan.{CodePlan}
use Rattle.tetra_puncture.specs.Trellis.{step_cost, cost_from, IsContinuation, over_branch}
use Rattle.tetra_puncture.specs.lemmas.Steps.{behind_first}
use Rattle.tetra_puncture.specs.lemmas.Potentials.{IsPotential, entry_below}

-- the path and tie rules along bits taken from state s before step t
unfoldable pub OnPath : CodePlan → List ℤ → List (List ℕ) → ℕ → ℕ → List Bool → Type 0
OnPath p wide table t s [] = Unit {0}
OnPath p wide table t s (b ∷ bits) =
    (entry table t s ≡ over_branch p wide table t s b)
    × (b ≡ true → entry table t s < over_branch p wide table t s false)
    × OnPath p wide table (t + 1) (next_state s b) bits

-- the entry at such bits is their cost
pub entry_on_path : (p : CodePlan) (wide : List ℤ) (table : List (List ℕ)) → IsPotential p wide table →
    (bits : List Bool) (t s : ℕ) → s < 16 → IsContinuation p t bits → OnPath p wide table t s bits → entry table t s ≡ cost_from p wide t s bits
unfolding cost_from over_branch OnPath
entry_on_path p wide table pot [] t s small c on =
    let at_end : t ≡ p.steps = omega (arith, c.to_the_end) in
    ap (λ u. entry table u s) at_end ∙ pot.end s small
entry_on_path p wide table pot (b ∷ bits) t s small c on =
    let here : entry table t s ≡ step_cost p wide t s b + entry table (t + 1) (next_state s b) = on.0 in
    let rest : entry table (t + 1) (next_state s b) ≡ cost_from p wide (t + 1) (next_state s b) bits =
    entry_on_path p wide table pot bits (t + 1) (next_state s b) (next_small s b small) (behind_first p t b bits c) on.2 in
    omega arith

-- how bits compare with others: the same, of smaller cost, or of the same cost and before them
unfoldable pub Beats : ℕ → ℕ → List Bool → List Bool → Type 0
Beats n other_n bits others = (bits ≡ others) ⊎ ((n < other_n) ⊎ ((n ≡ other_n) × StandsBefore bits others))

behind_same : (b : Bool) (m n k : ℕ) (x y : List Bool) → Beats m n x y → Beats (k + m) (k + n) (b ∷ x) (b ∷ y)
unfolding Beats
behind_same b m n k x y (inl e) = inl (ap (λ l. b ∷ l) e)
behind_same b m n k x y (inr (inl h)) = inr (inl (omega arith))
behind_same b m n k x y (inr (inr h)) = inr (inr (ap (λ u. k + u) h.0, before_more b x y h.1))

by_zero : (m n : ℕ) (x y : List Bool) → m ≤ n → Beats m n (false ∷ x) (true ∷ y)
unfolding Beats
by_zero m n x y le = inr (at (eq-or-lt_of_le le))
  where
    at : (m ≡ n) ⊎ (m < n) → (m < n) ⊎ ((m ≡ n) × StandsBefore (false ∷ x) (true ∷ y))
    at (inl e) = inr (e, zero_before_one x y)
    at (inr h) = inl h

same_bit : (p : CodePlan) (wide : List ℤ) (table : List (List ℕ)) (b : Bool) (bits others : List Bool) (t s : ℕ) →
    entry table t s ≡ over_branch p wide table t s b →
    Beats (entry table (t + 1) (next_state s b)) (cost_from p wide (t + 1) (next_state s b) others) bits others →
    Beats (entry table t s) (cost_from p wide t s (b ∷ others)) (b ∷ bits) (b ∷ others)
unfolding cost_from over_branch
same_bit p wide table b bits others t s here h =
    let P : ℕ → Type 0 = λ n. Beats n (step_cost p wide t s b + cost_from p wide (t + 1) (next_state s b) others) (b ∷ bits) (b ∷ others) in
    subst P (sym here) (behind_same b (entry table (t + 1) (next_state s b)) (cost_from p wide (t + 1) (next_state s b) others) (step_cost p wide t s b) bits others h)

-- bits on the path beat all other continuations
pub beats_all : (p : CodePlan) (wide : List ℤ) (table : List (List ℕ)) → IsPotential p wide table →
    (bits others : List Bool) (t s : ℕ) → s < 16 → IsContinuation p t bits → IsContinuation p t others →
    OnPath p wide table t s bits → Beats (entry table t s) (cost_from p wide t s others) bits others
unfolding cost_from over_branch OnPath Beats
beats_all p wide table pot [] [] t s small c d on = inl refl
beats_all p wide table pot [] (b ∷ others) t s small c d on = absurd (omega (arith, c.to_the_end, d.to_the_end))
beats_all p wide table pot (b ∷ bits) [] t s small c d on = absurd (omega (arith, c.to_the_end, d.to_the_end))
beats_all p wide table pot (false ∷ bits) (false ∷ others) t s small c d on =
    same_bit p wide table false bits others t s on.0
    (beats_all p wide table pot bits others (t + 1) (next_state s false) (next_small s false small) (behind_first p t false bits c) (behind_first p t false others d) on.2)
beats_all p wide table pot (true ∷ bits) (true ∷ others) t s small c d on =
    same_bit p wide table true bits others t s on.0
    (beats_all p wide table pot bits others (t + 1) (next_state s true) (next_small s true small) (behind_first p t true bits c) (behind_first p t true others d) on.2)
beats_all p wide table pot (false ∷ bits) (true ∷ others) t s small c d on =
    by_zero (entry table t s) (cost_from p wide t s (true ∷ others)) bits others (entry_below p wide table pot (true ∷ others) t s small d)
beats_all p wide table pot (true ∷ bits) (false ∷ others) t s small c d on =
    let tie : entry table t s < step_cost p wide t s false + entry table (t + 1) (next_state s false) = on.1 refl in
    let rest : entry table (t + 1) (next_state s false) ≤ cost_from p wide (t + 1) (next_state s false) others =
    entry_below p wide table pot others (t + 1) (next_state s false) (next_small s false small) (behind_first p t false others d) in
    inr (inl (omega arith))
