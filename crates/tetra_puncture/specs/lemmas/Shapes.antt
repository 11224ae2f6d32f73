-- The sizes and the bounds of the potentials of received values, and of their first-least message.
use Rattle.std.proofs.Common.{◌≡◌, ℕ, ◌+◌, ◌-◌, ◌*◌, ◌<◌, ◌≤◌, List, [], length, get_or, arith, ap, ◌∙◌}
use Rattle.std.specs.Prelude.{ℤ}
use Rattle.tetra_bits.specs.Numbered.{length-numbered, get_or-numbered}
use Rattle.tetra_bits.specs.Readings.{entry}
use Rattle.tetra_bits.specs.Soft.{AllWithin}
use Rattle.tetra_bits.specs.lemmas.Best.{best_is_first}
use Rattle.tetra_puncture.specs.Best.{best_of, message_metric}
use Rattle.tetra_puncture.specs.Plan.{CodePlan, IsMessage, HasSizes, PlacesRise, PlacesLie}
use Rattle.tetra_puncture.specs.Spread.{spread_values}
use Rattle.tetra_puncture.specs.ToGo.{cost_to_go, potential, potential_row, potentials_of}
use Rattle.tetra_puncture.specs.lemmas.Sent.{cost_to_go_within}
use Rattle.tetra_puncture.specs.lemmas.ToGo.{cost_to_go_is_found}

pub length-potentials_of : (p : CodePlan) (r : List ℤ) → length (potentials_of p r) ≡ p.steps + 1
unfolding potentials_of
length-potentials_of p r = length-numbered (potential_row p (spread_values p r)) (p.steps + 1)

pub length-potential_row : (p : CodePlan) (wide : List ℤ) (i : ℕ) → length (potential_row p wide i) ≡ 16
unfolding potential_row
length-potential_row p wide i = length-numbered (potential p wide i) 16

-- a row of the potentials
pub row_of_potentials : (p : CodePlan) (r : List ℤ) (t : ℕ) → t ≤ p.steps → get_or (potentials_of p r) t [] ≡ potential_row p (spread_values p r) (t + 1)
unfolding potentials_of
row_of_potentials p r t h = get_or-numbered (potential_row p (spread_values p r)) (p.steps + 1) t [] (omega arith)

pub length-row_of_potentials : (p : CodePlan) (r : List ℤ) (t : ℕ) → t ≤ p.steps → length (get_or (potentials_of p r) t []) ≡ 16
length-row_of_potentials p r t h = ap length (row_of_potentials p r t h) ∙ length-potential_row p (spread_values p r) (t + 1)

-- an entry of the potentials
pub entry_of_potentials : (p : CodePlan) (r : List ℤ) (t s : ℕ) → t ≤ p.steps → s < 16 → entry (potentials_of p r) t s ≡ cost_to_go p (spread_values p r) t s
unfolding entry potential_row potential
entry_of_potentials p r t s h g =
    let back_t : t + 1 - 1 ≡ t = omega arith in
    let back_s : s + 1 - 1 ≡ s = omega arith in
    ap (λ row. get_or row s 0) (row_of_potentials p r t h) ∙ get_or-numbered (potential p (spread_values p r) (t + 1)) 16 s 0 g
    ∙ ap (λ k. cost_to_go p (spread_values p r) k (s + 1 - 1)) back_t ∙ ap (cost_to_go p (spread_values p r) t) back_s

-- a potential is at most top for each sent bit, where the values are from -top to top
pub potential_within : (top : ℕ) (p : CodePlan) (r : List ℤ) (t s : ℕ) → PlacesRise p → PlacesLie p → AllWithin top r → t ≤ p.steps → s < 16 → entry (potentials_of p r) t s ≤ top * p.sent
potential_within top p r t s rise lie all h g =
    let e : entry (potentials_of p r) t s ≡ cost_to_go p (spread_values p r) t s = entry_of_potentials p r t s h g in
    let b : cost_to_go p (spread_values p r) t s ≤ top * p.sent = cost_to_go_within top p r t s (cost_to_go p (spread_values p r) t s) rise lie all (cost_to_go_is_found p (spread_values p r) t s h) in
    omega arith

-- the first-least message has a bit for each step but the last four
pub length-best_of : (p : CodePlan) (r : List ℤ) → length (best_of p r) ≡ p.steps - 4
unfolding best_of
length-best_of p r = let first = best_is_first (p.steps - 4) (message_metric p r) in first.has_length

pub best_is_message : (p : CodePlan) (r : List ℤ) → HasSizes p → IsMessage p (best_of p r)
best_is_message p r sizes = let l : length (best_of p r) ≡ p.steps - 4 = length-best_of p r in omega (arith, sizes.few_steps)
