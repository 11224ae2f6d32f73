-- What rows that are made from the end backwards show, and a message that is traced in them.
use Rattle.std.proofs.Common.{◌≡◌, ℕ, ◌+◌, ◌*◌, ◌<◌, ◌≤◌, Bool, List, [], length, ℤ, arith}
use Rattle.tetra_bits.specs.Readings.{entry, HasRows}
use Rattle.tetra_bits.specs.Soft.{AllWithin}
use Rattle.tetra_puncture.specs.Best.{best_of, message_metric}
use Rattle.tetra_puncture.specs.Certified.{Fits, IsCertified, CostToGoIsOne}
use Rattle.tetra_puncture.specs.Decoding.{IsBackward, IsTraced}
use Rattle.tetra_puncture.specs.Plan.{CodePlan}
use Rattle.tetra_puncture.specs.Rules.{IsAccepted}
use Rattle.tetra_puncture.specs.Spread.{spread_values}
use Rattle.tetra_puncture.specs.ToGo.{potentials_of}
use Rattle.tetra_puncture.specs.Trellis.{AllCostsToGo}
use Rattle.tetra_puncture.specs.lemmas.Certificates.{certified}
use Rattle.tetra_puncture.specs.lemmas.Rows.{traced_accepted, backward_is_cost_to_go}
use Rattle.tetra_puncture.specs.lemmas.Sent.{cost_to_go_within}
use Rattle.tetra_puncture.specs.lemmas.ToGo.{table_is_potentials}

one_cost : CostToGoIsOne
one_cost p wide t s n n' h h' =
    let a : n ≤ n' = omega (arith, h.least h'.reached.0 h'.reached.1, h'.reached.2) in
    let b : n' ≤ n = omega (arith, h'.least h.reached.0 h.reached.1, h.reached.2) in
    omega arith

pub record IsSolved (p : CodePlan) (r : List ℤ) (m : List Bool) (table : List (List ℕ)) : Type 0 where
  pub accepted : IsAccepted p (spread_values p r) m table
  pub message : m ≡ best_of p r
  pub metric : entry table 0 0 ≡ message_metric p r m
  pub costs : AllCostsToGo p (spread_values p r) table
  pub exact : table ≡ potentials_of p r
  pub within : (top t s : ℕ) → AllWithin top r → t ≤ p.steps → s < 16 → entry table t s ≤ top * p.sent

pub solved : (p : CodePlan) (r : List ℤ) (m : List Bool) (table : List (List ℕ)) → Fits p r m →
    length table ≡ p.steps + 1 → HasRows table →
    IsBackward p (spread_values p r) table → IsTraced p (spread_values p r) table m → IsSolved p r m table
unfolding AllCostsToGo
solved p r m table fits rows states back traced =
    let wide : List ℤ = spread_values p r in
    let accepted : IsAccepted p wide m table = traced_accepted p wide table back m fits.message traced in
    let shown : IsCertified p r m table = certified p r m table fits accepted in
    let costs : AllCostsToGo p wide table = backward_is_cost_to_go p wide table back in
    record {
      accepted = accepted;
      message = shown.is_best;
      metric = shown.metric_is;
      costs = costs;
      exact = table_is_potentials p r table one_cost rows (λ t inside. states t [] (omega arith)) costs;
      within = λ top t s all inside h. cost_to_go_within top p r t s (entry table t s) fits.rise fits.lie all (costs t s inside h);
    }
