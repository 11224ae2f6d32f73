-- The lanes of the states that a message passes.
use Rattle.std.proofs.Common.{◌≡◌, ℕ, ◌+◌, ◌*◌, ◌/◌, ◌%◌, ◌<◌, Bool, true, false, List, arith, refl, sym, ap, ◌∙◌}
use mir.Val.{bool_byte}
use Rattle.tetra_bits.specs.Order.{bit_at}
use Rattle.tetra_mother.specs.Mother.{next_state, number}
use Rattle.tetra_mother.specs.lemmas.States.{state_small}
use Rattle.tetra_puncture.specs.Butterflies.{lane_of}
use Rattle.tetra_puncture.specs.Plan.{tailed}
use Rattle.tetra_puncture.specs.Trellis.{state_passed}
use Rattle.tetra_puncture.specs.lemmas.Marks.{first_lane, next_lane, lane_small}
use Rattle.tetra_puncture.specs.lemmas.Steps.{bit_taken_is, state_passed_first, state_passed_more}

byte_is : (b : Bool) → bool_byte b ≡ number b
byte_is true = refl
byte_is false = refl

passed_small : (m : List Bool) (t : ℕ) → state_passed m t < 16
unfolding state_passed
passed_small m t = state_small (tailed m) (t + 1)

pub walk_start : (m : List Bool) → 0 ≡ lane_of (state_passed m 0)
walk_start m = first_lane ∙ ap lane_of (sym (state_passed_first m))

module _ (m : List Bool) (t lane : ℕ) where
  pub walk_small : lane ≡ lane_of (state_passed m t) → lane < 16
  walk_small is = let small : lane_of (state_passed m t) < 16 = lane_small (state_passed m t) (passed_small m t) in omega arith

  pub walk_step : (bit : Bool) (byte : ℕ) → lane ≡ lane_of (state_passed m t) → bit ≡ bit_at m t → byte ≡ bool_byte bit →
      lane % 8 / 2 + 8 * (lane % 2) + 4 * byte ≡ lane_of (state_passed m (t + 1))
  walk_step bit byte is b e =
      ap (λ n. lane % 8 / 2 + 8 * (lane % 2) + 4 * n) (e ∙ byte_is bit)
      ∙ (next_lane lane (state_passed m t) bit (passed_small m t) is
      ∙ (ap (λ b. lane_of (next_state (state_passed m t) b)) (b ∙ sym (bit_taken_is m t)) ∙ ap lane_of (sym (state_passed_more m t))))
