-- The message that follows the marks, written in place.
use Rattle.std.proofs.Common.{◌≡◌, ℕ, ◌+◌, ◌*◌, ◌/◌, ◌%◌, ◌<◌, ◌^◌, Bool, true, false, List, length, get_or, eqb, take, set, arith, refl, sym, subst, ap, ◌∙◌}
use Rattle.std.proofs.lemmas.List.{take_more_set}
use mir.Val.{bool_byte}
use Rattle.tetra_mother.specs.Mother.{next_state, number}
use Rattle.tetra_puncture.specs.Butterflies.{lane_of, mark_at, IsMarked}
use Rattle.tetra_puncture.specs.Trellis.{state_passed}
use Rattle.tetra_puncture.specs.lemmas.Marks.{first_lane, next_lane, lane_small}
use Rattle.tetra_puncture.specs.lemmas.Rows.{TracedTo, trace_start, trace_step}

pub byte_is : (b : Bool) → bool_byte b ≡ number b
byte_is true = refl
byte_is false = refl

-- the bit that the marks choose at a step and a state
pub choice : List ℕ → ℕ → ℕ → Bool
choice marks t s = eqb (mark_at (get_or marks t 0) s) 0

-- the bits before step t are chosen, and lead to the state of this lane
pub record Followed (marks : List ℕ) (message : List Bool) (lane t : ℕ) : Type 0 where
  pub state : ℕ
  pub lane_is : lane ≡ lane_of state
  pub traced : TracedTo (choice marks) (take t message) state t

pub followed_start : (marks : List ℕ) (message : List Bool) → Followed marks message 0 0
followed_start marks message = record { state = 0; lane_is = first_lane; traced = trace_start (choice marks) }

module _ (marks : List ℕ) (message : List Bool) (lane t : ℕ) (done : Followed marks message lane t) where
  pub lane_fits : lane < 16
  lane_fits = let small : lane_of done.state < 16 = lane_small done.state done.traced.small in omega (arith, done.lane_is)

  pub followed_step : (bit : Bool) (next : ℕ) → t < length message → bit ≡ eqb (get_or marks t 0 / 2 ^ lane % 2) 0 →
      next ≡ lane % 8 / 2 + 8 * (lane % 2) + 4 * number bit → Followed marks (set message t bit) next (t + 1)
  unfolding choice mark_at
  followed_step bit next inside is moved =
      let chosen : bit ≡ choice marks t done.state = is ∙ ap (λ k. eqb (get_or marks t 0 / 2 ^ k % 2) 0) done.lane_is in
      record {
        state = next_state done.state bit;
        lane_is = moved ∙ next_lane lane done.state bit done.traced.small done.lane_is;
        traced = subst (λ m. TracedTo (choice marks) m (next_state done.state bit) (t + 1)) (sym (take_more_set message t bit inside))
            (trace_step (choice marks) (take t message) done.state t bit done.traced chosen);
      }

  pub followed_all : t ≡ length message → take t message ≡ message → IsMarked marks message
  unfolding IsMarked choice
  followed_all at_end whole = λ k h. subst (λ m. (k : ℕ) → k < length m → get_or m k false ≡ choice marks k (state_passed m k)) whole done.traced.traced k h
