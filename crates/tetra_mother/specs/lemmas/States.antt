-- The state form gives the mother word.
use Rattle.std.proofs.Common.{ℕ, ◌+◌, ◌-◌, ◌<◌, ◌≤◌, ◌*◌, ◌≡◌, Bool, true, false, cond, List, slice_index_or, nat_lt, arith, refl, ap, ◌∙◌}
use Rattle.std.proofs.lemmas.Bool.Decides.{nat_tests}
use Rattle.tetra_mother.specs.Mother.{bit_back, output, number, state_before, next_state, seen, edge}

-- the four bits of a state
state_of : Bool → Bool → Bool → Bool → ℕ
state_of a b c d = 8 * number a + 4 * number b + 2 * number c + number d

seen_state : (x a b c d : Bool)
    → (seen (state_of a b c d) x 1 ≡ a) × (seen (state_of a b c d) x 2 ≡ b)
    × (seen (state_of a b c d) x 3 ≡ c) × (seen (state_of a b c d) x 4 ≡ d)
unfolding state_of
seen_state x true true true true = (refl, refl, refl, refl)
seen_state x true true true false = (refl, refl, refl, refl)
seen_state x true true false true = (refl, refl, refl, refl)
seen_state x true true false false = (refl, refl, refl, refl)
seen_state x true false true true = (refl, refl, refl, refl)
seen_state x true false true false = (refl, refl, refl, refl)
seen_state x true false false true = (refl, refl, refl, refl)
seen_state x true false false false = (refl, refl, refl, refl)
seen_state x false true true true = (refl, refl, refl, refl)
seen_state x false true true false = (refl, refl, refl, refl)
seen_state x false true false true = (refl, refl, refl, refl)
seen_state x false true false false = (refl, refl, refl, refl)
seen_state x false false true true = (refl, refl, refl, refl)
seen_state x false false true false = (refl, refl, refl, refl)
seen_state x false false false true = (refl, refl, refl, refl)
seen_state x false false false false = (refl, refl, refl, refl)

-- a step's output in the state of its four bits before
pub edge_is_output : (g : ℕ → ℕ → Bool) (bits : List Bool) (k i s : ℕ) (b : Bool)
    → s ≡ state_before bits k → b ≡ bit_back bits k 0 → edge g s b i ≡ output g bits k i
unfolding edge output state_of state_before
edge_is_output g bits k i s b e f =
    let h = seen_state b (bit_back bits k 1) (bit_back bits k 2) (bit_back bits k 3) (bit_back bits k 4) in
    rw (e, h.0, h.1, h.2, h.3, f)

next_of : (x a b c d : Bool) → next_state (state_of a b c d) x ≡ state_of x a b c
unfolding state_of next_state
next_of true true true true true = refl
next_of true true true true false = refl
next_of true true true false true = refl
next_of true true true false false = refl
next_of true true false true true = refl
next_of true true false true false = refl
next_of true true false false true = refl
next_of true true false false false = refl
next_of true false true true true = refl
next_of true false true true false = refl
next_of true false true false true = refl
next_of true false true false false = refl
next_of true false false true true = refl
next_of true false false true false = refl
next_of true false false false true = refl
next_of true false false false false = refl
next_of false true true true true = refl
next_of false true true true false = refl
next_of false true true false true = refl
next_of false true true false false = refl
next_of false true false true true = refl
next_of false true false true false = refl
next_of false true false false true = refl
next_of false true false false false = refl
next_of false false true true true = refl
next_of false false true true false = refl
next_of false false true false true = refl
next_of false false true false false = refl
next_of false false false true true = refl
next_of false false false true false = refl
next_of false false false false true = refl
next_of false false false false false = refl

back_more : (bits : List Bool) (k j : ℕ) → bit_back bits (k + 1) (j + 1) ≡ bit_back bits k j
back_more bits k j =
    let e : k + 1 - (j + 1) - 1 ≡ k - j - 1 = omega arith in
    let t : nat_lt (j + 1) (k + 1) ≡ nat_lt j k = grind (arith, nat_tests) in
    ap (λ n. cond (nat_lt (j + 1) (k + 1)) (slice_index_or bits n false) false) e
    ∙ ap (λ x. cond x (slice_index_or bits (k - j - 1) false) false) t

-- the state before the next step
pub next_is_state : (bits : List Bool) (k : ℕ) (s : ℕ) (b : Bool)
    → s ≡ state_before bits k → b ≡ bit_back bits k 0 → next_state s b ≡ state_before bits (k + 1)
unfolding state_of state_before
next_is_state bits k s b e f =
    let n =
    next_of (bit_back bits k 0) (bit_back bits k 1) (bit_back bits k 2) (bit_back bits k 3) (bit_back bits k 4) in
    let b1 : bit_back bits (k + 1) 1 ≡ bit_back bits k 0 = back_more bits k 0 in
    let b2 : bit_back bits (k + 1) 2 ≡ bit_back bits k 1 = back_more bits k 1 in
    let b3 : bit_back bits (k + 1) 3 ≡ bit_back bits k 2 = back_more bits k 2 in
    let b4 : bit_back bits (k + 1) 4 ≡ bit_back bits k 3 = back_more bits k 3 in
    ap (λ x. next_state x b) e ∙ ap (λ x. next_state (state_before bits k) x) f ∙ n ∙ rw (b1, b2, b3, b4)

-- no bit is before the first step
pub state_first : (bits : List Bool) → state_before bits 1 ≡ 0
unfolding state_before
state_first bits = refl

number_small : (b : Bool) → number b ≤ 1
number_small true = omega arith
number_small false = omega arith

-- the states are 0 to 15
pub next_small : (s : ℕ) (b : Bool) → s < 16 → next_state s b < 16
unfolding next_state
next_small s b h = omega (arith, number_small b)

pub state_small : (bits : List Bool) (k : ℕ) → state_before bits k < 16
unfolding state_before
state_small bits k =
    omega (
      arith,
      number_small (bit_back bits k 1),
      number_small (bit_back bits k 2),
      number_small (bit_back bits k 3),
      number_small (bit_back bits k 4),
    )
