-- The walk through all messages.
use Prim.Native.Nat.{zero, suc}
use Rattle.std.proofs.Common.{w16, ◌≡◌, ℕ, ◌+◌, ◌-◌, ◌*◌, ◌/◌, ◌%◌, ◌^◌, ◌<◌, ◌≤◌, inl, inr, arith, refl, ap, sym, ◌∙◌}
use Rattle.std.proofs.lemmas.Bool.{cases_lt}
use Rattle.std.proofs.lemmas.Nat.{xor_block, xor_comm, xor_lt}
use Rattle.std.proofs.lemmas.Nat.Bits.{bit_at-suc, bit_at_lowest, bit_at_above, bit_at-trailing_zeros}
use Rattle.std.proofs.Math.Nat.{pow-succ'}
use Rattle.std.proofs.Math.Pow.{pow-lt}
use Rattle.std.specs.Int.{bit_at, trailing_zeros}
use Rattle.std.specs.Int.Bits.{bit_xor, xor_assoc, xor_self, xor_zero_l, xor_zero_r}
use Rattle.tetra_rm.specs.Search.{IsLeastBelow}
use Rattle.tetra_rm.specs.Turning.{walk_message}

-- the message by one digit more
walk_digit : (x b : ℕ) → b < 2 → walk_message (x * 2 + b) ≡ walk_message x * 2 + bit_xor b (x % 2)
unfolding walk_message
walk_digit x b h =
    let half : (x * 2 + b) / 2 ≡ x = omega arith in
    let parts : x ≡ x / 2 * 2 ^ 1 + x % 2 = omega arith in
    ap (bit_xor (x * 2 + b)) (half ∙ parts) ∙ xor_block 1 x (x / 2) b (x % 2) h (omega arith)

other_parity : (y : ℕ) → bit_xor 0 ((y + 1) % 2) ≡ bit_xor (bit_xor 1 (y % 2)) 0
other_parity y = elim (cases_lt (y % 2) 1) [
  | inl even ↦
      let a : y % 2 ≡ 0 = omega arith in
      let b : (y + 1) % 2 ≡ 1 = omega arith in
      rw (a, b) refl
  | inr odd ↦
      let a : y % 2 ≡ 1 = omega arith in
      let b : (y + 1) % 2 ≡ 0 = omega arith in
      rw (a, b) refl
]

-- an even step, by the step of half its number
step_of_half : (t n y : ℕ) → n ≡ y * 2 + 1 → n + 1 ≡ (y + 1) * 2 + 0 → walk_message (y + 1) ≡ bit_xor (walk_message y) (2 ^ t) → walk_message (n + 1) ≡ bit_xor (walk_message n) (2 ^ suc t)
step_of_half t n y odd even half =
    let old : walk_message n ≡ walk_message y * 2 + bit_xor 1 (y % 2) = ap walk_message odd ∙ walk_digit y 1 (omega arith) in
    let new : walk_message (n + 1) ≡ walk_message (y + 1) * 2 + bit_xor 0 ((y + 1) % 2) = ap walk_message even ∙ walk_digit (y + 1) 0 (omega arith) in
    let small : bit_xor 1 (y % 2) < 2 ^ 1 = xor_lt 1 1 (y % 2) (omega arith) (omega arith) in
    let turned : bit_xor (walk_message y * 2 ^ 1 + bit_xor 1 (y % 2)) (2 ^ t * 2 ^ 1 + 0) ≡ bit_xor (walk_message y) (2 ^ t) * 2 ^ 1 + bit_xor (bit_xor 1 (y % 2)) 0 = xor_block 1 (walk_message y) (2 ^ t) (bit_xor 1 (y % 2)) 0 small (omega arith) in
    let power : 2 ^ t * 2 ^ 1 + 0 ≡ 2 ^ suc t = sym (pow-succ' 2 t ∙ omega arith) in
    new
    ∙ ap (λ b. walk_message (y + 1) * 2 + b) (other_parity y)
    ∙ ap (λ w. w * 2 + bit_xor (bit_xor 1 (y % 2)) 0) half
    ∙ sym turned
    ∙ ap (bit_xor (walk_message y * 2 ^ 1 + bit_xor 1 (y % 2))) power
    ∙ ap (λ w. bit_xor w (2 ^ suc t)) (sym old)

-- a step turns the bit at the lowest place where the number of the step has 1
pub walk_step : (t n : ℕ) → bit_at (n + 1) t ≡ 1 → ((i : ℕ) → i < t → bit_at (n + 1) i ≡ 0) → walk_message (n + 1) ≡ bit_xor (walk_message n) (2 ^ t)
walk_step zero n one none =
    let odd : (n + 1) % 2 ≡ 1 = sym (bit_at_lowest (n + 1)) ∙ one in
    let before : n ≡ n / 2 * 2 + 0 = omega arith in
    let here : n + 1 ≡ n / 2 * 2 + 1 = omega arith in
    let old : walk_message n ≡ walk_message (n / 2) * 2 + bit_xor 0 (n / 2 % 2) = ap walk_message before ∙ walk_digit (n / 2) 0 (omega arith) in
    let new : walk_message (n + 1) ≡ walk_message (n / 2) * 2 + bit_xor 1 (n / 2 % 2) = ap walk_message here ∙ walk_digit (n / 2) 1 (omega arith) in
    let small : n / 2 % 2 < 2 ^ 1 = omega arith in
    let turned : bit_xor (walk_message (n / 2) * 2 ^ 1 + n / 2 % 2) (0 * 2 ^ 1 + 1) ≡ bit_xor (walk_message (n / 2)) 0 * 2 ^ 1 + bit_xor (n / 2 % 2) 1 = xor_block 1 (walk_message (n / 2)) 0 (n / 2 % 2) 1 small (omega arith) in
    new
    ∙ ap (λ w. w * 2 + bit_xor 1 (n / 2 % 2)) (sym (xor_zero_r (walk_message (n / 2))))
    ∙ ap (λ b. bit_xor (walk_message (n / 2)) 0 * 2 + b) (xor_comm 1 (n / 2 % 2))
    ∙ sym turned
    ∙ ap (λ w. bit_xor w 1) (ap (λ b. walk_message (n / 2) * 2 + b) (sym (xor_zero_l (n / 2 % 2))) ∙ sym old)
walk_step (suc t) n one none =
    let even : (n + 1) % 2 ≡ 0 = sym (bit_at_lowest (n + 1)) ∙ none 0 (omega arith) in
    step_of_half t n ((n + 1) / 2 - 1) (omega arith) (omega arith)
    (walk_step t ((n + 1) / 2 - 1)
    (let half : (n + 1) / 2 - 1 + 1 ≡ (n + 1) / 2 = omega arith in ap (λ x. bit_at x t) half ∙ sym (bit_at-suc (n + 1) t) ∙ one)
    (λ i h. let half : (n + 1) / 2 - 1 + 1 ≡ (n + 1) / 2 = omega arith in ap (λ x. bit_at x i) half ∙ sym (bit_at-suc (n + 1) i) ∙ none (suc i) (omega arith)))

pub walk_begins : walk_message 0 ≡ 0
unfolding walk_message
walk_begins = refl

-- each message has its step
record HasStep (n m : ℕ) : Type 0 where
  step : ℕ
  below : step < 2 ^ n
  leads : walk_message step ≡ m

digit_back : (c d : ℕ) → bit_xor (bit_xor c d) d ≡ c
digit_back c d = xor_assoc c d d ∙ ap (bit_xor c) (xor_self d) ∙ xor_zero_r c

step_of : (n m : ℕ) → m < 2 ^ n → HasStep n m
step_of zero m h = record { step = 0; below = omega arith; leads = let none : m ≡ 0 = omega arith in walk_begins ∙ sym none }
step_of (suc n) m h =
    let double : 2 ^ suc n ≡ 2 * 2 ^ n = pow-succ' 2 n in
    let before : HasStep n (m / 2) = step_of n (m / 2) (omega arith) in
    let there : before.step < 2 ^ n = before.below in
    let digit : bit_xor (m % 2) (before.step % 2) < 2 ^ 1 = xor_lt 1 (m % 2) (before.step % 2) (omega arith) (omega arith) in
    let parts : m / 2 * 2 + m % 2 ≡ m = omega arith in
    record {
      step = before.step * 2 + bit_xor (m % 2) (before.step % 2);
      below = omega arith;
      leads = walk_digit before.step (bit_xor (m % 2) (before.step % 2)) (omega arith)
          ∙ ap (λ w. w * 2 + bit_xor (bit_xor (m % 2) (before.step % 2)) (before.step % 2)) before.leads
          ∙ ap (λ b. m / 2 * 2 + b) (digit_back (m % 2) (before.step % 2)) ∙ parts;
    }

-- the walk stays below 2 ^ 14
pub walk_below : (s : ℕ) → s < 16384 → walk_message s < 16384
unfolding walk_message
walk_below s h = xor_lt 14 s (s / 2) h (omega arith)

-- the least key of the walk is that of all messages
pub least_of_walk : (f : ℕ → ℕ) (key : ℕ) → IsLeastBelow (λ s. f (walk_message s)) 16384 key → IsLeastBelow f 16384 key
least_of_walk f key l = record {
  least = λ k h.
      let step : HasStep 14 k = step_of 14 k h in
      let most : key ≤ f (walk_message step.step) = l.least step.step step.below in
      let same : f (walk_message step.step) ≡ f k = ap f step.leads in
      omega arith;
  place = walk_message l.place;
  there = walk_below l.place l.there;
  reached = l.reached;
}

-- the lowest place where a number has 1
pub lowest_one : (n : ℕ) → 0 < n → n < 16384 → (trailing_zeros w16 n < 14) × (bit_at n (trailing_zeros w16 n) ≡ 1) × ((i : ℕ) → i < trailing_zeros w16 n → bit_at n i ≡ 0)
lowest_one n positive small =
    let low = bit_at-trailing_zeros w16 n positive (omega arith) in
    let place : trailing_zeros w16 n < 14 = elim (cases_lt (trailing_zeros w16 n) 14) [
      | inl lower ↦ lower
      | inr ge ↦ let none : bit_at n (trailing_zeros w16 n) ≡ 0 = bit_at_above n 14 (trailing_zeros w16 n) small ge in let one : bit_at n (trailing_zeros w16 n) ≡ 1 = low.1 in absurd (omega arith)
    ] in
    (place, low.1, low.2)

pub place_value : (p : ℕ) → p < 16 → 1 * 2 ^ p % 65536 ≡ 2 ^ p
place_value p h = let small : 2 ^ p < 2 ^ 16 = pow-lt h in omega arith
