-- The entries of flipped bits and turned values.
use Prim.Native.Nat.{zero, suc}
use Rattle.std.proofs.Common.{◌≡◌, ℕ, ◌+◌, ◌-◌, ◌<◌, ◌≤◌, inl, inr, Bool, true, false, cond, not, ℤ, pos, negsuc, List, length, arith, refl, sym, ap, ◌∙◌}
use Rattle.std.proofs.Math.Bool.{beq}
use Rattle.std.proofs.Math.IntN.{neg_ℤ, neg_ℤ-neg_ℤ}
use Rattle.std.proofs.lemmas.List.{ext_get_or}
use Rattle.tetra_bits.specs.Numbered.{numbered, length-numbered, get_or-numbered, all_numbered}
use Rattle.tetra_bits.specs.Order.{bit_at}
use Rattle.tetra_bits.specs.Soft.{value_at, IsWithin, AllWithin}
use Rattle.tetra_bits.specs.lemmas.Within.{neg_within, within_at}
use Rattle.tetra_bits.specs.Sums.{add2}
use Rattle.tetra_bits.specs.Undamaged.{HasSign, HasSignOrNone, IsUndamaged, Matches}
use Rattle.tetra_bits.specs.lemmas.Written.{undamaged_matches, matches_undamaged}
use Rattle.tetra_scramble.specs.Flips.{key_bit_for, flipped_bit, flipped, turned_value, turned, FlippedBack, TurnedBack, StaysUndamaged, StaysNoneWrong}

added : (a b : Bool) → not (beq a b) ≡ add2 a b
added true true = refl
added true false = refl
added false true = refl
added false false = refl

-- entry i, counted from 0, as the code computes it
pub bit_flipped : (x key : List Bool) (from i : ℕ) (a b : Bool) → 1 ≤ from → a ≡ bit_at x i → b ≡ bit_at key (from - 1 + i) → not (beq a b) ≡ flipped_bit x key from (i + 1)
unfolding flipped_bit key_bit_for
bit_flipped x key from i a b h ea eb =
    let s : i + 1 - 1 ≡ i = omega arith in
    let k : from + (i + 1) - 1 - 1 ≡ from - 1 + i = omega arith in
    rw (s, k) (added a b ∙ rw (ea, eb) refl)

pub sign_turned : (x : List ℤ) (key : List Bool) (from i : ℕ) (v w : ℤ) (b : Bool) → 1 ≤ from → v ≡ value_at x i → b ≡ bit_at key (from - 1 + i) → w ≡ cond b (neg_ℤ v) v → w ≡ turned_value x key from (i + 1)
unfolding turned_value key_bit_for
sign_turned x key from i v w b h ev eb ew =
    let s : i + 1 - 1 ≡ i = omega arith in
    let k : from + (i + 1) - 1 - 1 ≡ from - 1 + i = omega arith in
    rw (s, k) (ew ∙ rw (ev, eb) refl)

-- all entries have come
pub all_flipped : (x key bits : List Bool) (from i : ℕ) → bits ≡ numbered (flipped_bit x key from) i → i ≡ length x → bits ≡ flipped x key from
unfolding flipped
all_flipped x key bits from i e l = e ∙ ap (numbered (flipped_bit x key from)) l

pub all_turned : (x values : List ℤ) (key : List Bool) (from i : ℕ) → values ≡ numbered (turned_value x key from) i → i ≡ length x → values ≡ turned x key from
unfolding turned
all_turned x values key from i e l = e ∙ ap (numbered (turned_value x key from)) l

add_twice : (a b : Bool) → add2 (add2 a b) b ≡ a
add_twice true true = refl
add_twice true false = refl
add_twice false true = refl
add_twice false false = refl

turn_twice : (b : Bool) (v : ℤ) → cond b (neg_ℤ (cond b (neg_ℤ v) v)) (cond b (neg_ℤ v) v) ≡ v
turn_twice true v = neg_ℤ-neg_ℤ v
turn_twice false v = refl

pub length-flipped : (x key : List Bool) (from : ℕ) → length (flipped x key from) ≡ length x
unfolding flipped
length-flipped x key from = length-numbered (flipped_bit x key from) (length x)

pub length-turned : (x : List ℤ) (key : List Bool) (from : ℕ) → length (turned x key from) ≡ length x
unfolding turned
length-turned x key from = length-numbered (turned_value x key from) (length x)

-- entry k, counted from 0
pub flipped_at : (x key : List Bool) (from k : ℕ) → k < length x → bit_at (flipped x key from) k ≡ add2 (bit_at x k) (key_bit_for key from (k + 1))
unfolding flipped flipped_bit
flipped_at x key from k h =
    let s : k + 1 - 1 ≡ k = omega arith in
    get_or-numbered (flipped_bit x key from) (length x) k false h ∙ ap (λ i. add2 (bit_at x i) (key_bit_for key from (k + 1))) s

pub turned_at : (x : List ℤ) (key : List Bool) (from k : ℕ) → k < length x → value_at (turned x key from) k ≡ cond (key_bit_for key from (k + 1)) (neg_ℤ (value_at x k)) (value_at x k)
unfolding turned turned_value
turned_at x key from k h =
    let s : k + 1 - 1 ≡ k = omega arith in
    get_or-numbered (turned_value x key from) (length x) k (pos 0) h ∙ ap (λ i. cond (key_bit_for key from (k + 1)) (neg_ℤ (value_at x i)) (value_at x i)) s

pub flipped_back : FlippedBack
flipped_back x key from =
    let l : length (flipped x key from) ≡ length x = length-flipped x key from in
    ext_get_or false (flipped (flipped x key from) key from) x (length-flipped (flipped x key from) key from ∙ l) (λ k h.
    let m : k < length (flipped x key from) = omega (arith, length-flipped (flipped x key from) key from) in
    flipped_at (flipped x key from) key from k m
    ∙ ap (λ b. add2 b (key_bit_for key from (k + 1))) (flipped_at x key from k (omega arith))
    ∙ add_twice (bit_at x k) (key_bit_for key from (k + 1)))

pub turned_back : TurnedBack
turned_back x key from =
    let l : length (turned x key from) ≡ length x = length-turned x key from in
    ext_get_or (pos 0) (turned (turned x key from) key from) x (length-turned (turned x key from) key from ∙ l) (λ k h.
    let m : k < length (turned x key from) = omega (arith, length-turned (turned x key from) key from) in
    turned_at (turned x key from) key from k m
    ∙ ap (λ v. cond (key_bit_for key from (k + 1)) (neg_ℤ v) v) (turned_at x key from k (omega arith))
    ∙ turn_twice (key_bit_for key from (k + 1)) (value_at x k))

sign_follows : (b bit : Bool) (v : ℤ) → HasSign bit v → HasSign (add2 bit b) (cond b (neg_ℤ v) v)
sign_follows true true (pos n) h = absurd h
sign_follows true true (negsuc n) h = omega arith
sign_follows true false (pos zero) h = absurd (omega arith)
sign_follows true false (pos (suc n)) h = tt
sign_follows true false (negsuc n) h = absurd h
sign_follows false true v h = h
sign_follows false false v h = h

none_wrong_follows : (b bit : Bool) (v : ℤ) → HasSignOrNone bit v → HasSignOrNone (add2 bit b) (cond b (neg_ℤ v) v)
none_wrong_follows b bit v (inl sign) = inl (sign_follows b bit v sign)
none_wrong_follows true bit v (inr none) = inr (rw none refl)
none_wrong_follows false bit v (inr none) = inr none

-- what holds between bits and values, and follows them when both are turned, holds when all are turned
stays_matched : (R : Bool → ℤ → Type 0) → ((b bit : Bool) (v : ℤ) → R bit v → R (add2 bit b) (cond b (neg_ℤ v) v))
    → (bits : List Bool) (values : List ℤ) (key : List Bool) (from : ℕ) → Matches R bits values → Matches R (flipped bits key from) (turned values key from)
stays_matched R follows bits values key from h =
    record {
      size = length-turned values key from ∙ h.size ∙ sym (length-flipped bits key from);
      each = λ k l.
          let inside : k < length bits = omega (arith, length-flipped bits key from) in
          let there : k < length values = omega (arith, h.size) in
          rw (flipped_at bits key from k inside, turned_at values key from k there) (follows (key_bit_for key from (k + 1)) (bit_at bits k) (value_at values k) (h.each k inside));
    }

pub stays_undamaged : StaysUndamaged
stays_undamaged bits values key from u =
    matches_undamaged (flipped bits key from) (turned values key from) (stays_matched HasSign sign_follows bits values key from (undamaged_matches bits values u))

pub stays_none_wrong : StaysNoneWrong
stays_none_wrong bits values key from h = stays_matched HasSignOrNone none_wrong_follows bits values key from h

-- values that have the signs of scrambled bits have, once turned, those of the bits
pub descrambled_undamaged : (bits : List Bool) (values : List ℤ) (key : List Bool) (from : ℕ) → IsUndamaged (flipped bits key from) values → IsUndamaged bits (turned values key from)
descrambled_undamaged bits values key from u = rw (flipped_back bits key from) at (stays_undamaged (flipped bits key from) values key from u)

-- turned values are within what the values are within
pub turned_within : (top : ℕ) (x : List ℤ) (key : List Bool) (from : ℕ) → AllWithin top x → AllWithin top (turned x key from)
unfolding turned turned_value
turned_within top x key from all =
    all_numbered (IsWithin top) (turned_value x key from) (length x) (λ i.
    elim (key_bit_for key from i) as (λ b. IsWithin top (cond b (neg_ℤ (value_at x (i - 1))) (value_at x (i - 1)))) [
      | true ↦ neg_within top (value_at x (i - 1)) (within_at top x all (i - 1))
      | false ↦ within_at top x all (i - 1)
    ])
