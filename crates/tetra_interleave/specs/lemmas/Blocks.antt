-- The places of a block interleaver are one-to-one.
use Rattle.std.proofs.Common.{ℕ, ◌+◌, ◌-◌, ◌*◌, ◌/◌, ◌%◌, ◌<◌, ◌≤◌, ◌≡◌, arith, ap, sym, ◌∙◌, inl, inr}
use Rattle.std.proofs.lemmas.Nat.{mul-mod_first, mul-mod_second, mod_below}
use Rattle.std.proofs.lemmas.Bool.{cases_lt, cases_eq}
use Rattle.std.proofs.Math.Nat.{mod-eq_of_lt, mod_self, add-mul-mod_self_left, add-mod_right, div-add-mod, mul-mod_left}
use Rattle.tetra_interleave.specs.Block.{IsBlock, block_place}
use Rattle.tetra_interleave.specs.Laws.{BlocksAreOneToOne}

pub add-mod_second : (a b m : ℕ) → (a + b % m) % m ≡ (a + b) % m
add-mod_second a b m =
    let e : a + b % m + m * (b / m) ≡ a + b = omega (arith, div-add-mod b m) in
    sym (add-mul-mod_self_left (a + b % m) m (b / m)) ∙ ap (λ n. n % m) e

-- inv (a i) is i
back_and_forth : (k a inv i : ℕ) → IsBlock k a inv → (inv * ((a * i) % k)) % k ≡ i % k
back_and_forth k a inv i b =
    let e : inv * (a * i) ≡ a * inv * i = omega arith in
    let one : 1 * i ≡ i = omega arith in
    mul-mod_second inv (a * i) k ∙ ap (λ n. n % k) e ∙ sym (mul-mod_first (a * inv) i k) ∙ ap (λ n. (n * i) % k) b.undoes ∙ ap (λ n. n % k) one

-- a (inv q) is q
forth_and_back : (k a inv q : ℕ) → IsBlock k a inv → (a * ((inv * q) % k)) % k ≡ q % k
forth_and_back k a inv q b =
    let e : a * (inv * q) ≡ a * inv * q = omega arith in
    let one : 1 * q ≡ q = omega arith in
    mul-mod_second a (inv * q) k ∙ ap (λ n. n % k) e ∙ sym (mul-mod_first (a * inv) q k) ∙ ap (λ n. (n * q) % k) b.undoes ∙ ap (λ n. n % k) one

-- where the place of entry i takes its entry
pub out_index : (k a inv i : ℕ) → IsBlock k a inv → 1 ≤ i → i ≤ k → (k - 1 + inv * ((a * i) % k)) % k ≡ i - 1
out_index k a inv i b one le =
    sym (add-mod_second (k - 1) (inv * ((a * i) % k)) k) ∙ ap (λ n. (k - 1 + n) % k) (back_and_forth k a inv i b)
    ∙ elim (cases_lt i k) [
      | inl lt ↦
          let e : k - 1 + i ≡ i - 1 + k = omega arith in
          ap (λ n. (k - 1 + n) % k) (mod-eq_of_lt lt) ∙ ap (λ n. n % k) e ∙ add-mod_right (i - 1) k ∙ mod-eq_of_lt (omega arith)
      | inr ge ↦
          let e : i ≡ k = omega arith in
          let z : k - 1 + 0 ≡ i - 1 = omega arith in
          let lt : i - 1 < k = omega arith in
          ap (λ n. (k - 1 + n % k) % k) e ∙ ap (λ n. (k - 1 + n) % k) (mod_self k) ∙ ap (λ n. n % k) z ∙ mod-eq_of_lt lt
    ]

-- each place is taken
filled : (k a inv q : ℕ) → IsBlock k a inv → q < k → (i : ℕ) × (1 ≤ i) × (i ≤ k) × ((a * i) % k ≡ q)
filled k a inv q b lt =
    let back : (a * ((inv * q) % k)) % k ≡ q = forth_and_back k a inv q b ∙ mod-eq_of_lt lt in
    let low : (inv * q) % k < k = mod_below _ k (omega arith) in
    elim (cases_eq ((inv * q) % k) 0) [
      | inl z ↦
          let e : a * 0 ≡ 0 = omega arith in
          let p : q ≡ 0 = sym back ∙ ap (λ n. (a * n) % k) z ∙ ap (λ n. n % k) e ∙ mod-eq_of_lt (omega arith) in
          (k, omega arith, omega arith, mul-mod_left a k ∙ sym p)
      | inr n ↦ ((inv * q) % k, omega arith, omega arith, back)
    ]

-- no two entries have one place, and each place is that of some entry
pub blocks_are_one_to_one : BlocksAreOneToOne
unfolding block_place
blocks_are_one_to_one k a inv b =
    record {
      within = λ i one le.
          let low : (a * i) % k < k = mod_below (a * i) k (omega arith) in
          (omega arith, omega arith);
      apart = λ i j one le one_j le_j same.
          let p : (a * i) % k ≡ (a * j) % k = omega arith in
          let e : i - 1 ≡ j - 1 = sym (out_index k a inv i b one le) ∙ ap (λ n. (k - 1 + inv * n) % k) p ∙ out_index k a inv j b one_j le_j in
          omega arith;
      filled = λ j one le.
          let w = filled k a inv (j - 1) b (omega arith) in
          (w.0, w.1, w.2, omega (arith, w.3));
    }
