-- Costs by masks.
use Rattle.std.proofs.Common.{◌≡◌, ℕ, ◌+◌, ◌-◌, ◌%◌, ◌<◌, ◌≤◌, Bool, true, false, not, List, [], get_or, bit_and, ℤ, pos, arith, refl, ap, ◌∙◌}
use Rattle.std.proofs.lemmas.Nat.{and_comm, and_mask}
use Rattle.tetra_bits.specs.Cost.{cost}
use Rattle.tetra_puncture.specs.Butterflies.{mask_of, is_masked, AreMasks, masked_cost, turned_cost}

-- a value, raised
pub record Raised (v : ℤ) (r : ℕ) : Type 0 where
  pub zero_is : 32768 - r ≡ cost v false
  pub one_is : r - 32768 ≡ cost v true
  pub near : (1 ≤ r) × (r ≤ 65535)

-- what a mask leaves of a number of 32 bits
masked_all : (d : ℕ) → d < 4294967296 → bit_and 4294967295 d ≡ d
masked_all d h =
    let e : bit_and d 4294967295 ≡ d % 4294967296 = and_mask d 32 in
    let f : d % 4294967296 ≡ d = omega arith in
    and_comm 4294967295 d ∙ (e ∙ f)

-- one more output: its cost as 0 is in the sum, and the difference makes it that of the output
pub turn_in : (v : ℤ) (r m d others sum : ℕ) (b : Bool) → Raised v r → m ≡ mask_of b → d ≡ (r + 4294934528) % 4294967296 →
    sum ≡ others + cost v false → others ≤ 1048576 → (sum + bit_and m d) % 4294967296 ≡ others + cost v b
unfolding mask_of
turn_in v r m d others sum true is em ed es small =
    let lt : d < 4294967296 = omega arith in
    let e : bit_and m d ≡ d = ap (λ k. bit_and k d) em ∙ masked_all d lt in
    omega (arith, e, is.zero_is, is.one_is, is.near)
turn_in v r m d others sum false is em ed es small =
    let e : bit_and m d ≡ 0 = ap (λ k. bit_and k d) em in
    omega (arith, e, is.zero_is, is.near)

both_costs : (v : ℤ) (b : Bool) → cost v false + cost v true ≡ cost v b + cost v (not b)
both_costs v true = omega arith
both_costs v false = omega arith

pub raised_small : (v : ℤ) (r : ℕ) → Raised v r → (cost v false ≤ 32768) × (cost v true ≤ 32768)
raised_small v r is = (omega (arith, is.zero_is, is.near), omega (arith, is.one_is, is.near))

cost_small : (v : ℤ) (r : ℕ) (b : Bool) → Raised v r → cost v b ≤ 32768
cost_small v r true is = (raised_small v r is).1
cost_small v r false is = (raised_small v r is).0

-- four values, raised, and the sums of one lane
pub record LaneSums (masks : List (List ℕ)) (values : List ℤ) (a b c d i none first second third last : ℕ) : Type 0 where
  pub a_is : Raised (get_or values 0 (pos 0)) a
  pub b_is : Raised (get_or values 1 (pos 0)) b
  pub c_is : Raised (get_or values 2 (pos 0)) c
  pub d_is : Raised (get_or values 3 (pos 0)) d
  pub none_is : none ≡ (32768 - a) + (32768 - b) + (32768 - c) + (32768 - d)
  pub first_is : first ≡ (none + bit_and (get_or (get_or masks 0 []) i 0) ((a + 4294934528) % 4294967296)) % 4294967296
  pub second_is : second ≡ (first + bit_and (get_or (get_or masks 1 []) i 0) ((b + 4294934528) % 4294967296)) % 4294967296
  pub third_is : third ≡ (second + bit_and (get_or (get_or masks 2 []) i 0) ((c + 4294934528) % 4294967296)) % 4294967296
  pub last_is : last ≡ (third + bit_and (get_or (get_or masks 3 []) i 0) ((d + 4294934528) % 4294967296)) % 4294967296

module _ (masks : List (List ℕ)) (values : List ℤ) (a b c d i none first second third last : ℕ) (are : AreMasks masks) (h : i < 8)
    (s : LaneSums masks values a b c d i none first second third last) where
  pub sum_is_cost : last ≡ masked_cost masks values i
  unfolding masked_cost AreMasks
  sum_is_cost =
      let v0 = get_or values 0 (pos 0) in
      let v1 = get_or values 1 (pos 0) in
      let v2 = get_or values 2 (pos 0) in
      let v3 = get_or values 3 (pos 0) in
      let b0 = is_masked masks 0 i in
      let b1 = is_masked masks 1 i in
      let b2 = is_masked masks 2 i in
      let b3 = is_masked masks 3 i in
      let z0 : 32768 - a ≡ cost v0 false = s.a_is.zero_is in
      let z1 : 32768 - b ≡ cost v1 false = s.b_is.zero_is in
      let z2 : 32768 - c ≡ cost v2 false = s.c_is.zero_is in
      let z3 : 32768 - d ≡ cost v3 false = s.d_is.zero_is in
      let m0 : cost v0 b0 ≤ 32768 = cost_small v0 a b0 s.a_is in
      let m1 : cost v1 b1 ≤ 32768 = cost_small v1 b b1 s.b_is in
      let m2 : cost v2 b2 ≤ 32768 = cost_small v2 c b2 s.c_is in
      let n1 : cost v1 false ≤ 32768 = (raised_small v1 b s.b_is).0 in
      let n2 : cost v2 false ≤ 32768 = (raised_small v2 c s.c_is).0 in
      let n3 : cost v3 false ≤ 32768 = (raised_small v3 d s.d_is).0 in
      let one : first ≡ (cost v1 false + cost v2 false + cost v3 false) + cost v0 b0 =
      s.first_is ∙ turn_in v0 a (get_or (get_or masks 0 []) i 0) ((a + 4294934528) % 4294967296) (cost v1 false + cost v2 false + cost v3 false) none b0 s.a_is (are 0 i (omega arith) h) refl (omega (arith, s.none_is)) (omega arith) in
      let two : second ≡ (cost v0 b0 + cost v2 false + cost v3 false) + cost v1 b1 =
      s.second_is ∙ turn_in v1 b (get_or (get_or masks 1 []) i 0) ((b + 4294934528) % 4294967296) (cost v0 b0 + cost v2 false + cost v3 false) first b1 s.b_is (are 1 i (omega arith) h) refl (omega arith) (omega arith) in
      let three : third ≡ (cost v0 b0 + cost v1 b1 + cost v3 false) + cost v2 b2 =
      s.third_is ∙ turn_in v2 c (get_or (get_or masks 2 []) i 0) ((c + 4294934528) % 4294967296) (cost v0 b0 + cost v1 b1 + cost v3 false) second b2 s.c_is (are 2 i (omega arith) h) refl (omega arith) (omega arith) in
      s.last_is ∙ turn_in v3 d (get_or (get_or masks 3 []) i 0) ((d + 4294934528) % 4294967296) (cost v0 b0 + cost v1 b1 + cost v2 b2) third b3 s.d_is (are 3 i (omega arith) h) refl (omega arith) (omega arith)

  -- the costs of all outputs, as 0 and as 1
  pub total : ℕ
  total = none + ((a - 32768) + (b - 32768) + (c - 32768) + (d - 32768))

  sum_of_both : masked_cost masks values i + turned_cost masks values i ≡ total
  unfolding masked_cost turned_cost total
  sum_of_both =
      omega (
        arith,
        both_costs (get_or values 0 (pos 0)) (is_masked masks 0 i),
        both_costs (get_or values 1 (pos 0)) (is_masked masks 1 i),
        both_costs (get_or values 2 (pos 0)) (is_masked masks 2 i),
        both_costs (get_or values 3 (pos 0)) (is_masked masks 3 i),
        s.none_is,
        s.a_is.zero_is,
        s.b_is.zero_is,
        s.c_is.zero_is,
        s.d_is.zero_is,
        s.a_is.one_is,
        s.b_is.one_is,
        s.c_is.one_is,
        s.d_is.one_is,
      )

  pub both_are : (all : ℕ) → all ≡ none + ((a - 32768) + (b - 32768) + (c - 32768) + (d - 32768)) → last + turned_cost masks values i ≡ all
  unfolding total
  both_are all e = omega (arith, sum_is_cost, sum_of_both)
