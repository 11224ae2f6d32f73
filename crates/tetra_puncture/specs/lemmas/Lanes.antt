-- Lists of lanes.
use Prim.Native.Nat.{zero, suc}
use Rattle.std.proofs.Common.{◌≡◌, ℕ, ◌+◌, ◌*◌, ◌%◌, ◌/◌, ◌^◌, ◌<◌, false, cond, eqb, ltb, min, List, [], ◌∷◌, ◌++◌, length, get_or, map, bit_and, replicate, arith, refl, ap, ◌∙◌}
use Rattle.std.proofs.Math.ListN.{get_or-append}
use Rattle.std.proofs.lemmas.Bool.Decides.{nat_tests}
use Rattle.std.proofs.lemmas.List.{get_or-replicate}
use Rattle.std.proofs.lemmas.Simd.{length-zip2, get_or-zip2, length-replicate, length-sel_l, get_or-sel_l, bit_mask_l, mask_l-lt, mask_l-mod}
use Rattle.std.proofs.lemmas.List.FromFn.{get_or-map-range_with_len}
use lib.Lanes.{zip2, sel_l, mask_l}

-- an operation on two vectors
pub lane_of_two : (f : ℕ → ℕ → ℕ) (a b : List ℕ) (n : ℕ) → length a ≡ n → length b ≡ n → (i : ℕ) → i < n → get_or (zip2 f a b) i 0 ≡ f (get_or a i 0) (get_or b i 0)
lane_of_two f a b n la lb i h = get_or-zip2 f a b i 0 0 0 (omega arith) (omega arith)

pub long_of_two : (f : ℕ → ℕ → ℕ) (a b : List ℕ) (n : ℕ) → length a ≡ n → length b ≡ n → length (zip2 f a b) ≡ n
long_of_two f a b n la lb = length-zip2 f a b (omega arith) ∙ la

-- the sum, where the mask has the lane
pub added_lane : (sums mask : List ℕ) (d : ℕ) → length sums ≡ 8 → length mask ≡ 8 → (i : ℕ) → i < 8 →
    get_or (zip2 (λ a b. (a + b) % 2 ^ 32) sums (zip2 (λ a b. bit_and a b) mask (replicate 8 d))) i 0 ≡ (get_or sums i 0 + bit_and (get_or mask i 0) d) % 2 ^ 32
added_lane sums mask d ls lm i h =
    let masked : List ℕ = zip2 (λ a b. bit_and a b) mask (replicate 8 d) in
    let long : length masked ≡ 8 = long_of_two (λ a b. bit_and a b) mask (replicate 8 d) 8 lm (length-replicate 8 d) in
    let here : get_or masked i 0 ≡ bit_and (get_or mask i 0) (get_or (replicate 8 d) i 0) =
    lane_of_two (λ a b. bit_and a b) mask (replicate 8 d) 8 lm (length-replicate 8 d) i h in
    lane_of_two (λ a b. (a + b) % 2 ^ 32) sums masked 8 ls long i h
    ∙ ap (λ n. (get_or sums i 0 + n) % 2 ^ 32) (here ∙ ap (bit_and (get_or mask i 0)) (get_or-replicate 8 i d 0 h))

min_is : (a b : ℕ) → cond (ltb a b) a b ≡ min a b
min_is a b = grind (arith, nat_tests)

pub lesser_lane : (a b : List ℕ) → length a ≡ 8 → length b ≡ 8 → (s : ℕ) → s < 8 → get_or (sel_l (zip2 ltb a b) a b) s 0 ≡ min (get_or a s 0) (get_or b s 0)
lesser_lane a b la lb s h =
    let long : length (zip2 ltb a b) ≡ 8 = length-zip2 ltb a b (omega arith) ∙ la in
    get_or-sel_l (zip2 ltb a b) a b s 0 (omega arith) (omega arith) (omega arith)
    ∙ (ap (λ t. cond t (get_or a s 0) (get_or b s 0)) (get_or-zip2 ltb a b s 0 0 false (omega arith) (omega arith)) ∙ min_is (get_or a s 0) (get_or b s 0))

pub lesser_long : (a b : List ℕ) → length a ≡ 8 → length b ≡ 8 → length (sel_l (zip2 ltb a b) a b) ≡ 8
lesser_long a b la lb =
    let long : length (zip2 ltb a b) ≡ 8 = length-zip2 ltb a b (omega arith) ∙ la in
    length-sel_l (zip2 ltb a b) a b (omega arith) (omega arith) ∙ long

-- the lanes of two vectors, one behind the other
pub behind : (a b : List ℕ) (n k i : ℕ) → length a ≡ n → k ≡ n + i → get_or (a ++ b) k 0 ≡ get_or b i 0
behind [] b n k i e f = ap (λ k. get_or b k 0) (omega arith)
behind (x ∷ a) b n zero i e f = absurd (omega arith)
behind (x ∷ a) b zero (suc k) i e f = absurd (omega arith)
behind (x ∷ a) b (suc n) (suc k) i e f = behind a b n k i (omega arith) (omega arith)

-- a weave
pub even_lane : (a b : List ℕ) → length a ≡ 8 → length b ≡ 8 → (i : ℕ) → i < 8 →
    get_or (map (λ k. get_or (a ++ b) k 0) (0 ∷ 8 ∷ 1 ∷ 9 ∷ 2 ∷ 10 ∷ 3 ∷ 11 ∷ 4 ∷ 12 ∷ 5 ∷ 13 ∷ 6 ∷ 14 ∷ 7 ∷ 15 ∷ [])) (2 * i) 0 ≡ get_or a i 0
even_lane a b m n zero h = get_or-append a b 0 0 (omega arith)
even_lane a b m n (suc zero) h = get_or-append a b 0 1 (omega arith)
even_lane a b m n (suc (suc zero)) h = get_or-append a b 0 2 (omega arith)
even_lane a b m n (suc (suc (suc zero))) h = get_or-append a b 0 3 (omega arith)
even_lane a b m n (suc (suc (suc (suc zero)))) h = get_or-append a b 0 4 (omega arith)
even_lane a b m n (suc (suc (suc (suc (suc zero))))) h = get_or-append a b 0 5 (omega arith)
even_lane a b m n (suc (suc (suc (suc (suc (suc zero)))))) h = get_or-append a b 0 6 (omega arith)
even_lane a b m n (suc (suc (suc (suc (suc (suc (suc zero))))))) h = get_or-append a b 0 7 (omega arith)
even_lane a b m n (suc (suc (suc (suc (suc (suc (suc (suc i)))))))) h = absurd (omega arith)

pub odd_lane : (a b : List ℕ) → length a ≡ 8 → length b ≡ 8 → (i : ℕ) → i < 8 →
    get_or (map (λ k. get_or (a ++ b) k 0) (0 ∷ 8 ∷ 1 ∷ 9 ∷ 2 ∷ 10 ∷ 3 ∷ 11 ∷ 4 ∷ 12 ∷ 5 ∷ 13 ∷ 6 ∷ 14 ∷ 7 ∷ 15 ∷ [])) (2 * i + 1) 0 ≡ get_or b i 0
odd_lane a b m n zero h = behind a b 8 8 0 m (omega arith)
odd_lane a b m n (suc zero) h = behind a b 8 9 1 m (omega arith)
odd_lane a b m n (suc (suc zero)) h = behind a b 8 10 2 m (omega arith)
odd_lane a b m n (suc (suc (suc zero))) h = behind a b 8 11 3 m (omega arith)
odd_lane a b m n (suc (suc (suc (suc zero)))) h = behind a b 8 12 4 m (omega arith)
odd_lane a b m n (suc (suc (suc (suc (suc zero))))) h = behind a b 8 13 5 m (omega arith)
odd_lane a b m n (suc (suc (suc (suc (suc (suc zero)))))) h = behind a b 8 14 6 m (omega arith)
odd_lane a b m n (suc (suc (suc (suc (suc (suc (suc zero))))))) h = behind a b 8 15 7 m (omega arith)
odd_lane a b m n (suc (suc (suc (suc (suc (suc (suc (suc i)))))))) h = absurd (omega arith)

-- the bits of a comparison
pub same_bits : (a b : List ℕ) → length a ≡ 16 → length b ≡ 16 → (m : ℕ) → m ≡ mask_l (zip2 eqb a b) → (i : ℕ) → i < 16 → m / 2 ^ i % 2 ≡ cond (eqb (get_or a i 0) (get_or b i 0)) 1 0
same_bits a b la lb m e i h =
    ap (λ n. n / 2 ^ i % 2) e ∙ (bit_mask_l (zip2 eqb a b) i ∙ ap (λ t. cond t 1 0) (get_or-zip2 eqb a b i 0 0 false (omega arith) (omega arith)))

pub mask_small : (a b : List ℕ) → length a ≡ 16 → length b ≡ 16 → mask_l (zip2 eqb a b) < 65536
mask_small a b la lb =
    let long : length (zip2 eqb a b) ≡ 16 = length-zip2 eqb a b (omega arith) ∙ la in
    let lt : mask_l (zip2 eqb a b) < 2 ^ length (zip2 eqb a b) = mask_l-lt (zip2 eqb a b) in
    let e : 2 ^ length (zip2 eqb a b) ≡ 2 ^ 16 = ap (λ n. 2 ^ n) long in
    omega arith

pub joined_odd : (a b : List ℕ) → length a ≡ 8 → (i : ℕ) → i < 8 →
    get_or (map (λ k. get_or (a ++ b) k 0) (0 ∷ 1 ∷ 2 ∷ 3 ∷ 4 ∷ 5 ∷ 6 ∷ 7 ∷ 8 ∷ 9 ∷ 10 ∷ 11 ∷ 12 ∷ 13 ∷ 14 ∷ 15 ∷ [])) (8 + i) 0 ≡ get_or b i 0
joined_odd a b m i h =
    get_or-map-range_with_len (λ k. get_or (a ++ b) k 0) 0 16 (8 + i) (8 + i) 0 (omega arith) (omega arith) ∙ behind a b 8 (8 + i) i m refl

pub same_mask : (a b : List ℕ) → length a ≡ 16 → length b ≡ 16 → mask_l (zip2 eqb a b) % 18446744073709551616 ≡ mask_l (zip2 eqb a b)
same_mask a b la lb =
    let long : length (zip2 eqb a b) ≡ 16 = length-zip2 eqb a b (omega arith) ∙ la in
    mask_l-mod (zip2 eqb a b) 64 (omega arith)
