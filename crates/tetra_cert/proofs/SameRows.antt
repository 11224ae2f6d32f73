-- Rows of 16 lanes that are the same.
use Prim.Native.Nat.{suc}
use Rattle.std.proofs.Common.{◌≡◌, ℕ, ◌+◌, ◌*◌, ◌%◌, ◌^◌, ◌<◌, Bool, true, false, cond, eqb, List, [], ◌∷◌, length, arith, refl, ap, ◌∙◌}
use Rattle.std.proofs.lemmas.Bool.Decides.{nat_tests}
use Rattle.std.proofs.lemmas.Simd.{length-zip2, mask_l-mod, mask_l-lt}
use lib.Lanes.{zip2, mask_l}

same_number : (a b : ℕ) → eqb a b ≡ true → a ≡ b
same_number a b e = grind (arith, nat_tests)

power_more : (n : ℕ) → 2 ^ suc n ≡ 2 * 2 ^ n
power_more n = omega arith

-- heads and tails
same_parts : (x y : ℕ) (a b : List ℕ) (t : Bool) → eqb x y ≡ t → length a ≡ length b → ◌≡◌ {A = ℕ} (cond (eqb x y) 1 0 + 2 * mask_l (zip2 eqb a b) + 1) (2 ^ suc (length a)) →
    (mask_l (zip2 eqb a b) + 1 ≡ 2 ^ length a → a ≡ b) → x ∷ a ≡ y ∷ b
same_parts x y a b true e long full rest =
    let c : ◌≡◌ {A = ℕ} (cond (eqb x y) 1 0) 1 = ap (λ t. cond t 1 0) e in
    let tails : a ≡ b = rest (omega (arith, full, c, power_more (length a))) in
    let head : x ≡ y = same_number x y e in
    cc
same_parts x y a b false e long full rest =
    let c : ◌≡◌ {A = ℕ} (cond (eqb x y) 1 0) 0 = ap (λ t. cond t 1 0) e in
    let l : length (zip2 eqb a b) ≡ length a = length-zip2 eqb a b long in
    let m : mask_l (zip2 eqb a b) < 2 ^ length (zip2 eqb a b) = mask_l-lt (zip2 eqb a b) in
    let p : 2 ^ length (zip2 eqb a b) ≡ 2 ^ length a = ap (λ n. 2 ^ n) l in
    absurd (omega (arith, full, c, power_more (length a)))

-- where all bits of the mask of a comparison are set, the lists are the same
all_same : (a b : List ℕ) → length a ≡ length b → mask_l (zip2 eqb a b) + 1 ≡ 2 ^ length a → a ≡ b
all_same [] [] long full = refl
all_same [] (y ∷ b) long full = absurd (omega arith)
all_same (x ∷ a) [] long full = absurd (omega arith)
all_same (x ∷ a) (y ∷ b) long full =
    let tails : length a ≡ length b = omega arith in
    same_parts x y a b (eqb x y) refl tails full (all_same a b tails)

pub same_rows : (a b : List ℕ) → length a ≡ 16 → length b ≡ 16 → eqb (mask_l (zip2 eqb a b) % 18446744073709551616) 65535 ≡ true → a ≡ b
same_rows a b la lb e =
    let long : length (zip2 eqb a b) ≡ 16 = length-zip2 eqb a b (omega arith) ∙ la in
    let whole : mask_l (zip2 eqb a b) % 18446744073709551616 ≡ mask_l (zip2 eqb a b) = mask_l-mod (zip2 eqb a b) 64 (omega arith) in
    let is : mask_l (zip2 eqb a b) % 18446744073709551616 ≡ 65535 = same_number _ 65535 e in
    let power : 2 ^ length a ≡ 65536 = ap (λ n. 2 ^ n) la in
    all_same a b (omega arith) (omega arith)
