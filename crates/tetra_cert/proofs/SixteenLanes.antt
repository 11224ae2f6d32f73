-- Lists of 16 lanes.
use Prim.Native.Nat.{zero, suc}
use Rattle.std.proofs.Common.{◌≡◌, ℕ, ◌%◌, ◌^◌, ◌<◌, ◌≤◌, Bool, true, false, not, cond, eqb, ltb, min, List, [], ◌∷◌, ◌++◌, length, get_or, map, arith, refl, sym, ap, ◌∙◌}
use Rattle.std.proofs.Math.ListN.{get_or-append}
use Rattle.std.proofs.lemmas.Bool.Decides.{nat_tests}
use Rattle.std.proofs.lemmas.List.FromFn.{get_or-map-range_with_len}
use Rattle.std.proofs.lemmas.Simd.{length-zip2, get_or-zip2, mask_l-mod, length-sel_l, get_or-sel_l}
use Rattle.tetra_mother.specs.Mother.{next_state}
use lib.Lanes.{zip2, mask_l, sel_l, Each2}

-- the bits of a mask
nothing_set : (ms : List Bool) → mask_l ms ≡ 0 → (i : ℕ) → get_or ms i false ≡ false
nothing_set [] e i = refl
nothing_set (true ∷ ms) e i = absurd (omega arith)
nothing_set (false ∷ ms) e zero = refl
nothing_set (false ∷ ms) e (suc i) = nothing_set ms (omega arith) i

is_zero : (n : ℕ) → not (eqb n 0) ≡ false → n ≡ 0
is_zero n e = grind (arith, nat_tests)

not_less : (x y : ℕ) → ltb x y ≡ false → y ≤ x
not_less x y e = grind (arith, nat_tests)

pub none_above : (a b : List ℕ) → length a ≡ 16 → length b ≡ 16 → not (eqb (mask_l (zip2 ltb b a) % 18446744073709551616) 0) ≡ false → (s : ℕ) → s < 16 → get_or a s 0 ≤ get_or b s 0
none_above a b la lb e s h =
    let long : length (zip2 ltb b a) ≡ 16 = length-zip2 ltb b a (omega arith) ∙ lb in
    let small : mask_l (zip2 ltb b a) % 2 ^ 64 ≡ mask_l (zip2 ltb b a) = mask_l-mod (zip2 ltb b a) 64 (omega arith) in
    let none : mask_l (zip2 ltb b a) ≡ 0 = sym small ∙ is_zero (mask_l (zip2 ltb b a) % 2 ^ 64) e in
    not_less (get_or b s 0) (get_or a s 0) (sym (get_or-zip2 ltb b a s 0 0 false (omega arith) (omega arith)) ∙ nothing_set (zip2 ltb b a) none s)

pub each2_at : {A B : Type 0} (P : A → B → Type 0) (xs : List A) (ys : List B) → length xs ≡ length ys →
    ((i : ℕ) (c : A) (d : B) → i < length xs → P (get_or xs i c) (get_or ys i d)) → Each2 P xs ys
each2_at P [] ys long at = tt
each2_at P (x ∷ xs) [] long at = tt
each2_at P (x ∷ xs) (y ∷ ys) long at = (at 0 x y (omega arith), each2_at P xs ys (omega arith) (λ i c d h. at (suc i) c d (omega arith)))

-- the lesser of each lane and a limit
min_is : (a b : ℕ) → cond (ltb a b) a b ≡ min a b
min_is a b = grind (arith, nat_tests)

pub lesser_lane : (a b : List ℕ) → length a ≡ 16 → length b ≡ 16 → (s : ℕ) → s < 16 → get_or (sel_l (zip2 ltb a b) a b) s 0 ≡ min (get_or a s 0) (get_or b s 0)
lesser_lane a b la lb s h =
    let long : length (zip2 ltb a b) ≡ 16 = length-zip2 ltb a b (omega arith) ∙ la in
    get_or-sel_l (zip2 ltb a b) a b s 0 (omega arith) (omega arith) (omega arith)
    ∙ (ap (λ t. cond t (get_or a s 0) (get_or b s 0)) (get_or-zip2 ltb a b s 0 0 false (omega arith) (omega arith)) ∙ min_is (get_or a s 0) (get_or b s 0))

pub lesser_long : (a b : List ℕ) → length a ≡ 16 → length b ≡ 16 → length (sel_l (zip2 ltb a b) a b) ≡ 16
lesser_long a b la lb =
    let long : length (zip2 ltb a b) ≡ 16 = length-zip2 ltb a b (omega arith) ∙ la in
    length-sel_l (zip2 ltb a b) a b (omega arith) (omega arith) ∙ long

-- the lanes behind a bit
pub lane_behind_zero : (row : List ℕ) → length row ≡ 16 → (s : ℕ) → s < 16 →
    get_or (map (λ k. get_or (row ++ row) k 0) (0 ∷ 0 ∷ 1 ∷ 1 ∷ 2 ∷ 2 ∷ 3 ∷ 3 ∷ 4 ∷ 4 ∷ 5 ∷ 5 ∷ 6 ∷ 6 ∷ 7 ∷ 7 ∷ [])) s 0 ≡ get_or row (next_state s false) 0
unfolding next_state
lane_behind_zero row size s lt =
    get_or-map-range_with_len (λ s. get_or (row ++ row) (next_state s false) 0) 0 16 s s 0 lt (omega arith)
    ∙ get_or-append row row 0 (next_state s false) (omega arith)

pub lane_behind_one : (row : List ℕ) → length row ≡ 16 → (s : ℕ) → s < 16 →
    get_or (map (λ k. get_or (row ++ row) k 0) (8 ∷ 8 ∷ 9 ∷ 9 ∷ 10 ∷ 10 ∷ 11 ∷ 11 ∷ 12 ∷ 12 ∷ 13 ∷ 13 ∷ 14 ∷ 14 ∷ 15 ∷ 15 ∷ [])) s 0 ≡ get_or row (next_state s true) 0
unfolding next_state
lane_behind_one row size s lt =
    get_or-map-range_with_len (λ s. get_or (row ++ row) (next_state s true) 0) 0 16 s s 0 lt (omega arith)
    ∙ get_or-append row row 0 (next_state s true) (omega arith)
