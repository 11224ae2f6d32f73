-- Lists of 8 lanes.
use Prim.Native.Nat.{suc}
use Rattle.std.proofs.Common.{◌≡◌, ℕ, ◌<◌, false, cond, ltb, min, List, [], ◌∷◌, length, get_or, arith, ap, ◌∙◌}
use Rattle.std.proofs.lemmas.Bool.Decides.{nat_tests}
use Rattle.std.proofs.lemmas.Simd.{length-zip2, get_or-zip2, length-sel_l, get_or-sel_l}
use lib.Lanes.{zip2, sel_l, Each2}

pub each2_at : {A B : Type 0} (P : A → B → Type 0) (xs : List A) (ys : List B) → length xs ≡ length ys →
    ((i : ℕ) (c : A) (d : B) → i < length xs → P (get_or xs i c) (get_or ys i d)) → Each2 P xs ys
each2_at P [] ys long at = tt
each2_at P (x ∷ xs) [] long at = tt
each2_at P (x ∷ xs) (y ∷ ys) long at = (at 0 x y (omega arith), each2_at P xs ys (omega arith) (λ i c d h. at (suc i) c d (omega arith)))

-- the lesser of each lane
min_is : (a b : ℕ) → cond (ltb a b) a b ≡ min a b
min_is a b = grind (arith, nat_tests)

pub lesser_lane : (a b : List ℕ) → length a ≡ 8 → length b ≡ 8 → (j : ℕ) → j < 8 → get_or (sel_l (zip2 ltb a b) a b) j 0 ≡ min (get_or a j 0) (get_or b j 0)
lesser_lane a b la lb j h =
    let long : length (zip2 ltb a b) ≡ 8 = length-zip2 ltb a b (omega arith) ∙ la in
    get_or-sel_l (zip2 ltb a b) a b j 0 (omega arith) (omega arith) (omega arith)
    ∙ (ap (λ t. cond t (get_or a j 0) (get_or b j 0)) (get_or-zip2 ltb a b j 0 0 false (omega arith) (omega arith)) ∙ min_is (get_or a j 0) (get_or b j 0))

pub lesser_long : (a b : List ℕ) → length a ≡ 8 → length b ≡ 8 → length (sel_l (zip2 ltb a b) a b) ≡ 8
lesser_long a b la lb =
    let long : length (zip2 ltb a b) ≡ 8 = length-zip2 ltb a b (omega arith) ∙ la in
    length-sel_l (zip2 ltb a b) a b (omega arith) (omega arith) ∙ long
