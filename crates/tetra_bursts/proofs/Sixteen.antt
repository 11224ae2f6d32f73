-- The bits of sixteen positions as the mask of their signs.
use Prim.Native.Nat.{zero, suc}
use Rattle.std.proofs.Common.{◌≡◌, ℕ, ◌+◌, ◌%◌, ◌^◌, ◌<◌, ◌≤◌, Bool, cond, ℤ, pos, negsuc, to_z, of_z, List, [], ◌∷◌, length, take, drop, map, get_or, replicate, w8, arith, refl, ap, sym, ◌∙◌}
use Rattle.std.specs.Simd.Lanes.{mask_l, zip2, top, Each1}
use Rattle.std.proofs.lemmas.Int.{to_z-of_z, ints}
use Rattle.std.proofs.lemmas.List.{take-map, drop-map, drop_more}
use Rattle.std.proofs.lemmas.Simd.{bitmask_splat, mask_l-lt}
use lib.Signed.{lt_z}
use mir.Val.{SFits}
use Rattle.tetra_bits.specs.Plain.{is_negative}
use Rattle.tetra_bursts.specs.Phase.{signs}

below_zero : (z : ℤ) → lt_z z (pos 0) ≡ is_negative z
below_zero (pos n) = grind (arith, ints)
below_zero (negsuc n) = refl

-- whether a lane is below 0
abbrev lane_below : ℕ → ℕ → Bool
lane_below a b = lt_z (to_z w8 a) (to_z w8 b)

lane_sign : (z : ℤ) → SFits w8 z → lane_below (of_z w8 z) 0 ≡ is_negative z
lane_sign z fits = ap (λ x. lt_z x (pos 0)) (to_z-of_z w8 z fits) ∙ below_zero z

lane_signs : (zs : List ℤ) → Each1 (SFits w8) zs → map (λ x. lane_below x 0) (map (of_z w8) zs) ≡ map is_negative zs
lane_signs [] e = refl
lane_signs (z ∷ zs) e = λ i. lane_sign z e.0 i ∷ lane_signs zs e.1 i

-- the values from the k-th behind `from` on, n in all
abbrev pub values : List ℤ → ℕ → ℕ → ℕ → List ℤ
values slot from k zero = []
values slot from k (suc n) = get_or slot (from + k) (pos 0) ∷ values slot from (suc k) n

pub values_are : (slot : List ℤ) (from k n : ℕ) → from + k + n ≤ length slot → values slot from k n ≡ take n (drop (from + k) slot)
values_are slot from k zero h = refl
values_are slot from k (suc n) h =
    let next : from + k + 1 ≡ from + suc k = omega arith in
    let rest : values slot from (suc k) n ≡ take n (drop (from + suc k) slot) = values_are slot from (suc k) n (omega arith) in
    ap (λ zs. get_or slot (from + k) (pos 0) ∷ zs) (rest ∙ ap (λ m. take n (drop m slot)) (sym next))
    ∙ ap (take (suc n)) (sym (drop_more slot (from + k) (pos 0) (omega arith)))

-- the mask of sixteen lanes that are below 0
abbrev pub lanes_mask : List ℤ → ℕ
lanes_mask zs = mask_l (map (top 7) (zip2 (λ a b. cond (lane_below a b) 255 0) (map (of_z w8) zs) (replicate 16 0))) % 2 ^ 64

lanes_mask_is : (zs : List ℤ) → length (map (of_z w8) zs) ≡ 16 → Each1 (SFits w8) zs → lanes_mask zs ≡ mask_l (map is_negative zs)
lanes_mask_is zs long each = bitmask_splat w8 lane_below (map (of_z w8) zs) 16 0 long (omega arith) ∙ ap mask_l (lane_signs zs each)

pub lanes_mask_small : (slot : List ℤ) (from : ℕ) → Each1 (SFits w8) (get_or slot from (pos 0) ∷ values slot from 1 15)
    → lanes_mask (get_or slot from (pos 0) ∷ values slot from 1 15) < 65536
lanes_mask_small slot from each =
    let zs : List ℤ = get_or slot from (pos 0) ∷ values slot from 1 15 in
    let lt : mask_l (map is_negative zs) < 65536 = mask_l-lt (map is_negative zs) in
    let e : lanes_mask zs ≡ mask_l (map is_negative zs) = lanes_mask_is zs refl each in
    rw e lt

pub sixteen_signs : (slot : List ℤ) (from : ℕ) → length slot ≡ 510 → from + 16 ≤ 510
    → Each1 (SFits w8) (get_or slot from (pos 0) ∷ values slot from 1 15)
    → lanes_mask (get_or slot from (pos 0) ∷ values slot from 1 15) ≡ mask_l (take 16 (drop from (signs slot)))
sixteen_signs slot from size room each =
    let zs : List ℤ = get_or slot from (pos 0) ∷ values slot from 1 15 in
    let none : from + 0 ≡ from = omega arith in
    let all : zs ≡ take 16 (drop from slot) =
    ap (λ m. get_or slot m (pos 0) ∷ values slot from 1 15) (sym none) ∙ values_are slot from 0 16 (omega arith) ∙ ap (λ m. take 16 (drop m slot)) none in
    lanes_mask_is zs refl each
    ∙ ap (λ ys. mask_l (map is_negative ys)) all
    ∙ ap mask_l (sym (ap (take 16) (drop-map is_negative from slot) ∙ take-map is_negative 16 (drop from slot)))
