-- The places of the plans of speech.
use Prim.Native.Nat.{zero, suc}
use Rattle.std.proofs.Common.{ℕ, ◌+◌, ◌-◌, ◌*◌, ◌/◌, ◌%◌, ◌<◌, ◌≤◌, ◌≡◌, [], ◌∷◌, slice_index, arith, refl}
use Rattle.tetra_puncture.specs.Places.{class1_place, whole_class2_place, half_class2_place}

-- the entries of the patterns
at_class1 : (r : ℕ) → r < 3 → slice_index (1 ∷ 2 ∷ 4 ∷ []) r ≡ r + 1 + r / 2
at_class1 zero h = refl
at_class1 (suc zero) h = refl
at_class1 (suc (suc zero)) h = refl
at_class1 (suc (suc (suc r))) h = absurd (omega arith)

at_whole : (r : ℕ) → r < 9
    → slice_index (1 ∷ 2 ∷ 3 ∷ 4 ∷ 5 ∷ 7 ∷ 8 ∷ 10 ∷ 11 ∷ []) r ≡ r + 1 + (r - 3) / 2
at_whole zero h = refl
at_whole (suc zero) h = refl
at_whole (suc (suc zero)) h = refl
at_whole (suc (suc (suc zero))) h = refl
at_whole (suc (suc (suc (suc zero)))) h = refl
at_whole (suc (suc (suc (suc (suc zero))))) h = refl
at_whole (suc (suc (suc (suc (suc (suc zero)))))) h = refl
at_whole (suc (suc (suc (suc (suc (suc (suc zero))))))) h = refl
at_whole (suc (suc (suc (suc (suc (suc (suc (suc zero)))))))) h = refl
at_whole (suc (suc (suc (suc (suc (suc (suc (suc (suc r))))))))) h = absurd (omega arith)

pub at_half : (r : ℕ) → r < 17
    → slice_index (1 ∷ 2 ∷ 3 ∷ 4 ∷ 5 ∷ 7 ∷ 8 ∷ 10 ∷ 11 ∷ 13 ∷ 14 ∷ 16 ∷ 17 ∷ 19 ∷ 20 ∷ 22 ∷ 23 ∷ []) r
    ≡ r + 1 + (r - 3) / 2
at_half zero h = refl
at_half (suc zero) h = refl
at_half (suc (suc zero)) h = refl
at_half (suc (suc (suc zero))) h = refl
at_half (suc (suc (suc (suc zero)))) h = refl
at_half (suc (suc (suc (suc (suc zero))))) h = refl
at_half (suc (suc (suc (suc (suc (suc zero)))))) h = refl
at_half (suc (suc (suc (suc (suc (suc (suc zero))))))) h = refl
at_half (suc (suc (suc (suc (suc (suc (suc (suc zero)))))))) h = refl
at_half (suc (suc (suc (suc (suc (suc (suc (suc (suc r))))))))) h = let e = behind r (omega arith) in omega (arith, e)
  where
    behind : (r : ℕ) → r < 8 → slice_index (13 ∷ 14 ∷ 16 ∷ 17 ∷ 19 ∷ 20 ∷ 22 ∷ 23 ∷ []) r ≡ r + 9 + 1 + (r + 9 - 3) / 2
    behind zero h = refl
    behind (suc zero) h = refl
    behind (suc (suc zero)) h = refl
    behind (suc (suc (suc zero))) h = refl
    behind (suc (suc (suc (suc zero)))) h = refl
    behind (suc (suc (suc (suc (suc zero))))) h = refl
    behind (suc (suc (suc (suc (suc (suc zero)))))) h = refl
    behind (suc (suc (suc (suc (suc (suc (suc zero))))))) h = refl
    behind (suc (suc (suc (suc (suc (suc (suc (suc r)))))))) h = absurd (omega arith)

-- a place by the entry of its pattern
pub class1_at : (i g r : ℕ) → r < 3 → i ≡ 3 * g + r + 1 → class1_place i ≡ 6 * g + (r + 1 + r / 2)
class1_at i g r small e =
    let q : (i - 1) / 3 ≡ g = omega arith in
    let m : (i - 1) % 3 ≡ r = omega arith in
    rw (q, m) (omega (arith, at_class1 r small))

pub whole_at : (i g r : ℕ) → r < 9 → i ≡ 9 * g + r + 1 → whole_class2_place i ≡ 12 * g + (r + 1 + (r - 3) / 2)
whole_at i g r small e =
    let q : (i - 1) / 9 ≡ g = omega arith in
    let m : (i - 1) % 9 ≡ r = omega arith in
    rw (q, m) (omega (arith, at_whole r small))

pub half_at : (i g r : ℕ) → r < 17 → i ≡ 17 * g + r + 1 → half_class2_place i ≡ 24 * g + (r + 1 + (r - 3) / 2)
half_at i g r small e =
    let q : (i - 1) / 17 ≡ g = omega arith in
    let m : (i - 1) % 17 ≡ r = omega arith in
    rw (q, m) (omega (arith, at_half r small))

-- the places rise
pub class1_rises : (i j : ℕ) → 1 ≤ i → i < j → class1_place i < class1_place j
class1_rises i j one less =
    let a = class1_at i ((i - 1) / 3) ((i - 1) % 3) (omega arith) (omega arith) in
    let b = class1_at j ((j - 1) / 3) ((j - 1) % 3) (omega arith) (omega arith) in
    let up : (i - 1) / 3 ≤ (j - 1) / 3 = omega arith in
    omega (arith, a, b, up)

pub whole_rises : (i j : ℕ) → 1 ≤ i → i < j → whole_class2_place i < whole_class2_place j
whole_rises i j one less =
    let a = whole_at i ((i - 1) / 9) ((i - 1) % 9) (omega arith) (omega arith) in
    let b = whole_at j ((j - 1) / 9) ((j - 1) % 9) (omega arith) (omega arith) in
    let up : (i - 1) / 9 ≤ (j - 1) / 9 = omega arith in
    omega (arith, a, b, up)

pub half_rises : (i j : ℕ) → 1 ≤ i → i < j → half_class2_place i < half_class2_place j
half_rises i j one less =
    let a = half_at i ((i - 1) / 17) ((i - 1) % 17) (omega arith) (omega arith) in
    let b = half_at j ((j - 1) / 17) ((j - 1) % 17) (omega arith) (omega arith) in
    let up : (i - 1) / 17 ≤ (j - 1) / 17 = omega arith in
    omega (arith, a, b, up)

-- and lie within so many steps
pub class1_lies : (i g : ℕ) → 1 ≤ i → i ≤ 3 * g → (1 ≤ class1_place i) × (class1_place i ≤ 6 * g)
class1_lies i g one few =
    let a = class1_at i ((i - 1) / 3) ((i - 1) % 3) (omega arith) (omega arith) in
    let up : (i - 1) / 3 < g = omega arith in
    (omega (arith, a), omega (arith, a, up))

pub whole_lies : (i g : ℕ) → 1 ≤ i → i ≤ 9 * g → (1 ≤ whole_class2_place i) × (whole_class2_place i ≤ 12 * g)
whole_lies i g one few =
    let a = whole_at i ((i - 1) / 9) ((i - 1) % 9) (omega arith) (omega arith) in
    let up : (i - 1) / 9 < g = omega arith in
    (omega (arith, a), omega (arith, a, up))

-- 81 bits of half a slot lie within 114 places
pub half_lies : (i : ℕ) → 1 ≤ i → i ≤ 81 → (1 ≤ half_class2_place i) × (half_class2_place i ≤ 114)
half_lies i one few =
    let a = half_at i ((i - 1) / 17) ((i - 1) % 17) (omega arith) (omega arith) in
    (omega (arith, a), omega (arith, a))

-- the first output of step k
pub class1_first : (k : ℕ) → class1_place (3 * (k / 2) + 2 * (k % 2) + 1) ≡ 3 * k + 1
class1_first k =
    let a = class1_at (3 * (k / 2) + 2 * (k % 2) + 1) (k / 2) (2 * (k % 2)) (omega arith) (omega arith) in
    omega (arith, a)

pub whole_first : (k : ℕ) → whole_class2_place (9 * (k / 4) + (2 * (k % 4) + (k % 4 + 3) / 4) + 1) ≡ 3 * k + 1
whole_first k =
    let a = whole_at (9 * (k / 4) + (2 * (k % 4) + (k % 4 + 3) / 4) + 1) (k / 4) (2 * (k % 4) + (k % 4 + 3) / 4) (omega arith) (omega arith) in
    omega (arith, a)

pub half_first : (k : ℕ) → half_class2_place (17 * (k / 8) + (2 * (k % 8) + (k % 8 + 7) / 8) + 1) ≡ 3 * k + 1
half_first k =
    let a = half_at (17 * (k / 8) + (2 * (k % 8) + (k % 8 + 7) / 8) + 1) (k / 8) (2 * (k % 8) + (k % 8 + 7) / 8) (omega arith) (omega arith) in
    omega (arith, a)
