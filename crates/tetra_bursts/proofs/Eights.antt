-- Eight steps at a time, from the bits of sixteen positions as a number.
use Prim.Native.Nat.{zero, suc}
use Rattle.std.proofs.Common.{◌≡◌, ℕ, ◌+◌, ◌-◌, ◌*◌, ◌/◌, ◌%◌, ◌^◌, ◌<◌, ◌≤◌, Bool, true, false, cond, ℤ, List, [], ◌∷◌, length, take, drop, bit_and, bit_xor, arith, refl, ap, sym, ◌∙◌}
use Rattle.std.specs.Int.Count.{ones}
use Rattle.std.specs.Simd.Lanes.{mask_l}
use Rattle.std.proofs.lemmas.List.{get_or-take, get_or-drop, length-map, length-take-le, length-drop}
use Rattle.std.proofs.lemmas.Nat.{ones_cat, and_block, xor_block, and_le_r, xor_lt, and_mask, xor_mod}
use Rattle.tetra_bits.specs.Order.{bit_at}
use Rattle.tetra_bits.specs.Sums.{sum_below}
use Rattle.tetra_bits.specs.lemmas.Signs.{sum_first, sum_same}
use Rattle.tetra_bursts.specs.Phase.{step, symbol_step, turn, symbols, signs}
use Rattle.tetra_bursts.proofs.Symbols.{symbol_bit, symbols_size}

-- a one at every second place, k in all
unfoldable pub every_second : ℕ → ℕ
every_second zero = 0
every_second (suc k) = every_second k * 2 ^ 2 + 1

-- the first bit of each pair, and whether the two differ
abbrev pub first_ones : ℕ → ℕ → ℕ
first_ones m k = ones (bit_and m (every_second k))

abbrev pub other_ones : ℕ → ℕ → ℕ
other_ones m k = ones (bit_and (bit_xor m (m / 2)) (every_second k))

abbrev digit : Bool → ℕ
digit b = cond b 1 0

digit-lt : (b : Bool) → digit b < 2
digit-lt true = omega arith
digit-lt false = omega arith

one_of : (n : ℕ) → n < 2 → ones n ≡ n
unfolding ones
one_of zero h = refl
one_of (suc zero) h = refl
one_of (suc (suc n)) h = absurd (omega arith)

low_of : (n : ℕ) → bit_and n 1 ≡ n % 2
low_of n = and_mask n 1

step_of : (a b : Bool) → step a b ≡ 1 + 4 * digit a + 2 * bit_xor (digit a) (digit b)
step_of true true = refl
step_of true false = refl
step_of false true = refl
step_of false false = refl

-- the pair in front adds what its own two bits have
first_next : (m k x y : ℕ) → x < 2 → y < 2 → ones (bit_and (m * 2 ^ 2 + (x + 2 * y)) (every_second k * 2 ^ 2 + 1)) ≡ first_ones m k + x
first_next m k x y lx ly =
    let small : x + 2 * y < 2 ^ 2 = omega arith in
    let low : bit_and (x + 2 * y) 1 ≡ x = low_of (x + 2 * y) ∙ omega arith in
    let fits : bit_and (x + 2 * y) 1 < 2 ^ 2 = omega (arith, low) in
    ap ones (and_block 2 m (every_second k) (x + 2 * y) 1 small (omega arith))
    ∙ ones_cat 2 (bit_and m (every_second k)) (bit_and (x + 2 * y) 1) fits
    ∙ ap (λ n. first_ones m k + n) (ap ones low ∙ one_of x lx)

half_is : (m x y : ℕ) → x < 2 → y < 2 → (m * 2 ^ 2 + (x + 2 * y)) / 2 ≡ m / 2 * 2 ^ 2 + (y + 2 * (m % 2))
half_is m x y lx ly = omega arith

other_next : (m k x y : ℕ) → x < 2 → y < 2
    → ones (bit_and (bit_xor (m * 2 ^ 2 + (x + 2 * y)) ((m * 2 ^ 2 + (x + 2 * y)) / 2)) (every_second k * 2 ^ 2 + 1)) ≡ other_ones m k + bit_xor x y
other_next m k x y lx ly =
    let r : ℕ = x + 2 * y in
    let q : ℕ = y + 2 * (m % 2) in
    let lr : r < 2 ^ 2 = omega arith in
    let lq : q < 2 ^ 2 = omega arith in
    let lz : bit_xor r q < 2 ^ 2 = xor_lt 2 r q lr lq in
    let e : bit_xor (m * 2 ^ 2 + r) ((m * 2 ^ 2 + r) / 2) ≡ bit_xor m (m / 2) * 2 ^ 2 + bit_xor r q =
    ap (bit_xor (m * 2 ^ 2 + r)) (half_is m x y lx ly) ∙ xor_block 2 m (m / 2) r q lr lq in
    let rx : r % 2 ≡ x = omega arith in
    let qy : q % 2 ≡ y = omega arith in
    let low : bit_and (bit_xor r q) 1 ≡ bit_xor x y = low_of (bit_xor r q) ∙ xor_mod r q 1 ∙ (λ i. bit_xor (rx i) (qy i)) in
    let fits : bit_and (bit_xor r q) 1 < 2 ^ 2 = omega (arith, and_le_r (bit_xor r q) 1) in
    ap (λ n. ones (bit_and n (every_second k * 2 ^ 2 + 1))) e
    ∙ ap ones (and_block 2 (bit_xor m (m / 2)) (every_second k) (bit_xor r q) 1 lz (omega arith))
    ∙ ones_cat 2 (bit_and (bit_xor m (m / 2)) (every_second k)) (bit_and (bit_xor r q) 1) fits
    ∙ ap (λ n. other_ones m k + n) (ap ones low ∙ one_of (bit_xor x y) (xor_lt 1 x y lx ly))

mask_pair : (a b : Bool) (e : List Bool) → mask_l (a ∷ b ∷ e) ≡ mask_l e * 2 ^ 2 + (digit a + 2 * digit b)
mask_pair a b e = omega arith

next_step : (a b : Bool) (e : List Bool) (j : ℕ) → symbol_step (a ∷ b ∷ e) (suc j) ≡ symbol_step e j
unfolding symbol_step
next_step a b e j =
    let first : 2 * suc j ≡ suc (suc (2 * j)) = omega arith in
    let second : 2 * suc j + 1 ≡ suc (suc (2 * j + 1)) = omega arith in
    λ i. step (bit_at (a ∷ b ∷ e) (first i)) (bit_at (a ∷ b ∷ e) (second i))

first_step : (a b : Bool) (e : List Bool) → symbol_step (a ∷ b ∷ e) 0 ≡ step a b
unfolding symbol_step
first_step a b e = refl

sum_next : (k x z first other rest : ℕ) → k + 4 * first + 2 * other ≡ rest
    → suc k + 4 * (first + x) + 2 * (other + z) ≡ 1 + 4 * x + 2 * z + rest
sum_next k x z first other rest h = omega arith

pub counted_steps : (k : ℕ) (e : List Bool) → length e ≡ 2 * k
    → k + 4 * first_ones (mask_l e) k + 2 * other_ones (mask_l e) k ≡ sum_below k (symbol_step e)
unfolding every_second sum_below ones
counted_steps zero [] h = refl
counted_steps zero (a ∷ e) h = absurd (omega arith)
counted_steps (suc k) [] h = absurd (omega arith)
counted_steps (suc k) (a ∷ []) h = absurd (omega arith)
counted_steps (suc k) (a ∷ b ∷ e) h =
    let m : ℕ = mask_l e in
    let lx = digit-lt a in
    let ly = digit-lt b in
    let n : ℕ = m * 2 ^ 2 + (digit a + 2 * digit b) in
    let rest : k + 4 * first_ones m k + 2 * other_ones m k ≡ sum_below k (symbol_step e) = counted_steps k e (omega arith) in
    let first : ones (bit_and n (every_second k * 2 ^ 2 + 1)) ≡ first_ones m k + digit a = first_next m k (digit a) (digit b) lx ly in
    let other : ones (bit_and (bit_xor n (n / 2)) (every_second k * 2 ^ 2 + 1)) ≡ other_ones m k + bit_xor (digit a) (digit b) =
    other_next m k (digit a) (digit b) lx ly in
    ap (λ w. suc k + 4 * ones (bit_and w (every_second k * 2 ^ 2 + 1)) + 2 * ones (bit_and (bit_xor w (w / 2)) (every_second k * 2 ^ 2 + 1))) (mask_pair a b e)
    ∙ (λ i. suc k + 4 * first i + 2 * other i)
    ∙ sum_next k (digit a) (bit_xor (digit a) (digit b)) (first_ones m k) (other_ones m k) (sum_below k (symbol_step e)) rest
    ∙ (λ i. sym (step_of a b) i + sum_below k (symbol_step e))
    ∙ sym (sum_first k (symbol_step (a ∷ b ∷ e)) ∙ (λ i. first_step a b e i + sum_same k (λ j. symbol_step (a ∷ b ∷ e) (suc j)) (symbol_step e) (λ j l. next_step a b e j) i))

pub counted_turn : (e : List Bool) → length e ≡ 16 → 8 + 4 * ones (bit_and (mask_l e) 21845) + 2 * ones (bit_and (bit_xor (mask_l e) (mask_l e / 2)) 21845) ≡ turn e
unfolding turn every_second
counted_turn e h =
    let half : 8 ≡ length e / 2 = omega arith in
    counted_steps 8 e h ∙ ap (λ n. sum_below n (symbol_step e)) half

-- ---- ranges
pub sum_add : (n m : ℕ) (f : ℕ → ℕ) → sum_below (n + m) f ≡ sum_below n f + sum_below m (λ k. f (n + k))
unfolding sum_below
sum_add n zero f =
    let none : n + 0 ≡ n = omega arith in
    ap (λ k. sum_below k f) none ∙ omega arith
sum_add n (suc m) f =
    let last : n + suc m ≡ suc (n + m) = omega arith in
    let before : sum_below (n + m) f ≡ sum_below n f + sum_below m (λ k. f (n + k)) = sum_add n m f in
    ap (λ k. sum_below k f) last ∙ omega (arith, before)

-- the bits of sixteen positions behind the first 2 * place
pub piece_turn : (place : ℕ) (bits : List Bool) → 2 * place + 16 ≤ length bits
    → turn (take 16 (drop (2 * place) bits)) ≡ sum_below 8 (λ k. symbol_step bits (place + k))
unfolding turn symbol_step
piece_turn place bits h =
    let e : List Bool = take 16 (drop (2 * place) bits) in
    let long : length e ≡ 16 = length-take-le 16 (drop (2 * place) bits) (rw (length-drop) (omega arith)) in
    let half : length e / 2 ≡ 8 = omega arith in
    let at : (i : ℕ) → i < 16 → bit_at e i ≡ bit_at bits (2 * place + i) = λ i l. get_or-take 16 (drop (2 * place) bits) i false l ∙ get_or-drop (2 * place) bits i false in
    let same : (k : ℕ) → k < 8 → step (bit_at e (2 * k)) (bit_at e (2 * k + 1)) ≡ step (bit_at bits (2 * (place + k))) (bit_at bits (2 * (place + k) + 1)) = λ k l.
    let first : bit_at e (2 * k) ≡ bit_at bits (2 * (place + k)) = at (2 * k) (omega arith) ∙ ap (bit_at bits) (omega arith) in
    let second : bit_at e (2 * k + 1) ≡ bit_at bits (2 * (place + k) + 1) = at (2 * k + 1) (omega arith) ∙ ap (bit_at bits) (omega arith) in
    (λ i. step (first i) (second i)) in
    ap (λ n. sum_below n (symbol_step e)) half ∙ sum_same 8 (symbol_step e) (λ k. symbol_step bits (place + k)) same

-- symbol j of a range
pub range_step : (first last j : ℕ) (bits : List Bool) → j < last + 1 - first → symbol_step (symbols first last bits) j ≡ symbol_step bits (first - 1 + j)
unfolding symbol_step
range_step first last j bits h =
    let a : bit_at (symbols first last bits) (2 * j) ≡ bit_at bits (2 * (first - 1 + j)) = symbol_bit first last (2 * j) bits (omega arith) ∙ ap (bit_at bits) (omega arith) in
    let b : bit_at (symbols first last bits) (2 * j + 1) ≡ bit_at bits (2 * (first - 1 + j) + 1) = symbol_bit first last (2 * j + 1) bits (omega arith) ∙ ap (bit_at bits) (omega arith) in
    λ i. step (a i) (b i)

-- the steps of a slot from a symbol on
abbrev pub steps : List ℤ → ℕ → ℕ → ℕ
steps slot first k = symbol_step (signs slot) (first - 1 + k)

pub range_turn : (first last : ℕ) (slot : List ℤ) → length slot ≡ 510 → 1 ≤ first → last ≤ 255
    → turn (symbols first last (signs slot)) ≡ sum_below (last + 1 - first) (steps slot first)
unfolding turn
range_turn first last slot size low high =
    let bits : List Bool = symbols first last (signs slot) in
    ap (λ n. sum_below n (symbol_step bits)) (symbols_size first last slot size low high)
    ∙ sum_same (last + 1 - first) (symbol_step bits) (steps slot first) (λ j h. range_step first last j (signs slot) h)

-- eight steps more
pub eights_next : (slot : List ℤ) (first j sum bits eight : ℕ) → length slot ≡ 510 → 1 ≤ first → first + 8 * j + 8 ≤ 256
    → sum ≡ sum_below (8 * j) (steps slot first) → bits ≡ mask_l (take 16 (drop (2 * (first - 1 + 8 * j)) (signs slot)))
    → ((e : List Bool) → length e ≡ 16 → bits ≡ mask_l e → eight ≡ turn e)
    → sum + eight ≡ sum_below (8 * (j + 1)) (steps slot first)
eights_next slot first j sum bits eight size low high so_far mask value =
    let place : ℕ = first - 1 + 8 * j in
    let all : List Bool = signs slot in
    let whole : length all ≡ 510 = length-map slot _ ∙ size in
    let room : 2 * place + 16 ≤ length all = omega arith in
    let long : length (take 16 (drop (2 * place) all)) ≡ 16 = length-take-le 16 (drop (2 * place) all) (rw (length-drop) (omega arith)) in
    let here : eight ≡ sum_below 8 (λ k. symbol_step all (place + k)) = value (take 16 (drop (2 * place) all)) long mask ∙ piece_turn place all room in
    let same : sum_below 8 (λ k. symbol_step all (place + k)) ≡ sum_below 8 (λ k. steps slot first (8 * j + k)) =
    sum_same 8 (λ k. symbol_step all (place + k)) (λ k. steps slot first (8 * j + k)) (λ k h.
    let at : place + k ≡ first - 1 + (8 * j + k) = omega arith in
    ap (symbol_step all) at) in
    let more : 8 * (j + 1) ≡ 8 * j + 8 = omega arith in
    let both : sum_below (8 * (j + 1)) (steps slot first) ≡ sum_below (8 * j) (steps slot first) + sum_below 8 (λ k. steps slot first (8 * j + k)) =
    ap (λ n. sum_below n (steps slot first)) more ∙ sum_add (8 * j) 8 (steps slot first) in
    (λ i. so_far i + (here ∙ same) i) ∙ sym both

-- the whole eights of a range
pub eights_begin : (slot : List ℤ) (first last q sum : ℕ) → length slot ≡ 510 → 1 ≤ first → first ≤ last → last ≤ 255 → q * 8 ≤ last + 1 - first
    → sum ≡ turn (symbols first (first + 8 * q - 1) (signs slot)) → sum ≡ sum_below (q * 8) (symbol_step (symbols first last (signs slot)))
eights_begin slot first last q sum size low some high within e =
    let n : first + 8 * q - 1 + 1 - first ≡ q * 8 = omega arith in
    let top : first + 8 * q - 1 ≤ 255 = omega arith in
    let bits : List Bool = symbols first last (signs slot) in
    e ∙ range_turn first (first + 8 * q - 1) slot size low top
    ∙ ap (λ k. sum_below k (steps slot first)) n
    ∙ sym (sum_same (q * 8) (symbol_step bits) (steps slot first) (λ j h. range_step first last j (signs slot) (omega arith)))
