-- The places of a matrix are one-to-one: rows and columns exchanged, and exchanged again.
use Rattle.std.proofs.Common.{ℕ, ◌+◌, ◌-◌, ◌*◌, ◌/◌, ◌%◌, ◌<◌, ◌≤◌, ◌≡◌, inl, inr, arith, ap, sym, ◌∙◌}
use Rattle.std.proofs.lemmas.Bool.{cases_eq}
use Rattle.std.proofs.lemmas.Nat.{mod_below, div_below, mul-add-lt, mod-mul-add, div-mul-add, div-add-mod'}
use Rattle.tetra_interleave.specs.Laws.{MatricesAreOneToOne}
use Rattle.tetra_interleave.specs.Matrix.{matrix_place}

-- with an entry there are rows and columns
pub has_sides : (r c q : ℕ) → q < r * c → (0 < r) × (0 < c)
has_sides r c q h = elim (cases_eq r 0) [
  | inl zr ↦ let e : r * c ≡ 0 * c = ap (λ n. n * c) zr in absurd (omega arith)
  | inr nr ↦ elim (cases_eq c 0) [
    | inl zc ↦ let e : r * c ≡ r * 0 = ap (λ n. r * n) zc in absurd (omega arith)
    | inr nc ↦ (omega arith, omega arith)
  ]
]

-- the place of entry q, both counted from 0
pub cell_below : (r c q : ℕ) → q < r * c → r * (q % c) + q / c < r * c
cell_below r c q h =
    let s = has_sides r c q h in
    let low : q % c < c = mod_below q c s.1 in
    let few : q / c < r = div_below q c r s.1 h in
    let place : q % c * r + q / c < r * c = mul-add-lt (q % c) r (q / c) c low few in
    omega arith

-- exchanged twice
cell_back : (r c q : ℕ) → q < r * c → c * ((r * (q % c) + q / c) % r) + (r * (q % c) + q / c) / r ≡ q
cell_back r c q h =
    let s = has_sides r c q h in
    let few : q / c < r = div_below q c r s.1 h in
    let turn : r * (q % c) + q / c ≡ q % c * r + q / c = omega arith in
    let m : (r * (q % c) + q / c) % r ≡ q / c = ap (λ n. n % r) turn ∙ mod-mul-add (q % c) r (q / c) few in
    let d : (r * (q % c) + q / c) / r ≡ q % c = ap (λ n. n / r) turn ∙ div-mul-add (q % c) r (q / c) few in
    let whole : q / c * c + q % c ≡ q = div-add-mod' q c in
    rw (m, d) (omega arith)

place_within : (rows cols i : ℕ) → 1 ≤ i → i ≤ rows * cols
    → (1 ≤ matrix_place rows cols i) × (matrix_place rows cols i ≤ rows * cols)
unfolding matrix_place
place_within rows cols i one le =
    let h = cell_below rows cols (i - 1) (omega arith) in
    (omega arith, omega arith)

pub place_back : (rows cols i : ℕ) → 1 ≤ i → i ≤ rows * cols → matrix_place cols rows (matrix_place rows cols i) ≡ i
unfolding matrix_place
place_back rows cols i one le =
    let n = rows * ((i - 1) % cols) + (i - 1) / cols in
    let e : n + 1 - 1 ≡ n = omega arith in
    let h : cols * (n % rows) + n / rows ≡ i - 1 = cell_back rows cols (i - 1) (omega arith) in
    rw e (omega arith)

pub matrices_are_one_to_one : MatricesAreOneToOne
matrices_are_one_to_one rows cols =
    let turn : cols * rows ≡ rows * cols = omega arith in
    record {
      within = place_within rows cols;
      apart = λ i k one le one_k le_k same. sym (place_back rows cols i one le) ∙ ap (matrix_place cols rows) same ∙ place_back rows cols k one_k le_k;
      filled = λ j one le.
          let w = place_within cols rows j one (omega arith) in
          (matrix_place cols rows j, w.0, omega (arith, w.1), place_back cols rows j one (omega arith));
    }
