-- Numbers and their binary digits, the most significant first.
use Prim.Native.Nat.{zero, suc}
use Rattle.std.proofs.Common.{◌≡◌, ℕ, ◌+◌, ◌-◌, ◌*◌, ◌/◌, ◌%◌, ◌^◌, ◌<◌, ◌≤◌, ◌⊎◌, inl, inr, Bool, true, false, nat_eq, List, [], ◌∷◌, length, get_or, arith, refl, ap, sym, ◌∙◌, subst}
use Rattle.std.proofs.lemmas.Bool.{cases_lt}
use Rattle.std.proofs.lemmas.Nat.Bits.{bit_at_lowest, bit_at_cat_low, bit_at_cat_high}
use Rattle.std.proofs.Math.Nat.{pow-succ', div-lt_iff_lt-mul}
use Rattle.std.proofs.lemmas.Nat.{pow_pos}
use Rattle.std.specs.Int.{bit_at}
use Rattle.tetra_bits.specs.Digits.{digit, digits}
use Rattle.tetra_bits.specs.Least.{Ranks, FirstLeast}
use Rattle.tetra_bits.specs.Numbered.{length-numbered, get_or-numbered, is_numbered, numbered_none}
use Rattle.tetra_bits.specs.Order.{StandsBefore}
use Rattle.tetra_bits.specs.Sums.{bit_number}
use Rattle.tetra_bits.specs.lemmas.Best.{before_more, zero_before_one}

pub length-digits : (n number : ℕ) → length (digits n number) ≡ n
unfolding digits
length-digits n number = length-numbered (digit n number) n

-- the digit at place k, counted from 0
pub digit_at : (n number k : ℕ) → k < n → get_or (digits n number) k false ≡ nat_eq (number / 2 ^ (n - (k + 1)) % 2) 1
unfolding digits digit
digit_at n number k h = get_or-numbered (digit n number) n k false h

first_entry : (n d y k : ℕ) → d < 2 → y < 2 ^ n → k < suc n → get_or (nat_eq d 1 ∷ digits n y) k false ≡ digit (suc n) (d * 2 ^ n + y) (k + 1)
unfolding digit
first_entry n d y zero h l below =
    let i : suc n - (zero + 1) ≡ n = omega arith in
    let j : n - n ≡ 0 = omega arith in
    let high : bit_at (d * 2 ^ n + y) n ≡ bit_at d (n - n) = bit_at_cat_high d n y n l (omega arith) in
    let one : bit_at d 0 ≡ d = bit_at_lowest d ∙ omega arith in
    sym (ap (λ b. nat_eq b 1) (ap (bit_at (d * 2 ^ n + y)) i ∙ high ∙ ap (bit_at d) j ∙ one))
first_entry n d y (suc k) h l below =
    let i : suc n - (suc k + 1) ≡ n - (k + 1) = omega arith in
    let low : bit_at (d * 2 ^ n + y) (n - (k + 1)) ≡ bit_at y (n - (k + 1)) = bit_at_cat_low d n y (n - (k + 1)) (omega arith) in
    digit_at n y k (omega arith) ∙ sym (ap (λ b. nat_eq b 1) (ap (bit_at (d * 2 ^ n + y)) i ∙ low))

-- the first digit, and the digits behind it
pub digits_first : (n d y : ℕ) → d < 2 → y < 2 ^ n → digits (suc n) (d * 2 ^ n + y) ≡ nat_eq d 1 ∷ digits n y
unfolding digits
digits_first n d y h l =
    sym (is_numbered (digit (suc n) (d * 2 ^ n + y)) (suc n) false (nat_eq d 1 ∷ digits n y) (ap suc (length-digits n y)) (λ k below. first_entry n d y k h l below))

-- the first digit of any number, and the digits behind it
next_entry : (n x k : ℕ) → k < suc n → get_or (nat_eq (x / 2 ^ n % 2) 1 ∷ digits n x) k false ≡ digit (suc n) x (k + 1)
unfolding digit
next_entry n x zero below = let place : suc n - (zero + 1) ≡ n = omega arith in ap (λ p. nat_eq (x / 2 ^ p % 2) 1) (sym place)
next_entry n x (suc k) below =
    let place : suc n - (suc k + 1) ≡ n - (k + 1) = omega arith in
    digit_at n x k (omega arith) ∙ ap (λ p. nat_eq (x / 2 ^ p % 2) 1) (sym place)

pub digits_cons : (n x : ℕ) → digits (suc n) x ≡ nat_eq (x / 2 ^ n % 2) 1 ∷ digits n x
unfolding digits
digits_cons n x = sym (is_numbered (digit (suc n) x) (suc n) false (nat_eq (x / 2 ^ n % 2) 1 ∷ digits n x) (ap suc (length-digits n x)) (next_entry n x))

-- the last n digits of a number
low_bit : (n x i : ℕ) → i < n → bit_at x i ≡ bit_at (x % 2 ^ n) i
low_bit n x i h =
    let whole : x ≡ x / 2 ^ n * 2 ^ n + x % 2 ^ n = omega (arith, pow_pos n) in
    ap (λ y. bit_at y i) whole ∙ bit_at_cat_low (x / 2 ^ n) n (x % 2 ^ n) i h

pub digits_low : (n x y : ℕ) → x % 2 ^ n ≡ y % 2 ^ n → digits n x ≡ digits n y
unfolding digits digit
digits_low n x y same =
    is_numbered (digit n y) n false (digits n x) (length-digits n x)
    (λ k h. digit_at n x k h ∙ ap (λ b. nat_eq b 1) (low_bit n x (n - (k + 1)) (omega arith) ∙ ap (λ z. bit_at z (n - (k + 1))) same ∙ sym (low_bit n y (n - (k + 1)) (omega arith))))

-- the number of a list of bits
unfoldable pub number_of : List Bool → ℕ
number_of [] = 0
number_of (b ∷ bits) = bit_number b * 2 ^ length bits + number_of bits

first_small : (b : Bool) (p n : ℕ) → n < p → bit_number b * p + n < 2 * p
first_small true p n h = omega arith
first_small false p n h = omega arith

pub number_small : (bits : List Bool) → number_of bits < 2 ^ length bits
unfolding number_of
number_small [] = omega arith
number_small (b ∷ bits) = rw (pow-succ' 2 (length bits)) (first_small b (2 ^ length bits) (number_of bits) (number_small bits))

small_bit : (b : Bool) → bit_number b < 2
small_bit true = omega arith
small_bit false = omega arith

same_bit : (b : Bool) → nat_eq (bit_number b) 1 ≡ b
same_bit true = refl
same_bit false = refl

pub digits_of_number : (bits : List Bool) → digits (length bits) (number_of bits) ≡ bits
unfolding number_of digits
digits_of_number [] = numbered_none (digit 0 0)
digits_of_number (b ∷ bits) =
    digits_first (length bits) (bit_number b) (number_of bits) (small_bit b) (number_small bits)
    ∙ ap (λ first. first ∷ digits (length bits) (number_of bits)) (same_bit b)
    ∙ ap (λ rest. b ∷ rest) (digits_of_number bits)

-- one digit more
before_step : (n da ya db yb : ℕ) → da < 2 → db < 2 → ya < 2 ^ n → yb < 2 ^ n → da * 2 ^ n + ya < db * 2 ^ n + yb
    → (ya < yb → StandsBefore (digits n ya) (digits n yb)) → StandsBefore (digits (suc n) (da * 2 ^ n + ya)) (digits (suc n) (db * 2 ^ n + yb))
before_step n zero ya zero yb ha hb la lb less more =
    rw (digits_first n 0 ya ha la, digits_first n 0 yb hb lb) (before_more false (digits n ya) (digits n yb) (more (omega arith)))
before_step n zero ya (suc zero) yb ha hb la lb less more =
    rw (digits_first n 0 ya ha la, digits_first n 1 yb hb lb) (zero_before_one (digits n ya) (digits n yb))
before_step n (suc zero) ya zero yb ha hb la lb less more = absurd (omega arith)
before_step n (suc zero) ya (suc zero) yb ha hb la lb less more =
    rw (digits_first n 1 ya ha la, digits_first n 1 yb hb lb) (before_more true (digits n ya) (digits n yb) (more (omega arith)))
before_step n (suc (suc d)) ya db yb ha hb la lb less more = absurd (omega arith)
before_step n zero ya (suc (suc d)) yb ha hb la lb less more = absurd (omega arith)
before_step n (suc zero) ya (suc (suc d)) yb ha hb la lb less more = absurd (omega arith)

-- the first digit of a number, and the number of the others
high_digit : (p x : ℕ) → 0 < p → x < 2 * p → (x / p < 2) × (x % p < p) × (x ≡ x / p * p + x % p)
high_digit p x positive h =
    let l : x / p < 2 = (div-lt_iff_lt-mul {k = p} {x = x} {y = 2} positive).1 h in
    (l, omega arith, omega arith)

-- the smaller number stands first
pub digits_before : (n a b : ℕ) → a < b → b < 2 ^ n → StandsBefore (digits n a) (digits n b)
digits_before zero a b less small = absurd (omega arith)
digits_before (suc n) a b less small =
    let positive : 0 < 2 ^ n = pow_pos n in
    let double : b < 2 * 2 ^ n = rw (← (pow-succ' 2 n)) small in
    let da = high_digit (2 ^ n) a positive (omega arith) in
    let db = high_digit (2 ^ n) b positive double in
    let ea : a ≡ a / 2 ^ n * 2 ^ n + a % 2 ^ n = da.2 in
    let eb : b ≡ b / 2 ^ n * 2 ^ n + b % 2 ^ n = db.2 in
    let apart : a / 2 ^ n * 2 ^ n + a % 2 ^ n < b / 2 ^ n * 2 ^ n + b % 2 ^ n = omega arith in
    let step = before_step n (a / 2 ^ n) (a % 2 ^ n) (b / 2 ^ n) (b % 2 ^ n) da.0 db.0 da.1 db.1 apart (λ l. digits_before n (a % 2 ^ n) (b % 2 ^ n) l db.1) in
    subst (λ x. StandsBefore (digits (suc n) x) (digits (suc n) b)) (sym ea) (subst (λ y. StandsBefore (digits (suc n) (a / 2 ^ n * 2 ^ n + a % 2 ^ n)) (digits (suc n) y)) (sym eb) step)

-- a number whose digits rate least, and less than those of each smaller number, is that of the first-least message
module _ (n : ℕ) (rate : List Bool → ℕ) (m : ℕ) (least : (j : ℕ) → j < 2 ^ n → rate (digits n m) ≤ rate (digits n j)) (first : (j : ℕ) → j < m → rate (digits n m) < rate (digits n j)) where
  beats_number : (j : ℕ) → j < 2 ^ n → (digits n m ≡ digits n j) ⊎ Ranks rate (digits n m) (digits n j)
  unfolding Ranks
  beats_number j small =
      elim (cases_lt j m) [
        | inl lower ↦ inr (inl (first j lower))
        | inr ge ↦ elim (cases_lt m j) [
          | inr le ↦ let same : m ≡ j = omega arith in inl (ap (digits n) same)
          | inl higher ↦ elim (cases_lt (rate (digits n m)) (rate (digits n j))) [
            | inl less ↦ inr (inl less)
            | inr more ↦ let most : rate (digits n m) ≤ rate (digits n j) = least j small in inr (inr (omega arith, digits_before n m j higher small))
          ]
        ]
      ]

  pub number_is_first : FirstLeast n rate (digits n m)
  number_is_first = record { has_length = length-digits n m; beats = beats }
    where
      beats : (other : List Bool) → length other ≡ n → (digits n m ≡ other) ⊎ Ranks rate (digits n m) other
      beats other size =
          let back : digits n (number_of other) ≡ other = ap (λ k. digits k (number_of other)) (sym size) ∙ digits_of_number other in
          let small : number_of other < 2 ^ n = rw (← size) (number_small other) in
          rw (← back) (beats_number (number_of other) small)
