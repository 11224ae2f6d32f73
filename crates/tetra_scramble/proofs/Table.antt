-- The register of the last 32 bits, and the table of what its bits add to those that come.
use Prim.Native.Nat.{zero, suc}
use Rattle.std.proofs.Common.{◌≡◌, ℕ, ◌+◌, ◌-◌, ◌*◌, ◌/◌, ◌%◌, ◌^◌, ◌<◌, ◌⊎◌, inl, inr, Bool, true, false, ◌&&◌, nat_eq, cond, List, [], ◌∷◌, ◌++◌, get_or, arith, refl, ap, sym, ◌∙◌}
use Rattle.std.proofs.Math.Bool.{beq}
use Rattle.std.proofs.lemmas.Bool.{cases_lt, and_parts}
use Rattle.std.proofs.lemmas.Nat.{shr-shr}
use Rattle.std.proofs.lemmas.Nat.Bits.{bit_at_xor}
use Rattle.std.specs.Int.Bits.{bit_xor}
use Rattle.tetra_bits.specs.Order.{bit_at}
use Rattle.tetra_bits.specs.Sums.{add2, bit_number}
use Rattle.tetra_bits.specs.Digits.{digit, digits}
use Rattle.tetra_bits.specs.Numbered.{numbered, get_or-numbered}
use Rattle.tetra_bits.specs.lemmas.Digits.{digits-cat}
use Rattle.tetra_scramble.specs.Key.{distances, sum2_over, past, key_bit}
use Rattle.tetra_scramble.specs.Register.{HoldsLast, AreNext}
use Rattle.tetra_scramble.specs.declared.register.TheConstants.{NEXT}
use Rattle.tetra_scramble.proofs.Numbers.{number_of_rest}
use Rattle.tetra_scramble.proofs.Recurrence.{past_at}

-- whether a number is odd
abbrev pub odd : ℕ → Bool
odd n = nat_eq (n % 2) 1

rest_of_two : (n : ℕ) → (n % 2 ≡ 0) ⊎ (n % 2 ≡ 1)
rest_of_two n = elim (cases_lt (n % 2) 1) [ inl h ↦ inl (omega arith) | inr h ↦ inr (omega arith) ]

odd-add : (a b : ℕ) → odd (a + b) ≡ add2 (odd a) (odd b)
odd-add a b = elim (rest_of_two a) [
  | inl ea ↦ elim (rest_of_two b) [
    | inl eb ↦ let e : (a + b) % 2 ≡ 0 = omega arith in rw (ea, eb, e) refl
    | inr eb ↦ let e : (a + b) % 2 ≡ 1 = omega arith in rw (ea, eb, e) refl
  ]
  | inr ea ↦ elim (rest_of_two b) [
    | inl eb ↦ let e : (a + b) % 2 ≡ 1 = omega arith in rw (ea, eb, e) refl
    | inr eb ↦ let e : (a + b) % 2 ≡ 0 = omega arith in rw (ea, eb, e) refl
  ]
]

-- the sum modulo 2 of f k, f (k + 1) and so on where the mask has 1
unfoldable pub masked : List Bool → (ℕ → Bool) → ℕ → Bool
masked [] f k = false
masked (m ∷ ms) f k = add2 (cond m (f k) false) (masked ms f (suc k))

-- the taps of the register, the newest bit first
abbrev tap_list : List Bool
tap_list =
    true ∷ true ∷ false ∷ true ∷ true ∷ false ∷ true ∷ true
    ∷ false ∷ true ∷ true ∷ true ∷ false ∷ false ∷ false ∷ true
    ∷ false ∷ false ∷ false ∷ false ∷ false ∷ true ∷ true ∷ false
    ∷ false ∷ true ∷ false ∷ false ∷ false ∷ false ∷ false ∷ true ∷ []

-- the sum modulo 2 of two masks, entry by entry
added : List Bool → List Bool → List Bool
added [] ys = ys
added (x ∷ xs) [] = x ∷ xs
added (x ∷ xs) (y ∷ ys) = add2 x y ∷ added xs ys

-- the mask that has, at one bit before, the sum of a mask: the mask moved up by one place, and the taps for a one that goes out
step : List Bool → List Bool
step [] = []
step (m ∷ ms) = cond m (added tap_list (ms ++ false ∷ [])) (ms ++ false ∷ [])

steps : ℕ → List Bool
steps zero = tap_list
steps (suc j) = step (steps j)

add2-none : (a : Bool) → add2 a false ≡ a
add2-none true = refl
add2-none false = refl

crossed : (a b x y v : Bool) → add2 (cond (add2 a b) v false) (add2 x y) ≡ add2 (add2 (cond a v false) x) (add2 (cond b v false) y)
crossed false false x y v = refl
crossed true false x y false = refl
crossed true false true true true = refl
crossed true false true false true = refl
crossed true false false y true = refl
crossed false true x y false = refl
crossed false true true y true = refl
crossed false true false y true = refl
crossed true true x y false = refl
crossed true true true y true = refl
crossed true true false true true = refl
crossed true true false false true = refl

masked-added : (xs ys : List Bool) (f : ℕ → Bool) (k : ℕ) → masked (added xs ys) f k ≡ add2 (masked xs f k) (masked ys f k)
unfolding masked added
masked-added [] ys f k = refl
masked-added (x ∷ xs) [] f k = sym (add2-none (add2 (cond x (f k) false) (masked xs f (suc k))))
masked-added (x ∷ xs) (y ∷ ys) f k = rw (masked-added xs ys f (suc k)) (crossed x y (masked xs f (suc k)) (masked ys f (suc k)) (f k))

masked-more : (ms : List Bool) (f : ℕ → Bool) (k : ℕ) → masked (ms ++ false ∷ []) f k ≡ masked ms f k
unfolding masked
masked-more [] f k = refl
masked-more (m ∷ ms) f k = ap (add2 (cond m (f k) false)) (masked-more ms f (suc k))

masked-same : (ms : List Bool) (f g : ℕ → Bool) (k l : ℕ) → ((j : ℕ) → f (k + j) ≡ g (l + j)) → masked ms f k ≡ masked ms g l
unfolding masked
masked-same [] f g k l e = refl
masked-same (m ∷ ms) f g k l e =
    let first : f k ≡ g l = ap f (omega arith) ∙ e 0 ∙ ap g (omega arith) in
    let more : masked ms f (suc k) ≡ masked ms g (suc l) = masked-same ms f g (suc k) (suc l) (λ j. ap f (omega arith) ∙ e (suc j) ∙ ap g (omega arith)) in
    rw (first, more) refl

-- the sum at the taps is the next bit
tapped : (e : List Bool) (n : ℕ) → masked tap_list (bit_at (past e n)) 0 ≡ bit_at (past e (suc n)) 0
unfolding past sum2_over distances masked
tapped e n = refl

before : (e : List Bool) (n : ℕ) (ms : List Bool) → masked ms (bit_at (past e (suc n))) 1 ≡ masked (ms ++ false ∷ []) (bit_at (past e n)) 0
unfolding past
before e n ms =
    masked-same ms (bit_at (past e (suc n))) (bit_at (past e n)) 1 0 (λ j. let a : 0 + j ≡ j = omega arith in let b : 1 + j ≡ suc j = omega arith in rw (a, b) refl)
    ∙ sym (masked-more ms (bit_at (past e n)) 0)

adjoint : (e : List Bool) (n : ℕ) (ms : List Bool) → masked ms (bit_at (past e (suc n))) 0 ≡ masked (step ms) (bit_at (past e n)) 0
unfolding masked step
adjoint e n [] = refl
adjoint e n (true ∷ ms) =
    ap (add2 (bit_at (past e (suc n)) 0)) (before e n ms)
    ∙ ap (λ b. add2 b (masked (ms ++ false ∷ []) (bit_at (past e n)) 0)) (sym (tapped e n))
    ∙ sym (masked-added tap_list (ms ++ false ∷ []) (bit_at (past e n)) 0)
adjoint e n (false ∷ ms) = before e n ms

-- mask j has the sum of bit j of those that come
steps_bit : (e : List Bool) (j n : ℕ) → masked (steps j) (bit_at (past e n)) 0 ≡ key_bit e (n + j + 1)
unfolding key_bit steps
steps_bit e zero n = let s : n + 0 + 1 ≡ suc n = omega arith in rw s (tapped e n)
steps_bit e (suc j) n =
    let s : suc n + j + 1 ≡ n + suc j + 1 = omega arith in
    sym (adjoint e n (steps j)) ∙ steps_bit e j (suc n) ∙ ap (key_bit e) s

-- bit j of a number, counted from 0 from the lowest
abbrev bit_of : ℕ → ℕ → Bool
bit_of x j = nat_eq (x / 2 ^ j % 2) 1

-- the bits of an exclusive or are the sums of the bits
xor_bit : (x y j : ℕ) → bit_of (bit_xor x y) j ≡ add2 (bit_of x j) (bit_of y j)
xor_bit x y j =
    let a : ℕ = x / 2 ^ j % 2 in
    let b : ℕ = y / 2 ^ j % 2 in
    let ea : a % 2 ≡ a = omega arith in
    let eb : b % 2 ≡ b = omega arith in
    ap (λ n. nat_eq n 1) (bit_at_xor x y j) ∙ odd-add a b ∙ ap (λ n. add2 (nat_eq n 1) (odd b)) ea ∙ ap (λ n. add2 (nat_eq a 1) (nat_eq n 1)) eb

-- the number of four digits
abbrev four : Bool → Bool → Bool → Bool → ℕ
four a b c d = bit_number a * 8 + bit_number b * 4 + bit_number c * 2 + bit_number d

-- a test holds of both bits
abbrev both : (Bool → Bool) → Bool
both p = p true && p false

both_at : (p : Bool → Bool) → both p ≡ true → (b : Bool) → p b ≡ true
both_at p h true = (and_parts (p true) (p false) h).0
both_at p h false = (and_parts (p true) (p false) h).1

-- the sum of four digits at the ones of four places of a mask
abbrev sum_of_four : (m n o p a b c d : Bool) → Bool
sum_of_four m n o p a b c d = add2 (cond m a false) (add2 (cond n b false) (add2 (cond o c false) (cond p d false)))

-- bit j of the entries of a row has these sums
abbrev row_fits : ℕ → List ℕ → (m n o p : Bool) → Bool
row_fits j row m n o p =
    both (λ a. both (λ b. both (λ c. both (λ d. beq (bit_of (get_or row (four a b c d) 0) j) (sum_of_four m n o p a b c d)))))

same : (a b : Bool) → beq a b ≡ true → a ≡ b
same true true h = refl
same true false h = cc
same false true h = cc
same false false h = refl

row_at : (j : ℕ) (row : List ℕ) (m n o p : Bool) → row_fits j row m n o p ≡ true → (a b c d : Bool) → bit_of (get_or row (four a b c d) 0) j ≡ sum_of_four m n o p a b c d
row_at j row m n o p h a b c d =
    same (bit_of (get_or row (four a b c d) 0) j) (sum_of_four m n o p a b c d)
    (both_at (λ z. beq (bit_of (get_or row (four a b c z) 0) j) (sum_of_four m n o p a b c z))
    (both_at (λ y. both (λ z. beq (bit_of (get_or row (four a b y z) 0) j) (sum_of_four m n o p a b y z)))
    (both_at (λ x. both (λ y. both (λ z. beq (bit_of (get_or row (four a x y z) 0) j) (sum_of_four m n o p a x y z))))
    (both_at (λ w. both (λ x. both (λ y. both (λ z. beq (bit_of (get_or row (four w x y z) 0) j) (sum_of_four m n o p w x y z))))) h a) b) c) d)

-- bit j of the entries of a table has the sums of a mask
unfoldable fits : ℕ → List (List ℕ) → List Bool → Bool
fits j [] [] = true
fits j [] (m ∷ ms) = false
fits j (row ∷ rows) (m ∷ n ∷ o ∷ p ∷ ms) = row_fits j row m n o p && fits j rows ms
fits j (row ∷ rows) _ = false

-- the sum of bit j of the entries of a table for the digits f k, f (k + 1) and so on
unfoldable row_sum : ℕ → List (List ℕ) → (ℕ → Bool) → ℕ → Bool
row_sum j [] f k = false
row_sum j (row ∷ rows) f k =
    add2 (bit_of (get_or row (four (f k) (f (suc k)) (f (suc (suc k))) (f (suc (suc (suc k))))) 0) j) (row_sum j rows f (suc (suc (suc (suc k)))))

add2-assoc : (a b c : Bool) → add2 (add2 a b) c ≡ add2 a (add2 b c)
add2-assoc true true true = refl
add2-assoc true true false = refl
add2-assoc true false c = refl
add2-assoc false b c = refl

fits_sum : (j : ℕ) (rows : List (List ℕ)) (ms : List Bool) (f : ℕ → Bool) (k : ℕ) → fits j rows ms ≡ true → row_sum j rows f k ≡ masked ms f k
unfolding fits row_sum masked
fits_sum j [] [] f k h = refl
fits_sum j [] (m ∷ ms) f k h = cc
fits_sum j (row ∷ rows) [] f k h = cc
fits_sum j (row ∷ rows) (m ∷ []) f k h = cc
fits_sum j (row ∷ rows) (m ∷ n ∷ []) f k h = cc
fits_sum j (row ∷ rows) (m ∷ n ∷ o ∷ []) f k h = cc
fits_sum j (row ∷ rows) (m ∷ n ∷ o ∷ p ∷ ms) f k h =
    let parts = and_parts (row_fits j row m n o p) (fits j rows ms) h in
    let l : ℕ = suc (suc (suc (suc k))) in
    rw (row_at j row m n o p parts.0 (f k) (f (suc k)) (f (suc (suc k))) (f (suc (suc (suc k)))), fits_sum j rows ms f l parts.1)
    (simp add2-assoc)

-- bits j, j + 1 and so on of the entries of the table, n in all, have the sums of a mask and of those after it
unfoldable all_fit : ℕ → ℕ → List Bool → Bool
all_fit zero j ms = true
all_fit (suc n) j ms = fits j NEXT ms && all_fit n (suc j) (step ms)

all_fit_at : (n j i : ℕ) → all_fit n j (steps j) ≡ true → i < n → fits (j + i) NEXT (steps (j + i)) ≡ true
unfolding all_fit steps
all_fit_at zero j i h l = absurd (omega arith)
all_fit_at (suc n) j zero h l =
    let place : j + 0 ≡ j = omega arith in
    rw place (and_parts (fits j NEXT (steps j)) (all_fit n (suc j) (step (steps j))) h).0
all_fit_at (suc n) j (suc i) h l =
    let place : suc j + i ≡ j + suc i = omega arith in
    rw place at (all_fit_at n (suc j) i (and_parts (fits j NEXT (steps j)) (all_fit n (suc j) (step (steps j))) h).1 (omega arith))

table_fits : all_fit 32 0 tap_list ≡ true
unfolding all_fit fits step added
table_fits = refl

entries_fit : (j : ℕ) → j < 32 → fits j NEXT (steps j) ≡ true
unfolding steps
entries_fit j h = let place : 0 + j ≡ j = omega arith in rw place at (all_fit_at 32 0 j table_fits h)

-- four digits of a register
low_four : (q : ℕ) → four (bit_of q 3) (bit_of q 2) (bit_of q 1) (bit_of q 0) ≡ q % 16
low_four q =
    rw (number_of_rest (q / 2 ^ 3 % 2) (omega arith), number_of_rest (q / 2 ^ 2 % 2) (omega arith), number_of_rest (q / 2 ^ 1 % 2) (omega arith), number_of_rest (q / 2 ^ 0 % 2) (omega arith))
    (omega arith)

digit_at : (e : List Bool) (n r s t k : ℕ) → HoldsLast e n r → k < 32 → s + t + k ≡ 31 → bit_at (past e n) k ≡ bit_of (r / 2 ^ s) t
unfolding digit
digit_at e n r s t k holds l h =
    let place : 32 - (k + 1) ≡ s + t = omega arith in
    sym (holds k l) ∙ ap (λ m. nat_eq (r / 2 ^ m % 2) 1) place ∙ ap (λ m. nat_eq (m % 2) 1) (sym (shr-shr r s t))

four_at : (e : List Bool) (n r s k : ℕ) → HoldsLast e n r → s + k ≡ 28 → four (bit_at (past e n) k) (bit_at (past e n) (suc k)) (bit_at (past e n) (suc (suc k))) (bit_at (past e n) (suc (suc (suc k)))) ≡ r / 2 ^ s % 16
four_at e n r s k holds h =
    rw (
      digit_at e n r s 3 k holds (omega arith) (omega arith),
      digit_at e n r s 2 (suc k) holds (omega arith) (omega arith),
      digit_at e n r s 1 (suc (suc k)) holds (omega arith) (omega arith),
      digit_at e n r s 0 (suc (suc (suc k))) holds (omega arith) (omega arith),
    )
    (low_four (r / 2 ^ s))

-- the entry of a row for four digits
abbrev entry : ℕ → (ℕ → Bool) → ℕ → ℕ
entry row f k = get_or (get_or NEXT row []) (four (f k) (f (suc k)) (f (suc (suc k))) (f (suc (suc (suc k))))) 0

xor_more : (x y j : ℕ) (z : Bool) → add2 (bit_of (bit_xor x y) j) z ≡ add2 (bit_of x j) (add2 (bit_of y j) z)
xor_more x y j z = ap (λ b. add2 b z) (xor_bit x y j) ∙ add2-assoc (bit_of x j) (bit_of y j) z

eight_xor : (j a b c d e f g h : ℕ) → bit_of (bit_xor (bit_xor (bit_xor (bit_xor (bit_xor (bit_xor (bit_xor a b) c) d) e) f) g) h) j
    ≡ add2 (bit_of a j) (add2 (bit_of b j) (add2 (bit_of c j) (add2 (bit_of d j) (add2 (bit_of e j) (add2 (bit_of f j) (add2 (bit_of g j) (add2 (bit_of h j) false)))))))
eight_xor j a b c d e f g h =
    let two : ℕ = bit_xor a b in
    let three : ℕ = bit_xor two c in
    let more : ℕ = bit_xor three d in
    let five : ℕ = bit_xor more e in
    let six : ℕ = bit_xor five f in
    let seven : ℕ = bit_xor six g in
    sym (add2-none (bit_of (bit_xor seven h) j))
    ∙ xor_more seven h j false
    ∙ xor_more six g j _
    ∙ xor_more five f j _
    ∙ xor_more more e j _
    ∙ xor_more three d j _
    ∙ xor_more two c j _
    ∙ xor_more a b j _

entries_sum : (j : ℕ) (v : ℕ → Bool) (a b c d e f g h : ℕ)
    → a ≡ entry 0 v 0 → b ≡ entry 1 v 4 → c ≡ entry 2 v 8 → d ≡ entry 3 v 12 → e ≡ entry 4 v 16 → f ≡ entry 5 v 20 → g ≡ entry 6 v 24 → h ≡ entry 7 v 28
    → add2 (bit_of a j) (add2 (bit_of b j) (add2 (bit_of c j) (add2 (bit_of d j) (add2 (bit_of e j) (add2 (bit_of f j) (add2 (bit_of g j) (add2 (bit_of h j) false))))))) ≡ row_sum j NEXT v 0
unfolding row_sum
entries_sum j v a b c d e f g h ea eb ec ed ee ef eg eh = rw (ea, eb, ec, ed, ee, ef, eg, eh) refl

-- what a row adds, as the code computes it
pub entry_at : (e : List Bool) (n r row s k d x : ℕ) → HoldsLast e n r → s + k ≡ 28 → d ≡ r / 2 ^ s → x ≡ get_or (get_or NEXT row []) (d % 16) 0 → x ≡ entry row (bit_at (past e n)) k
entry_at e n r row s k d x holds h ed ex = ex ∙ ap (λ v. get_or (get_or NEXT row []) v 0) (ap (λ v. v % 16) ed ∙ sym (four_at e n r s k holds h))

-- the register 32 bits on
pub next_register : (l : List Bool) (n a b c d e f g h : ℕ)
    → a ≡ entry 0 (bit_at (past l n)) 0 → b ≡ entry 1 (bit_at (past l n)) 4 → c ≡ entry 2 (bit_at (past l n)) 8 → d ≡ entry 3 (bit_at (past l n)) 12
    → e ≡ entry 4 (bit_at (past l n)) 16 → f ≡ entry 5 (bit_at (past l n)) 20 → g ≡ entry 6 (bit_at (past l n)) 24 → h ≡ entry 7 (bit_at (past l n)) 28
    → HoldsLast l (n + 32) (bit_xor (bit_xor (bit_xor (bit_xor (bit_xor (bit_xor (bit_xor a b) c) d) e) f) g) h)
unfolding digit
next_register l n a b c d e f g h ea eb ec ed ee ef eg eh i low =
    let j : ℕ = 31 - i in
    let v : ℕ → Bool = bit_at (past l n) in
    let place : 32 - (i + 1) ≡ j = omega arith in
    let back : n + 32 - i ≡ n + j + 1 = omega arith in
    ap (bit_of (bit_xor (bit_xor (bit_xor (bit_xor (bit_xor (bit_xor (bit_xor a b) c) d) e) f) g) h)) place
    ∙ eight_xor j a b c d e f g h
    ∙ entries_sum j v a b c d e f g h ea eb ec ed ee ef eg eh
    ∙ fits_sum j NEXT (steps j) v 0 (entries_fit j (omega arith))
    ∙ steps_bit l j n
    ∙ sym (past_at l (n + 32) i (omega arith) ∙ ap (key_bit l) back)

-- the register at the start
pub first_register : (number : ℕ) → HoldsLast (digits 30 number) 0 (number * 4 + 3)
unfolding past digits numbered digit
first_register number i h =
    let whole : digits 32 (number * 4 + 3) ≡ digits 30 number ++ digits 2 3 = digits-cat 30 2 number 3 (omega arith) in
    sym (get_or-numbered (digit 32 (number * 4 + 3)) 32 i false h) ∙ ap (λ bits. bit_at bits i) whole

-- what is left at the top of sixteen bits of a number that is moved up
abbrev lane : ℕ → ℕ → ℕ
lane number up = number % 65536 * up % 65536 / 32768

-- moved up by all that is behind it, a bit is alone there
pub lowest : (number j : ℕ) → j < 16 → get_or (lane number 32768 ∷ lane number 16384 ∷ lane number 8192 ∷ lane number 4096 ∷ lane number 2048 ∷ lane number 1024 ∷ lane number 512 ∷ lane number 256 ∷ lane number 128 ∷ lane number 64 ∷ lane number 32 ∷ lane number 16 ∷ lane number 8 ∷ lane number 4 ∷ lane number 2 ∷ lane number 1 ∷ []) j 0 ≡ number / 2 ^ j % 2
lowest number zero h = omega arith
lowest number (suc zero) h = omega arith
lowest number (suc (suc zero)) h = omega arith
lowest number (suc (suc (suc zero))) h = omega arith
lowest number (suc (suc (suc (suc zero)))) h = omega arith
lowest number (suc (suc (suc (suc (suc zero))))) h = omega arith
lowest number (suc (suc (suc (suc (suc (suc zero)))))) h = omega arith
lowest number (suc (suc (suc (suc (suc (suc (suc zero))))))) h = omega arith
lowest number (suc (suc (suc (suc (suc (suc (suc (suc zero)))))))) h = omega arith
lowest number (suc (suc (suc (suc (suc (suc (suc (suc (suc zero))))))))) h = omega arith
lowest number (suc (suc (suc (suc (suc (suc (suc (suc (suc (suc zero)))))))))) h = omega arith
lowest number (suc (suc (suc (suc (suc (suc (suc (suc (suc (suc (suc zero))))))))))) h = omega arith
lowest number (suc (suc (suc (suc (suc (suc (suc (suc (suc (suc (suc (suc zero)))))))))))) h = omega arith
lowest number (suc (suc (suc (suc (suc (suc (suc (suc (suc (suc (suc (suc (suc zero))))))))))))) h = omega arith
lowest number (suc (suc (suc (suc (suc (suc (suc (suc (suc (suc (suc (suc (suc (suc zero)))))))))))))) h = omega arith
lowest number (suc (suc (suc (suc (suc (suc (suc (suc (suc (suc (suc (suc (suc (suc (suc zero))))))))))))))) h = omega arith
lowest number (suc (suc (suc (suc (suc (suc (suc (suc (suc (suc (suc (suc (suc (suc (suc (suc j)))))))))))))))) h = absurd (omega (arith, h))

-- a bit as the code computes it
pub written_bit : (number j : ℕ) → j < 16 → nat_eq (number / 2 ^ j % 2) 1 ≡ digit 32 number (32 - j)
unfolding digit
written_bit number j h =
    let place : 32 - (32 - j) ≡ j = omega arith in
    rw place refl

-- the halves of the register are the bits that have come
pub low_half : (e : List Bool) (n register : ℕ) → HoldsLast e (n + 32) register → AreNext e n register
low_half e n register holds j h =
    let place : 31 - j + 1 ≡ 32 - j = omega arith in
    let back : n + 32 - (31 - j) ≡ n + j + 1 = omega arith in
    ap (digit 32 register) (sym place) ∙ holds (31 - j) (omega arith) ∙ past_at e (n + 32) (31 - j) (omega arith) ∙ ap (key_bit e) back

pub high_half : (e : List Bool) (n register : ℕ) → HoldsLast e (n + 32) register → AreNext e (n + 16) (register / 2 ^ 16)
unfolding digit
high_half e n register holds j h =
    let place : 32 - (32 - j) ≡ j = omega arith in
    let back : n + 32 - (15 - j) ≡ n + 16 + j + 1 = omega arith in
    rw place (sym (digit_at e (n + 32) register 16 j (15 - j) holds (omega arith) (omega arith)) ∙ past_at e (n + 32) (15 - j) (omega arith) ∙ ap (key_bit e) back)
