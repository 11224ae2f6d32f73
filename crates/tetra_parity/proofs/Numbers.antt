-- The parity of a block as a number.
use mir.Val.{bool_byte}
use Rattle.std.proofs.Common.{◌≡◌, ℕ, ◌+◌, ◌*◌, ◌^◌, ◌<◌, Bool, true, false, not, List, [], ◌∷◌, ◌++◌, length, take, lit<, arith, refl, ap, sym, ◌∙◌}
use Rattle.std.proofs.Math.Bool.{beq}
use Rattle.std.proofs.lemmas.List.{take_more}
use Rattle.tetra_bits.specs.Digits.{digit, digits}
use Rattle.tetra_bits.specs.Numbered.{numbered, numbered_none, numbered_more}
use Rattle.tetra_bits.specs.Order.{bit_at}
use Rattle.tetra_bits.specs.Sums.{add2}
use Rattle.tetra_bits.specs.lemmas.Digits.{digits-cat}
use Rattle.tetra_parity.specs.Parity.{block_rest, generator4, generator7, parity_bits4, seven_bits, parity_bits8, parity16, parity_bits16, sum_of}

-- sums of bits
pub unequal : (a b : Bool) → not (beq a b) ≡ add2 a b
unequal true true = refl
unequal true false = refl
unequal false true = refl
unequal false false = refl

add2_assoc : (a b c : Bool) → add2 a (add2 b c) ≡ add2 (add2 a b) c
add2_assoc true true true = refl
add2_assoc true true false = refl
add2_assoc true false true = refl
add2_assoc true false false = refl
add2_assoc false b c = refl

sum_of-append : (xs ys : List Bool) → sum_of (xs ++ ys) ≡ add2 (sum_of xs) (sum_of ys)
unfolding sum_of
sum_of-append [] ys = refl
sum_of-append (x ∷ xs) ys = ap (add2 x) (sum_of-append xs ys) ∙ add2_assoc x (sum_of xs) (sum_of ys)

add2_none : (a : Bool) → add2 a false ≡ a
add2_none true = refl
add2_none false = refl

sum_of-snoc : (xs : List Bool) (x : Bool) → sum_of (xs ++ x ∷ []) ≡ add2 (sum_of xs) x
unfolding sum_of
sum_of-snoc xs x = sum_of-append xs (x ∷ []) ∙ ap (add2 (sum_of xs)) (add2_none x)

pub no_sum : false ≡ sum_of []
unfolding sum_of
no_sum = refl

pub sum_more : (bits : List Bool) (i : ℕ) (sum bit next : Bool) → i < length bits → sum ≡ sum_of (take i bits) → bit ≡ bit_at bits i
    → next ≡ not (beq sum bit) → next ≡ sum_of (take (i + 1) bits)
sum_more bits i sum bit next h es eb en =
    en ∙ unequal sum bit ∙ rw (es, eb) (sym (sum_of-snoc (take i bits) (bit_at bits i))) ∙ ap sum_of (sym (take_more bits i false h))

pub no_digits : (f : ℕ → Bool) → false ≡ sum_of (numbered f 0)
no_digits f = no_sum ∙ ap sum_of (sym (numbered_none f))

pub digit_more : (f : ℕ → Bool) (i : ℕ) (sum bit next : Bool) → sum ≡ sum_of (numbered f i) → bit ≡ f (i + 1)
    → next ≡ not (beq sum bit) → next ≡ sum_of (numbered f (i + 1))
digit_more f i sum bit next es eb en =
    en ∙ unequal sum bit ∙ rw (es, eb) (sym (sum_of-snoc (numbered f i) (f (i + 1)))) ∙ ap sum_of (sym (numbered_more f i))

pub seven_digits : (number i : ℕ) (sum : Bool) → i ≡ 7 → sum ≡ sum_of (numbered (digit 7 number) i) → sum ≡ sum_of (digits 7 number)
unfolding digits
seven_digits number i sum e h = h ∙ ap (λ n. sum_of (numbered (digit 7 number) n)) e

one_digit : (b : Bool) → digits 1 (bool_byte b) ≡ b ∷ []
unfolding digits digit numbered
one_digit true = refl
one_digit false = refl

byte-lt : (b : Bool) → bool_byte b < 2 ^ 1
byte-lt true = lit< tt
byte-lt false = lit< tt

-- the kinds
pub none : digits 0 0 ≡ []
unfolding digits
none = numbered_none (digit 0 0)

pub four : (block : List Bool) (rest : ℕ) → rest ≡ block_rest 4 19 block → digits 4 rest ≡ parity_bits4 block
unfolding parity_bits4 generator4
four block rest e = ap (digits 4) e

pub eight : (block : List Bool) (rest byte : ℕ) (all seven : Bool) → rest ≡ block_rest 7 137 block → all ≡ sum_of block → seven ≡ sum_of (digits 7 rest)
    → byte ≡ bool_byte (not (beq all seven)) → digits 8 (2 * rest + byte) ≡ parity_bits8 block
unfolding parity_bits8 seven_bits generator7
eight block rest byte all seven er ea es eb =
    let r : rest ≡ block_rest 7 generator7 block = er in
    let sum : not (beq all seven) ≡ sum_of (block ++ digits 7 rest) = unequal all seven ∙ rw (ea, es) (sym (sum_of-append block (digits 7 rest))) in
    let turn : 2 * rest + byte ≡ rest * 2 ^ 1 + byte = omega arith in
    ap (digits 8) (turn ∙ ap (λ n. rest * 2 ^ 1 + n) eb)
    ∙ digits-cat 7 1 rest (bool_byte (not (beq all seven))) (byte-lt (not (beq all seven)))
    ∙ ap (λ l. digits 7 rest ++ l) (one_digit (not (beq all seven)) ∙ ap (λ b. b ∷ []) sum)
    ∙ ap (λ n. digits 7 n ++ sum_of (block ++ digits 7 n) ∷ []) r

pub sixteen : (block : List Bool) (number wide : ℕ) → number ≡ parity16 block → wide ≡ number → digits 16 wide ≡ parity_bits16 block
unfolding parity_bits16
sixteen block number wide e ew = ap (digits 16) (ew ∙ e)
