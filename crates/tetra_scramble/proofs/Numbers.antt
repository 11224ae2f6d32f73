-- Numbers by their binary digits, the most significant first.
use Prim.Native.Nat.{zero, suc}
use Rattle.std.proofs.Common.{◌≡◌, ℕ, ◌+◌, ◌*◌, ◌%◌, ◌^◌, ◌<◌, ◌≤◌, false, nat_eq, ◌++◌, length, arith, refl, ap, ◌∙◌}
use Rattle.std.proofs.lemmas.List.{length-append}
use Rattle.std.proofs.lemmas.Nat.{or_shifted}
use Rattle.std.specs.Int.Bits.{bit_or}
use Rattle.tetra_bits.specs.Numbered.{length-numbered, numbered_same}
use Rattle.tetra_bits.specs.lemmas.Digits.{length-digits, digits-cat, no_digit}
use Rattle.tetra_bits.specs.Sums.{bit_number}
use Rattle.tetra_bits.specs.Digits.{digit, digits}
use Rattle.tetra_scramble.specs.Colour.{IsColour, colour_bits}
use Rattle.tetra_scramble.specs.Key.{no_colour}
use Rattle.tetra_scramble.specs.declared.colour.Colour.{Colour}

pub number_of_rest : (n : ℕ) → n < 2 → bit_number (nat_eq n 1) ≡ n
number_of_rest zero h = refl
number_of_rest (suc zero) h = refl
number_of_rest (suc (suc n)) h = absurd (omega arith)

-- the three numbers of a colour in one, as the code computes it
pub three_in_one : (x y z : ℕ) → x ≤ 1023 → y ≤ 16383 → z ≤ 63 → bit_or (bit_or (x * 1048576 % 4294967296) (y * 64 % 4294967296)) z ≡ (x * 16384 + y) * 64 + z
three_in_one x y z hx hy hz =
    let mx : x * 1048576 % 4294967296 ≡ x * 2 ^ 20 = omega arith in
    let my : y * 64 % 4294967296 ≡ y * 64 = omega arith in
    let inner : bit_or (x * 2 ^ 20) (y * 64) ≡ x * 2 ^ 20 + y * 64 = or_shifted x 20 (y * 64) (omega arith) in
    let same : x * 2 ^ 20 + y * 64 ≡ (x * 16384 + y) * 2 ^ 6 = omega arith in
    rw (mx, my, inner, same) (or_shifted (x * 16384 + y) 6 z (omega arith))

pub three_digits : (colour : Colour) (x y z : ℕ) → x ≡ colour.mcc → y ≡ colour.mnc → z ≡ colour.cc → IsColour colour → digits 30 (bit_or (bit_or (x * 1048576 % 4294967296) (y * 64 % 4294967296)) z) ≡ colour_bits colour
unfolding colour_bits
three_digits colour x y z ex ey ez h =
    let lx : x ≤ 1023 = omega (arith, h.country) in
    let ly : y ≤ 16383 = omega (arith, h.network) in
    let lz : z ≤ 63 = omega (arith, h.code) in
    ap (digits 30) (three_in_one x y z lx ly lz)
    ∙ digits-cat 24 6 (x * 16384 + y) z (omega arith)
    ∙ ap (λ d. d ++ digits 6 z) (digits-cat 10 14 x y (omega arith))
    ∙ rw (ex, ey, ez) refl

pub length-colour_bits : (colour : Colour) → length (colour_bits colour) ≡ 30
unfolding colour_bits
length-colour_bits colour =
    length-append (digits 10 colour.mcc ++ digits 14 colour.mnc) (digits 6 colour.cc)
    ∙ rw (length-append (digits 10 colour.mcc) (digits 14 colour.mnc), length-digits 10 colour.mcc, length-digits 14 colour.mnc, length-digits 6 colour.cc) refl

pub length-no_colour : length no_colour ≡ 30
unfolding no_colour
length-no_colour = length-numbered (λ _. false) 30

pub digits_of_none : digits 30 0 ≡ no_colour
unfolding digits no_colour
digits_of_none = numbered_same (digit 30 0) (λ _. false) 30 false (λ j a b. no_digit 30 j)
