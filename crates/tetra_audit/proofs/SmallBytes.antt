-- The bytes of a reading record are bytes, where its numbers fit two bytes.
use Prim.Native.Nat.{zero, suc}
use Rattle.std.proofs.Common.{◌≡◌, ℕ, ◌+◌, ◌-◌, ◌*◌, ◌/◌, ◌%◌, ◌<◌, ◌≤◌, inl, inr, Bool, true, false, List, [], ◌∷◌, ◌++◌, length, get_or, arith, refl}
use Rattle.std.proofs.lemmas.Bool.{cases_lt}
use Rattle.std.proofs.lemmas.List.{get_or_past}
use Rattle.tetra_bits.specs.lemmas.Packing_lists.{byte_is}
use Rattle.tetra_bits.specs.Numbered.{length-numbered, get_or-numbered}
use Rattle.tetra_bits.specs.Order.{bit_at}
use Rattle.tetra_bits.specs.Packed.{bytes_for, packed, packed_byte}
use Rattle.tetra_bits.specs.Readings.{entry}
use Rattle.tetra_bits.specs.Sums.{bit_number}
use Rattle.tetra_records.specs.Readings.{two_bytes, row_bytes, table_bytes}
use Rattle.tetra_audit.specs.Agreement.{AreBytes}

pub first_byte : (b : ℕ) (bytes : List ℕ) → b < 256 → AreBytes bytes → AreBytes (b ∷ bytes)
first_byte b bytes small rest zero = small
first_byte b bytes small rest (suc k) = rest k

pub both_bytes : (xs ys : List ℕ) → AreBytes xs → AreBytes ys → AreBytes (xs ++ ys)
both_bytes [] ys here there = there
both_bytes (x ∷ xs) ys here there = first_byte x (xs ++ ys) (here 0) (both_bytes xs ys (λ k. here (suc k)) there)

pub no_byte : AreBytes []
no_byte k = omega arith

pub number_bytes : (n : ℕ) → n ≤ 65535 → AreBytes (two_bytes n)
number_bytes n small = first_byte (n / 256) (n % 256 ∷ []) (omega arith) (first_byte (n % 256) [] (omega arith) no_byte)

one_bit : (b : Bool) → bit_number b ≤ 1
one_bit true = omega arith
one_bit false = omega arith

byte_small : (bits : List Bool) (i : ℕ) → packed_byte bits i < 256
byte_small bits i =
    let k : ℕ = 8 * (i - 1) in
    omega (
      arith,
      byte_is bits i k refl,
      one_bit (bit_at bits k),
      one_bit (bit_at bits (k + 1)),
      one_bit (bit_at bits (k + 2)),
      one_bit (bit_at bits (k + 3)),
      one_bit (bit_at bits (k + 4)),
      one_bit (bit_at bits (k + 5)),
      one_bit (bit_at bits (k + 6)),
      one_bit (bit_at bits (k + 7)),
    )

pub packed_bytes : (bits : List Bool) → AreBytes (packed bits)
unfolding packed
packed_bytes bits k = elim (cases_lt k (bytes_for (length bits))) [
  | inl lt ↦ let e : get_or (packed bits) k 0 ≡ packed_byte bits (k + 1) = get_or-numbered (packed_byte bits) (bytes_for (length bits)) k 0 lt in omega (arith, byte_small bits (k + 1))
  | inr le ↦ let e : get_or (packed bits) k 0 ≡ 0 = get_or_past (packed bits) k 0 (omega (arith, length-numbered (packed_byte bits) (bytes_for (length bits)))) in omega arith
]

row_are_bytes : (row : List ℕ) → ((s : ℕ) → get_or row s 0 ≤ 65535) → AreBytes (row_bytes row)
unfolding row_bytes
row_are_bytes [] small = no_byte
row_are_bytes (n ∷ row) small = both_bytes (two_bytes n) (row_bytes row) (number_bytes n (small 0)) (row_are_bytes row (λ s. small (suc s)))

pub table_are_bytes : (table : List (List ℕ)) → ((t s : ℕ) → entry table t s ≤ 65535) → AreBytes (table_bytes table)
unfolding table_bytes entry
table_are_bytes [] small = no_byte
table_are_bytes (row ∷ table) small = both_bytes (row_bytes row) (table_bytes table) (row_are_bytes row (small 0)) (table_are_bytes table (λ t s. small (suc t) s))
