-- The words of a generator, and the fields that are drawn from them. The generator is Pcg32, by a number to draw from
-- and a stream. How a field is drawn is this project's own.
use Rattle.std.specs.Prelude.{ℕ, ◌≡◌, ◌+◌, ◌-◌, ◌/◌, ◌%◌, ◌^◌, Bool, List}
use Rattle.rand_pcg.specs.Lcg.{Lcg, advance, started, increment_of}
use Rattle.rand_pcg.specs.Pcg.{multiplier_64, pcg32}
use Rattle.tetra_bits.specs.Numbered.{numbered}
use Rattle.tetra_bits.specs.Digits.{digit, digits}

-- the generator of a number and a stream, after n words
unfoldable pub generator : ℕ → ℕ → ℕ → Lcg
generator draw stream n = advance 64 multiplier_64 n (started 64 multiplier_64 draw (increment_of 64 stream))

-- word i of a number and a stream, counted from 0: a number below 2^32
unfoldable pub word : ℕ → ℕ → ℕ → ℕ
word draw stream i = (pcg32 (generator draw stream i)).0

-- how many words give so many bits
abbrev pub words_for : ℕ → ℕ
words_for bits = (bits + 31) / 32

-- bit j of a field, counted from 1, that begins with word i: each word gives its 32 bits, the most significant first
unfoldable pub field_bit : (ℕ → ℕ) → ℕ → ℕ → Bool
field_bit words i j = digit 32 (words (i + (j - 1) / 32)) (1 + (j - 1) % 32)

-- a field of so many bits that begins with word i; what its last word has over is dropped
unfoldable pub field : (ℕ → ℕ) → ℕ → ℕ → List Bool
field words i bits = numbered (field_bit words i) bits

-- the number that the most significant bits of a word are
unfoldable pub leading : ℕ → ℕ → ℕ
leading bits word = word / 2 ^ (32 - bits)

-- the binary digits of the first 14 bits of a word are a field of 14 bits
abbrev pub AccessIsField : Type 0
AccessIsField = (words : ℕ → ℕ) (i : ℕ) → digits 14 (leading 14 (words i)) ≡ field words i 14
