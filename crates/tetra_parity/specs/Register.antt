-- The register of a generator.
use Rattle.std.specs.Prelude.{ℕ, ◌*◌, ◌^◌, ◌≤◌, ◌<◌, Bool, bit_xor, cond}
use Rattle.tetra_bits.specs.Polynomials.{times_x, power_rest}

-- the terms of a generator of degree d, at most 16
pub record IsGenerator (d generator : ℕ) : Type 0 where
  pub some : 1 ≤ d
  pub few : d ≤ 16
  pub low : 2 ^ d ≤ generator
  pub high : generator < 2 * 2 ^ d

-- one bit further: times X, and X^d added where the bit is 1
abbrev pub shifted_by : ℕ → ℕ → ℕ → Bool → ℕ
shifted_by d generator register bit = bit_xor (times_x d generator register) (cond bit (power_rest d generator d) 0)
