use Rattle.std.proofs.Common.{◌≡◌, ℕ, ◌+◌, ◌-◌, ◌/◌, ◌%◌, ◌^◌, nat_eq, arith, ap}
use Rattle.tetra_bits.specs.Digits.{digit}
use Rattle.tetra_gen.proofs.words.bit_of.Goals as goal

pub returns : goal.returns
unfolding digit
returns c =
    let e : 31 - c.args.k ≡ 32 - (1 + c.args.k) = omega arith in
    ap (λ (j : ℕ). nat_eq (c.args.word / 2 ^ j % 2) 1) e
