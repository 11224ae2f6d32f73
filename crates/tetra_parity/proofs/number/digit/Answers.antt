use Rattle.std.proofs.Common.{◌≡◌, ◌+◌, ◌-◌, nat_eq, arith, ap, ◌∙◌}
use Rattle.std.proofs.lemmas.Nat.Bits.{shr_and_one}
use Rattle.std.specs.Int.{bit_at}
use Rattle.tetra_bits.specs.Digits.{digit}
use Rattle.tetra_parity.proofs.number.digit.Goals as goal

pub returns : goal.returns
unfolding digit
returns c =
    let place : c.args.len - 1 - c.args.i ≡ c.args.len - (c.args.i + 1) = omega arith in
    ap (λ n. nat_eq n 1) (shr_and_one c.args.number (c.args.len - 1 - c.args.i) ∙ ap (bit_at c.args.number) place)
