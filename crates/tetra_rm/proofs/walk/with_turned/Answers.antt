use Rattle.std.proofs.Common.{◌≡◌, ◌+◌, ◌-◌, ◌^◌, arith, ap, ◌∙◌, sym}
use Rattle.std.specs.Int.Bits.{bit_xor}
use Rattle.tetra_bits.specs.Digits.{digits}
use Rattle.tetra_rm.specs.Turning.{turned_message}
use Rattle.tetra_rm.proofs.Turned.{digits_turned}
use Rattle.tetra_rm.proofs.WholeWalk.{place_value}
use Rattle.tetra_rm.proofs.walk.with_turned.Goals as goal

pub returns-clause-bits : goal.returns-clause-bits
returns-clause-bits c =
    let place : 13 - (c.args.bit - 1) ≡ 14 - c.args.bit = omega (arith, c.requires.bit) in
    let back : c.args.bit - 1 + 1 ≡ c.args.bit = omega (arith, c.requires.bit) in
    ap (λ p. digits 14 (bit_xor c.args.message p)) (place_value (14 - c.args.bit) (omega arith) ∙ ap (λ p. 2 ^ p) (sym place))
    ∙ sym (digits_turned c.args.message (c.args.bit - 1) (omega (arith, c.requires.bit)))
    ∙ ap (turned_message (digits 14 c.args.message)) back
