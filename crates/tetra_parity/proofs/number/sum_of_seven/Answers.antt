use Rattle.std.proofs.Common.{arith, refl}
use Rattle.tetra_bits.specs.Digits.{digit}
use Rattle.tetra_parity.proofs.Numbers.{no_digits, digit_more, seven_digits}
use Rattle.tetra_parity.proofs.number.sum_of_seven.Goals as goal

pub loop-i-init : goal.loop-i-init
loop-i-init c = no_digits (digit 7 c.args.number)

pub loop-i-preserved : goal.loop-i-preserved
loop-i-preserved c = digit_more (digit 7 c.args.number) c.loop-i.i c.loop-i.sum c.digit-sum.result _ c.loop-i.invariant c.digit-sum.ensures refl

pub returns : goal.returns
returns c = seven_digits c.args.number c.loop-i.i c.loop-i.sum (omega arith) c.loop-i.invariant
