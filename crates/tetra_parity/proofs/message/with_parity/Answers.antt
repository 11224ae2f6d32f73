use Rattle.std.proofs.Common.{◌++◌, length, arith, sym, ap, ◌∙◌}
use Rattle.std.proofs.lemmas.List.{length-append, append-nil}
use Rattle.tetra_bits.specs.Digits.{digit}
use Rattle.tetra_bits.specs.Numbered.{numbered, numbered_none, length-numbered}
use Rattle.tetra_parity.proofs.Messages.{with_all, one_more}
use Rattle.tetra_parity.proofs.message.with_parity.Goals as goal

pub loop-i-init : goal.loop-i-init
loop-i-init c =
    c.copy-message.ensures ∙ sym (append-nil c.args.block.now) ∙ ap (λ l. c.args.block.now ++ l) (sym (numbered_none (digit c.width-width.result c.parity_of-number.result)))

pub push-requires : goal.push-requires
push-requires c =
    omega (arith, ap length c.loop-i.invariant, length-append c.args.block.now (numbered (digit c.width-width.result c.parity_of-number.result) c.loop-i.i), length-numbered (digit c.width-width.result c.parity_of-number.result) c.loop-i.i)

pub loop-i-preserved : goal.loop-i-preserved
loop-i-preserved c = one_more c.args.block.now c.loop-i.message c.push.new.self (digit c.width-width.result c.parity_of-number.result) c.loop-i.i c.digit.result c.loop-i.invariant c.push.ensures.list c.digit.ensures

pub returns : goal.returns
returns c =
    c.loop-i.invariant
    ∙ with_all c.args.parity c.args.block.now c.parity_of-number.result c.len.result c.width-width.result c.loop-i.i c.width-width.ensures (omega arith) c.len.ensures.value c.parity_of-number.ensures
