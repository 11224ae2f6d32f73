use Rattle.std.proofs.Common.{arith, sym, ◌∙◌}
use Rattle.tetra_audit.specs.Agreement.{AreBytes}
use Rattle.tetra_audit.proofs.Pairs.{agree_outside, agree_on_path}
use Rattle.tetra_audit.proofs.pair.audit_pair.Goals as goal

pub returns-clause-outside : goal.returns-clause-outside
returns-clause-outside c first second =
    let small_first : AreBytes c.args.first.now = λ k. omega (arith, (c.type_inv.first k).fits) in
    let small_second : AreBytes c.args.second.now = λ k. omega (arith, (c.type_inv.second k).fits) in
    agree_outside c.args.rows.now c.args.front.now c.args.first.now c.args.second.now c.requires.front small_first small_second c.requires.first c.requires.second
    (rw c.of-code.ensures at (sym c.audit_slot_with-of_first.ensures ∙ first)) (rw c.of-code.ensures at (sym c.audit_slot_with-of_second.ensures ∙ second))

pub returns-clause-on_path : goal.returns-clause-on_path
returns-clause-on_path c first second =
    let small_first : AreBytes c.args.first.now = λ k. omega (arith, (c.type_inv.first k).fits) in
    let small_second : AreBytes c.args.second.now = λ k. omega (arith, (c.type_inv.second k).fits) in
    agree_on_path c.args.rows.now c.args.front.now c.args.first.now c.args.second.now c.requires.front small_first small_second c.requires.first c.requires.second
    (rw c.of-code.ensures at (sym c.audit_slot_with-of_first.ensures ∙ first)) (rw c.of-code.ensures at (sym c.audit_slot_with-of_second.ensures ∙ second))
