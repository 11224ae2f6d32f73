use Rattle.std.proofs.Common.{true, false, sym, ◌∙◌}
use Rattle.tetra_bits.specs.declared.reading.Mark.TheVariants.{Good, Bad, Unchecked}
use Rattle.tetra_parity.proofs.Messages.{marked_none, marked_by, is_marked}
use Rattle.tetra_parity.proofs.message.mark.Goals as goal

pub returns-in-Nothing : goal.returns-in-Nothing
returns-in-Nothing c =
    let e = marked_none c.args.parity c.args.message.now c.in-Nothing.is in
    record { value = e; marked = is_marked c.args.parity c.args.message.now Unchecked e }

pub returns-then-holds : goal.returns-then-holds
returns-then-holds c =
    let e = marked_by c.args.parity c.args.message.now true c.in-Four.is (sym c.if-holds.true ∙ c.holds.ensures.value) in
    record { value = e; marked = is_marked c.args.parity c.args.message.now Good e }

pub returns-else-holds : goal.returns-else-holds
returns-else-holds c =
    let e = marked_by c.args.parity c.args.message.now false c.in-Four.is (sym c.if-holds.false ∙ c.holds.ensures.value) in
    record { value = e; marked = is_marked c.args.parity c.args.message.now Bad e }
