use Rattle.std.proofs.Common.{refl}
use Rattle.tetra_cert.proofs.WholeTable.{all_accepted}
use Rattle.tetra_cert.proofs.tables.all_hold.Goals as goal

pub returns : goal.returns
returns g c = λ found.
    let sizes = g.met.P.Plan.sizes c.requires.sound in
    all_accepted g.P.Plan.plan c.args.wide.now c.args.message.now c.args.table.now sizes.few_outs.1 sizes.few_steps.1 c.requires.soft
    c.requires.message (c.free_rows_fit.ensures found) (c.if-not-tail_fits.ensures refl)
