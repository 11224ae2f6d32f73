use Rattle.std.proofs.Common.{ap, ◌∙◌}
use Rattle.tetra_parity.specs.Marks.{mark_of}
use Rattle.tetra_channels.specs.Channels.{coded}
use Rattle.tetra_channels.proofs.Readings.{coded_in_parts}
use Rattle.tetra_channels.proofs.coded.Coded.decode3_into.Goals as goal

pub returns : goal.returns
returns g c =
    let solved = c.solve_table-metric.ensures in
    coded_in_parts (coded g.row.PAR g.row.A g.P.Plan.plan) c.args.soft.now c.mark.result c.solve_table-metric.result
    c.solve_table-metric.new.message (g.T.Table.rows_of c.solve_table-metric.new.table) (c.mark.ensures.value ∙ ap (λ k. mark_of k c.solve_table-metric.new.message) c.parity_of.ensures) solved.metric solved.message solved.exact
