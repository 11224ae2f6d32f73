use Rattle.std.proofs.Common.{◌∙◌, sym}
use Rattle.tetra_session.proofs.InParts.{coded_in_one, uncoded_in_one}
use Rattle.tetra_session.proofs.fields.read.Goals as goal
use Rattle.tetra_session.proofs.fields.read.Goals.{then-certificate_rows-eq0, else-certificate_rows-eq0}

pub returns : goal.returns
returns c = elim c.if-certificate_rows-eq0.branch [
  | then-certificate_rows-eq0 w ↦
      rw (w.outcome-is, w.reading-is, w.drop_potentials.ensures)
      (uncoded_in_one c.args.name c.args.code.now.0 c.args.soft.now w.read_uncoded-outcome.result w.read_uncoded-outcome.new.message
      (sym c.certificate_rows.ensures.rows ∙ w.if-certificate_rows-eq0.true) w.read_uncoded-outcome.ensures)
  | else-certificate_rows-eq0 w ↦
      rw (w.outcome-is, w.reading-is)
      (coded_in_one c.args.name c.args.code.now.0 c.args.soft.now w.read_coded-outcome.result w.read_coded-outcome.new.message
      w.read_coded-outcome.new.table (λ e. w.if-certificate_rows-eq0.false (c.certificate_rows.ensures.rows ∙ e))
      (w.read_coded-outcome.ensures c.args.code.now.0))
]
