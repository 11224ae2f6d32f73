use Rattle.std.proofs.Common.{◌∙◌, sym, ap}
use Rattle.tetra_diag.specs.lemmas.Depths.{depth_width}
use Rattle.tetra_diag.specs.Diagonal.{gathered}
use Rattle.tetra_diag.specs.lemmas.Kept.{gathered_last}
use Rattle.tetra_diag.proofs.laws.gathered_from_last.Goals as goal

pub returns : goal.returns
returns c = λ n words other s e.
    let one = (depth_width n s).some in
    sym (gathered_last n words one) ∙ ap (gathered n) e ∙ gathered_last n other one
