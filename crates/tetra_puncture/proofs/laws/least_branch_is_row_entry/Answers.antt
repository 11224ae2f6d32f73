use Rattle.tetra_puncture.specs.lemmas.RowEntries.{least_branch_is_row_entry}
use Rattle.tetra_puncture.proofs.laws.least_branch_is_row_entry.Goals as goal

pub returns : goal.returns
returns c = least_branch_is_row_entry
