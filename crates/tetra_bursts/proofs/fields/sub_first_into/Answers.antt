use Rattle.std.proofs.Common.{◌∙◌}
use Rattle.tetra_bursts.proofs.ReadLemmas.{first_of_two}
use Rattle.tetra_bursts.proofs.fields.sub_first_into.Goals as goal

pub returns-clause-value : goal.returns-clause-value
returns-clause-value c = rw c.subslot_table.ensures at c.read_into.ensures.value ∙ first_of_two c.args.soft.now
