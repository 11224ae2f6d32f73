use Rattle.std.proofs.Common.{◌∙◌, rules}
use Rattle.tetra_mother.specs.lemmas.States.{next_is_state}
use Rattle.tetra_mother.specs.Mother.{next_state}
use Rattle.tetra_mother.proofs.next.Goals as goal
use Rattle.tetra_mother.proofs.next.Goals.{then-bit, else-bit}

pub returns-clause-value : goal.returns-clause-value
unfolding next_state
returns-clause-value c = elim c.if-bit.branch [ then-bit w ↦ search rules | else-bit w ↦ search rules ]

pub returns-clause-walks : goal.returns-clause-walks
returns-clause-walks c = λ bits k s b. returns-clause-value c ∙ next_is_state bits k c.args.state c.args.bit s b
