use Rattle.tetra_bursts.proofs.TrainingLemmas.{n_down, p_down, y_down, n_up, p_up}
use Rattle.tetra_bursts.proofs.kinds.before.Goals as goal

pub returns-in-N-true-clause-there : goal.returns-in-N-true-clause-there
returns-in-N-true-clause-there c = rw (c.in-N-true.is-0, c.in-N-true.is-1) n_down

pub returns-in-N-false-clause-there : goal.returns-in-N-false-clause-there
returns-in-N-false-clause-there c = rw (c.in-N-false.is-0, c.in-N-false.is-1) n_up

pub returns-in-P-true-clause-there : goal.returns-in-P-true-clause-there
returns-in-P-true-clause-there c = rw (c.in-P-true.is-0, c.in-P-true.is-1) p_down

pub returns-in-P-false-clause-there : goal.returns-in-P-false-clause-there
returns-in-P-false-clause-there c = rw (c.in-P-false.is-0, c.in-P-false.is-1) p_up

pub returns-in-Y-default-clause-there : goal.returns-in-Y-default-clause-there
returns-in-Y-default-clause-there c = rw c.in-Y-default.is-0 y_down
