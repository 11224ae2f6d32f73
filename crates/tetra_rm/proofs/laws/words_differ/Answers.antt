use Rattle.tetra_rm.specs.lemmas.Words.{differ}
use Rattle.tetra_rm.proofs.laws.words_differ.Goals as goal

pub returns : goal.returns
returns c = differ
