use Rattle.std.proofs.Common.{◌∙◌, sym, ap}
use Rattle.tetra_diag.specs.Diagonal.{spread_word}
use Rattle.tetra_diag.specs.lemmas.Kept.{spread_word_last}
use Rattle.tetra_diag.proofs.laws.spread_from_last.Goals as goal

pub returns : goal.returns
returns c = λ n blocks other s e. sym (spread_word_last n blocks s) ∙ ap (spread_word n) e ∙ spread_word_last n other s
