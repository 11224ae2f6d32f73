use Rattle.tetra_gen.specs.lemmas.Drawing.{drawn_word, drawn_after}
use Rattle.tetra_gen.proofs.words.draw.Goals as goal

pub returns-clause-word : goal.returns-clause-word
returns-clause-word c = λ seed stream i from. drawn_word seed stream i _ _ _ c.next_word.ensures from

pub returns-clause-words : goal.returns-clause-words
returns-clause-words c = λ seed stream i from. drawn_after seed stream i _ _ _ c.next_word.ensures from
