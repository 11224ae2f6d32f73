use Rattle.std.proofs.Common.{ap}
use Rattle.tetra_gen.specs.Made.{letter_drawn}
use Rattle.tetra_gen.proofs.blocks.draw_letter.Goals as goal

pub returns-clause-letter : goal.returns-clause-letter
unfolding letter_drawn
returns-clause-letter c = λ seed stream i from. ap (letter_drawn c.args.allowed.now) (c.draw.ensures.word seed stream i from)
