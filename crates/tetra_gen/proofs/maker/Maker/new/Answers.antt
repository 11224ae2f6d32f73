use Rattle.std.proofs.Common.{refl, ◌∙◌}
use Rattle.tetra_gen.specs.Made.{first_word}
use Rattle.tetra_gen.specs.lemmas.Drawing.{generator_none}
use Rattle.tetra_gen.proofs.maker.Maker.new.Goals as goal

pub returns : goal.returns
unfolding first_word
returns c = record {
  same = refl;
  turn = refl;
  words = c.new.ensures ∙ generator_none c.args.settings.now.draw 1;
}
