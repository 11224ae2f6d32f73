use Rattle.std.proofs.Common.{◌≡◌, ◌*◌, refl, ap, ◌∙◌, arith}
use Rattle.tetra_gen.specs.Words.{generator}
use Rattle.tetra_gen.specs.lemmas.Drawing.{generator_none}
use Rattle.tetra_gen.proofs.damage.Damage.new.Goals as goal

pub returns : goal.returns
returns c =
    let s = c.args.settings.now in
    let none : 0 ≡ 0 * s.damage = omega arith in
    record {
      count = refl;
      words = c.new.ensures ∙ generator_none s.draw 2 ∙ ap (generator s.draw 2) none;
    }
