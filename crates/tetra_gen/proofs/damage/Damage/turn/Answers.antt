use Rattle.std.proofs.Common.{ℕ, ◌*◌, ap, ◌∙◌}
use Rattle.tetra_gen.specs.Words.{word}
use Rattle.tetra_gen.specs.Damaged.{damaged, turned_by}
use Rattle.tetra_gen.proofs.damage.Damage.turn.Goals as goal

pub returns-clause-values : goal.returns-clause-values
unfolding damaged
returns-clause-values c = λ settings k h.
    c.turn_signs.ensures.values settings.draw 2 (k * settings.damage) h.words
    ∙ ap (λ (count : ℕ). turned_by (word settings.draw 2) (k * settings.damage) count c.args.soft.now) h.count
