use Rattle.std.proofs.Common.{ℕ, ap, Some}
use Rattle.tetra_gen.specs.Words.{leading}
use Rattle.tetra_gen.proofs.blocks.draw_access.Goals as goal

pub returns-in-Dl-clause-access : goal.returns-in-Dl-clause-access
unfolding leading
returns-in-Dl-clause-access c = λ seed stream i from.
    rw c.in-Dl.is (ap (λ (w : ℕ). Some (leading 14 w)) (c.draw.ensures.word seed stream i from))
