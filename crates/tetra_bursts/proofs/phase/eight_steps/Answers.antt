use Rattle.std.proofs.Common.{◌+◌, ◌*◌, ◌/◌, bit_and, bit_xor, ap, ◌∙◌}
use Rattle.std.specs.Int.Count.{ones}
use Rattle.tetra_bursts.proofs.Eights.{counted_turn}
use Rattle.tetra_bursts.proofs.phase.eight_steps.Goals as goal

pub returns-clause-value : goal.returns-clause-value
returns-clause-value c = λ e long h.
    ap (λ w. 8 + 4 * ones (bit_and w 21845) + 2 * ones (bit_and (bit_xor w (w / 2)) 21845)) h ∙ counted_turn e long
