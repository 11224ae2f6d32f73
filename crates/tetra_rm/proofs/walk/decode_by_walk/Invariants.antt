use Rattle.std.proofs.Common.{◌≡◌, ◌+◌, ◌*◌, ◌<◌}
use Rattle.tetra_bits.specs.Digits.{digits}
use Rattle.tetra_rm.specs.Code.{access_metric}
use Rattle.tetra_rm.specs.Search.{IsLeastBelow, key_of_number}
use Rattle.tetra_rm.specs.Turning.{walk_message}
use Rattle.tetra_rm.proofs.walk.decode_by_walk.Given as goal

abbrev pub invariant-loop-step : goal.invariant-loop-step
invariant-loop-step l = record {
  here : l.message ≡ walk_message l.step;
  rated : l.metric ≡ access_metric l.rows.0 l.soft (digits 14 l.message);
  small : l.best.message < 16384;
  least : IsLeastBelow (λ s. key_of_number l.rows.0 l.soft (walk_message s)) (l.step + 1) (l.best.metric * 16384 + l.best.message);
}
