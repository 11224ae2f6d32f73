use Rattle.std.proofs.Common.{◌≡◌, ◌<◌, ◌*◌, ◌/◌, ◌%◌, ℕ, nat_eq, length, get_or}
use Rattle.tetra_puncture.specs.Butterflies.{mask_of}
use Rattle.tetra_puncture.proofs.masks.masks_of.Given as goal

abbrev pub invariant-loop-pair : goal.invariant-loop-pair
invariant-loop-pair l = record {
  long : length l.masks ≡ 8;
  made : (k : ℕ) → k < l.pair → get_or l.masks k 0 ≡ mask_of (nat_eq (get_or l.labels (2 * k) 0 / l.weight % 2) 1);
}
