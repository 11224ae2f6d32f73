use Rattle.std.proofs.Common.{ℕ, ◌≡◌, ◌<◌, length}
use Rattle.tetra_bits.specs.Soft.{value_at}
use Rattle.tetra_c.specs.Values.{clamped}
use Rattle.tetra_c.proofs.kept_words.TetraKeptWord.put.Given as goal

-- the values so far
abbrev pub invariant-loop-i : goal.invariant-loop-i
invariant-loop-i l = record {
  size : length l.self.values ≡ 432;
  each : (k : ℕ) → k < l.i → clamped (value_at l.self.values k) ≡ value_at l.word k;
}
