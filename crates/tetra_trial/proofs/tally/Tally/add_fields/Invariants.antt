use Rattle.std.proofs.Common.{◌≡◌, ◌+◌, ◌*◌, ◌^◌, ℕ, map, drop}
use Rattle.std.specs.Option.{option_map}
use Rattle.tetra_trial.specs.Tallies.{with_fields, AtMost}
use Rattle.tetra_trial.proofs.tally.Tally.add_fields.Given as goal

-- what is left of the fields leads to the tally of all
abbrev pub invariant-loop-i : goal.invariant-loop-i
invariant-loop-i l = record {
  left : with_fields (drop l.i l.fields) (drop l.i (map (option_map (λ s. s.now)) l.sent)) l.self
      ≡ with_fields l.fields (map (option_map (λ s. s.now)) l.sent) l.initial.self;
  most : (top : ℕ) → AtMost top l.initial.self → AtMost (top + l.i * 2 ^ 33) l.self;
}
