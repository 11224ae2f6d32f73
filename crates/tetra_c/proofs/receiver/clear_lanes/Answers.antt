use Rattle.std.proofs.Common.{rules, ◌<◌, inl, inr, length, arith, length-set}
use Rattle.std.proofs.lemmas.Bool.{cases_eq}
use Rattle.std.proofs.lemmas.List.{get_or-set_same, get_or-set_other}
use Rattle.tetra_c.specs.Receivers.{none_kept}
use Rattle.tetra_c.proofs.receiver.clear_lanes.Goals as goal

pub loop-c-preserved : goal.loop-c-preserved
loop-c-preserved c =
    let lanes = c.loop-c.lanes in
    let i = c.loop-c.c in
    let lane = c.clear.new.self in
    let within : i < length lanes = search rules in
    record {
      size = search (rules, length-set);
      clear = λ k low. elim (cases_eq k i) [
        | inl same ↦ rw (same, get_or-set_same lanes i lane none_kept within) (c.clear.ensures.count, c.clear.ensures.oldest)
        | inr other ↦ rw (get_or-set_other lanes i k lane none_kept other) (c.loop-c.invariant.clear k (omega arith))
      ];
    }
