-- What the loads of a timeslot that are kept stand for. This project's own.
use Rattle.std.specs.Prelude.{ℕ, ◌≡◌, ◌-◌, ◌+◌, ◌%◌, ◌<◌, ◌≤◌, min, nat_lt, List, Bool, [], length, slice_index_or, Some, None, if◌then◌else◌}
use Rattle.std.specs.declared.option.Option.{Option}
use Rattle.tetra_trial.specs.declared.loads.Loads.{Loads}

-- the load that lies so many traffic slots before the last one; none where there are not so many
abbrev pub load_before : ℕ → List (List Bool) → Option (List Bool)
load_before count loads =
    if nat_lt count (length loads) then Some (slice_index_or loads (length loads - 1 - count) []) else None

-- the last seven of these loads: load m, counted from 0, stands at the place m modulo 7
pub record LoadsStand (loads : List (List Bool)) (kept : Loads) : Type 0 where
  pub next : kept.next ≡ length loads % 7
  pub held : kept.held ≡ min 7 (length loads)
  pub places : (m : ℕ) → m < length loads → length loads ≤ m + 7
      → slice_index_or kept.last (m % 7) [] ≡ slice_index_or loads m []
