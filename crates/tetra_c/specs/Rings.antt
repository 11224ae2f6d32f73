-- What C keeps of a timeslot: so many entries in fixed places, of which one is the oldest.
use Rattle.std.specs.Prelude.{ℕ, Bool, ◌&&◌, ◌||◌, nat_eq, nat_lt}

-- the last n entries, or all where there are fewer, and then the oldest stands first; nothing is asked where none is kept
abbrev pub is_ring : ℕ → ℕ → ℕ → Bool
is_ring n count oldest =
    nat_eq n 0 || (nat_lt oldest n && (nat_eq count n || (nat_lt count n && nat_eq oldest 0)))
