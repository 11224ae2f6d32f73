-- How a field compares with what was sent in its place. This project's own.
use Rattle.std.specs.Prelude.{◌&&◌, not, cond, Bool, true, false, List, [], ◌∷◌, Some, None, if◌then◌else◌}
use Rattle.std.specs.declared.option.Option.{Option}
use Rattle.tetra_trial.specs.declared.tally.Comparison.{Comparison}
use Rattle.tetra_trial.specs.declared.tally.Comparison.TheVariants.{Equal, Differ, Other}

-- two bits are the same
abbrev pub same_bit : Bool → Bool → Bool
same_bit a b = cond a b (not b)

-- bits whose first are these, as many as there are of them
abbrev pub begins_with : List Bool → List Bool → Bool
begins_with bits [] = true
begins_with [] (f ∷ front) = false
begins_with (b ∷ bits) (f ∷ front) = same_bit b f && begins_with bits front

-- a field equals what was sent in its place where its first bits are that
abbrev pub comparison : List Bool → Option (List Bool) → Comparison
comparison bits None = Other
comparison bits (Some sent) = if begins_with bits sent then Equal else Differ
