-- Lists whose length is changed in place.
use Rattle.std.specs.Prelude.{ℕ, ◌-◌, List, ◌++◌, length, take, replicate}

-- the list made len long: its front stays, and what comes is filler
abbrev pub resized : {X : Type 0} → X → ℕ → List X → List X
resized filler len old = take len old ++ replicate (len - length old) filler
