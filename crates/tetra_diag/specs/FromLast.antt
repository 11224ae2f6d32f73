-- The last n entries of a list decide what is answered.
use Rattle.std.specs.Prelude.{ℕ, ◌≡◌, Bool, ℤ, List}
use Rattle.tetra_diag.specs.Diagonal.{IsDepth, spread_word, last, gathered}

-- blocks of which the last n are the same have the same slot word
abbrev pub SpreadFromLast : Type 0
SpreadFromLast =
    (n : ℕ) (blocks other : List (List Bool)) → IsDepth n → last n blocks ≡ last n other
    → spread_word n blocks ≡ spread_word n other

-- words of which the last n are the same complete the same block
abbrev pub GatheredFromLast : Type 0
GatheredFromLast =
    (n : ℕ) (words other : List (List ℤ)) → IsDepth n → last n words ≡ last n other
    → gathered n words ≡ gathered n other
