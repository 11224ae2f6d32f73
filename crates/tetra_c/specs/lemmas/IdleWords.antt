-- Where blocks are not spread, anything that is kept stands for any words.
use Rattle.std.proofs.Common.{List, ℤ, arith}
use Rattle.tetra_c.specs.KeptWords.{KeptStands}
use Rattle.tetra_c.specs.declared.kept_words.TetraKeptWords.{TetraKeptWords}

pub idle_words : (words more : List (List ℤ)) (kept : TetraKeptWords) → KeptStands 0 words kept → KeptStands 0 more kept
idle_words words more kept stands = λ some. absurd (omega (arith, some))
