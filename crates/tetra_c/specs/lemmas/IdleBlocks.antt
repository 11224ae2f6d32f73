-- Where nothing is spread, what is kept stands for any blocks.
use Rattle.std.proofs.Common.{Bool, List, arith}
use Rattle.tetra_c.specs.KeptBlocks.{KeptStands}
use Rattle.tetra_c.specs.declared.kept_blocks.TetraKeptBlocks.{TetraKeptBlocks}

pub idle_blocks : (blocks more : List (List Bool)) (kept : TetraKeptBlocks) → KeptStands 0 blocks kept → KeptStands 0 more kept
idle_blocks blocks more kept h = λ one. absurd (omega (arith, one))
