use Rattle.std.proofs.Common.{◌∷◌, [], length, ap}
use Rattle.std.proofs.lemmas.List.{get_or-replicate}
use Rattle.tetra_rm.proofs.keys.no_keys.Goals as goal

pub returns : goal.returns
returns c = λ v h. ap length (get_or-replicate 256 v (0 ∷ 0 ∷ 0 ∷ 0 ∷ 0 ∷ 0 ∷ 0 ∷ 0 ∷ []) [] h)
