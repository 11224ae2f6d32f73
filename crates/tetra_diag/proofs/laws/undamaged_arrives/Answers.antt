use Rattle.std.proofs.Common.{List, Bool, ℤ, ℕ}
use Rattle.std.specs.Prelude.{Option, Some, None, IfSome}
use Rattle.tetra_bits.specs.Undamaged.{HasSign, IsUndamaged, Matches}
use Rattle.tetra_diag.specs.Diagonal.{gathered, complete_block}
use Rattle.tetra_diag.specs.Arrives.{EachWord}
use Rattle.tetra_diag.specs.lemmas.Arrives.{arrives}
use Rattle.tetra_diag.proofs.laws.undamaged_arrives.Goals as goal

each_sign : (n : ℕ) (blocks : List (List Bool)) (words : List (List ℤ)) → EachWord IsUndamaged n blocks words → EachWord (Matches HasSign) n blocks words
each_sign n blocks words h =
    record {
      size = h.size;
      each = λ m low high.
          let u = h.each m low high in
          record { size = u.size; each = u.signs };
    }

undamaged : (block : List Bool) (o : Option (List ℤ)) → IfSome o (Matches HasSign block) → IfSome o (IsUndamaged block)
undamaged block None h = tt
undamaged block (Some values) h = record { size = h.size; signs = h.each }

pub returns : goal.returns
returns c = λ n blocks words s sizes h.
    undamaged (complete_block n blocks) (gathered n words) (arrives HasSign n blocks words s sizes (each_sign n blocks words h))
