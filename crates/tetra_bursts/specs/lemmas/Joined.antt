-- Undamaged values in pieces.
use Rattle.std.proofs.Common.{◌-◌, ◌<◌, Bool, false, ℤ, pos, List, ◌++◌, length, arith, refl, inl, inr}
use Rattle.std.proofs.lemmas.Bool.{cases_lt}
use Rattle.std.proofs.lemmas.List.{get_or_append_left, get_or-append_right, length-append}
use Rattle.tetra_bits.specs.Undamaged.{IsUndamaged}

-- undamaged pieces, one behind the other
pub undamaged_both : (a b : List Bool) (v w : List ℤ) → IsUndamaged a v → IsUndamaged b w → IsUndamaged (a ++ b) (v ++ w)
undamaged_both a b v w one two =
    let size_bits = length-append a b in
    let size_values = length-append v w in
    let size_one = one.size in
    let size_two = two.size in
    record {
      size = omega arith;
      signs = λ k h. elim (cases_lt k (length a)) [
        | inl below ↦
            let inside : k < length v = omega arith in
            rw (get_or_append_left a b false k below, get_or_append_left v w (pos 0) k inside) (one.signs k below)
        | inr above ↦
            rw (get_or-append_right a b (length a) k false refl above, get_or-append_right v w (length a) k (pos 0) size_one above)
            (two.signs (k - length a) (omega arith))
      ];
    }
