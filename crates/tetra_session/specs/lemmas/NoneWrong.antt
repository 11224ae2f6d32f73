-- Values none of which has the wrong sign: undamaged ones, zeros, and pieces of them one behind the other.
use Rattle.std.proofs.Common.{◌≡◌, ℕ, ◌-◌, ◌<◌, inl, inr, Bool, false, ℤ, pos, List, ◌++◌, length, replicate, arith, refl, sym, ◌∙◌}
use Rattle.std.proofs.lemmas.Bool.{cases_lt}
use Rattle.std.proofs.lemmas.List.{get_or_append_left, get_or-append_right, length-append, length-replicate, get_or-replicate}
use Rattle.tetra_bits.specs.Undamaged.{HasSignOrNone, IsUndamaged, IsNoneWrong, Matches}

pub undamaged_none_wrong : (bits : List Bool) (values : List ℤ) → IsUndamaged bits values → IsNoneWrong bits values
undamaged_none_wrong bits values u = record { size = u.size; each = λ k h. inl (u.signs k h) }

-- zeros say nothing of any bits
pub zeros_none_wrong : (bits : List Bool) (n : ℕ) → length bits ≡ n → IsNoneWrong bits (replicate n (pos 0))
zeros_none_wrong bits n size = record {
  size = length-replicate n (pos 0) ∙ sym size;
  each = λ k h. let below : k < n = omega (arith, size, h) in inr (get_or-replicate n k (pos 0) (pos 0) below);
}

matches_both : (R : Bool → ℤ → Type 0) (a b : List Bool) (v w : List ℤ) → Matches R a v → Matches R b w → Matches R (a ++ b) (v ++ w)
matches_both R a b v w one two =
    let size_bits = length-append a b in
    let size_values = length-append v w in
    let size_one = one.size in
    let size_two = two.size in
    record {
      size = omega arith;
      each = λ k h. elim (cases_lt k (length a)) [
        | inl below ↦
            let inside : k < length v = omega arith in
            rw (get_or_append_left a b false k below, get_or_append_left v w (pos 0) k inside) (one.each k below)
        | inr above ↦
            rw (get_or-append_right a b (length a) k false refl above, get_or-append_right v w (length a) k (pos 0) size_one above)
            (two.each (k - length a) (omega arith))
      ];
    }

pub none_wrong_both : (a b : List Bool) (v w : List ℤ) → IsNoneWrong a v → IsNoneWrong b w → IsNoneWrong (a ++ b) (v ++ w)
none_wrong_both a b v w one two = matches_both HasSignOrNone a b v w one two
