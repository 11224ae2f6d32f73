-- Whether bits begin with others, bit by bit.
use Rattle.std.proofs.Common.{ℕ, ◌+◌, ◌<◌, ◌≡◌, ◌≢◌, Bool, true, false, ◌&&◌, List, [], ◌∷◌, length, drop, get_or, arith, refl, ap, ◌∙◌, add-one, drop-cons}
use Rattle.tetra_trial.specs.Fields.{begins_with, same_bit}

-- longer bits are not in front
pub too_long : (bits front : List Bool) → length bits < length front → false ≡ begins_with bits front
too_long bits [] h = absurd (omega arith)
too_long [] (f ∷ front) h = refl
too_long (b ∷ bits) (f ∷ front) h =
    let rest : false ≡ begins_with bits front = too_long bits front (omega arith) in
    rw (← rest) (elim (same_bit b f) as (λ s. false ≡ s && false) [ true ↦ refl | false ↦ refl ])

same_bit_same : (a b : Bool) → a ≡ b → same_bit a b ≡ true
same_bit_same a b e = rw e (elim b as (λ s. same_bit s s ≡ true) [ true ↦ refl | false ↦ refl ])

same_bit_other : (a b : Bool) → a ≢ b → same_bit a b ≡ false
same_bit_other true true h = absurd (h refl)
same_bit_other true false h = refl
same_bit_other false true h = refl
same_bit_other false false h = absurd (h refl)

-- one bit on
split : (bits front : List Bool) (i : ℕ) → i < length bits → i < length front
    → begins_with (drop i bits) (drop i front) ≡ same_bit (get_or bits i false) (get_or front i false) && begins_with (drop (i + 1) bits) (drop (i + 1) front)
split bits front i hb hf = rw (add-one, drop-cons bits i false, drop-cons front i false) refl

pub one_on : (bits front : List Bool) (i : ℕ) → i < length bits → i < length front → get_or bits i false ≡ get_or front i false
    → begins_with (drop i bits) (drop i front) ≡ begins_with (drop (i + 1) bits) (drop (i + 1) front)
one_on bits front i hb hf e = split bits front i hb hf ∙ ap (λ s. s && begins_with (drop (i + 1) bits) (drop (i + 1) front)) (same_bit_same (get_or bits i false) (get_or front i false) e)

pub not_so : (bits front : List Bool) (i : ℕ) → i < length bits → i < length front → get_or bits i false ≢ get_or front i false
    → begins_with (drop i bits) (drop i front) ≡ false
not_so bits front i hb hf e = split bits front i hb hf ∙ ap (λ s. s && begins_with (drop (i + 1) bits) (drop (i + 1) front)) (same_bit_other (get_or bits i false) (get_or front i false) e)
