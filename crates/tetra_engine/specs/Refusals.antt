-- What is kept of the slots that were refused.
use Rattle.std.specs.Prelude.{◌≡◌, ℕ, List, [], ◌∷◌, length}
use Rattle.tetra_engine.specs.declared.refusals.Refusals.{Refusals}

-- these slots were refused
abbrev pub Counts : Refusals → List ℕ → Type 0
Counts r [] = r.count ≡ 0
Counts r (slot ∷ slots) = (r.first ≡ slot) × (r.count ≡ length (slot ∷ slots))
