-- Fields are written one by one.
use Prim.Native.Nat.{zero, suc}
use Rattle.std.proofs.Common.{◌≡◌, ◌≢◌, ◌<◌, ◌+◌, ℕ, List, [], ◌∷◌, Option, None, Some, length, map, take, get_or, set, ap, refl, sym, ◌∙◌, subst, arith, below_more}
use Rattle.std.proofs.lemmas.List.{get_or-set_same, get_or-set_other}
use Rattle.tetra_bits.specs.Parts.{AreRows}
use Rattle.tetra_settings.specs.declared.readings.Field.{Field}
use Rattle.tetra_session.specs.Begun.{GoesOn}
use Rattle.tetra_session.specs.Readers.{read_field}
use Rattle.tetra_session.specs.declared.front.Front.{Front}
use Rattle.tetra_session.specs.declared.front.FrontField.{FrontField}
use Rattle.tetra_c.specs.Readings.{HasTable, IsPut, ArePutTo}
use Rattle.tetra_c.specs.declared.readings.TetraField.{TetraField}
use Rattle.tetra_c.proofs.Fronts.{read_before}

-- the field at a place is written
abbrev pub IsPutAt : List Field → List TetraField → ℕ → Type 0
IsPutAt fields places k = (field : Field) (place : TetraField) → IsPut (get_or fields k field) (get_or places k place)

-- one field more
pub put_more : (fields : List Field) (places : List TetraField) (i : ℕ) (new : TetraField) → i < length places
    → ((field : Field) → IsPut (get_or fields i field) new)
    → ((k : ℕ) → k < i → IsPutAt fields places k) → (k : ℕ) → k < i + 1 → IsPutAt fields (set places i new) k
put_more fields places i new within here before =
    below_more (IsPutAt fields (set places i new)) i
    (λ k below field place.
    let other : k ≢ i = λ e. absurd (omega (arith, e)) in
    subst (IsPut (get_or fields k field)) (sym (get_or-set_other places i k new place other)) (before k below field place))
    (λ field place. subst (IsPut (get_or fields i field)) (sym (get_or-set_same places i new place within)) (here field))

front_again : (n : ℕ) (xs : List (List ℕ)) → take (length (take n xs)) xs ≡ take n xs
front_again zero xs = refl
front_again (suc n) [] = refl
front_again (suc n) (x ∷ xs) = ap (λ more. x ∷ more) (front_again n xs)

-- a certificate is written, once the rows of its table are counted
pub table_put : (potentials : Option (List (List ℕ))) (n rows : ℕ) (table : List (List ℕ)) → rows ≡ length (take n table)
    → AreRows potentials (take n table) → HasTable potentials rows table
table_put None n rows table is parts = is ∙ ap length parts
table_put (Some written) n rows table is parts = (is ∙ ap length parts, ap (λ k. take k table) is ∙ front_again n table ∙ parts)

-- a place in a front is below its size
pub below_front : {X : Type 0} (n t : ℕ) (xs : List X) → t < length (take n xs) → t < n
below_front zero t xs h = h
below_front (suc n) t [] h = absurd (omega (arith, h))
below_front (suc n) zero (x ∷ xs) h = omega arith
below_front (suc n) (suc t) (x ∷ xs) h = let below : t < n = below_front n t xs (omega (arith, h)) in omega (arith, below)

-- fields that are written stand in a front that goes on too
pub put_goes_on : (rows : List ℕ) (old new : Front) → GoesOn old new → (first fields : List FrontField) (out : List TetraField) (n : ℕ)
    → first ≡ old.fields.items → fields ≡ new.fields.items → n ≡ length old.fields.items
    → ArePutTo (map (read_field rows) first) out (length first) → ArePutTo (map (read_field rows) fields) out n
put_goes_on rows old new on first fields out n first_is fields_are size put k below field place =
    let before : k < length old.fields.items = omega (arith, below, size) in
    let here : k < length first = omega (arith, before, ap length first_is) in
    subst (λ f. IsPut f (get_or out k place))
    (ap (λ l. get_or (map (read_field rows) l) k field) first_is ∙ read_before rows old new on k field before
    ∙ ap (λ l. get_or (map (read_field rows) l) k field) (sym fields_are))
    (put k here field place)
