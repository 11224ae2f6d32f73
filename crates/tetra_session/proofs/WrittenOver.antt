-- Lists that are filled, and lists that are written over.
use Rattle.std.proofs.Common.{ℕ, ◌≡◌, ◌+◌, ◌-◌, ◌<◌, ◌≤◌, List, [], ◌∷◌, ◌++◌, Option, None, Some, length, map, take, drop, set, get_or, arith, sym, ap, ◌∙◌, append_assoc, length-append, length-drop}
use Rattle.std.specs.Int.{from_bool}
use Rattle.std.specs.Prelude.{MatchOption, is_some}
use Rattle.std.proofs.lemmas.List.{take_more, take_all, take-append-le, drop_more, drop_all, append-nil, map-append, set_at, length-map, length-set}
use Rattle.arrayvec.specs.ArrayVec.{ArrayVec, with_items}
use Rattle.tetra_session.specs.Spots.{with_load}
use Rattle.tetra_session.specs.declared.spots.Place.{Place}

-- one more element of a list behind another one
pub pushed : {X : Type 0} (front back old new : List X) (i : ℕ) (x d : X) → i < length back → old ≡ front ++ take i back → new ≡ old ++ x ∷ [] → x ≡ get_or back i d
    → new ≡ front ++ take (i + 1) back
pushed front back old new i x d room so_far more here =
    more ∙ ap (λ l. l ++ x ∷ []) so_far ∙ append_assoc front (take i back) (x ∷ [])
    ∙ ap (λ y. front ++ (take i back ++ y ∷ [])) here ∙ ap (λ l. front ++ l) (sym (take_more back i d room))

-- a list of fixed capacity, written over as a whole
items_are : {Y : Type 0} (v : ArrayVec Y) (ys : List Y) → length ys ≡ length v.items → (with_items v ys).items ≡ ys
items_are v ys e = take-append-le (length v.items) ys (drop (length ys) v.items) (omega arith) ∙ take_all (length v.items) ys (omega arith)

-- the first of the fields that were kept are written over
pub record IsFrontWritten {Y : Type 0} (f : Place → Y) (kept : ArrayVec Y) (places : List Place) (first : List Y) : Type 0 where
  pub first_is : first ≡ map f places ++ drop (length places) kept.items
  pub room : length places ≤ length kept.items

module _ {Y : Type 0} (f : Place → Y) (kept : ArrayVec Y) (places : List Place) (first : List Y) (written : IsFrontWritten f kept places first) where
  first_long : length first ≡ length kept.items
  first_long =
      let parts : length first ≡ length (map f places) + length (drop (length places) kept.items) =
      ap length written.first_is ∙ length-append (map f places) (drop (length places) kept.items) in
      let room = written.room in
      omega (arith, parts, length-map places f, length-drop (length places) kept.items, room)

  pub first_items : (with_items kept first).items ≡ first
  first_items = items_are kept first first_long

  -- they are the fields of their places
  pub front_items : (n : ℕ) (again : List Y) → n ≡ length places → again ≡ (with_items kept first).items → take n again ≡ map f places
  front_items n again size e =
      let long : n ≡ length (map f places) = size ∙ sym (length-map places f) in
      ap (take n) (e ∙ first_items ∙ written.first_is)
      ∙ take-append-le n (map f places) (drop (length places) kept.items) (omega arith)
      ∙ take_all n (map f places) (omega arith)

  -- they are all, where no more were kept
  pub only_items : length kept.items ≡ length places → (with_items kept first).items ≡ map f places
  only_items size =
      let none : drop (length places) kept.items ≡ [] = drop_all (length places) kept.items (omega (arith, size)) in
      first_items ∙ written.first_is ∙ ap (λ rest. map f places ++ rest) none ∙ append-nil (map f places)

  -- and with the field of the load behind them all fields are there
  pub all_items : (g : Place → Y) (load : Option Place) (lent whole : List Y) → map f places ≡ map g places
      → length kept.items ≡ length places + from_bool (is_some load) → lent ≡ (with_items kept first).items
      → MatchOption load (whole ≡ lent) (λ place. whole ≡ set lent (length lent - 1) (g place))
      → (with_items (with_items kept first) whole).items ≡ map g (with_load places load)
  all_items g None lent whole same size e h =
      let lent_is : lent ≡ first = e ∙ first_items in
      let long : length whole ≡ length (with_items kept first).items = ap length (h ∙ e) in
      let none : drop (length places) kept.items ≡ [] = drop_all (length places) kept.items (omega (arith, size)) in
      items_are (with_items kept first) whole long ∙ h ∙ lent_is ∙ written.first_is ∙ ap (λ rest. map f places ++ rest) none
      ∙ append-nil (map f places) ∙ same
  all_items g (Some place) lent whole same size e h =
      let lent_is : lent ≡ first = e ∙ first_items in
      let long : length whole ≡ length (with_items kept first).items = ap length h ∙ length-set lent (length lent - 1) (g place) ∙ ap length e in
      let last : Y = get_or kept.items (length places) (g place) in
      let one : drop (length places) kept.items ≡ last ∷ [] =
      drop_more kept.items (length places) (g place) (omega (arith, size))
      ∙ ap (λ rest. last ∷ rest) (drop_all (length places + 1) kept.items (omega (arith, size))) in
      let lent_parts : lent ≡ map f places ++ last ∷ [] = lent_is ∙ written.first_is ∙ ap (λ rest. map f places ++ rest) one in
      let at : length (map f places) ≡ length lent - 1 = omega (arith, length-map places f, ap length lent_is, first_long, size) in
      items_are (with_items kept first) whole long ∙ h
      ∙ ap (λ l. set l (length lent - 1) (g place)) lent_parts
      ∙ set_at (map f places) last [] (g place) (length lent - 1) at
      ∙ ap (λ l. l ++ g place ∷ []) same
      ∙ sym (map-append g places (place ∷ []))
