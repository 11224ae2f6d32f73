-- Lists that are made longer or shorter in place.
use Prim.Native.Nat.{zero, suc}
use Rattle.std.proofs.Common.{◌≡◌, ℕ, ◌+◌, ◌-◌, ◌≤◌, ◌<◌, min, List, [], ◌∷◌, ◌++◌, length, take, replicate, arith, ap, sym, subst, ◌∙◌}
use Rattle.std.proofs.lemmas.List.{length-append, length-replicate, length-take, take-replicate, replicate_more, append-nil, append_assoc}
use Rattle.std.proofs.lemmas.List.Elements.{All-append}
use Rattle.tetra_bits.specs.Lists.{resized}
use Rattle.tetra_bits.specs.Readings.{HasRows}

module _ {X : Type 0} (filler : X) (len : ℕ) (old : List X) where
  -- the front stays, and the rest is taken from a list of fillers
  pub resized_at_once : (room more : ℕ) (mid new : List X) → mid ≡ take len old → more ≡ len - length mid → more ≤ room
      → new ≡ mid ++ take more (replicate room filler) → new ≡ resized filler len old
  resized_at_once room more mid new em es h en =
      let front : length (take len old) ≡ min len (length old) = length-take len old in
      let size : length mid ≡ length (take len old) = ap length em in
      let comes : more ≡ len - length old = omega (arith, es, front, size) in
      en ∙ ap (λ xs. mid ++ xs) (take-replicate more room filler h) ∙ ap (λ xs. xs ++ replicate more filler) em
      ∙ ap (λ n. take len old ++ replicate n filler) comes

  -- the front stays, and fillers come up to here
  abbrev pub filled_to : ℕ → List X
  filled_to here = take len old ++ replicate (here - length old) filler

  pub filled_first : (mid : List X) → mid ≡ take len old → mid ≡ filled_to (length mid)
  filled_first mid e =
      let front : length (take len old) ≡ min len (length old) = length-take len old in
      let size : length mid ≡ length (take len old) = ap length e in
      let none : length mid - length old ≡ 0 = omega (arith, front, size) in
      rw none (e ∙ sym (append-nil (take len old)))

  pub filled_more : (here : ℕ) (mid new : List X) → mid ≡ filled_to here → length mid ≡ here → here < len
      → new ≡ mid ++ filler ∷ [] → new ≡ filled_to (here + 1)
  filled_more here mid new e size h en =
      let front : length (take len old) ≡ min len (length old) = length-take len old in
      let sum : length (take len old) + length (replicate (here - length old) filler) ≡ here =
      sym (length-append (take len old) (replicate (here - length old) filler)) ∙ ap length (sym e) ∙ size in
      let comes : length (replicate (here - length old) filler) ≡ here - length old = length-replicate (here - length old) filler in
      let behind : length old ≤ here = omega (arith, sum, comes, front, h) in
      let one : here - length old + 1 ≡ here + 1 - length old = omega (arith, behind) in
      en ∙ ap (λ xs. xs ++ filler ∷ []) e ∙ append_assoc (take len old) (replicate (here - length old) filler) (filler ∷ [])
      ∙ ap (λ xs. take len old ++ xs) (replicate_more (here - length old) filler)
      ∙ ap (λ n. take len old ++ replicate n filler) one

  pub filled_last : (here : ℕ) (new : List X) → new ≡ filled_to here → here ≡ len → new ≡ resized filler len old
  filled_last here new e end = e ∙ ap (λ n. take len old ++ replicate (n - length old) filler) end

one_row : (row : List ℕ) → length row ≡ 16 → HasRows (row ∷ [])
one_row row e zero d h = e
one_row row e (suc k) d h = absurd (omega arith)

-- one more row of 16 entries
pub rows_more : (rows : List (List ℕ)) (row : List ℕ) (new : List (List ℕ)) → HasRows rows → length row ≡ 16
    → new ≡ rows ++ row ∷ [] → HasRows new
rows_more rows row new all e en =
    subst HasRows (sym en) (All-append (λ r. length r ≡ 16) rows (row ∷ []) all (one_row row e))
