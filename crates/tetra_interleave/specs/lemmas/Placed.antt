-- What holds of lists whose entries are put at places that are one-to-one.
use Prim.Native.Nat.{zero, suc}
use Rattle.std.proofs.Common.{ℕ, ◌+◌, ◌-◌, ◌<◌, ◌≤◌, ◌≡◌, inl, inr, Bool, false, List, ℤ, length, get_or, pos, arith, ap, sym, subst, ◌∙◌}
use Rattle.std.proofs.lemmas.Bool.{cases_eq, eq-eqb, ne_eqb}
use Rattle.std.proofs.lemmas.List.{ext_get_or}
use Rattle.tetra_bits.specs.Numbered.{length-numbered, get_or-numbered}
use Rattle.tetra_bits.specs.Order.{bit_at}
use Rattle.tetra_bits.specs.Soft.{value_at}
use Rattle.tetra_bits.specs.Undamaged.{HasSign, HasSignOrNone, Matches}
use Rattle.tetra_bits.specs.lemmas.Written.{undamaged_matches, matches_undamaged}
use Rattle.tetra_interleave.specs.Laws.{IsUndone, StayUndamaged, StayNoneWrong, AllAreUndone}
use Rattle.tetra_interleave.specs.Placed.{IsOneToOne, IsPlaced, entry_for, placed, entry_from, taken}

module _ {X : Type 0} where
  pub length-placed : (d : X) (n : ℕ) (place : ℕ → ℕ) (x : List X) → length (placed d n place x) ≡ n
  unfolding placed
  length-placed d n place x = length-numbered (entry_for d place x n) n

  pub length-taken : (d : X) (n : ℕ) (place : ℕ → ℕ) (y : List X) → length (taken d n place y) ≡ n
  unfolding taken
  length-taken d n place y = length-numbered (entry_from d place y) n

  -- the entry looked for is found
  entry_found : (d : X) (n : ℕ) (place : ℕ → ℕ) (x : List X) (i m : ℕ) → IsOneToOne n place → 1 ≤ i → i ≤ m → m ≤ n
      → entry_for d place x m (place i) ≡ get_or x (i - 1) d
  unfolding entry_for
  entry_found d n place x i zero o one le few = absurd (omega arith)
  entry_found d n place x i (suc m) o one le few = elim (cases_eq (place (suc m)) (place i)) [
    | inl same ↦
        let e : suc m ≡ i = o.apart (suc m) i (omega arith) few one (omega arith) same in
        let b : m ≡ i - 1 = omega arith in
        rw (eq-eqb (place (suc m)) (place i) same) (ap (λ k. get_or x k d) b)
    | inr other ↦ elim (cases_eq (suc m) i) [
      | inl e ↦ absurd (other (ap place e))
      | inr ne ↦ rw (ne_eqb (place (suc m)) (place i) other) (entry_found d n place x i m o one (omega arith) (omega arith))
    ]
  ]

  -- the entries are put at their places
  pub placed_is : (d : X) (n : ℕ) (place : ℕ → ℕ) (x : List X) → IsOneToOne n place → length x ≡ n
      → IsPlaced d n place x (placed d n place x)
  unfolding placed
  placed_is d n place x o l =
      record {
        size = length-placed d n place x ∙ sym l;
        entries = λ i one le.
            let within = o.within i one le in
            let back : place i - 1 + 1 ≡ place i = omega (arith, within) in
            get_or-numbered (entry_for d place x n) n (place i - 1) d (omega (arith, within)) ∙ ap (entry_for d place x n) back ∙ entry_found d n place x i n o one le (omega arith);
      }

  -- the entries are taken from their places
  pub taken_is : (d : X) (n : ℕ) (place : ℕ → ℕ) (y : List X) → length y ≡ n
      → IsPlaced d n place (taken d n place y) y
  unfolding taken entry_from
  taken_is d n place y l =
      record {
        size = l ∙ sym (length-taken d n place y);
        entries = λ i one le.
            let back : i - 1 + 1 ≡ i = omega arith in
            sym (get_or-numbered (entry_from d place y) n (i - 1) d (omega arith) ∙ ap (λ k. get_or y (place k - 1) d) back);
      }

  -- what was put out is determined
  pub same_source : (d : X) (n : ℕ) (place : ℕ → ℕ) (x y z : List X) → length x ≡ n → IsPlaced d n place x y
      → IsPlaced d n place z y → z ≡ x
  same_source d n place x y z l p q = ext_get_or d z x (sym q.size ∙ p.size) (λ k lt. at k (omega (arith, q.size, p.size)))
    where
      at : (k : ℕ) → k < n → get_or z k d ≡ get_or x k d
      at k lt =
          let e : k + 1 - 1 ≡ k = omega arith in
          ap (λ m. get_or z m d) (sym e) ∙ sym (q.entries (k + 1) (omega arith) (omega arith)) ∙ p.entries (k + 1) (omega arith) (omega arith) ∙ ap (λ m. get_or x m d) e

  -- and so is what it became
  pub same_target : (d : X) (n : ℕ) (place : ℕ → ℕ) (x y z : List X) → IsOneToOne n place → length x ≡ n
      → IsPlaced d n place x y → IsPlaced d n place x z → z ≡ y
  same_target d n place x y z o l p q = ext_get_or d z y (q.size ∙ sym p.size) (λ k lt. at k (omega (arith, q.size)))
    where
      at : (k : ℕ) → k < n → get_or z k d ≡ get_or y k d
      at k lt =
          let w = o.filled (k + 1) (omega arith) (omega arith) in
          let e : place w.0 - 1 ≡ k = omega (arith, w.3) in
          ap (λ m. get_or z m d) (sym e) ∙ q.entries w.0 w.1 w.2 ∙ sym (p.entries w.0 w.1 w.2) ∙ ap (λ m. get_or y m d) e

  pub placed_only : (d : X) (n : ℕ) (place : ℕ → ℕ) (x y : List X) → IsOneToOne n place → length x ≡ n → IsPlaced d n place x y
      → y ≡ placed d n place x
  placed_only d n place x y o l p = same_target d n place x (placed d n place x) y o l (placed_is d n place x o l) p

  pub taken_only : (d : X) (n : ℕ) (place : ℕ → ℕ) (x y : List X) → length y ≡ n → IsPlaced d n place x y
      → x ≡ taken d n place y
  taken_only d n place x y l p = same_source d n place (taken d n place y) y x (length-taken d n place y) (taken_is d n place y l) p

  -- back after out, and out after back
  pub undone : (d : X) (n : ℕ) (place : ℕ → ℕ) (x : List X) → IsOneToOne n place → length x ≡ n → IsUndone d n place x
  undone d n place x o l =
      record {
        back = sym (taken_only d n place x (placed d n place x) (length-placed d n place x) (placed_is d n place x o l));
        out = sym (placed_only d n place (taken d n place x) x o (length-taken d n place x) (taken_is d n place x l));
      }

pub all_are_undone : AllAreUndone
all_are_undone n place o = (λ x l. undone false n place x o l, λ x l. undone (pos 0) n place x o l)

-- a value taken back stands to its bit as before
stay_matched : (R : Bool → ℤ → Type 0) (n : ℕ) (place : ℕ → ℕ) (bits : List Bool) (soft : List ℤ) → IsOneToOne n place → length bits ≡ n
    → Matches R (placed false n place bits) soft → Matches R bits (taken (pos 0) n place soft)
unfolding taken entry_from
stay_matched R n place bits soft o l h =
    record {
      size = length-taken (pos 0) n place soft ∙ sym l;
      each = λ k b.
          let within = o.within (k + 1) (omega arith) (omega arith) in
          let q = place (k + 1) - 1 in
          let s : R (bit_at (placed false n place bits) q) (value_at soft q) = h.each q (omega (arith, within, length-placed false n place bits)) in
          let back : k + 1 - 1 ≡ k = omega arith in
          let e : bit_at (placed false n place bits) q ≡ bit_at bits k = (placed_is false n place bits o l).entries (k + 1) (omega arith) (omega arith) ∙ ap (bit_at bits) back in
          rw (get_or-numbered (entry_from (pos 0) place soft) n k (pos 0) (omega arith)) (subst (λ bit. R bit (value_at soft q)) e s);
    }

pub stay_undamaged : StayUndamaged
stay_undamaged n place bits soft o l u =
    matches_undamaged bits (taken (pos 0) n place soft)
    (stay_matched HasSign n place bits soft o l (undamaged_matches (placed false n place bits) soft u))

pub stay_none_wrong : StayNoneWrong
stay_none_wrong n place bits soft o l h = stay_matched HasSignOrNone n place bits soft o l h
