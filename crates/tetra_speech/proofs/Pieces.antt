-- Pieces of lists of a known length, and the sizes of what speech is made of.
use Prim.Native.Nat.compare
use Rattle.std.proofs.Common.{◌≡◌, ℕ, ◌+◌, ◌-◌, ◌<◌, ◌≤◌, List, ◌++◌, length, take, drop, get_or, arith, refl, ap, sym, ◌∙◌}
use Rattle.std.specs.Prelude.{ℤ, pos, negsuc, replicate, slice_set}
use Rattle.std.specs.Int.Signed.{lt_z}
use Rattle.std.proofs.Math.Seq.{take-append_seam, drop-append_seam}
use Rattle.std.proofs.lemmas.List.{take_all, length-drop, length-take-le, drop-drop, ext_get_or, get_or-drop, get_or-take, get_or_append_left}
use Rattle.tetra_bits.specs.Lists.{resized}
use Rattle.tetra_bits.specs.Plain.{is_negative}
use Rattle.tetra_bits.specs.lemmas.InPlace.{Begins, begins_set}

-- a value below 0 leans to bit 1
pub negative_is : (v : ℤ) → lt_z v (pos 0) ≡ is_negative v
negative_is (pos n) = rw (compare.suc-zero n) refl
negative_is (negsuc n) = refl

module _ {X : Type 0} where
  pub front_of : (n : ℕ) (xs ys : List X) → length xs ≡ n → take n (xs ++ ys) ≡ xs
  front_of n xs ys l = rw (← l) (take-append_seam xs ys)

  pub behind : (n : ℕ) (xs ys : List X) → length xs ≡ n → drop n (xs ++ ys) ≡ ys
  behind n xs ys l = rw (← l) (drop-append_seam xs ys)

  pub second_of : (n : ℕ) (xs ys zs : List X) → length xs ≡ n → length ys ≡ n → take n (drop n (xs ++ (ys ++ zs))) ≡ ys
  second_of n xs ys zs lx ly = rw (behind n xs (ys ++ zs) lx) (front_of n ys zs ly)

  pub behind_both : (n m : ℕ) (xs ys zs : List X) → m ≡ n + n → length xs ≡ n → length ys ≡ n
      → drop m (xs ++ (ys ++ zs)) ≡ zs
  behind_both n m xs ys zs e lx ly =
      rw (e, ← drop-drop n n (xs ++ (ys ++ zs)), behind n xs (ys ++ zs) lx) (behind n ys zs ly)

  -- all that is behind n entries
  pub all_behind : (n count : ℕ) (xs : List X) → length xs ≡ n + count → take count (drop n xs) ≡ drop n xs
  all_behind n count xs l = take_all count (drop n xs) (omega (arith, length-drop n xs))

  -- the entries from one on, written in place
  pub is_part : (d : X) (xs part : List X) (from count i : ℕ) → length part ≡ count → from + count ≤ length xs
      → Begins (λ k. get_or xs (from + (k - 1)) d) d i part → count ≤ i → part ≡ take count (drop from xs)
  is_part d xs part from count i size there all end =
      let l : length (take count (drop from xs)) ≡ count =
      length-take-le count (drop from xs) (omega (arith, length-drop from xs, there))
      in
      ext_get_or d part (take count (drop from xs)) (size ∙ sym l) (λ k h.
      let below : k < count = omega (arith, h, size) in
      let done : k < i = omega (arith, below, end) in
      let back : from + (k + 1 - 1) ≡ from + k = omega arith in
      all k done ∙ ap (λ n. get_or xs n d) back ∙ sym (get_or-drop from xs k d)
      ∙ sym (get_or-take count (drop from xs) k d below))

  -- the entries of two lists behind one another, written behind the first
  pub begins_first : (d : X) (first second all : List X) (n : ℕ) → all ≡ resized d n first → length first ≤ n
      → Begins (λ k. get_or (first ++ second) (k - 1) d) d (length first) all
  begins_first d first second all n e le k h =
      let back : k + 1 - 1 ≡ k = omega arith in
      let few : k < length (take n first) = rw (take_all n first le) h in
      ap (λ xs. get_or xs k d) e ∙ get_or_append_left (take n first) (replicate (n - length first) d) d k few
      ∙ ap (λ xs. get_or xs k d) (take_all n first le) ∙ sym (get_or_append_left first second d k h)
      ∙ ap (λ m. get_or (first ++ second) m d) (sym back)

  -- the first i entries are those of xs
  abbrev pub IsFront : X → List X → ℕ → List X → Type 0
  IsFront d xs i all = Begins (λ k. get_or xs (k - 1) d) d i all

  pub front_set : (d : X) (xs old new : List X) (i : ℕ) (x : X) → IsFront d xs i old → new ≡ slice_set old i x
      → i < length old → x ≡ get_or xs i d → IsFront d xs (i + 1) new
  front_set d xs old new i x before en within ex =
      let back : i ≡ i + 1 - 1 = omega arith in
      begins_set (λ k. get_or xs (k - 1) d) d i old new x before en within (ex ∙ ap (λ n. get_or xs n d) back)

  -- all entries are
  pub is_written : (d : X) (xs all : List X) (i : ℕ) → length all ≡ length xs → IsFront d xs i all → length xs ≤ i → all ≡ xs
  is_written d xs all i size front end =
      ext_get_or d all xs size (λ k h.
      let done : k < i = omega (arith, h, size, end) in
      let back : k + 1 - 1 ≡ k = omega arith in
      front k done ∙ ap (λ n. get_or xs n d) back)
