-- The parts of what is read, and their bits.
use Rattle.std.proofs.Common.{ℕ, ◌+◌, ◌*◌, ◌/◌, ◌≡◌, Bool, List, ◌++◌, length, take, drop, arith, refl, ap, sym, ◌∙◌}
use Rattle.std.proofs.lemmas.Bool.{cond-true, cond-false, eq-eqb, ne_eqb}
use Rattle.std.proofs.lemmas.List.{append_assoc, length-append, length-drop, length-take-le, take_at, drop_at, drop-drop, take-append-drop}
use Rattle.tetra_interleave.specs.lemmas.Placed.{all_are_undone}
use Rattle.tetra_speech.specs.Classes.{class_0, class_1, class_2, bits_at, classes_of, frame_of}
use Rattle.tetra_speech.specs.Frames.{alternated, strand, whole_uncoded, whole_coded, whole_frame, whole_bits, half_uncoded, half_coded, half_bits, trellis_part, uncoded_part}
use Rattle.tetra_speech.specs.Laws.{AreClasses, ClassesAreUndone, PartsAreUndone}
use Rattle.tetra_speech.specs.declared.tables.Classes.{Classes}
use Rattle.tetra_speech.specs.lemmas.ClassPlaces.{each_in_one_class}
use Rattle.tetra_speech.specs.lemmas.Sorted.{length-frame_of, length-bits_at, classes_are_undone}
use Rattle.tetra_speech.specs.lemmas.Strands.{length-alternated, length-strand, strand_0, strand_1, strands_alternate}

-- which parts, by the number of bits
pub trellis_whole : (bits : List Bool) → length bits ≡ 282 → whole_coded bits ≡ trellis_part bits
unfolding trellis_part
trellis_whole bits size = sym (cond-true _ (whole_coded bits) (half_coded bits) (eq-eqb (length bits) 282 size))

pub trellis_half : (bits : List Bool) → (length bits ≡ 282 → ⊥) → half_coded bits ≡ trellis_part bits
unfolding trellis_part
trellis_half bits other = sym (cond-false _ (whole_coded bits) (half_coded bits) (ne_eqb (length bits) 282 other))

pub uncoded_whole : (bits : List Bool) → length bits ≡ 282 → whole_uncoded bits ≡ uncoded_part bits
unfolding uncoded_part
uncoded_whole bits size = sym (cond-true _ (whole_uncoded bits) (half_uncoded bits) (eq-eqb (length bits) 282 size))

pub uncoded_half : (bits : List Bool) → (length bits ≡ 282 → ⊥) → half_uncoded bits ≡ uncoded_part bits
unfolding uncoded_part
uncoded_half bits other = sym (cond-false _ (whole_uncoded bits) (half_uncoded bits) (ne_eqb (length bits) 282 other))

-- three lists behind one another
module _ {X : Type 0} (x y z : List X) (m n : ℕ) (lx : length x ≡ m) (ly : length y ≡ n) where
  first : take m (x ++ y ++ z) ≡ x
  first = ap (take m) (append_assoc x y z) ∙ take_at x (y ++ z) m lx

  second : take n (drop m (x ++ y ++ z)) ≡ y
  second = ap (λ l. take n (drop m l)) (append_assoc x y z) ∙ ap (take n) (drop_at x (y ++ z) m lx) ∙ take_at y z n ly

  third : drop (m + n) (x ++ y ++ z) ≡ z
  third = drop_at (x ++ y) z (m + n) (length-append x y ∙ omega (arith, lx, ly))

-- a list of three parts
pub rejoined : {X : Type 0} (m n : ℕ) (l : List X) → take m l ++ take n (drop m l) ++ drop (m + n) l ≡ l
rejoined m n l =
    append_assoc (take m l) (take n (drop m l)) (drop (m + n) l)
    ∙ ap (λ r. take m l ++ (take n (drop m l) ++ r)) (sym (drop-drop n m l))
    ∙ ap (λ r. take m l ++ r) (take-append-drop n (drop m l))
    ∙ take-append-drop m l

-- the frames of two lists of classes alternating
module _ (a0 b0 a1 b1 a2 b2 rest : List Bool) (s0 : length a0 ≡ length b0) (sa1 : length a1 ≡ 56) (sb1 : length b1 ≡ 56) (sa2 : length a2 ≡ 30) (sb2 : length b2 ≡ 30) where
  coded : List Bool
  coded = alternated a1 b1 ++ alternated a2 b2 ++ rest

  l1 : length (alternated a1 b1) ≡ 112
  l1 = length-alternated a1 b1 ∙ ap (λ n. 2 * n) sa1

  l2 : length (alternated a2 b2) ≡ 60
  l2 = length-alternated a2 b2 ∙ ap (λ n. 2 * n) sa2

  frame_a : whole_frame 0 (alternated a0 b0) coded ≡ frame_of (record { zero = a0; one = a1; two = a2 })
  unfolding whole_frame coded
  frame_a =
      rw (
        first (alternated a1 b1) (alternated a2 b2) rest 112 60 l1 l2,
        second (alternated a1 b1) (alternated a2 b2) rest 112 60 l1 l2,
        strand_0 a0 b0,
        strand_0 a1 b1,
        strand_0 a2 b2,
      ) refl

  frame_b : whole_frame 1 (alternated a0 b0) coded ≡ frame_of (record { zero = b0; one = b1; two = b2 })
  unfolding whole_frame coded
  frame_b =
      rw (
        first (alternated a1 b1) (alternated a2 b2) rest 112 60 l1 l2,
        second (alternated a1 b1) (alternated a2 b2) rest 112 60 l1 l2,
        strand_1 a0 b0 s0,
        strand_1 a1 b1 (sa1 ∙ sym sb1),
        strand_1 a2 b2 (sa2 ∙ sym sb2),
      ) refl

  behind : drop 172 coded ≡ rest
  unfolding coded
  behind = third (alternated a1 b1) (alternated a2 b2) rest 112 60 l1 l2

  frames : (a b : List Bool) → frame_of (record { zero = a0; one = a1; two = a2 }) ≡ a → frame_of (record { zero = b0; one = b1; two = b2 }) ≡ b
      → whole_bits (alternated a0 b0) (alternated a1 b1 ++ alternated a2 b2 ++ rest) ≡ a ++ b ++ rest
  unfolding whole_bits coded
  frames a b ea eb = rw (frame_a ∙ ea, frame_b ∙ eb, behind) refl

whole_again : ClassesAreUndone → (bits : List Bool) → length bits ≡ 282 → whole_bits (whole_uncoded bits) (whole_coded bits) ≡ bits
unfolding whole_uncoded whole_coded
whole_again undone bits size =
    let a = take 137 bits in
    let b = take 137 (drop 137 bits) in
    let la : length a ≡ 137 = length-take-le 137 bits (omega (arith, size)) in
    let lb : length b ≡ 137 = length-take-le 137 (drop 137 bits) (omega (arith, size, length-drop 137 bits)) in
    frames (bits_at class_0 a) (bits_at class_0 b) (bits_at class_1 a) (bits_at class_1 b) (bits_at class_2 a) (bits_at class_2 b) (drop 274 bits)
    (length-bits_at class_0 a ∙ sym (length-bits_at class_0 b)) (length-bits_at class_1 a) (length-bits_at class_1 b) (length-bits_at class_2 a) (length-bits_at class_2 b)
    a b (undone.frames a la) (undone.frames b lb)
    ∙ rejoined 137 137 bits

half_again : ClassesAreUndone → (bits : List Bool) → length bits ≡ 141 → half_bits (half_uncoded bits) (half_coded bits) ≡ bits
unfolding half_uncoded half_coded half_bits
half_again undone bits size =
    let a = take 137 bits in
    let la : length a ≡ 137 = length-take-le 137 bits (omega (arith, size)) in
    let l1 : length (bits_at class_1 a) ≡ 56 = length-bits_at class_1 a in
    let l2 : length (bits_at class_2 a) ≡ 30 = length-bits_at class_2 a in
    rw (
      first (bits_at class_1 a) (bits_at class_2 a) (drop 137 bits) 56 30 l1 l2,
      second (bits_at class_1 a) (bits_at class_2 a) (drop 137 bits) 56 30 l1 l2,
      third (bits_at class_1 a) (bits_at class_2 a) (drop 137 bits) 56 30 l1 l2,
      undone.frames a la,
    ) (take-append-drop 137 bits)

-- bits of two strands
module _ (uncoded coded : List Bool) (lu : length uncoded ≡ 102) (lc : length coded ≡ 180) where
  size_1 : length (take 112 coded) ≡ 112
  size_1 = length-take-le 112 coded (omega (arith, lc))

  size_2 : length (take 60 (drop 112 coded)) ≡ 60
  size_2 = length-take-le 60 (drop 112 coded) (omega (arith, lc, length-drop 112 coded))

  unfoldable pub classes_from : ℕ → Classes
  classes_from from = record { zero = strand from uncoded; one = strand from (take 112 coded); two = strand from (take 60 (drop 112 coded)) }

  pub are_classes : (from : ℕ) → AreClasses (classes_from from)
  unfolding classes_from
  are_classes from =
      record {
        zero = length-strand from uncoded ∙ ap (λ n. n / 2) lu;
        one = length-strand from (take 112 coded) ∙ ap (λ n. n / 2) size_1;
        two = length-strand from (take 60 (drop 112 coded)) ∙ ap (λ n. n / 2) size_2;
      }

  both : List Bool
  both = whole_bits uncoded coded

  size_frame : (from : ℕ) → length (whole_frame from uncoded coded) ≡ 137
  unfolding whole_frame classes_from
  size_frame from = length-frame_of (classes_from from)

  take_a : take 137 both ≡ whole_frame 0 uncoded coded
  unfolding both whole_bits
  take_a = first (whole_frame 0 uncoded coded) (whole_frame 1 uncoded coded) (drop 172 coded) 137 137 (size_frame 0) (size_frame 1)

  take_b : take 137 (drop 137 both) ≡ whole_frame 1 uncoded coded
  unfolding both whole_bits
  take_b = second (whole_frame 0 uncoded coded) (whole_frame 1 uncoded coded) (drop 172 coded) 137 137 (size_frame 0) (size_frame 1)

  take_rest : drop 274 both ≡ drop 172 coded
  unfolding both whole_bits
  take_rest = third (whole_frame 0 uncoded coded) (whole_frame 1 uncoded coded) (drop 172 coded) 137 137 (size_frame 0) (size_frame 1)

  classes_a : ClassesAreUndone → classes_of (take 137 both) ≡ classes_from 0
  unfolding whole_frame classes_from
  classes_a undone = ap classes_of take_a ∙ undone.classes (classes_from 0) (are_classes 0)

  classes_b : ClassesAreUndone → classes_of (take 137 (drop 137 both)) ≡ classes_from 1
  unfolding whole_frame classes_from
  classes_b undone = ap classes_of take_b ∙ undone.classes (classes_from 1) (are_classes 1)

  whole_parts : ClassesAreUndone → (whole_uncoded (whole_bits uncoded coded) ≡ uncoded) × (whole_coded (whole_bits uncoded coded) ≡ coded)
  unfolding whole_uncoded whole_coded classes_from both
  whole_parts undone =
      let a = classes_a undone in
      let b = classes_b undone in
      let a0 : bits_at class_0 (take 137 both) ≡ strand 0 uncoded = ap (λ c. c.zero) a in
      let b0 : bits_at class_0 (take 137 (drop 137 both)) ≡ strand 1 uncoded = ap (λ c. c.zero) b in
      let a1 : bits_at class_1 (take 137 both) ≡ strand 0 (take 112 coded) = ap (λ c. c.one) a in
      let b1 : bits_at class_1 (take 137 (drop 137 both)) ≡ strand 1 (take 112 coded) = ap (λ c. c.one) b in
      let a2 : bits_at class_2 (take 137 both) ≡ strand 0 (take 60 (drop 112 coded)) = ap (λ c. c.two) a in
      let b2 : bits_at class_2 (take 137 (drop 137 both)) ≡ strand 1 (take 60 (drop 112 coded)) = ap (λ c. c.two) b in (
        rw (a0, b0) (strands_alternate uncoded (omega (arith, lu))),
        rw (a1, b1, a2, b2, take_rest, strands_alternate (take 112 coded) (omega (arith, size_1)), strands_alternate (take 60 (drop 112 coded)) (omega (arith, size_2))) (rejoined 112 60 coded),
      )

half_parts : ClassesAreUndone → (uncoded coded : List Bool) → length uncoded ≡ 51 → length coded ≡ 90
    → (half_uncoded (half_bits uncoded coded) ≡ uncoded) × (half_coded (half_bits uncoded coded) ≡ coded)
unfolding half_uncoded half_coded half_bits
half_parts undone uncoded coded lu lc =
    let c : Classes = record { zero = uncoded; one = take 56 coded; two = take 30 (drop 56 coded) } in
    let are : AreClasses c = record {
      zero = lu;
      one = length-take-le 56 coded (omega (arith, lc));
      two = length-take-le 30 (drop 56 coded) (omega (arith, lc, length-drop 56 coded));
    } in
    let front : take 137 (frame_of c ++ drop 86 coded) ≡ frame_of c = take_at (frame_of c) (drop 86 coded) 137 (length-frame_of c) in
    let rest : drop 137 (frame_of c ++ drop 86 coded) ≡ drop 86 coded = drop_at (frame_of c) (drop 86 coded) 137 (length-frame_of c) in
    let back : classes_of (take 137 (frame_of c ++ drop 86 coded)) ≡ c = ap classes_of front ∙ undone.classes c are in
    let e0 : bits_at class_0 (take 137 (frame_of c ++ drop 86 coded)) ≡ uncoded = ap (λ d. d.zero) back in
    let e1 : bits_at class_1 (take 137 (frame_of c ++ drop 86 coded)) ≡ take 56 coded = ap (λ d. d.one) back in
    let e2 : bits_at class_2 (take 137 (frame_of c ++ drop 86 coded)) ≡ take 30 (drop 56 coded) = ap (λ d. d.two) back in
    (e0, rw (e1, e2, rest) (rejoined 56 30 coded))

pub parts_are_undone : ClassesAreUndone → PartsAreUndone
parts_are_undone undone =
    record {
      whole_again = whole_again undone;
      whole_parts = λ uncoded coded lu lc. whole_parts uncoded coded lu lc undone;
      half_again = half_again undone;
      half_parts = half_parts undone;
    }

-- these are facts
pub parts_undone : PartsAreUndone
parts_undone = parts_are_undone (classes_are_undone each_in_one_class all_are_undone)
