-- Frames sorted into their classes, and classes into their frame.
use Rattle.std.proofs.Common.{ℕ, ◌+◌, ◌-◌, ◌<◌, ◌≤◌, ◌≡◌, inl, inr, Bool, false, List, ◌++◌, length, get_or, set, take, drop, arith, refl, ap, sym, ◌∙◌}
use Rattle.std.proofs.lemmas.Bool.{cases_lt}
use Rattle.std.proofs.lemmas.List.{get_or-set_same, get_or-set_other, get_or-map, length-append, length-map, map-append, take_at, drop_at}
use Rattle.tetra_bits.specs.Numbered.{is_numbered}
use Rattle.tetra_bits.specs.Order.{bit_at}
use Rattle.tetra_interleave.specs.Laws.{AllAreUndone}
use Rattle.tetra_interleave.specs.Placed.{IsOneToOne, entry_from, placed, taken}
use Rattle.tetra_interleave.specs.lemmas.Placed.{length-placed, placed_only}
use Rattle.tetra_speech.specs.Classes.{class_0, class_1, class_2, bits_at, class_place, frame_of}
use Rattle.tetra_speech.specs.Laws.{AreClasses, ClassesAreUndone, EachInOneClass}
use Rattle.tetra_speech.specs.declared.tables.Classes.{Classes}
use Rattle.tetra_speech.specs.lemmas.ClassPlaces.{each_in_one_class}

-- the first i entries of x stand at their places
abbrev pub Written : (ℕ → ℕ) → List Bool → ℕ → List Bool → Type 0
Written place x i y = (k : ℕ) → k < i → bit_at y (place (k + 1) - 1) ≡ bit_at x k

-- one more is written
pub written_more : (n : ℕ) (place : ℕ → ℕ) (x old new : List Bool) (i at : ℕ) (v : Bool) → IsOneToOne n place → length old ≡ n
    → i < n → at ≡ place (i + 1) - 1 → new ≡ set old at v → v ≡ bit_at x i → Written place x i old → Written place x (i + 1) new
written_more n place x old new i at v o size less ea en ev before k h =
    let wk = o.within (k + 1) (omega arith) (omega arith) in
    let wi = o.within (i + 1) (omega arith) (omega arith) in
    ap (λ y. bit_at y (place (k + 1) - 1)) en ∙ elim (cases_lt k i) [
      | inl lt ↦
          get_or-set_other old at (place (k + 1) - 1) v false
          (λ e. let same : place (k + 1) ≡ place (i + 1) = omega (arith, e, ea, wk, wi) in
          let equal : k + 1 ≡ i + 1 = o.apart (k + 1) (i + 1) (omega arith) (omega arith) (omega arith) (omega arith) same in
          absurd (omega (arith, equal, lt)))
          ∙ before k lt
      | inr ge ↦
          let here : k ≡ i = omega (arith, ge, h) in
          let there : place (k + 1) - 1 ≡ at = ap (λ m. place (m + 1) - 1) here ∙ sym ea in
          let room : at < length old = omega (arith, size, ea, wi) in
          ap (λ m. get_or (set old at v) m false) there ∙ get_or-set_same old at v false room ∙ ev ∙ ap (bit_at x) (sym here)
    ]

pub length-frame_of : (c : Classes) → length (frame_of c) ≡ 137
unfolding frame_of
length-frame_of c = length-placed false 137 class_place (c.zero ++ c.one ++ c.two)

pub length-classes : (c : Classes) → AreClasses c → length (c.zero ++ c.one ++ c.two) ≡ 137
length-classes c s =
    length-append (c.zero ++ c.one) c.two ∙ omega (arith, length-append c.zero c.one, s.zero, s.one, s.two)

-- all are written
pub all_written : (c : Classes) (y : List Bool) (i : ℕ) → AreClasses c → length y ≡ 137 → Written class_place (c.zero ++ c.one ++ c.two) i y → 137 ≤ i
    → y ≡ frame_of c
unfolding frame_of
all_written c y i s size all end =
    placed_only false 137 class_place (c.zero ++ c.one ++ c.two) y each_in_one_class (length-classes c s)
    (record {
      size = size ∙ sym (length-classes c s);
      entries = λ k one le.
          let back : k - 1 + 1 ≡ k = omega arith in
          ap (λ m. bit_at y (class_place m - 1)) (sym back) ∙ all (k - 1) (omega arith);
    })

pub length-bits_at : (places : List ℕ) (frame : List Bool) → length (bits_at places frame) ≡ length places
unfolding bits_at
length-bits_at places frame = length-map places (λ place. bit_at frame (place - 1))

pub bits_at-append : (p q : List ℕ) (frame : List Bool) → bits_at (p ++ q) frame ≡ bits_at p frame ++ bits_at q frame
unfolding bits_at
bits_at-append p q frame = map-append (λ place. bit_at frame (place - 1)) p q

-- a bit of the three classes
entry : (frame : List Bool) (k : ℕ) → k < 137 → get_or (bits_at (class_0 ++ class_1 ++ class_2) frame) k false ≡ entry_from false class_place frame (k + 1)
unfolding bits_at entry_from class_place
entry frame k h =
    let back : k ≡ k + 1 - 1 = omega arith in
    get_or-map (λ place. bit_at frame (place - 1)) (class_0 ++ class_1 ++ class_2) k 0 false h
    ∙ ap (λ m. bit_at frame (get_or (class_0 ++ class_1 ++ class_2) m 0 - 1)) back

-- the bits of the three classes behind one another
joined_bits : (frame : List Bool) → bits_at class_0 frame ++ bits_at class_1 frame ++ bits_at class_2 frame ≡ taken false 137 class_place frame
unfolding taken
joined_bits frame =
    let whole : bits_at (class_0 ++ class_1 ++ class_2) frame ≡ bits_at class_0 frame ++ bits_at class_1 frame ++ bits_at class_2 frame =
    bits_at-append (class_0 ++ class_1) class_2 frame ∙ ap (λ b. b ++ bits_at class_2 frame) (bits_at-append class_0 class_1 frame) in
    sym whole ∙ is_numbered (entry_from false class_place frame) 137 false (bits_at (class_0 ++ class_1 ++ class_2) frame) (length-bits_at (class_0 ++ class_1 ++ class_2) frame) (entry frame)

-- lists of equal lengths behind one another are equal, each to each
pub parts_equal : {X : Type 0} (a b c d : List X) → length a ≡ length c → a ++ b ≡ c ++ d → (a ≡ c) × (b ≡ d)
parts_equal a b c d l e =
    (sym (take_at a b (length c) l) ∙ ap (take (length c)) e ∙ take_at c d (length c) refl, sym (drop_at a b (length c) l) ∙ ap (drop (length c)) e ∙ drop_at c d (length c) refl)

pub classes_are_undone : EachInOneClass → AllAreUndone → ClassesAreUndone
unfolding frame_of
classes_are_undone one undone =
    record {
      frames = λ frame size. ap (placed false 137 class_place) (joined_bits frame) ∙ ((undone 137 class_place one).0 frame size).out;
      classes = λ c s.
          let y = frame_of c in
          let e : bits_at class_0 y ++ bits_at class_1 y ++ bits_at class_2 y ≡ c.zero ++ c.one ++ c.two = joined_bits y ∙ ((undone 137 class_place one).0 (c.zero ++ c.one ++ c.two) (length-classes c s)).back in
          let l0 : length (bits_at class_0 y) ≡ length c.zero = length-bits_at class_0 y ∙ sym s.zero in
          let l1 : length (bits_at class_1 y) ≡ length c.one = length-bits_at class_1 y ∙ sym s.one in
          let l : length (bits_at class_0 y ++ bits_at class_1 y) ≡ length (c.zero ++ c.one) =
          length-append (bits_at class_0 y) (bits_at class_1 y) ∙ omega (arith, l0, l1, length-append c.zero c.one) in
          let last = parts_equal (bits_at class_0 y ++ bits_at class_1 y) (bits_at class_2 y) (c.zero ++ c.one) c.two l e in
          let first = parts_equal (bits_at class_0 y) (bits_at class_1 y) c.zero c.one l0 last.0 in
          rw (first.0, first.1, last.1) refl;
    }
