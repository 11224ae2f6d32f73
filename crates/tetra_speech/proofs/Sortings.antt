-- Frames that are written into a list, each bit at its place.
use Rattle.std.proofs.Common.{◌≡◌, ℕ, ◌+◌, ◌-◌, ◌*◌, ◌/◌, ◌<◌, ◌≤◌, inl, inr, Bool, false, List, ◌++◌, length, take, drop, set, arith, refl, ap, sym, ◌∙◌}
use Rattle.std.proofs.lemmas.Bool.{cases_lt}
use Rattle.std.proofs.lemmas.List.{append_assoc, ext_get_or, get_or-set_same, get_or-set_other, get_or-take, get_or-drop, get_or_append_left, get_or-append_right, length-append, length-drop, length-set, length-take-le, take-append-drop, take_all}
use Rattle.tetra_bits.specs.Order.{bit_at}
use Rattle.tetra_interleave.specs.lemmas.Placed.{placed_is}
use Rattle.tetra_speech.proofs.Pieces.{IsFront, front_set, front_of, behind}
use Rattle.tetra_speech.specs.Classes.{class_0, class_place, frame_of}
use Rattle.tetra_speech.specs.Frames.{strand, whole_frame, whole_uncoded, whole_coded, whole_bits, half_uncoded, half_coded, half_bits}
use Rattle.tetra_speech.specs.Laws.{AreClasses}
use Rattle.tetra_speech.specs.declared.tables.Classes.{Classes}
use Rattle.tetra_speech.specs.lemmas.ClassPlaces.{each_in_one_class}
use Rattle.tetra_speech.specs.lemmas.Parts.{classes_from, are_classes, rejoined, parts_undone}
use Rattle.tetra_speech.specs.lemmas.Sizes.{whole_coded_size, half_coded_size}
use Rattle.tetra_speech.specs.lemmas.Sorted.{all_written, length-bits_at, length-classes, length-frame_of}
use Rattle.tetra_speech.specs.lemmas.Strands.{strand_bit, length-alternated, length-strand}

-- the place of bit k of the classes, both counted from 0
abbrev pub spot : ℕ → ℕ
spot k = class_place (k + 1) - 1

pub spot_within : (k : ℕ) → k < 137 → (spot k < 137) × (class_place (k + 1) ≡ spot k + 1)
spot_within k h =
    let w = each_in_one_class.within (k + 1) (omega arith) (omega arith) in
    (omega (arith, w.0, w.1), omega (arith, w.0))

spots_apart : (k i : ℕ) → k < i → i < 137 → spot k ≡ spot i → ⊥
spots_apart k i less h same =
    let few : k < 137 = omega arith in
    let wk = spot_within k few in
    let wi = spot_within i h in
    let equal : class_place (k + 1) ≡ class_place (i + 1) = omega (arith, same, wk.1, wi.1) in
    let one : k + 1 ≡ i + 1 =
    each_in_one_class.apart (k + 1) (i + 1) (omega arith) (omega arith) (omega arith) (omega arith) equal
    in
    absurd (omega (arith, one, less))

-- the first i bits have these values at their spots, behind so many others
abbrev pub Lies : ℕ → (ℕ → Bool) → ℕ → List Bool → Type 0
Lies base value i bits = (k : ℕ) → k < i → bit_at bits (base + spot k) ≡ value k

-- one more is written
pub lies_more : (base : ℕ) (value : ℕ → Bool) (i at : ℕ) (old new : List Bool) (v : Bool) → Lies base value i old → i < 137
    → base + 137 ≤ length old → at ≡ base + spot i → new ≡ set old at v → v ≡ value i → Lies base value (i + 1) new
lies_more base value i at old new v before few room ea en ev k h =
    let within = spot_within i few in
    ap (λ bits. bit_at bits (base + spot k)) en ∙ elim (cases_lt k i) [
      | inl lt ↦
          get_or-set_other old at (base + spot k) v false
          (λ e. let same : spot k ≡ spot i = omega (arith, e, ea) in
          spots_apart k i lt few same)
          ∙ before k lt
      | inr ge ↦
          let here : k ≡ i = omega (arith, ge, h) in
          let there : base + spot k ≡ at = ap (λ m. base + spot m) here ∙ sym ea in
          let inside : at < length old = omega (arith, ea, within.0, room) in
          ap (bit_at (set old at v)) there ∙ get_or-set_same old at v false inside ∙ ev ∙ ap value (sym here)
    ]

-- what is written elsewhere changes none
pub lies_still : (base : ℕ) (value : ℕ → Bool) (i at : ℕ) (old new : List Bool) (v : Bool) → Lies base value i old → i ≤ 137
    → ((k : ℕ) → k < 137 → at ≡ base + spot k → ⊥) → new ≡ set old at v → Lies base value i new
lies_still base value i at old new v before few other en k h =
    let less : k < 137 = omega arith in
    ap (λ bits. bit_at bits (base + spot k)) en
    ∙ get_or-set_other old at (base + spot k) v false (λ e. let same : at ≡ base + spot k = omega (arith, e) in other k less same)
    ∙ before k h

-- the bits from one on are those of another list
abbrev pub Ends : ℕ → List Bool → List Bool → Type 0
Ends from other bits = (k : ℕ) → from ≤ k → bit_at bits k ≡ bit_at other k

pub ends_still : (from at : ℕ) (other old new : List Bool) (v : Bool) → Ends from other old → at < from → new ≡ set old at v
    → Ends from other new
ends_still from at other old new v before less en k h =
    ap (λ bits. bit_at bits k) en
    ∙ get_or-set_other old at k v false (λ e. let same : at ≡ k = omega (arith, e) in absurd (omega (arith, same, less, h)))
    ∙ before k h

-- 137 bits at their spots are a frame
frame_lies : (base : ℕ) (c : Classes) (bits : List Bool) → AreClasses c → base + 137 ≤ length bits
    → Lies base (bit_at (c.zero ++ c.one ++ c.two)) 137 bits → take 137 (drop base bits) ≡ frame_of c
frame_lies base c bits are room lies =
    let size : length (take 137 (drop base bits)) ≡ 137 = length-take-le 137 (drop base bits) (omega (arith, length-drop base bits, room)) in
    all_written c (take 137 (drop base bits)) 137 are size
    (λ k h.
    let within = spot_within k h in
    get_or-take 137 (drop base bits) (spot k) false within.0 ∙ get_or-drop base bits (spot k) false ∙ lies k h) (omega arith)

-- a bit of a frame
frame_entry : (c : Classes) → AreClasses c → (k : ℕ) → k < 137 → bit_at (frame_of c) (spot k) ≡ bit_at (c.zero ++ c.one ++ c.two) k
unfolding frame_of
frame_entry c are k h =
    let x = c.zero ++ c.one ++ c.two in
    let p = placed_is false 137 class_place x each_in_one_class (length-classes c are) in
    let back : k + 1 - 1 ≡ k = omega arith in
    p.entries (k + 1) (omega arith) (omega arith) ∙ ap (bit_at x) back

-- the bits of a strand of each class behind one another
module _ (uncoded coded : List Bool) (lu : length uncoded ≡ 102) (lc : length coded ≡ 180) (from : ℕ) (one : from ≤ 1) where
  c : Classes
  c = classes_from uncoded coded lu lc from

  s : AreClasses c
  unfolding c
  s = are_classes uncoded coded lu lc from

  sorted_bit : (k : ℕ) → k < 137 → bit_at (uncoded ++ coded) (2 * k + from) ≡ bit_at (c.zero ++ c.one ++ c.two) k
  unfolding c classes_from
  sorted_bit k h =
      let zero = strand from uncoded in
      let first = strand from (take 112 coded) in
      let second = strand from (take 60 (drop 112 coded)) in
      let l0 : length zero ≡ 51 = (are_classes uncoded coded lu lc from).zero in
      let l1 : length first ≡ 56 = (are_classes uncoded coded lu lc from).one in
      let l2 : length second ≡ 30 = (are_classes uncoded coded lu lc from).two in
      let l01 : length (zero ++ first) ≡ 107 = omega (arith, length-append zero first, l0, l1) in
      let m1 : length first ≡ length (take 112 coded) / 2 = length-strand from (take 112 coded) in
      let m2 : length second ≡ length (take 60 (drop 112 coded)) / 2 = length-strand from (take 60 (drop 112 coded)) in
      elim (cases_lt k 51) [
        | inl lt ↦
            let a : 2 * k + from < length uncoded = omega (arith, lt, lu, one) in
            let b : k < length (zero ++ first) = omega (arith, lt, l01) in
            let d : k < length zero = omega (arith, lt, l0) in
            let e : k < length uncoded / 2 = omega (arith, lt, lu) in
            get_or_append_left uncoded coded false (2 * k + from) a ∙ sym (strand_bit from uncoded k e)
            ∙ sym (get_or_append_left zero first false k d) ∙ sym (get_or_append_left (zero ++ first) second false k b)
        | inr ge ↦ get_or-append_right uncoded coded 102 (2 * k + from) false lu (omega (arith, ge)) ∙ elim (cases_lt k 107) [
          | inl lt ↦
              let b : k < length (zero ++ first) = omega (arith, lt, l01) in
              let d : k - 51 < length (take 112 coded) / 2 = omega (arith, ge, lt, m1, l1) in
              let e : 2 * (k - 51) + from < 112 = omega (arith, ge, lt, one) in
              let f : 2 * k + from - 102 ≡ 2 * (k - 51) + from = omega (arith, ge) in
              ap (bit_at coded) f ∙ sym (get_or-take 112 coded (2 * (k - 51) + from) false e)
              ∙ sym (strand_bit from (take 112 coded) (k - 51) d) ∙ sym (get_or-append_right zero first 51 k false l0 ge)
              ∙ sym (get_or_append_left (zero ++ first) second false k b)
          | inr more ↦
              let d : k - 107 < length (take 60 (drop 112 coded)) / 2 = omega (arith, more, h, m2, l2) in
              let e : 2 * (k - 107) + from < 60 = omega (arith, more, h, one) in
              let f : 2 * k + from - 102 ≡ 112 + (2 * (k - 107) + from) = omega (arith, more) in
              ap (bit_at coded) f ∙ sym (get_or-drop 112 coded (2 * (k - 107) + from) false)
              ∙ sym (get_or-take 60 (drop 112 coded) (2 * (k - 107) + from) false e)
              ∙ sym (strand_bit from (take 60 (drop 112 coded)) (k - 107) d)
              ∙ sym (get_or-append_right (zero ++ first) second 107 k false l01 more)
        ]
      ]

  -- the frame that is written by them
  frame_is : (base : ℕ) (bits : List Bool) → base + 137 ≤ length bits
      → Lies base (λ k. bit_at (uncoded ++ coded) (2 * k + from)) 137 bits
      → take 137 (drop base bits) ≡ whole_frame from uncoded coded
  unfolding whole_frame c classes_from
  frame_is base bits room lies =
      frame_lies base c bits s room (λ k h. lies k h ∙ sorted_bit k h)

  -- a bit of the frame
  pub strand_entry : (k : ℕ) → k < 137 → bit_at (whole_frame from uncoded coded) (spot k) ≡ bit_at (uncoded ++ coded) (2 * k + from)
  unfolding whole_frame c classes_from
  strand_entry k h = frame_entry c s k h ∙ sym (sorted_bit k h)

-- the rest is the parity
rest_is : (front n : ℕ) (before coded bits : List Bool) → length bits ≡ length (before ++ coded) → length before + n ≡ front
    → Ends front (before ++ coded) bits → drop front bits ≡ drop n coded
rest_is front n before coded bits size e ends =
    let long = length-append before coded in
    ext_get_or false (drop front bits) (drop n coded)
    (omega (arith, length-drop front bits, length-drop n coded, size, long, e))
    (λ k h.
    let later : front ≤ front + k = omega arith in
    let behind : length before ≤ front + k = omega (arith, e) in
    let at : front + k - length before ≡ n + k = omega (arith, e) in
    get_or-drop front bits k false ∙ ends (front + k) later
    ∙ get_or-append_right before coded (length before) (front + k) false refl behind ∙ ap (bit_at coded) at
    ∙ sym (get_or-drop n coded k false))

-- how far the bits of a whole slot are sorted back into its frames
pub record SortedBack (sorted bits : List Bool) (i : ℕ) : Type 0 where
  pub size : length bits ≡ 282
  pub first : Lies 0 (λ k. bit_at sorted (2 * k + 0)) i bits
  pub second : Lies 137 (λ k. bit_at sorted (2 * k + 1)) i bits
  pub rest : Ends 274 sorted bits

pub back_none : (sorted : List Bool) → length sorted ≡ 282 → SortedBack sorted sorted 0
back_none sorted l = record {
  size = l;
  first = λ k h. absurd (omega (arith, h));
  second = λ k h. absurd (omega (arith, h));
  rest = λ k h. refl;
}

pub back_more : (sorted old middle new : List Bool) (i place : ℕ) (a b : Bool) → SortedBack sorted old i → i < 137
    → place ≡ spot i → middle ≡ set old place a → new ≡ set middle (137 + place) b → a ≡ bit_at sorted (2 * i)
    → b ≡ bit_at sorted (2 * i + 1) → SortedBack sorted new (i + 1)
back_more sorted old middle new i place a b before few ep em en ea eb =
    let within = spot_within i few in
    let here : place ≡ 0 + spot i = omega (arith, ep) in
    let there : 137 + place ≡ 137 + spot i = omega (arith, ep) in
    let none : 2 * i ≡ 2 * i + 0 = omega arith in
    let lm : length middle ≡ length old = ap length em ∙ length-set old place a in
    let ln : length new ≡ length middle = ap length en ∙ length-set middle (137 + place) b in
    let size = before.size in
    let upto : i + 1 ≤ 137 = omega arith in
    let upto_i : i ≤ 137 = omega arith in
    let one = lies_more 0 (λ k. bit_at sorted (2 * k + 0)) i place old middle a before.first few (omega (arith, size)) here em
    (ea ∙ ap (bit_at sorted) none) in
    let two = lies_still 137 (λ k. bit_at sorted (2 * k + 1)) i place old middle a before.second upto_i
    (λ k h same. absurd (omega (arith, same, ep, within.0))) em in
    record {
      size = ln ∙ lm ∙ size;
      first = lies_still 0 (λ k. bit_at sorted (2 * k + 0)) (i + 1) (137 + place) middle new b one upto
          (λ k h same. let w = spot_within k h in absurd (omega (arith, same, w.0))) en;
      second = lies_more 137 (λ k. bit_at sorted (2 * k + 1)) i (137 + place) middle new b two few (omega (arith, lm, size)) there en eb;
      rest = ends_still 274 (137 + place) sorted middle new b
          (ends_still 274 place sorted old middle a before.rest (omega (arith, ep, within.0)) em) (omega (arith, ep, within.0)) en;
    }

pub is_whole_bits : (uncoded coded sorted bits : List Bool) (i : ℕ) → length uncoded ≡ 102 → length coded ≡ 180
    → sorted ≡ uncoded ++ coded → SortedBack sorted bits i → i ≡ 137 → bits ≡ whole_bits uncoded coded
unfolding whole_bits
is_whole_bits uncoded coded sorted bits i lu lc es back all =
    let size : length bits ≡ 282 = back.size in
    let first : Lies 0 (λ k. bit_at (uncoded ++ coded) (2 * k + 0)) 137 bits =
    λ k h. back.first k (omega (arith, h, all)) ∙ ap (λ x. bit_at x (2 * k + 0)) es
    in
    let second : Lies 137 (λ k. bit_at (uncoded ++ coded) (2 * k + 1)) 137 bits =
    λ k h. back.second k (omega (arith, h, all)) ∙ ap (λ x. bit_at x (2 * k + 1)) es
    in
    let rest : Ends 274 (uncoded ++ coded) bits = λ k h. back.rest k h ∙ ap (λ x. bit_at x k) es in
    let long = length-append uncoded coded in
    let a : take 137 bits ≡ whole_frame 0 uncoded coded = frame_is uncoded coded lu lc 0 (omega arith) 0 bits (omega (arith, size)) first in
    let b : take 137 (drop 137 bits) ≡ whole_frame 1 uncoded coded =
    frame_is uncoded coded lu lc 1 (omega arith) 137 bits (omega (arith, size)) second
    in
    let d : drop 274 bits ≡ drop 172 coded =
    rest_is 274 172 uncoded coded bits (omega (arith, size, long, lu, lc)) (omega (arith, lu)) rest
    in
    sym (rejoined 137 137 bits) ∙ rw (a, b, d) refl

-- the same of half a slot
pub record HalfBack (sorted bits : List Bool) (i : ℕ) : Type 0 where
  pub size : length bits ≡ 141
  pub first : Lies 0 (bit_at sorted) i bits
  pub rest : Ends 137 sorted bits

pub half_none : (sorted : List Bool) → length sorted ≡ 141 → HalfBack sorted sorted 0
half_none sorted l = record { size = l; first = λ k h. absurd (omega (arith, h)); rest = λ k h. refl }

pub half_more : (sorted old new : List Bool) (i place : ℕ) (a : Bool) → HalfBack sorted old i → i < 137 → place ≡ spot i
    → new ≡ set old place a → a ≡ bit_at sorted i → HalfBack sorted new (i + 1)
half_more sorted old new i place a before few ep en ea =
    let within = spot_within i few in
    let here : place ≡ 0 + spot i = omega (arith, ep) in
    record {
      size = ap length en ∙ length-set old place a ∙ before.size;
      first = lies_more 0 (bit_at sorted) i place old new a before.first few (omega (arith, before.size)) here en ea;
      rest = ends_still 137 place sorted old new a before.rest (omega (arith, ep, within.0)) en;
    }

half_sorted : (uncoded coded : List Bool) → length coded ≡ 90
    → uncoded ++ take 56 coded ++ take 30 (drop 56 coded) ++ drop 86 coded ≡ uncoded ++ coded
half_sorted uncoded coded lc =
    append_assoc (uncoded ++ take 56 coded) (take 30 (drop 56 coded)) (drop 86 coded)
    ∙ append_assoc uncoded (take 56 coded) (take 30 (drop 56 coded) ++ drop 86 coded)
    ∙ ap (λ x. uncoded ++ x) (sym (append_assoc (take 56 coded) (take 30 (drop 56 coded)) (drop 86 coded)) ∙ rejoined 56 30 coded)

pub is_half_bits : (uncoded coded sorted bits : List Bool) (i : ℕ) → length uncoded ≡ 51 → length coded ≡ 90
    → sorted ≡ uncoded ++ coded → HalfBack sorted bits i → i ≡ 137 → bits ≡ half_bits uncoded coded
unfolding half_bits
is_half_bits uncoded coded sorted bits i lu lc es back all =
    let size : length bits ≡ 141 = back.size in
    let long = length-append uncoded coded in
    let one = take 56 coded in
    let two = take 30 (drop 56 coded) in
    let c : Classes = record { zero = uncoded; one = take 56 coded; two = take 30 (drop 56 coded) } in
    let are : AreClasses c = record {
      zero = lu;
      one = length-take-le 56 coded (omega (arith, lc));
      two = length-take-le 30 (drop 56 coded) (omega (arith, lc, length-drop 56 coded));
    } in
    let three : length (uncoded ++ one ++ two) ≡ 137 =
    omega (arith, length-append (uncoded ++ one) two, length-append uncoded one, are.zero, are.one, are.two)
    in
    let first : Lies 0 (bit_at (uncoded ++ one ++ two)) 137 bits =
    λ k h. back.first k (omega (arith, h, all)) ∙ ap (λ x. bit_at x k) (es ∙ sym (half_sorted uncoded coded lc))
    ∙ get_or_append_left (uncoded ++ one ++ two) (drop 86 coded) false k (omega (arith, h, three))
    in
    let rest : Ends 137 (uncoded ++ coded) bits = λ k h. back.rest k h ∙ ap (λ x. bit_at x k) es in
    let a : take 137 bits ≡ frame_of c = frame_lies 0 c bits are (omega (arith, size)) first in
    let d : drop 137 bits ≡ drop 86 coded = rest_is 137 86 uncoded coded bits (omega (arith, size, long, lu, lc)) (omega (arith, lu)) rest in
    sym (take-append-drop 137 bits) ∙ rw (a, d) refl

-- the bits that are read of a whole slot, by its uncoded and its coded ones
frame_size : (from : ℕ) (uncoded coded : List Bool) → length (whole_frame from uncoded coded) ≡ 137
unfolding whole_frame
frame_size from uncoded coded = length-frame_of _

module _ (uncoded coded bits : List Bool) (lu : length uncoded ≡ 102) (lc : length coded ≡ 180) (e : whole_bits uncoded coded ≡ bits) where
  f0 : List Bool
  f0 = whole_frame 0 uncoded coded

  f1 : List Bool
  f1 = whole_frame 1 uncoded coded

  l0 : length f0 ≡ 137
  unfolding f0
  l0 = frame_size 0 uncoded coded

  l1 : length f1 ≡ 137
  unfolding f1
  l1 = frame_size 1 uncoded coded

  l01 : length (f0 ++ f1) ≡ 274
  l01 = omega (arith, length-append f0 f1, l0, l1)

  is_made : bits ≡ f0 ++ f1 ++ drop 172 coded
  unfolding whole_bits f0 f1
  is_made = sym e

  pub first_entry : (k : ℕ) → k < 137 → bit_at bits (spot k) ≡ bit_at (uncoded ++ coded) (2 * k + 0)
  unfolding f0
  first_entry k h =
      let within = spot_within k h in
      let a : spot k < length (f0 ++ f1) = omega (arith, within.0, l01) in
      let b : spot k < length f0 = omega (arith, within.0, l0) in
      ap (λ x. bit_at x (spot k)) is_made ∙ get_or_append_left (f0 ++ f1) (drop 172 coded) false (spot k) a
      ∙ get_or_append_left f0 f1 false (spot k) b ∙ strand_entry uncoded coded lu lc 0 (omega arith) k h

  pub second_entry : (k : ℕ) → k < 137 → bit_at bits (137 + spot k) ≡ bit_at (uncoded ++ coded) (2 * k + 1)
  unfolding f1
  second_entry k h =
      let within = spot_within k h in
      let a : 137 + spot k < length (f0 ++ f1) = omega (arith, within.0, l01) in
      let b : 137 ≤ 137 + spot k = omega arith in
      let at : 137 + spot k - 137 ≡ spot k = omega arith in
      ap (λ x. bit_at x (137 + spot k)) is_made ∙ get_or_append_left (f0 ++ f1) (drop 172 coded) false (137 + spot k) a
      ∙ get_or-append_right f0 f1 137 (137 + spot k) false l0 b ∙ ap (bit_at f1) at
      ∙ strand_entry uncoded coded lu lc 1 (omega arith) k h

  pub last_entry : (k : ℕ) → 274 ≤ k → bit_at bits k ≡ bit_at (uncoded ++ coded) k
  last_entry k h =
      let at : 172 + (k - 274) ≡ k - 102 = omega (arith, h) in
      ap (λ x. bit_at x k) is_made ∙ get_or-append_right (f0 ++ f1) (drop 172 coded) 274 k false l01 h
      ∙ get_or-drop 172 coded (k - 274) false ∙ ap (bit_at coded) at
      ∙ sym (get_or-append_right uncoded coded 102 k false lu (omega (arith, h)))

-- how far bits are sorted: the front by now, and the rest which stays
pub record SortedOut (end : ℕ) (bits wanted sorted : List Bool) (done : ℕ) : Type 0 where
  pub size : length sorted ≡ length bits
  pub front : IsFront false wanted done sorted
  pub rest : Ends end bits sorted

pub out_none : (end : ℕ) (bits wanted : List Bool) → SortedOut end bits wanted bits 0
out_none end bits wanted = record { size = refl; front = λ k h. absurd (omega (arith, h)); rest = λ k h. refl }

pub out_more : (end : ℕ) (bits wanted old new : List Bool) (i : ℕ) (v : Bool) → SortedOut end bits wanted old i
    → i < end → end ≤ length bits → new ≡ set old i v → v ≡ bit_at wanted i → SortedOut end bits wanted new (i + 1)
out_more end bits wanted old new i v before less room en ev = record {
  size = ap length en ∙ length-set old i v ∙ before.size;
  front = front_set false wanted old new i v before.front en (omega (arith, less, room, before.size)) ev;
  rest = ends_still end i bits old new v before.rest less en;
}

pub out_all : (end i : ℕ) (bits wanted sorted : List Bool) → SortedOut end bits wanted sorted i → end ≤ i
    → length wanted ≡ length bits → ((k : ℕ) → end ≤ k → bit_at bits k ≡ bit_at wanted k) → sorted ≡ wanted
out_all end i bits wanted sorted out all long rest =
    ext_get_or false sorted wanted (out.size ∙ sym long)
    (λ k h. elim (cases_lt k end) [
      | inl lt ↦
          let done : k < i = omega (arith, lt, all) in
          let back : k + 1 - 1 ≡ k = omega arith in
          out.front k done ∙ ap (bit_at wanted) back
      | inr ge ↦ out.rest k ge ∙ rest k ge
    ])

-- the bits of a whole slot, sorted
whole_uncoded_size : (bits : List Bool) → length (whole_uncoded bits) ≡ 102
unfolding whole_uncoded
whole_uncoded_size bits = length-alternated _ _ ∙ ap (λ n. 2 * n) (length-bits_at class_0 _)

pub record WholeSorted (bits : List Bool) : Type 0 where
  pub size : length (whole_uncoded bits ++ whole_coded bits) ≡ 282
  pub first : (k : ℕ) → k < 137 → bit_at bits (spot k) ≡ bit_at (whole_uncoded bits ++ whole_coded bits) (2 * k)
  pub second : (k : ℕ) → k < 137 → bit_at bits (137 + spot k) ≡ bit_at (whole_uncoded bits ++ whole_coded bits) (2 * k + 1)
  pub rest : (k : ℕ) → 274 ≤ k → bit_at bits k ≡ bit_at (whole_uncoded bits ++ whole_coded bits) k
  pub coded : take 180 (drop 102 (whole_uncoded bits ++ whole_coded bits)) ≡ whole_coded bits
  pub uncoded : take 102 (whole_uncoded bits ++ whole_coded bits) ≡ whole_uncoded bits

pub whole_sorted_is : (bits : List Bool) → length bits ≡ 282 → WholeSorted bits
whole_sorted_is bits l =
    let u = whole_uncoded bits in
    let c = whole_coded bits in
    let lu : length u ≡ 102 = whole_uncoded_size bits in
    let lc : length c ≡ 180 = whole_coded_size bits l in
    let e : whole_bits u c ≡ bits = parts_undone.whole_again bits l in
    record {
      size = omega (arith, length-append u c, lu, lc);
      first = λ k h. let none : 2 * k + 0 ≡ 2 * k = omega arith in first_entry u c bits lu lc e k h ∙ ap (bit_at (u ++ c)) none;
      second = second_entry u c bits lu lc e;
      rest = last_entry u c bits lu lc e;
      coded = ap (take 180) (behind 102 u c lu) ∙ take_all 180 c (omega (arith, lc));
      uncoded = front_of 102 u c lu;
    }

-- the bits of half a slot, sorted
half_uncoded_size : (bits : List Bool) → length (half_uncoded bits) ≡ 51
unfolding half_uncoded
half_uncoded_size bits = length-bits_at class_0 _

half_made : (u c bits : List Bool) → length u ≡ 51 → length c ≡ 90 → half_bits u c ≡ bits
    → ((k : ℕ) → k < 137 → bit_at bits (spot k) ≡ bit_at (u ++ c) k) × ((k : ℕ) → 137 ≤ k → bit_at bits k ≡ bit_at (u ++ c) k)
unfolding half_bits
half_made u c bits lu lc e =
    let one = take 56 c in
    let two = take 30 (drop 56 c) in
    let cs : Classes = record { zero = u; one = take 56 c; two = take 30 (drop 56 c) } in
    let are : AreClasses cs = record {
      zero = lu;
      one = length-take-le 56 c (omega (arith, lc));
      two = length-take-le 30 (drop 56 c) (omega (arith, lc, length-drop 56 c));
    } in
    let three : length (u ++ one ++ two) ≡ 137 = length-classes cs are in
    let lf : length (frame_of cs) ≡ 137 = length-frame_of cs in (
      λ k h.
          let within = spot_within k h in
          ap (λ x. bit_at x (spot k)) (sym e)
          ∙ get_or_append_left (frame_of cs) (drop 86 c) false (spot k) (omega (arith, within.0, lf))
          ∙ frame_entry cs are k h
          ∙ sym (get_or_append_left (u ++ one ++ two) (drop 86 c) false k (omega (arith, h, three)))
          ∙ ap (λ x. bit_at x k) (half_sorted u c lc),
      λ k h.
          let at : 86 + (k - 137) ≡ k - 51 = omega (arith, h) in
          ap (λ x. bit_at x k) (sym e) ∙ get_or-append_right (frame_of cs) (drop 86 c) 137 k false lf h
          ∙ get_or-drop 86 c (k - 137) false ∙ ap (bit_at c) at
          ∙ sym (get_or-append_right u c 51 k false lu (omega (arith, h))),
    )

pub record HalfSorted (bits : List Bool) : Type 0 where
  pub size : length (half_uncoded bits ++ half_coded bits) ≡ 141
  pub first : (k : ℕ) → k < 137 → bit_at bits (spot k) ≡ bit_at (half_uncoded bits ++ half_coded bits) k
  pub rest : (k : ℕ) → 137 ≤ k → bit_at bits k ≡ bit_at (half_uncoded bits ++ half_coded bits) k
  pub coded : take 90 (drop 51 (half_uncoded bits ++ half_coded bits)) ≡ half_coded bits
  pub uncoded : take 51 (half_uncoded bits ++ half_coded bits) ≡ half_uncoded bits

pub half_sorted_is : (bits : List Bool) → length bits ≡ 141 → HalfSorted bits
half_sorted_is bits l =
    let u = half_uncoded bits in
    let c = half_coded bits in
    let lu : length u ≡ 51 = half_uncoded_size bits in
    let lc : length c ≡ 90 = half_coded_size bits l in
    let made = half_made u c bits lu lc (parts_undone.half_again bits l) in
    record {
      size = omega (arith, length-append u c, lu, lc);
      first = made.0;
      rest = made.1;
      coded = ap (take 90) (behind 51 u c lu) ∙ take_all 90 c (omega (arith, lc));
      uncoded = front_of 51 u c lu;
    }
