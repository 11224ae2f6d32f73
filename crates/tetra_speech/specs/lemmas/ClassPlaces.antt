-- The places of the three classes are one-to-one: computed at each of the 137, with the table of the ways back. Bits of a
-- frame, and of the classes behind one another, are counted from 0 here; places from 1.
use Rattle.std.proofs.Common.{ℕ, ◌+◌, ◌-◌, ◌<◌, ◌≤◌, ◌≡◌, Bool, true, ◌&&◌, List, [], ◌∷◌, ◌++◌, length, get_or, arith, refl, ap, sym, ◌∙◌}
use Rattle.std.proofs.lemmas.Bool.{agree_below, agree_below_at, and_parts, leb-true, ltb-true, eqb-true}
use Rattle.std.proofs.lemmas.List.{get_or_default, get_or_append_left, get_or-append_right}
use Rattle.std.specs.Prelude.{All, nat_eq, nat_le, nat_lt}
use Rattle.tetra_speech.specs.Classes.{class_0, class_1, class_2, class_place}
use Rattle.tetra_speech.specs.Laws.{EachInOneClass}

-- a test that passes at each number below n
abbrev pub Passes : (ℕ → Bool) → ℕ → Type 0
Passes test n = agree_below test (λ q. true) n ≡ true

passes_at : (test : ℕ → Bool) (n q : ℕ) → Passes test n → q < n → test q ≡ true
passes_at test n q p h = agree_below_at test (λ k. true) n q p h

-- whether a number is the place of a bit
abbrev pub is_place : ℕ → Bool
is_place place = nat_le 1 place && nat_le place 137

is_place_true : (place : ℕ) → is_place place ≡ true → (1 ≤ place) × (place ≤ 137)
is_place_true place t =
    let both = and_parts (nat_le 1 place) (nat_le place 137) t in
    (leb-true 1 place both.0, leb-true place 137 both.1)

-- the entries of a list are places of bits
pub all_within : (places : List ℕ) → Passes (λ q. is_place (get_or places q 0)) (length places)
    → All (λ place. (1 ≤ place) × (place ≤ 137)) places
all_within places p k d h =
    rw (get_or_default places k d 0 h) (is_place_true (get_or places k 0) (passes_at (λ q. is_place (get_or places q 0)) (length places) k p h))

-- the bit of the three classes at each place of the frame
way_back : List ℕ
way_back =
    117 ∷ 118 ∷ 119 ∷ 120 ∷ 70 ∷ 81 ∷ 83 ∷ 73 ∷ 121 ∷ 122 ∷ 123 ∷ 124 ∷ 71 ∷ 82 ∷ 84 ∷ 74 ∷ 75 ∷ 107 ∷ 108
    ∷ 109 ∷ 110 ∷ 76 ∷ 77 ∷ 78 ∷ 79 ∷ 80 ∷ 125 ∷ 126 ∷ 127 ∷ 128 ∷ 111 ∷ 112 ∷ 96 ∷ 72 ∷ 0 ∷ 1 ∷ 2 ∷ 3 ∷ 4 ∷ 5
    ∷ 6 ∷ 7 ∷ 8 ∷ 92 ∷ 62 ∷ 88 ∷ 9 ∷ 10 ∷ 97 ∷ 58 ∷ 133 ∷ 129 ∷ 113 ∷ 54 ∷ 66 ∷ 11 ∷ 104 ∷ 51 ∷ 101 ∷ 85 ∷ 12
    ∷ 13 ∷ 14 ∷ 15 ∷ 16 ∷ 17 ∷ 18 ∷ 19 ∷ 20 ∷ 21 ∷ 93 ∷ 63 ∷ 89 ∷ 22 ∷ 23 ∷ 98 ∷ 59 ∷ 134 ∷ 130 ∷ 114 ∷ 55 ∷ 67
    ∷ 24 ∷ 105 ∷ 52 ∷ 102 ∷ 86 ∷ 25 ∷ 26 ∷ 27 ∷ 28 ∷ 29 ∷ 30 ∷ 31 ∷ 32 ∷ 33 ∷ 34 ∷ 94 ∷ 64 ∷ 90 ∷ 35 ∷ 36 ∷ 99
    ∷ 60 ∷ 135 ∷ 131 ∷ 115 ∷ 56 ∷ 68 ∷ 37 ∷ 106 ∷ 53 ∷ 103 ∷ 87 ∷ 38 ∷ 39 ∷ 40 ∷ 41 ∷ 42 ∷ 43 ∷ 44 ∷ 45 ∷ 46
    ∷ 47 ∷ 95 ∷ 65 ∷ 91 ∷ 48 ∷ 49 ∷ 100 ∷ 61 ∷ 136 ∷ 132 ∷ 116 ∷ 57 ∷ 69 ∷ 50 ∷ []

-- the place of each bit of the three classes
places : List ℕ
places = class_0 ++ class_1 ++ class_2

-- a place, from which the way leads back
leads_back : ℕ → Bool
leads_back q = is_place (get_or places q 0) && nat_eq (get_or way_back (get_or places q 0 - 1) 0) q

-- a way that leads back to a bit, whose place it is
leads_there : ℕ → Bool
leads_there q = nat_lt (get_or way_back q 0) 137 && nat_eq (get_or places (get_or way_back q 0) 0) (q + 1)

all_lead_back : Passes leads_back 137
unfolding leads_back places way_back
all_lead_back = refl

all_lead_there : Passes leads_there 137
unfolding leads_there places way_back
all_lead_there = refl

back_at : (q : ℕ) → q < 137 → (1 ≤ get_or places q 0) × (get_or places q 0 ≤ 137) × (get_or way_back (get_or places q 0 - 1) 0 ≡ q)
unfolding leads_back
back_at q h =
    let both = and_parts (is_place (get_or places q 0)) (nat_eq (get_or way_back (get_or places q 0 - 1) 0) q) (passes_at leads_back 137 q all_lead_back h) in
    let place = is_place_true (get_or places q 0) both.0 in
    (place.0, place.1, eqb-true _ _ both.1)

there_at : (q : ℕ) → q < 137 → (get_or way_back q 0 < 137) × (get_or places (get_or way_back q 0) 0 ≡ q + 1)
unfolding leads_there
there_at q h =
    let both = and_parts (nat_lt (get_or way_back q 0) 137) (nat_eq (get_or places (get_or way_back q 0) 0) (q + 1)) (passes_at leads_there 137 q all_lead_there h) in
    (ltb-true _ _ both.0, eqb-true _ _ both.1)

place_is : (i : ℕ) → class_place i ≡ get_or places (i - 1) 0
unfolding class_place places
place_is i = refl

pub each_in_one_class : EachInOneClass
each_in_one_class =
    record {
      within = λ i one le. rw (place_is i) (let b = back_at (i - 1) (omega arith) in (b.0, b.1));
      apart = λ i k one le one_k le_k same.
          let b = back_at (i - 1) (omega arith) in
          let c = back_at (k - 1) (omega arith) in
          let e : get_or places (i - 1) 0 ≡ get_or places (k - 1) 0 = sym (place_is i) ∙ same ∙ place_is k in
          let f : i - 1 ≡ k - 1 = sym b.2 ∙ ap (λ n. get_or way_back (n - 1) 0) e ∙ c.2 in
          omega (arith, f);
      filled = λ j one le.
          let t = there_at (j - 1) (omega arith) in
          let q : ℕ = get_or way_back (j - 1) 0 in
          let back : q + 1 - 1 ≡ q = omega arith in
          let e : class_place (q + 1) ≡ j = place_is (q + 1) ∙ ap (λ n. get_or places n 0) back ∙ t.1 ∙ omega arith in
          (q + 1, omega arith, omega (arith, t.0), e);
    }

-- the places of each class stand behind one another
pub in_class_0 : (i : ℕ) → i < 51 → get_or class_0 i 0 ≡ class_place (i + 1)
unfolding class_place
in_class_0 i h =
    let back : i ≡ i + 1 - 1 = omega arith in
    let few : i < 107 = omega arith in
    sym (get_or_append_left class_0 class_1 0 i h) ∙ sym (get_or_append_left (class_0 ++ class_1) class_2 0 i few)
    ∙ ap (λ k. get_or (class_0 ++ class_1 ++ class_2) k 0) back

pub in_class_1 : (i : ℕ) → 51 ≤ i → i < 107 → get_or class_1 (i - 51) 0 ≡ class_place (i + 1)
unfolding class_place
in_class_1 i behind h =
    let back : i ≡ i + 1 - 1 = omega arith in
    sym (get_or-append_right class_0 class_1 51 i 0 refl behind) ∙ sym (get_or_append_left (class_0 ++ class_1) class_2 0 i h)
    ∙ ap (λ k. get_or (class_0 ++ class_1 ++ class_2) k 0) back

pub in_class_2 : (i : ℕ) → 107 ≤ i → get_or class_2 (i - 107) 0 ≡ class_place (i + 1)
unfolding class_place
in_class_2 i behind =
    let back : i ≡ i + 1 - 1 = omega arith in
    sym (get_or-append_right (class_0 ++ class_1) class_2 107 i 0 refl behind)
    ∙ ap (λ k. get_or (class_0 ++ class_1 ++ class_2) k 0) back
