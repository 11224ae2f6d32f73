-- What is read of a ring is the formula's.
use Rattle.std.proofs.Common.{ℕ, ◌+◌, ◌-◌, ◌*◌, ◌/◌, ◌%◌, ◌<◌, ◌≤◌, ◌≡◌, Bool, true, false, List, [], length, get_or, set, arith, refl, ap, sym, ◌∙◌, ◌≢◌, inl, inr, mul_comm, div-add-mod', mul-le-mul_right, nat_lt, ℤ, pos}
use Rattle.std.specs.Prelude.{Option, Some, None, IfSome, IsTrue}
use Rattle.std.proofs.lemmas.List.{get_or_default, get_or-set_same, get_or-set_other}
use Rattle.std.proofs.lemmas.Bool.{lt-ltb, le-ltb, cases_lt}
use Rattle.std.proofs.lemmas.Nat.{mod_below, div-mul-add, mod-mul-add, same_from_place, mul-add-lt, div_below}
use Rattle.tetra_bits.specs.Numbered.{numbered, is_numbered}
use Rattle.tetra_diag.specs.Diagonal.{spread_bit, gathered_value, gathered, AreGathered, Fills}

pub bit_there : (n : ℕ) (blocks : List (List Bool)) (k : ℕ) (block : List Bool) → k / (432 / n) < length blocks
    → block ≡ get_or blocks (length blocks - 1 - k / (432 / n)) block
    → get_or block (k / (432 / n) + k % (432 / n) * n) false ≡ spread_bit n blocks (k + 1)
unfolding spread_bit
bit_there n blocks k block h e =
    let f : k + 1 - 1 ≡ k = omega arith in
    let g : k / (432 / n) + 1 + k % (432 / n) * n - 1 ≡ k / (432 / n) + k % (432 / n) * n = omega arith in
    let t : nat_lt (k / (432 / n)) (length blocks) ≡ true = lt-ltb _ _ h in
    let b : block ≡ get_or blocks (length blocks - 1 - k / (432 / n)) [] = e ∙ get_or_default blocks _ block [] (omega arith) in
    rw (f, t, g) (ap (λ xs. get_or xs (k / (432 / n) + k % (432 / n) * n) false) b)

pub bit_none : (n : ℕ) (blocks : List (List Bool)) (k : ℕ) → length blocks ≤ k / (432 / n) → false ≡ spread_bit n blocks (k + 1)
unfolding spread_bit
bit_none n blocks k h =
    let f : k + 1 - 1 ≡ k = omega arith in
    let t : nat_lt (k / (432 / n)) (length blocks) ≡ false = le-ltb _ _ h in
    rw (f, t)

-- the same by part j and bit i
pub bit_in_part : (n : ℕ) (blocks : List (List Bool)) (j i : ℕ) (block : List Bool) → i < 432 / n → j < length blocks
    → block ≡ get_or blocks (length blocks - 1 - j) block → get_or block (j + i * n) false ≡ spread_bit n blocks (j * (432 / n) + i + 1)
bit_in_part n blocks j i block within h e =
    let d : (j * (432 / n) + i) / (432 / n) ≡ j = div-mul-add j (432 / n) i within in
    let r : (j * (432 / n) + i) % (432 / n) ≡ i = mod-mul-add j (432 / n) i within in
    (λ p. get_or block (sym d p + sym r p * n) false)
    ∙ bit_there n blocks (j * (432 / n) + i) block (omega (arith, d)) (e ∙ ap (λ k. get_or blocks (length blocks - 1 - k) block) (sym d))

pub none_in_part : (n : ℕ) (blocks : List (List Bool)) (j i : ℕ) → i < 432 / n → length blocks ≤ j → false ≡ spread_bit n blocks (j * (432 / n) + i + 1)
none_in_part n blocks j i within h =
    let d : (j * (432 / n) + i) / (432 / n) ≡ j = div-mul-add j (432 / n) i within in
    bit_none n blocks (j * (432 / n) + i) (omega (arith, d))

pub value_there : (n : ℕ) (words : List (List ℤ)) (q : ℕ) (word : List ℤ) → 1 ≤ n → length words ≡ n → word ≡ get_or words (q % n) word
    → get_or word (q % n * (432 / n) + q / n) (pos 0) ≡ gathered_value n words (q + 1)
unfolding gathered_value
value_there n words q word one l e =
    let f : q + 1 - 1 ≡ q = omega arith in
    let g : q % n * (432 / n) + q / n + 1 - 1 ≡ q % n * (432 / n) + q / n = omega arith in
    let z : length words - n + q % n ≡ q % n = omega arith in
    let low : q % n < n = mod_below q n one in
    let b : word ≡ get_or words (q % n) [] = e ∙ get_or_default words (q % n) word [] (omega arith) in
    rw (f, z, g) (ap (λ ws. get_or ws (q % n * (432 / n) + q / n) (pos 0)) b)

-- the same by word j and its value i
pub value_in_word : (n : ℕ) (words : List (List ℤ)) (j i : ℕ) (word : List ℤ) → j < n → length words ≡ n → word ≡ get_or words j word
    → get_or word (j * (432 / n) + i) (pos 0) ≡ gathered_value n words (i * n + j + 1)
value_in_word n words j i word low l e =
    let d : (i * n + j) / n ≡ i = div-mul-add i n j low in
    let r : (i * n + j) % n ≡ j = mod-mul-add i n j low in
    (λ p. get_or word (sym r p * (432 / n) + sym d p) (pos 0))
    ∙ value_there n words (i * n + j) word (omega arith) l (e ∙ ap (λ k. get_or words k word) (sym r))

-- one more value of word j is written
pub gathered_more : (n : ℕ) (words : List (List ℤ)) (j i : ℕ) (old new : List ℤ) (x : ℤ) → (432 / n) * n ≡ 432 → j < n → i < 432 / n → length old ≡ 432
    → AreGathered n words (j * (432 / n) + i) old → new ≡ set old (i * n + j) x → x ≡ gathered_value n words (i * n + j + 1) → AreGathered n words (j * (432 / n) + (i + 1)) new
gathered_more n words j i old new x whole low within long before en ex q inside rank =
    let row : q / n < 432 / n = div_below q n (432 / n) (omega arith) (omega (arith, whole)) in
    let own : i * n + j < 432 = omega (arith, mul-add-lt i n j (432 / n) within low, whole, mul_comm n (432 / n)) in
    let split : q / n * n + q % n ≡ q = div-add-mod' q n in
    elim (cases_lt (q % n * (432 / n) + q / n) (j * (432 / n) + i)) [
      | inl lt ↦
          let other : q ≢ i * n + j = λ same.
          let d : q / n ≡ i = ap (λ k. k / n) same ∙ div-mul-add i n j low in
          let r : q % n ≡ j = ap (λ k. k % n) same ∙ mod-mul-add i n j low in
          let rd : q % n * (432 / n) + q / n ≡ j * (432 / n) + i = λ p. r p * (432 / n) + d p in
          absurd (omega (arith, rd)) in
          ap (λ l. get_or l q (pos 0)) en ∙ get_or-set_other old (i * n + j) q x (pos 0) other ∙ before q inside lt
      | inr ge ↦
          let same = same_from_place (q % n) (q / n) j i (432 / n) row within (omega arith) in
          let here : q ≡ i * n + j = sym split ∙ (λ p. same.1 p * n + same.0 p) in
          rw here (ap (λ l. get_or l (i * n + j) (pos 0)) en ∙ get_or-set_same old (i * n + j) x (pos 0) (omega (arith, own)) ∙ ex)
    ]

pub all_gathered : (n : ℕ) (words : List (List ℤ)) (m : ℕ) (block : List ℤ) → (432 / n) * n ≡ 432 → 1 ≤ n → length block ≡ 432 → n ≤ m
    → AreGathered n words (m * (432 / n)) block → block ≡ numbered (gathered_value n words) 432
all_gathered n words m block whole some long end all =
    is_numbered (gathered_value n words) 432 (pos 0) block long
    (λ q inside.
    let row : q / n < 432 / n = div_below q n (432 / n) (omega arith) (omega (arith, whole)) in
    let rank : q % n * (432 / n) + q / n < 432 / n * n = mul-add-lt (q % n) (432 / n) (q / n) n (mod_below q n some) row in
    let more : n * (432 / n) ≤ m * (432 / n) = mul-le-mul_right (432 / n) end in
    all q inside (omega (arith, rank, more, mul_comm n (432 / n))))

pub gathered_none : (n : ℕ) (words : List (List ℤ)) (old : List ℤ) → length words < n → Fills (gathered n words) false old old
unfolding gathered
gathered_none n words old h =
    let t : nat_lt (length words) n ≡ true = lt-ltb _ _ h in
    rw t (refl, refl)

pub gathered_some : (n : ℕ) (words : List (List ℤ)) (old new : List ℤ) → n ≤ length words → new ≡ numbered (gathered_value n words) 432
    → Fills (gathered n words) true old new
unfolding gathered
gathered_some n words old new h e =
    let t : nat_lt (length words) n ≡ false = le-ltb _ _ h in
    rw t (refl, e)

not_both : (b : Bool) → b ≡ false → b ≡ true → ⊥
not_both b e f = cc

-- what holds of the block that is answered holds of the list that is filled
pub filled : (P : List ℤ → Type 0) (answer : Option (List ℤ)) (done : Bool) (old new : List ℤ) → Fills answer done old new
    → IfSome answer P → IsTrue done → P new
filled P None done old new (not_done, same) h t = absurd (not_both done not_done t)
filled P (Some block) done old new (is_done, is) h t = rw is h
