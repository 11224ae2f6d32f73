-- Answers depend on the last n entries of a list alone.
use Rattle.std.proofs.Common.{ℕ, ◌+◌, ◌-◌, ◌*◌, ◌/◌, ◌%◌, ◌<◌, ◌≤◌, ◌≡◌, inl, inr, Bool, true, false, List, [], ◌∷◌, ◌++◌, length, get_or, drop, arith, ap, sym, ◌∙◌, nat_lt, ℤ, pos, Some, length-drop}
use Rattle.std.proofs.lemmas.List.{get_or-drop, drop-drop, drop-append-le, length_push}
use Rattle.std.proofs.lemmas.Bool.{lt-ltb, le-ltb, cases_lt}
use Rattle.std.proofs.lemmas.Nat.{div_below}
use Rattle.tetra_bits.specs.Numbered.{numbered_same}
use Rattle.tetra_diag.specs.Diagonal.{IsDepth, block_before, spread_bit, spread_word, last, gathered_value, gathered}
use Rattle.tetra_diag.specs.lemmas.Depths.{depth_width}

module _ {X : Type 0} where
  pub length-last : (n : ℕ) (xs : List X) → length (last n xs) ≡ length xs - (length xs - n)
  length-last n xs = length-drop (length xs - n) xs

  -- one more entry: all are kept while there is room, and then all but the first
  pub last_room : (n : ℕ) (pushed kept : List X) (b : X) → kept ≡ last n pushed → length kept < n → kept ++ b ∷ [] ≡ last n (pushed ++ b ∷ [])
  last_room n pushed kept b e l =
      let d : length (last n pushed) ≡ length pushed - (length pushed - n) = length-last n pushed in
      let s : length kept ≡ length (last n pushed) = ap length e in
      let p : length (pushed ++ b ∷ []) ≡ length pushed + 1 = length_push pushed b in
      let z : length (pushed ++ b ∷ []) - n ≡ 0 = omega arith in
      let y : length pushed - n ≡ 0 = omega arith in
      rw (z, e, y)

  pub last_full : (n : ℕ) (pushed kept : List X) (b : X) → 1 ≤ n → kept ≡ last n pushed → length kept ≡ n → drop 1 kept ++ b ∷ [] ≡ last n (pushed ++ b ∷ [])
  last_full n pushed kept b one e l =
      let d : length (last n pushed) ≡ length pushed - (length pushed - n) = length-last n pushed in
      let s : length kept ≡ length (last n pushed) = ap length e in
      let p : length (pushed ++ b ∷ []) ≡ length pushed + 1 = length_push pushed b in
      let z : length (pushed ++ b ∷ []) - n ≡ length pushed - n + 1 = omega arith in
      rw (z, e)
      (ap (λ xs. xs ++ b ∷ []) (drop-drop 1 (length pushed - n) pushed)
      ∙ sym (drop-append-le (length pushed - n + 1) pushed (b ∷ []) (omega arith)))

  -- an entry that is kept
  pub get_or-last : (n : ℕ) (xs : List X) (i : ℕ) (d : X) → get_or (last n xs) i d ≡ get_or xs (length xs - n + i) d
  get_or-last n xs i d = get_or-drop (length xs - n) xs i d

-- a block that is kept
before_last : (n : ℕ) (blocks : List (List Bool)) (j : ℕ) → j < n → block_before (last n blocks) j ≡ block_before blocks j
before_last n blocks j h =
    let l : length (last n blocks) ≡ length blocks - (length blocks - n) = length-last n blocks in
    elim (cases_lt j (length blocks)) [
      | inl lt ↦
          let t : nat_lt j (length blocks) ≡ true = lt-ltb _ _ lt in
          let u : nat_lt j (length (last n blocks)) ≡ true = lt-ltb _ _ (omega arith) in
          let e : length blocks - n + (length (last n blocks) - 1 - j) ≡ length blocks - 1 - j = omega arith in
          rw (t, u) (get_or-last n blocks (length (last n blocks) - 1 - j) [] ∙ ap (λ i. get_or blocks i []) e)
      | inr ge ↦
          let t : nat_lt j (length blocks) ≡ false = le-ltb _ _ ge in
          let u : nat_lt j (length (last n blocks)) ≡ false = le-ltb _ _ (omega arith) in
          rw (t, u)
    ]

bit_last : (n : ℕ) (blocks : List (List Bool)) (k : ℕ) → IsDepth n → 1 ≤ k → k ≤ 432 → spread_bit n (last n blocks) k ≡ spread_bit n blocks k
unfolding spread_bit
bit_last n blocks k s one le =
    let w = depth_width n s in
    let j = (k - 1) / (432 / n) in
    let low : j < n = div_below (k - 1) (432 / n) n w.wide (omega (arith, w.whole)) in
    ap (λ xs. get_or xs (j + 1 + (k - 1) % (432 / n) * n - 1) false) (before_last n blocks j low)

-- the slot word of the last block takes bits of the last n alone
pub spread_word_last : (n : ℕ) (blocks : List (List Bool)) → IsDepth n → spread_word n (last n blocks) ≡ spread_word n blocks
unfolding spread_word
spread_word_last n blocks s = numbered_same (spread_bit n (last n blocks)) (spread_bit n blocks) 432 false (λ k one le. bit_last n blocks k s one le)

value_last : (n : ℕ) (words : List (List ℤ)) (q : ℕ) → 1 ≤ n → n ≤ length words → gathered_value n (last n words) q ≡ gathered_value n words q
unfolding gathered_value
value_last n words q one le =
    let l : length (last n words) ≡ length words - (length words - n) = length-last n words in
    let e : length words - n + (length (last n words) - n + (q - 1) % n) ≡ length words - n + (q - 1) % n = omega arith in
    ap (λ ws. get_or ws ((q - 1) % n * (432 / n) + (q - 1) / n + 1 - 1) (pos 0))
    (get_or-last n words (length (last n words) - n + (q - 1) % n) [] ∙ ap (λ i. get_or words i []) e)

-- the block that the last word completes takes values of the last n alone
pub gathered_last : (n : ℕ) (words : List (List ℤ)) → 1 ≤ n → gathered n (last n words) ≡ gathered n words
unfolding gathered
gathered_last n words one =
    let l : length (last n words) ≡ length words - (length words - n) = length-last n words in
    elim (cases_lt (length words) n) [
      | inl lt ↦
          let t : nat_lt (length words) n ≡ true = lt-ltb _ _ lt in
          let u : nat_lt (length (last n words)) n ≡ true = lt-ltb _ _ (omega arith) in
          rw (t, u)
      | inr ge ↦
          let t : nat_lt (length words) n ≡ false = le-ltb _ _ ge in
          let u : nat_lt (length (last n words)) n ≡ false = le-ltb _ _ (omega arith) in
          rw (t, u)
          (ap Some (numbered_same (gathered_value n (last n words)) (gathered_value n words) 432 (pos 0)
          (λ q low high. value_last n words q one ge)))
    ]
