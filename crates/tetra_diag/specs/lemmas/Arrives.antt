-- Gathering undoes spreading: what holds between bits and values at each place of the last n slot words holds at each
-- place of the block that they complete.
use Rattle.std.proofs.Common.{ℕ, ◌+◌, ◌-◌, ◌*◌, ◌/◌, ◌%◌, ◌<◌, ◌≤◌, ◌≡◌, inl, inr, Bool, true, false, List, [], length, get_or, take, arith, ap, sym, ◌∙◌, nat_lt, ℤ, pos}
use Rattle.std.specs.Prelude.{All, IfSome}
use Rattle.std.proofs.Math.Nat.{mul-le-mul_left}
use Rattle.std.proofs.lemmas.List.{get_or-take, length-take-le}
use Rattle.std.proofs.lemmas.Bool.{lt-ltb, le-ltb, cases_lt}
use Rattle.std.proofs.lemmas.Nat.{div_below, mod_below, div-mul-add, mod-mul-add, div-add-mod'}
use Rattle.tetra_bits.specs.Numbered.{length-numbered, get_or-numbered}
use Rattle.tetra_bits.specs.Undamaged.{Matches}
use Rattle.tetra_diag.specs.Diagonal.{IsDepth, spread_bit, spread_word, gathered_value, gathered, complete_block}
use Rattle.tetra_diag.specs.Arrives.{EachWord}
use Rattle.tetra_diag.specs.lemmas.Depths.{depth_width}

-- place p of the block, counted from 0, lies in one of the words
place_low : (n w p : ℕ) → 1 ≤ n → w * n ≡ 432 → p < 432 → p % n * w + p / n < 432
place_low n w p one e h =
    let j : p % n < n = mod_below p n one in
    let i : p / n < w = div_below p n w one (omega arith) in
    let m : w * (p % n + 1) ≤ w * n = mul-le-mul_left w (omega arith) in
    omega (arith, m, e, i)

-- the bit of the slot word at that place is bit p of the block
bit_there : (n : ℕ) (blocks : List (List Bool)) (p : ℕ) → IsDepth n → n ≤ length blocks → p < 432
    → spread_bit n (take (length blocks - n + p % n + 1) blocks) (p % n * (432 / n) + p / n + 1) ≡ get_or (complete_block n blocks) p false
unfolding spread_bit
bit_there n blocks p s l h =
    let w = depth_width n s in
    let j : p % n < n = mod_below p n w.some in
    let i : p / n < 432 / n = div_below p n (432 / n) w.some (omega (arith, w.whole)) in
    let back : p % n * (432 / n) + p / n + 1 - 1 ≡ p % n * (432 / n) + p / n = omega arith in
    let long : length (take (length blocks - n + p % n + 1) blocks) ≡ length blocks - n + p % n + 1 = length-take-le (length blocks - n + p % n + 1) blocks (omega arith) in
    let t : nat_lt (p % n) (length (take (length blocks - n + p % n + 1) blocks)) ≡ true = lt-ltb _ _ (omega arith) in
    let f : length (take (length blocks - n + p % n + 1) blocks) - 1 - p % n ≡ length blocks - n = omega arith in
    let g : p % n + 1 + p / n * n - 1 ≡ p = omega (arith, div-add-mod' p n) in
    rw (back, div-mul-add (p % n) (432 / n) (p / n) i, mod-mul-add (p % n) (432 / n) (p / n) i, t, f, g)
    (ap (λ xs. get_or xs p false) (get_or-take (length blocks - n + p % n + 1) blocks (length blocks - n) [] (omega arith)))

word_bit : (n : ℕ) (blocks : List (List Bool)) (k : ℕ) → k < 432 → get_or (spread_word n blocks) k false ≡ spread_bit n blocks (k + 1)
unfolding spread_word
word_bit n blocks k h = get_or-numbered (spread_bit n blocks) 432 k false h

word_size : (n : ℕ) (blocks : List (List Bool)) → length (spread_word n blocks) ≡ 432
unfolding spread_word
word_size n blocks = length-numbered (spread_bit n blocks) 432

module _ (R : Bool → ℤ → Type 0) where
  place_matches : (n : ℕ) (blocks : List (List Bool)) (words : List (List ℤ)) (p : ℕ) → IsDepth n → n ≤ length words
      → EachWord (Matches R) n blocks words → p < 432 → R (get_or (complete_block n blocks) p false) (gathered_value n words (p + 1))
  unfolding gathered_value
  place_matches n blocks words p s l h b =
      let w = depth_width n s in
      let j : p % n < n = mod_below p n w.some in
      let k = p % n * (432 / n) + p / n in
      let low : k < 432 = place_low n (432 / n) p w.some w.whole b in
      let back : p + 1 - 1 ≡ p = omega arith in
      let same : k + 1 - 1 ≡ k = omega arith in
      let size : length words ≡ length blocks = h.size in
      let first : length words - n ≡ length blocks - n = ap (λ i. i - n) size in
      let bit = word_bit n (take (length blocks - n + p % n + 1) blocks) k low ∙ bit_there n blocks p s (omega arith) b in
      rw (back, same, ← bit, first)
      ((h.each (length blocks - n + p % n) (omega arith) (omega arith)).each k (omega (arith, word_size n (take (length blocks - n + p % n + 1) blocks))))

  -- what holds between the slot words of blocks and the words that were heard holds between a block and what is gathered
  pub arrives : (n : ℕ) (blocks : List (List Bool)) (words : List (List ℤ)) → IsDepth n → All (λ b. length b ≡ 432) blocks
      → EachWord (Matches R) n blocks words → IfSome (gathered n words) (Matches R (complete_block n blocks))
  unfolding gathered
  arrives n blocks words s sizes h =
      elim (cases_lt (length words) n) [
        | inl lt ↦
            let t : nat_lt (length words) n ≡ true = lt-ltb _ _ lt in
            rw t tt
        | inr ge ↦
            let t : nat_lt (length words) n ≡ false = le-ltb _ _ ge in
            let w = depth_width n s in
            let size : length (complete_block n blocks) ≡ 432 = sizes (length blocks - n) [] (omega (arith, ge, h.size, w.some)) in
            rw t
            (record {
              size = length-numbered (gathered_value n words) 432 ∙ sym size;
              each = λ k b.
                  let c : k < 432 = omega (arith, size) in
                  rw (get_or-numbered (gathered_value n words) 432 k (pos 0) c) (place_matches n blocks words k s ge h c);
            })
      ]
