-- Steps of one size through a list give the entries at their places.
use Rattle.std.proofs.Common.{ℕ, ◌+◌, ◌-◌, ◌*◌, ◌%◌, ◌<◌, ◌≤◌, ◌≡◌, inl, inr, List, length, ℤ, pos, get_or, arith, ap, sym, subst, ◌∙◌}
use Rattle.std.specs.Prelude.{slice_set}
use Rattle.std.proofs.lemmas.Bool.{cases_lt}
use Rattle.std.proofs.lemmas.List.{length-set, get_or-set_same, get_or-set_other}
use Rattle.tetra_bits.specs.lemmas.InPlace.{Begins, begins_set}
use Rattle.std.proofs.lemmas.Nat.{mod_below}
use Rattle.std.proofs.Math.Nat.{mod-eq_of_lt, add-mod_right}
use Rattle.tetra_bits.specs.Numbered.{numbered, numbered_same, length-numbered, get_or-numbered}
use Rattle.tetra_bits.specs.Soft.{IsSoft, value_at}
use Rattle.tetra_interleave.specs.Block.{IsBlock, block_place}
use Rattle.tetra_interleave.specs.Placed.{entry_from, placed, taken}
use Rattle.tetra_interleave.specs.Steps.{step_entry, IsTwice}
use Rattle.tetra_interleave.specs.lemmas.Blocks.{add-mod_second, out_index, blocks_are_one_to_one}
use Rattle.tetra_interleave.specs.lemmas.Placed.{placed_only}

-- one step further
pub step_index : (a b c m : ℕ) → a + c ≡ b → (a % m + c) % m ≡ b % m
step_index a b c m e =
    let turn : a % m + c ≡ c + a % m = omega arith in
    let back : c + a ≡ b = omega arith in
    ap (λ n. n % m) turn ∙ add-mod_second c a m ∙ ap (λ n. n % m) back

-- the first place
pub start : (k from by : ℕ) → from < k → from ≡ (from + by * 0) % k
start k from by h =
    let e : from + by * 0 ≡ from = omega arith in
    sym (ap (λ n. n % k) e ∙ mod-eq_of_lt h)

module _ {X : Type 0} where
  -- an entry of a list that is written twice, at the sum of two places
  twice_at : (d : X) (k a b : ℕ) (x twice : List X) → IsTwice d k k x twice → a < k → b < k → get_or twice (a + b) d ≡ get_or x ((a + b) % k) d
  twice_at d k a b x twice t ha hb = elim (cases_lt (a + b) k) [
    | inl lt ↦ (t (a + b) lt).0 ∙ ap (λ n. get_or x n d) (sym (mod-eq_of_lt lt))
    | inr ge ↦
        let less : a + b - k < k = omega arith in
        let back : a + b - k + k ≡ a + b = omega arith in
        let rest : (a + b) % k ≡ a + b - k = ap (λ n. n % k) (sym back) ∙ add-mod_right (a + b - k) k ∙ mod-eq_of_lt less in
        ap (λ n. get_or twice n d) (sym back) ∙ (t (a + b - k) less).1 ∙ ap (λ n. get_or x n d) (sym rest)
  ]

  -- one entry more is written twice
  pub twice_more : (d : X) (k n : ℕ) (x old new : List X) (v : X) → IsTwice d k n x old → n < k → 2 * k ≤ length old
      → new ≡ slice_set (slice_set old n v) (n + k) v → v ≡ get_or x n d → IsTwice d k (n + 1) x new
  twice_more d k n x old new v before less room en ev i h =
      let first = slice_set old n v in
      let size : length first ≡ length old = length-set old n v in
      elim (cases_lt i n) [
        | inl lt ↦ (
          ap (λ xs. get_or xs i d) en ∙ get_or-set_other first (n + k) i v d (omega arith) ∙ get_or-set_other old n i v d (omega arith) ∙ (before i lt).0,
          ap (λ xs. get_or xs (i + k) d) en ∙ get_or-set_other first (n + k) (i + k) v d (omega arith) ∙ get_or-set_other old n (i + k) v d (omega arith) ∙ (before i lt).1,
        )
        | inr ge ↦
            let e : i ≡ n = omega arith in
            rw e (
              ap (λ xs. get_or xs n d) en ∙ get_or-set_other first (n + k) n v d (omega arith) ∙ get_or-set_same old n v d (omega arith) ∙ ev,
              ap (λ xs. get_or xs (n + k) d) en ∙ get_or-set_same first (n + k) v d (omega arith) ∙ ev,
            )
      ]

  -- one step more
  pub step_more : (d : X) (k from by at first i : ℕ) (x twice old new : List X) (v : X) → IsTwice d k k x twice → at < k → by < k
      → at ≡ (from + by * first) % k → Begins (step_entry d k from by x) d (first + i) old → new ≡ slice_set old (first + i) v → first + i < length old
      → v ≡ get_or twice (at + (by * i) % k) d → Begins (step_entry d k from by x) d (first + (i + 1)) new
  unfolding step_entry
  step_more d k from by at first i x twice old new v t ha hb ea before en within ev =
      let some : 0 < k = omega arith in
      let low : (by * i) % k < k = mod_below (by * i) k some in
      let next : first + i + 1 ≡ first + (i + 1) = omega arith in
      let back : first + i ≡ first + i + 1 - 1 = omega arith in
      let sum : from + by * first + by * i ≡ from + by * (first + i) = omega arith in
      let place : (at + (by * i) % k) % k ≡ (from + by * (first + i)) % k =
      add-mod_second at (by * i) k ∙ ap (λ n. (n + by * i) % k) ea ∙ step_index (from + by * first) (from + by * (first + i)) (by * i) k sum in
      let here : v ≡ step_entry d k from by x (first + i + 1) =
      ev ∙ twice_at d k at ((by * i) % k) x twice t ha low ∙ ap (λ n. get_or x n d) place ∙ ap (λ n. get_or x ((from + by * n) % k) d) back in
      subst (λ n. Begins (step_entry d k from by x) d n new) next (begins_set (step_entry d k from by x) d (first + i) old new v before en within here)

  -- its length so far
  pub length_so_far : (f : ℕ → X) (all : List X) (n : ℕ) → all ≡ numbered f n → length all ≡ n
  length_so_far f all n e = ap length e ∙ length-numbered f n

  -- steps of inv from the last entry on give the entries at their places
  pub placed_steps : (d : X) (k a inv : ℕ) (x all : List X) → IsBlock k a inv → length x ≡ k → all ≡ numbered (step_entry d k (k - 1) inv x) k → all ≡ placed d k (block_place k a) x
  unfolding step_entry block_place
  placed_steps d k a inv x all b l e =
      placed_only d k (block_place k a) x all (blocks_are_one_to_one k a inv b) l
      (record {
        size = length_so_far (step_entry d k (k - 1) inv x) all k e ∙ sym l;
        entries = λ i one le.
            let q = (a * i) % k in
            let lt : q < k = mod_below (a * i) k (omega arith) in
            let f : 1 + q - 1 ≡ q = omega arith in
            let g : q + 1 - 1 ≡ q = omega arith in
            ap (λ n. get_or all n d) f ∙ ap (λ y. get_or y q d) e ∙ get_or-numbered (step_entry d k (k - 1) inv x) k q d lt
            ∙ ap (λ n. get_or x ((k - 1 + inv * n) % k) d) g ∙ ap (λ n. get_or x n d) (out_index k a inv i b one le);
      })

  -- and steps of a from place a on take them back
  pub taken_steps : (d : X) (k a : ℕ) (y all : List X) → all ≡ numbered (step_entry d k a a y) k → all ≡ taken d k (block_place k a) y
  unfolding taken step_entry entry_from block_place
  taken_steps d k a y all e = e ∙ numbered_same (step_entry d k a a y) (entry_from d (block_place k a) y) k d same
    where
      same : (i : ℕ) → 1 ≤ i → i ≤ k → step_entry d k a a y i ≡ entry_from d (block_place k a) y i
      same i one le =
          let one_more : i ≡ 1 + (i - 1) = omega arith in
          let f : a + a * (i - 1) ≡ a * i = omega (arith, ap (λ n. a * n) one_more) in
          let g : (a + a * (i - 1)) % k ≡ 1 + (a * i) % k - 1 = ap (λ n. n % k) f ∙ omega arith in
          ap (λ n. get_or y n d) g

-- the place at which the next turn begins
pub next_turn : (k from by at turn after : ℕ) → at ≡ (from + by * (8 * turn)) % k → after ≡ (at + (8 * by) % k) % k
    → after ≡ (from + by * (8 * (turn + 1))) % k
next_turn k from by at turn after ea en =
    let sum : from + by * (8 * turn) + 8 * by ≡ from + by * (8 * (turn + 1)) = omega arith in
    en ∙ add-mod_second at (8 * by) k ∙ ap (λ n. (n + 8 * by) % k) ea
    ∙ step_index (from + by * (8 * turn)) (from + by * (8 * (turn + 1))) (8 * by) k sum

-- soft values that stand twice are soft
pub soft_twice : (k : ℕ) (x twice : List ℤ) → IsTwice (pos 0) k k x twice → ((i : ℕ) → i < k → IsSoft (value_at x i))
    → (j : ℕ) → j < 2 * k → IsSoft (value_at twice j)
soft_twice k x twice t soft j h = elim (cases_lt j k) [
  | inl lt ↦ subst IsSoft (sym (t j lt).0) (soft j lt)
  | inr ge ↦
      let less : j - k < k = omega arith in
      let back : j - k + k ≡ j = omega arith in
      subst IsSoft (sym (ap (value_at twice) (sym back) ∙ (t (j - k) less).1)) (soft (j - k) less)
]
