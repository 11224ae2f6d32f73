-- The metric of a word by its parts.
use Prim.Native.Nat.{zero, suc}
use Rattle.std.proofs.Common.{◌≡◌, ℕ, ◌+◌, ◌-◌, ◌*◌, ◌/◌, ◌%◌, ◌^◌, ◌<◌, ◌≤◌, Bool, nat_eq, List, [], ◌∷◌, ◌++◌, length, take, drop, length-drop, append_assoc, arith, ap, sym, ◌∙◌}
use Rattle.std.specs.Prelude.{ℤ, pos}
use Rattle.std.proofs.lemmas.List.{take_all}
use Rattle.std.specs.Int.{bit_at}
use Rattle.std.proofs.Math.Seq.{drop-cons, drop-nil}
use Rattle.tetra_bits.specs.Cost.{cost, metric}
use Rattle.tetra_bits.specs.Digits.{digits}
use Rattle.tetra_bits.specs.Soft.{AllWithin, value_at}
use Rattle.tetra_bits.specs.lemmas.Digits.{length-digits, digits-cat}
use Rattle.tetra_bits.specs.lemmas.Signs.{metric_more, metric_none}
use Rattle.tetra_rm.specs.Code.{rows_sum, access_word, access_metric}
use Rattle.tetra_bits.specs.lemmas.Within.{cost_within, within_at}
use Rattle.tetra_rm.specs.Search.{part_metric}
use Rattle.tetra_rm.specs.lemmas.Numbers.{digits_first, digits_cons, digits_low}

-- two lists of bits
metric_cat : (a b : List Bool) (soft : List ℤ) → length a ≤ length soft → metric soft (a ++ b) ≡ metric (take (length a) soft) a + metric (drop (length a) soft) b
metric_cat [] b soft h = let none : metric [] [] ≡ 0 = metric_none [] in omega arith
metric_cat (x ∷ a) b [] h = absurd (omega arith)
metric_cat (x ∷ a) b (s ∷ soft) h =
    let rest : metric soft (a ++ b) ≡ metric (take (length a) soft) a + metric (drop (length a) soft) b = metric_cat a b soft (omega arith) in
    let whole : metric (s ∷ soft) (x ∷ (a ++ b)) ≡ cost s x + metric soft (a ++ b) = metric_more s soft x (a ++ b) in
    let front : metric (s ∷ take (length a) soft) (x ∷ a) ≡ cost s x + metric (take (length a) soft) a = metric_more s (take (length a) soft) x a in
    omega arith

drop_twice : {X : Type 0} (a b : ℕ) (xs : List X) → drop b (drop a xs) ≡ drop (a + b) xs
drop_twice zero b xs = let e : 0 + b ≡ b = omega arith in ap (λ n. drop n xs) (sym e)
drop_twice (suc a) b [] = drop-nil b ∙ sym (drop-nil (suc a + b))
drop_twice (suc a) b (x ∷ xs) = let e : suc a + b ≡ suc (a + b) = omega arith in drop_twice a b xs ∙ ap (λ n. drop n (x ∷ xs)) (sym e)

-- one part, and what stands behind it
part_first : (soft : List ℤ) (from n v : ℕ) (rest : List Bool) → from + n ≤ length soft → metric (drop from soft) (digits n v ++ rest) ≡ part_metric soft from n v + metric (drop (from + n) soft) rest
unfolding part_metric
part_first soft from n v rest h =
    let size : length (digits n v) ≡ n = length-digits n v in
    let long : length (drop from soft) ≡ length soft - from = length-drop from soft in
    let whole : metric (drop from soft) (digits n v ++ rest) ≡ metric (take (length (digits n v)) (drop from soft)) (digits n v) + metric (drop (length (digits n v)) (drop from soft)) rest =
    metric_cat (digits n v) rest (drop from soft) (omega arith) in
    whole ∙ ap (λ k. metric (take k (drop from soft)) (digits n v) + metric (drop k (drop from soft)) rest) size
    ∙ ap (λ s. metric (take n (drop from soft)) (digits n v) + metric s rest) (drop_twice from n soft)

-- the last part
part_last : (soft : List ℤ) (from n v : ℕ) → from + n ≡ length soft → metric (drop from soft) (digits n v) ≡ part_metric soft from n v
unfolding part_metric
part_last soft from n v h =
    let long : length (drop from soft) ≡ length soft - from = length-drop from soft in
    ap (λ s. metric s (digits n v)) (sym (take_all n (drop from soft) (omega arith)))

-- a word in five parts
module _ (rows : List ℕ) (soft : List ℤ) (size : length soft ≡ 30) (h m j s : ℕ) (small_m : m < 2 ^ 6) (small_j : j < 2 ^ 3) (sum : s ≡ rows_sum rows (digits 14 ((h * 2 ^ 6 + m) * 2 ^ 3 + j)) 14) where
  word_parts : access_word rows (digits 14 ((h * 2 ^ 6 + m) * 2 ^ 3 + j)) ≡ digits 5 h ++ (digits 6 m ++ (digits 3 j ++ (digits 8 (s / 256) ++ digits 8 (s % 256))))
  unfolding access_word
  word_parts =
      let message : digits 14 ((h * 2 ^ 6 + m) * 2 ^ 3 + j) ≡ digits 11 (h * 2 ^ 6 + m) ++ digits 3 j = digits-cat 11 3 (h * 2 ^ 6 + m) j small_j in
      let front : digits 11 (h * 2 ^ 6 + m) ≡ digits 5 h ++ digits 6 m = digits-cat 5 6 h m small_m in
      let halves : s ≡ s / 256 * 2 ^ 8 + s % 256 = omega arith in
      let behind : digits 16 (s / 256 * 2 ^ 8 + s % 256) ≡ digits 8 (s / 256) ++ digits 8 (s % 256) = digits-cat 8 8 (s / 256) (s % 256) (omega arith) in
      ap (λ n. digits 14 ((h * 2 ^ 6 + m) * 2 ^ 3 + j) ++ digits 16 n) (sym sum ∙ halves)
      ∙ ap (λ d. digits 14 ((h * 2 ^ 6 + m) * 2 ^ 3 + j) ++ d) behind
      ∙ ap (λ d. d ++ (digits 8 (s / 256) ++ digits 8 (s % 256))) (message ∙ ap (λ d. d ++ digits 3 j) front)
      ∙ append_assoc (digits 5 h ++ digits 6 m) (digits 3 j) (digits 8 (s / 256) ++ digits 8 (s % 256))
      ∙ append_assoc (digits 5 h) (digits 6 m) (digits 3 j ++ (digits 8 (s / 256) ++ digits 8 (s % 256)))

  pub metric_parts : access_metric rows soft (digits 14 ((h * 2 ^ 6 + m) * 2 ^ 3 + j)) ≡ part_metric soft 0 5 h + part_metric soft 5 6 m + part_metric soft 11 3 j + part_metric soft 14 8 (s / 256) + part_metric soft 22 8 (s % 256)
  unfolding access_metric
  metric_parts =
      let a : metric soft (digits 5 h ++ (digits 6 m ++ (digits 3 j ++ (digits 8 (s / 256) ++ digits 8 (s % 256))))) ≡ part_metric soft 0 5 h + metric (drop 5 soft) (digits 6 m ++ (digits 3 j ++ (digits 8 (s / 256) ++ digits 8 (s % 256)))) =
      part_first soft 0 5 h (digits 6 m ++ (digits 3 j ++ (digits 8 (s / 256) ++ digits 8 (s % 256)))) (omega arith) in
      let b : metric (drop 5 soft) (digits 6 m ++ (digits 3 j ++ (digits 8 (s / 256) ++ digits 8 (s % 256)))) ≡ part_metric soft 5 6 m + metric (drop 11 soft) (digits 3 j ++ (digits 8 (s / 256) ++ digits 8 (s % 256))) =
      part_first soft 5 6 m (digits 3 j ++ (digits 8 (s / 256) ++ digits 8 (s % 256))) (omega arith) in
      let c : metric (drop 11 soft) (digits 3 j ++ (digits 8 (s / 256) ++ digits 8 (s % 256))) ≡ part_metric soft 11 3 j + metric (drop 14 soft) (digits 8 (s / 256) ++ digits 8 (s % 256)) =
      part_first soft 11 3 j (digits 8 (s / 256) ++ digits 8 (s % 256)) (omega arith) in
      let d : metric (drop 14 soft) (digits 8 (s / 256) ++ digits 8 (s % 256)) ≡ part_metric soft 14 8 (s / 256) + metric (drop 22 soft) (digits 8 (s % 256)) =
      part_first soft 14 8 (s / 256) (digits 8 (s % 256)) (omega arith) in
      let e : metric (drop 22 soft) (digits 8 (s % 256)) ≡ part_metric soft 22 8 (s % 256) = part_last soft 22 8 (s % 256) (omega arith) in
      ap (metric soft) word_parts ∙ omega arith

-- one bit more in front
pub part_more : (soft : List ℤ) (from n d y : ℕ) → from < length soft → d < 2 → y < 2 ^ n → part_metric soft from (suc n) (d * 2 ^ n + y) ≡ cost (value_at soft from) (nat_eq d 1) + part_metric soft (suc from) n y
unfolding part_metric
part_more soft from n d y there bit small =
    ap (metric (take (suc n) (drop from soft))) (digits_first n d y bit small)
    ∙ ap (λ s. metric (take (suc n) s) (nat_eq d 1 ∷ digits n y)) (drop-cons soft from (pos 0) there)
    ∙ metric_more (value_at soft from) (take n (drop (suc from) soft)) (nat_eq d 1) (digits n y)

-- no bits cost nothing
pub part_none : (soft : List ℤ) (from v : ℕ) → part_metric soft from 0 v ≡ 0
unfolding part_metric
part_none soft from v = metric_none (digits 0 v)

-- the same of any number, by its digits
pub part_next : (soft : List ℤ) (from n x : ℕ) → from < length soft → part_metric soft from (suc n) x ≡ cost (value_at soft from) (nat_eq (bit_at x n) 1) + part_metric soft (suc from) n x
unfolding part_metric
part_next soft from n x there =
    ap (metric (take (suc n) (drop from soft))) (digits_cons n x)
    ∙ ap (λ s. metric (take (suc n) s) (nat_eq (bit_at x n) 1 ∷ digits n x)) (drop-cons soft from (pos 0) there)
    ∙ metric_more (value_at soft from) (take n (drop (suc from) soft)) (nat_eq (bit_at x n) 1) (digits n x)

-- only the last digits count
pub part_low : (soft : List ℤ) (from n x y : ℕ) → x % 2 ^ n ≡ y % 2 ^ n → part_metric soft from n x ≡ part_metric soft from n y
unfolding part_metric
part_low soft from n x y same = ap (metric (take n (drop from soft))) (digits_low n x y same)

-- values from -top to top
pub part_within : (top : ℕ) (soft : List ℤ) (from n x : ℕ) → from + n ≤ length soft → AllWithin top soft → part_metric soft from n x ≤ top * n
part_within top soft from zero x room all = let none : part_metric soft from 0 x ≡ 0 = part_none soft from x in omega arith
part_within top soft from (suc n) x room all =
    let first : cost (value_at soft from) (nat_eq (bit_at x n) 1) ≤ top = cost_within top (value_at soft from) (nat_eq (bit_at x n) 1) (within_at top soft all from) in
    let rest : part_metric soft (suc from) n x ≤ top * n = part_within top soft (suc from) n x (omega arith) all in
    let whole : part_metric soft from (suc n) x ≡ cost (value_at soft from) (nat_eq (bit_at x n) 1) + part_metric soft (suc from) n x = part_next soft from n x (omega arith) in
    omega (arith, first, rest, whole)
