-- Messages, parity bit by parity bit.
use Rattle.std.proofs.Common.{◌≡◌, ℕ, ◌+◌, ◌≤◌, ◌<◌, ◌⊎◌, inl, inr, Bool, true, false, not, cond, append_assoc, List, [], ◌∷◌, ◌++◌, length, get_or, take, drop, arith, refl, ap, sym, ◌∙◌}
use Rattle.std.proofs.Math.Bool.{beq}
use Rattle.std.proofs.lemmas.List.{length-drop, get_or-drop, ext_get_or, take_all}
use Rattle.tetra_bits.specs.Digits.{digit, digits}
use Rattle.tetra_bits.specs.Numbered.{numbered, numbered_more, length-numbered, get_or-numbered}
use Rattle.tetra_bits.specs.Order.{bit_at}
use Rattle.tetra_bits.specs.declared.reading.Mark.{Mark}
use Rattle.tetra_bits.specs.declared.reading.Mark.TheVariants.{Good, Bad, Unchecked}
use Rattle.tetra_parity.specs.Marks.{mark_by, mark_of, IsMarked}
use Rattle.tetra_parity.specs.Parity.{width, parity_bits, with_parity, block_size, Holds, holds_of}
use Rattle.tetra_parity.specs.declared.kind.Parity.{Parity}
use Rattle.tetra_parity.specs.declared.kind.Parity.TheVariants.{Nothing, Four, Eight, Sixteen}
use Rattle.tetra_parity.specs.lemmas.Messages.{tests_parity, marks_are_right}

-- a block with all its parity bits
pub with_all : (parity : Parity) (block : List Bool) (number size w i : ℕ) → w ≡ width parity → i ≡ w → size ≡ length block
    → digits (width parity) number ≡ parity_bits parity (take size block) → block ++ numbered (digit w number) i ≡ with_parity parity block
unfolding with_parity digits
with_all parity block number size w i ew ei es e =
    let long : length block ≤ size = omega arith in
    rw (ei, ew) (ap (λ p. block ++ p) (e ∙ ap (parity_bits parity) (take_all size block long)))

-- one parity bit more
pub one_more : (block message new : List Bool) (f : ℕ → Bool) (i : ℕ) (bit : Bool) → message ≡ block ++ numbered f i
    → new ≡ message ++ bit ∷ [] → bit ≡ f (i + 1) → new ≡ block ++ numbered f (i + 1)
one_more block message new f i bit em en eb =
    en ∙ rw (em, eb, numbered_more f i) (append_assoc block (numbered f i) (f (i + 1) ∷ []))

module _ (parity : Parity) (message : List Bool) (size number w : ℕ) (ew : w ≡ width parity) (whole : size + w ≡ length message)
    (is : digits (width parity) number ≡ parity_bits parity (take size message)) where
  before : block_size parity message ≡ size
  unfolding block_size
  before = omega arith

  -- parity bits that agree one by one
  pub all_agree : ((k : ℕ) → k < w → bit_at message (size + k) ≡ digit w number (k + 1)) → Holds parity message
  unfolding Holds digits
  all_agree each =
      let long : length (drop size message) ≡ w = length-drop size message ∙ omega arith in
      let same : drop size message ≡ numbered (digit w number) w =
      ext_get_or false (drop size message) (numbered (digit w number) w) (long ∙ sym (length-numbered (digit w number) w)) (λ k h.
      let inside : k < w = omega (arith, long) in
      get_or-drop size message k false ∙ each k inside ∙ sym (get_or-numbered (digit w number) w k false inside))
      in
      rw before (same ∙ ap (λ n. numbered (digit n number) n) ew ∙ is)

  -- where parity holds, each of them agrees
  each_agrees : (k : ℕ) → Holds parity message → k < w → bit_at message (size + k) ≡ digit w number (k + 1)
  unfolding Holds digits
  each_agrees k holds inside =
      let h : drop size message ≡ parity_bits parity (take size message) = rw before at holds in
      let same : drop size message ≡ numbered (digit w number) w = h ∙ sym is ∙ ap (λ n. numbered (digit n number) n) (sym ew) in
      sym (get_or-drop size message k false) ∙ ap (λ x. get_or x k false) same ∙ get_or-numbered (digit w number) w k false inside

  -- one of them does not agree
  pub one_differs : (k : ℕ) (a b : Bool) → k < w → a ≡ bit_at message (size + k) → b ≡ digit w number (k + 1) → not (beq a b) ≡ true
      → Holds parity message → ⊥
  one_differs k a b inside ea eb n h = differs a b n (ea ∙ each_agrees k h inside ∙ sym eb)
    where
      differs : (a b : Bool) → not (beq a b) ≡ true → a ≡ b → ⊥
      differs true true n e = cc
      differs true false n e = cc
      differs false true n e = cc
      differs false false n e = cc

-- the answer of the test
pub says_true : (parity : Parity) (message : List Bool) → Holds parity message → true ≡ holds_of parity message
says_true parity message h = sym ((tests_parity parity message).1 h)

not_true : (b : Bool) → (b ≡ true → ⊥) → false ≡ b
not_true true n = absurd (n refl)
not_true false n = refl

pub says_false : (parity : Parity) (message : List Bool) → (Holds parity message → ⊥) → false ≡ holds_of parity message
says_false parity message n = not_true (holds_of parity message) (λ h. n ((tests_parity parity message).0 h))

-- the mark by the test
pub marked_none : (parity : Parity) (message : List Bool) → parity ≡ Nothing → Unchecked ≡ mark_of parity message
unfolding mark_of mark_by
marked_none parity message e = rw e refl

pub marked_by : (parity : Parity) (message : List Bool) (holds : Bool) → (parity ≡ Four) ⊎ ((parity ≡ Eight) ⊎ (parity ≡ Sixteen))
    → holds ≡ holds_of parity message → cond holds Good Bad ≡ mark_of parity message
unfolding mark_of mark_by
marked_by parity message holds (inl e) h = rw (h, e) refl
marked_by parity message holds (inr (inl e)) h = rw (h, e) refl
marked_by parity message holds (inr (inr e)) h = rw (h, e) refl

pub is_marked : (parity : Parity) (message : List Bool) (mark : Mark) → mark ≡ mark_of parity message → IsMarked parity mark message
is_marked parity message mark e = rw e (marks_are_right parity message)
