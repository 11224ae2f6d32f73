use Rattle.std.proofs.Common.{◌≡◌, ◌+◌, ◌-◌, ◌/◌, ◌%◌, ◌^◌, ◌++◌, ◌∷◌, [], nat_eq, length, length-append, append_assoc, append-nil, arith, ap, sym, ◌∙◌}
use Rattle.tetra_bits.specs.Digits.{digit, digits}
use Rattle.tetra_bits.specs.Numbered.{numbered, numbered_none, numbered_more, length-numbered}
use Rattle.tetra_rm.specs.lemmas.Numbers.{length-digits}
use Rattle.tetra_rm.proofs.words.push_digits.Goals as goal

pub loop-k-init : goal.loop-k-init
loop-k-init c = rw (numbered_none (digit c.args.n c.args.number)) (sym (append-nil c.args.bits.now))

pub push-requires : goal.push-requires
push-requires c =
    let size : length c.loop-k.bits ≡ length c.args.bits.now + c.loop-k.k =
    ap length c.loop-k.invariant ∙ length-append c.args.bits.now (numbered (digit c.args.n c.args.number) c.loop-k.k)
    ∙ ap (λ n. length c.args.bits.now + n) (length-numbered (digit c.args.n c.args.number) c.loop-k.k) in
    omega arith

pub loop-k-preserved : goal.loop-k-preserved
unfolding digit
loop-k-preserved c =
    let place : c.args.n - 1 - c.loop-k.k ≡ c.args.n - (c.loop-k.k + 1) = omega arith in
    let bit : nat_eq (c.args.number / 2 ^ (c.args.n - 1 - c.loop-k.k) % 2) 1 ≡ digit c.args.n c.args.number (c.loop-k.k + 1) =
    ap (λ p. nat_eq (c.args.number / 2 ^ p % 2) 1) place in
    c.push.ensures.list ∙ ap (λ b. c.loop-k.bits ++ b ∷ []) bit ∙ ap (λ l. l ++ digit c.args.n c.args.number (c.loop-k.k + 1) ∷ []) c.loop-k.invariant
    ∙ append_assoc c.args.bits.now (numbered (digit c.args.n c.args.number) c.loop-k.k) (digit c.args.n c.args.number (c.loop-k.k + 1) ∷ [])
    ∙ ap (λ l. c.args.bits.now ++ l) (sym (numbered_more (digit c.args.n c.args.number) c.loop-k.k))

pub returns-clause-list : goal.returns-clause-list
unfolding digits
returns-clause-list c =
    let end : c.loop-k.k ≡ c.args.n = omega arith in
    c.loop-k.invariant ∙ ap (λ k. c.args.bits.now ++ numbered (digit c.args.n c.args.number) k) end

pub returns-clause-len : goal.returns-clause-len
returns-clause-len c =
    ap length (returns-clause-list c) ∙ length-append c.args.bits.now (digits c.args.n c.args.number) ∙ ap (λ n. length c.args.bits.now + n) (length-digits c.args.n c.args.number)
