use Rattle.std.proofs.Common.{◌≡◌, ◌+◌, ◌-◌, ◌/◌, ◌%◌, ◌^◌, true, false, nat_eq, get_or, arith, refl, ap, ◌∙◌}
use Rattle.std.proofs.lemmas.Bool.Decides.{nat_tests}
use Rattle.tetra_bits.specs.Digits.{digits}
use Rattle.tetra_rm.specs.Code.{row_part}
use Rattle.tetra_rm.specs.lemmas.Numbers.{digit_at}
use Rattle.tetra_rm.proofs.words.row_part.Goals as goal

pub returns-then-message-r-eq1 : goal.returns-then-message-r-eq1
unfolding row_part
returns-then-message-r-eq1 c =
    let place : 14 - (c.args.r + 1) ≡ 13 - c.args.r = omega arith in
    let test : nat_eq (c.args.message / 2 ^ (13 - c.args.r) % 2) 1 ≡ true = grind (arith, nat_tests, c.if-message-r-eq1.true) in
    let bit : get_or (digits 14 c.args.message) c.args.r false ≡ true =
    digit_at 14 c.args.message c.args.r c.requires ∙ ap (λ p. nat_eq (c.args.message / 2 ^ p % 2) 1) place ∙ test in
    rw bit refl

pub returns-else-message-r-eq1 : goal.returns-else-message-r-eq1
unfolding row_part
returns-else-message-r-eq1 c =
    let place : 14 - (c.args.r + 1) ≡ 13 - c.args.r = omega arith in
    let test : nat_eq (c.args.message / 2 ^ (13 - c.args.r) % 2) 1 ≡ false = grind (arith, nat_tests, c.if-message-r-eq1.false) in
    let bit : get_or (digits 14 c.args.message) c.args.r false ≡ false =
    digit_at 14 c.args.message c.args.r c.requires ∙ ap (λ p. nat_eq (c.args.message / 2 ^ p % 2) 1) place ∙ test in
    rw bit refl
