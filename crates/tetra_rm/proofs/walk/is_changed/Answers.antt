use Rattle.std.proofs.Common.{◌≡◌, ◌-◌, true, false, nat_lt, arith, refl}
use Rattle.std.proofs.lemmas.Bool.{lt-ltb, le-ltb}
use Rattle.tetra_bits.specs.Digits.{digit}
use Rattle.tetra_rm.specs.Turning.{is_changed}
use Rattle.tetra_rm.proofs.walk.is_changed.Goals as goal

pub returns-then-k-lt14 : goal.returns-then-k-lt14
unfolding is_changed
returns-then-k-lt14 c =
    let test : nat_lt c.args.k 14 ≡ true = lt-ltb c.args.k 14 c.if-k-lt14.true in
    rw (test, c.from-row.ensures) refl

pub returns-else-k-lt14 : goal.returns-else-k-lt14
unfolding is_changed digit
returns-else-k-lt14 c =
    let test : nat_lt c.args.k 14 ≡ false = le-ltb c.args.k 14 c.if-k-lt14.false in
    let place : 16 - (c.args.k - 13) ≡ 29 - c.args.k = omega arith in
    rw (test, place, c.from-row.ensures) refl
