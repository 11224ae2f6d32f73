use Rattle.std.proofs.Common.{◌%◌, ◌<◌, eqb, ap, ◌∙◌, w32, arith}
use Rattle.std.proofs.lemmas.Simd.{tops_compared}
use lib.Lanes.{mask_l, zip2}
use Rattle.tetra_puncture.specs.lemmas.Lanes.{same_bits, same_mask, mask_small}
use Rattle.tetra_puncture.proofs.lanes.same.Goals as goal

pub overflow_cast-result : goal.overflow_cast-result
overflow_cast-result c =
    let a = c.args.a in
    let b = c.args.b in
    let e = ap (λ ms. mask_l ms % 18446744073709551616) (tops_compared w32 eqb a b) ∙ same_mask a b c.requires.0 c.requires.1 in
    let lt : mask_l (zip2 eqb a b) < 65536 = mask_small a b c.requires.0 c.requires.1 in
    record { fits = omega (arith, e, lt) }

pub returns : goal.returns
returns c =
    let a = c.args.a in
    let b = c.args.b in
    same_bits a b c.requires.0 c.requires.1 _
    (ap (λ ms. mask_l ms % 18446744073709551616) (tops_compared w32 eqb a b) ∙ same_mask a b c.requires.0 c.requires.1)
