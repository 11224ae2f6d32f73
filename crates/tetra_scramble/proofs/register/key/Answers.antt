use Rattle.std.proofs.Common.{arith, ap, ◌∙◌}
use Rattle.tetra_scramble.specs.Colour.{colour_bits}
use Rattle.tetra_scramble.specs.Key.{key_from, key_of}
use Rattle.tetra_scramble.proofs.Numbers.{three_in_one, three_digits, length-colour_bits}
use Rattle.tetra_scramble.proofs.Recurrence.{key_is_key}
use Rattle.tetra_scramble.proofs.register.key.Goals as goal

pub key_of_number-requires : goal.key_of_number-requires
key_of_number-requires c =
    let e = three_in_one c.from.result c.from-2.result c.from-3.result (omega arith) (omega arith) (omega arith) in
    omega (arith, e)

pub returns-clause-value : goal.returns-clause-value
unfolding key_of
returns-clause-value c = c.key_of_number.ensures ∙ ap key_from (three_digits c.args.colour.now c.from.result c.from-2.result c.from-3.result c.from.ensures c.from-2.ensures c.from-3.ensures c.requires)

pub returns-clause-sums : goal.returns-clause-sums
returns-clause-sums c =
    let e = c.key_of_number.ensures ∙ ap key_from (three_digits c.args.colour.now c.from.result c.from-2.result c.from-3.result c.from.ensures c.from-2.ensures c.from-3.ensures c.requires) in
    rw e (key_is_key (colour_bits c.args.colour.now) (length-colour_bits c.args.colour.now))
