use Rattle.std.proofs.Common.{ap, ◌∙◌}
use Rattle.tetra_scramble.specs.Key.{key_from, no_colour, zero_key_bits}
use Rattle.tetra_scramble.proofs.Numbers.{digits_of_none, length-no_colour}
use Rattle.tetra_scramble.proofs.Recurrence.{key_is_key}
use Rattle.tetra_scramble.proofs.register.zero_key.Goals as goal

pub returns-clause-value : goal.returns-clause-value
unfolding zero_key_bits
returns-clause-value c = c.key_of_number.ensures ∙ ap key_from digits_of_none

pub returns-clause-sums : goal.returns-clause-sums
returns-clause-sums c =
    let e = c.key_of_number.ensures ∙ ap key_from digits_of_none in
    rw e (key_is_key no_colour length-no_colour)
