use Rattle.std.proofs.Common.{arith}
use Rattle.tetra_parity.proofs.Shifts.{shifted_value, shifted-lt, product_fits}
use Rattle.tetra_parity.proofs.register.shifted.Goals as goal

pub overflow_mul-result : goal.overflow_mul-result
overflow_mul-result g c =
    omega (arith, product_fits g.row.DEGREE g.row.GENERATOR c.requires.generator c.args.register c.from.result c.args.bit c.requires.small c.from.ensures)

pub returns-clause-value : goal.returns-clause-value
returns-clause-value g c = shifted_value g.row.DEGREE g.row.GENERATOR c.requires.generator c.args.register c.from.result c.args.bit c.requires.small c.from.ensures

pub returns-clause-small : goal.returns-clause-small
returns-clause-small g c = shifted-lt g.row.DEGREE g.row.GENERATOR c.requires.generator c.args.register c.from.result c.args.bit c.requires.small c.from.ensures
