use Rattle.std.proofs.Common.{◌≡◌, take, arith, sym, ap, ◌∙◌}
use Rattle.tetra_parity.specs.Parity.{block_rest}
use Rattle.tetra_parity.proofs.Held.{held_first, held-lt, register_next}
use Rattle.tetra_parity.proofs.register.register_of.Goals as goal

pub loop-i-init : goal.loop-i-init
loop-i-init g c = sym (held_first g.row.DEGREE g.row.GENERATOR c.requires.generator)

pub shifted-register-requires-clause-small : goal.shifted-register-requires-clause-small
shifted-register-requires-clause-small g c = rw c.loop-i.invariant (held-lt g.row.DEGREE g.row.GENERATOR c.requires.generator (take c.loop-i.i c.args.bits.now))

pub loop-i-preserved : goal.loop-i-preserved
loop-i-preserved g c =
    register_next g.row.DEGREE g.row.GENERATOR c.requires.generator c.args.bits.now c.loop-i.i c.loop-i.register c.get.result c.shifted-register.result (omega arith) c.loop-i.invariant c.get.ensures c.shifted-register.ensures.value

pub returns : goal.returns
returns g c =
    let all : c.loop-i.i ≡ c.args.size = omega arith in
    let e = c.loop-i.invariant ∙ ap (λ n. block_rest g.row.DEGREE g.row.GENERATOR (take n c.args.bits.now)) all in
    record { value = e; small = rw e (held-lt g.row.DEGREE g.row.GENERATOR c.requires.generator (take c.args.size c.args.bits.now)) }
