use Rattle.std.proofs.Common.{◌<◌, arith, sym}
use Rattle.tetra_c.proofs.BlockRings.{block_size, block_bit}
use Rattle.tetra_c.proofs.kept_blocks.TetraKeptBlockBlockRow.bit.Goals as goal

pub bounds-self-i : goal.bounds-self-i
bounds-self-i c = omega (arith, c.requires, block_size c.args.self.now)

pub returns : goal.returns
returns c =
    let within : c.args.i < 432 = omega (arith, c.requires, block_size c.args.self.now) in
    sym (block_bit c.args.self.now c.args.i within)
