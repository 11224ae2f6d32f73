use Rattle.std.proofs.Common.{◌*◌, arith, w8}
use Rattle.std.proofs.lemmas.Simd.{length-chunk, chunk-fits, below_from_Fits}
use lib.Lanes.{chunk}
use Rattle.tetra_audit.proofs.Tables.{row_is}
use Rattle.tetra_audit.proofs.claims.row_at.Goals as goal

pub numbers_of-requires-clause-long : goal.numbers_of-requires-clause-long
numbers_of-requires-clause-long c = length-chunk (32 * c.args.t) 32 c.args.bytes.now (omega arith)

pub numbers_of-requires-clause-bytes : goal.numbers_of-requires-clause-bytes
numbers_of-requires-clause-bytes c =
    below_from_Fits w8 (chunk (32 * c.args.t) 32 c.args.bytes.now) (chunk-fits w8 (32 * c.args.t) 32 c.args.bytes.now c.type_inv.bytes)

pub returns : goal.returns
returns c = row_is c.args.bytes.now c.args.t c.numbers_of.result c.numbers_of.ensures.long c.numbers_of.ensures.value
