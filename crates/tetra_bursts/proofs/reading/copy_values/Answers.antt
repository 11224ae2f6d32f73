use Rattle.std.proofs.Common.{◌+◌, ◌<◌, pos, get_or, take, length, arith, refl, ◌∙◌, FitsSigned, w16, rules}
use Rattle.std.proofs.lemmas.Int.{to_z-of_z}
use Rattle.std.proofs.lemmas.List.{length-set}
use Rattle.tetra_bits.specs.Soft.{IsSoft}
use Rattle.tetra_bursts.proofs.Walking.{copied}
use Rattle.tetra_bursts.proofs.reading.copy_values.Goals as goal

pub loop-i-preserved : goal.loop-i-preserved
loop-i-preserved c =
    let v = get_or c.args.soft.now (c.args.at + c.loop-i.i) (pos 0) in
    let size = c.loop-i.invariant.size in
    let there : c.args.at + c.loop-i.i < length c.args.soft.now = omega arith in
    let room : c.args.from + c.loop-i.i < length c.loop-i.values = omega arith in
    let soft : IsSoft v = c.requires.soft (c.args.at + c.loop-i.i) (pos 0) there in
    let fits : FitsSigned w16 v = search (rules, soft) in
    let new = simp to_z-of_z at c.set.ensures.list in
    rw new (record {
      size = length-set c.loop-i.values (c.args.from + c.loop-i.i) v ∙ size;
      so_far = copied (take c.args.from c.args.values.now) c.loop-i.values c.args.soft.now c.args.from c.args.at c.loop-i.i v room there c.loop-i.invariant.so_far refl;
    })
