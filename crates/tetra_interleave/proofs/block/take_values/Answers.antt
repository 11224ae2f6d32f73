use Rattle.std.proofs.Common.{◌+◌, ◌*◌, ◌%◌, ◌<◌, pos, arith, refl, rules, FitsSigned, w16, ◌∙◌}
use Rattle.std.proofs.lemmas.Int.{to_z-of_z}
use Rattle.std.proofs.lemmas.Nat.{mod_below}
use Rattle.tetra_bits.specs.Soft.{value_at}
use Rattle.tetra_interleave.proofs.BySteps.{step_more}
use Rattle.tetra_interleave.proofs.block.take_values.Goals as goal

pub loop-i-preserved : goal.loop-i-preserved
loop-i-preserved g c =
    let place = c.args.at + (c.args.by * c.loop-i.i) % g.row.K in
    let low : (c.args.by * c.loop-i.i) % g.row.K < g.row.K = mod_below (c.args.by * c.loop-i.i) g.row.K (omega arith) in
    let soft = c.requires.soft place (omega (arith, low, c.requires.place)) in
    let fits : FitsSigned w16 (value_at c.args.twice.now place) = search (rules, soft) in
    let list = simp to_z-of_z at c.set.ensures.list in
    record {
      size = c.set.ensures.len ∙ c.loop-i.invariant.size;
      taken = λ x from twice at front.
          step_more (pos 0) g.row.K from c.args.by c.args.at c.args.first c.loop-i.i x c.args.twice.now c.loop-i.all c.set.new.self (value_at c.args.twice.now place) twice c.requires.place c.requires.step at
          (c.loop-i.invariant.taken x from twice at front) list (omega (arith, c.loop-i.invariant.size, c.requires.last)) refl;
    }
