use Rattle.std.proofs.Common.{pos, arith, ◌-◌, take, ap, ◌∙◌}
use Rattle.tetra_bits.proofs.Resizing.{resized_at_once}
use Rattle.tetra_bits.proofs.soft.Values.resize.Goals as goal

pub returns-clause-list : goal.returns-clause-list
returns-clause-list g c =
    let ok = rw c.unwrap.ensures at c.try_extend_from_slice.ensures.ok in
    resized_at_once (pos 0) c.args.len c.args.self.now g.row.N (c.args.len - c.len.result) c.truncate.new.self.items c.try_extend_from_slice.new.self.items (c.truncate.ensures.items ∙ ap (take c.args.len) c.self.view_is) (omega arith) (omega arith) ok
