use Rattle.std.proofs.Common.{rules, arith, sym, ap, ◌∙◌, ◌≡◌, ◌-◌, ◌++◌, subst, take, length}
use Rattle.tetra_io.specs.Filling.{Fills}
use Rattle.tetra_records.proofs.Filled.{part_filled, part_is}
use Rattle.tetra_records.proofs.records.fill_part.Goals as goal

pub returns-clause-bytes : goal.returns-clause-bytes
returns-clause-bytes g c =
    let size : length c.fill.new.buf ≡ c.args.to - c.args.from = search rules in
    subst (Fills (g.S.Source.rest c.args.src.now) (g.S.Source.rest c.fill.new.src) c.fill.result)
    (sym (part_is c.args.from c.args.to c.args.buf.now c.fill.new.buf c.requires.part (omega arith) size)) c.fill.ensures.bytes

pub returns-clause-front : goal.returns-clause-front
returns-clause-front g c =
    let size : length c.fill.new.buf ≡ c.args.to - c.args.from = search rules in
    part_filled c.args.from c.args.to c.args.buf.now c.fill.new.buf c.requires.part (omega arith) size
    ∙ ap (λ l. take c.args.from c.args.buf.now ++ l) (sym (part_is c.args.from c.args.to c.args.buf.now c.fill.new.buf c.requires.part (omega arith) size))
