use Rattle.std.proofs.Common.{true, false, arith, sym, ◌∙◌}
use Rattle.tetra_bursts.proofs.Walking.{count_next, none_counted}
use Rattle.tetra_bursts.proofs.reading.count_of.Goals as goal
use Rattle.tetra_bursts.proofs.reading.count_of.Goals.{then-is_part, else-is_part}

pub loop-j-preserved : goal.loop-j-preserved
loop-j-preserved c =
    elim c.if-is_part.branch [
      | then-is_part w ↦
          let counted = count_next c.args.part true c.args.table.now c.loop-j.j c.loop-j-test.true (sym w.if-is_part.true ∙ c.is_part.ensures) in
          omega arith
      | else-is_part w ↦
          let counted = count_next c.args.part false c.args.table.now c.loop-j.j c.loop-j-test.true (sym w.if-is_part.false ∙ c.is_part.ensures) in
          omega arith
    ]

pub returns : goal.returns
returns c =
    let none = none_counted c.args.part c.args.table.now c.loop-j.j c.loop-j-test.false in
    omega arith
