use Rattle.std.proofs.Common.{◌+◌, ◌*◌, ◌^◌, arith}
use Rattle.tetra_trial.proofs.Adding.{most_more, most_letter}
use Rattle.tetra_trial.proofs.counting.count.Goals as goal

pub returns-clause-most : goal.returns-clause-most
returns-clause-most c = λ top h.
    most_more (top + 1 + 4 * 2 ^ 33) (top + 2 ^ 36) c.add_fields.new.self (omega arith)
    (c.add_fields.ensures.most (top + 1) (rw c.add_letter.ensures (most_letter c.has_letter.result top c.args.tally.now h)))
