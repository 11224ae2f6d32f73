use Rattle.std.proofs.Common.{arith, ◌∙◌, ap, drop}
use Rattle.tetra_io.proofs.Fronts.{piece_left}
use Rattle.tetra_io.proofs.ahead.ReadAhead.hand_on.Goals as goal

pub returns-clause-left : goal.returns-clause-left
returns-clause-left g c =
    piece_left c.self.inside.at c.give-n.result c.self.inside.end c.self.inside.bytes (omega (arith, c.give-n.ensures.count, c.self.told, c.self.invariant.0, c.self.invariant.1)) ∙ ap (drop c.give-n.result) (ap (λ s. s.held) c.self.view_is)
