use Rattle.std.proofs.Common.{◌-◌, ◌≡◌}
use Rattle.tetra_engine.specs.Working.{Driven}
use Rattle.tetra_engine.proofs.work.drive.Given as goal

-- the slots so far were read and written
abbrev pub invariant-loop-slots : goal.invariant-loop-slots
invariant-loop-slots g l = Driven g.W.Work.stands (g.W.Work.shape (g.W.Work.settings l.fn.work)) l.work (g.W.Work.settings l.work ≡ g.W.Work.settings l.fn.work) l.max l.slots
    (g.S.Source.rest l.fn.src) (g.S.Source.rest l.src) (g.K.Sink.taken l.fn.sink) (g.K.Sink.taken l.sink)
    (g.S.Source.faults l.fn.src) (g.S.Source.faults l.src) (g.K.Sink.faults l.fn.sink) (g.K.Sink.faults l.sink)
    (g.S.Source.ends l.fn.src) (g.S.Source.ends l.src)

abbrev pub decreases-loop-slots : goal.decreases-loop-slots
decreases-loop-slots g l = l.max - l.slots
