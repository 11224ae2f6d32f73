use Rattle.tetra_session.specs.Time.{span_slots}
use Rattle.tetra_session.proofs.spreading.take_load.Goals as goal

pub returns-in-D48 : goal.returns-in-D48
returns-in-D48 g c = λ before h.
    let here : g.S.Spreads.Stands (span_slots c.in-D48.span) before c.args.lane.now = rw c.in-D48.is at h in
    rw (c.in-D48.is, ← c.type3.ensures.bits) (c.next_word.ensures.stands before here)

pub returns-in-D24 : goal.returns-in-D24
returns-in-D24 g c = λ before h.
    let here : g.S.Spreads.Stands (span_slots c.in-D24.span) before c.args.lane.now = rw c.in-D24.is at h in
    rw (c.in-D24.is, ← c.type3-in-D24.ensures.bits) (c.next_word-in-D24.ensures.stands before here)
