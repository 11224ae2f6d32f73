use Rattle.std.proofs.Common.{None, ◌∙◌}
use Rattle.tetra_session.specs.Heard.{second_stolen, field_heard}
use Rattle.tetra_session.proofs.Loads.{load_same, second_last, stolen_by_front}
use Rattle.tetra_session.proofs.fields.load_by_front.Goals as goal

pub returns-in-Some : goal.returns-in-Some
returns-in-Some c = λ dir key soft e.
    let last = c.in-Some.last.now in
    c.load_place-in-Some.ensures
    ∙ load_same c.args.letter c.args.mode c.reads_good.result (second_stolen dir key soft)
    (λ p. stolen_by_front dir key soft last c.reads_good.result
    (second_last (field_heard dir key None soft) c.args.fields.now dir c.args.letter last c.in-Some.ensures.value e p) c.reads_good.ensures)
