use Rattle.std.proofs.Common.{None, ◌∙◌}
use Rattle.tetra_session.specs.Heard.{second_stolen, field_of_place}
use Rattle.tetra_session.proofs.Loads.{load_same, second_last, stolen_by_reading}
use Rattle.tetra_session.proofs.fields.load_by_reading.Goals as goal

pub returns-in-Some : goal.returns-in-Some
returns-in-Some c = λ settings key soft e.
    let last = c.in-Some.last.now in
    c.load_place.ensures
    ∙ load_same c.args.letter c.args.mode c.is_good.result (second_stolen settings.dir key soft)
    (λ p. c.is_good.ensures
    ∙ stolen_by_reading settings key soft last
    (second_last (field_of_place settings key None soft) c.args.fields.now settings.dir c.args.letter last c.in-Some.ensures.value e p))
