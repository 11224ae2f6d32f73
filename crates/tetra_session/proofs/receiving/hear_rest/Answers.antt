use Rattle.std.proofs.Common.{◌≡◌, map, None, sym, ap, ◌∙◌}
use Rattle.tetra_settings.specs.Slots.{mode_of}
use Rattle.tetra_session.specs.Heard.{letter_heard, second_stolen, field_heard}
use Rattle.tetra_session.specs.Spots.{places_before_load}
use Rattle.tetra_session.proofs.Loads.{load_same, stolen_by_last}
use Rattle.tetra_session.proofs.receiving.hear_rest.Goals as goal

pub hear_load-requires-clause-load : goal.hear_load-requires-clause-load
hear_load-requires-clause-load g c =
    let settings = c.args.settings.now in
    let key = c.args.key.now in
    let soft = c.args.soft.now in
    let letter = letter_heard settings c.args.turn soft in
    let fields = c.args.front.now.fields.items in
    let heard : fields ≡ map (field_heard settings.dir key None soft) (places_before_load settings.dir letter) =
    c.requires.begun.fields ∙ ap (λ k. map (field_heard settings.dir k None soft) (places_before_load settings.dir letter)) (sym c.requires.keyed) in
    c.load_begun-load.ensures letter c.requires.begun.letter
    ∙ load_same letter (mode_of settings c.args.turn) c.args.last_good (second_stolen settings.dir key soft)
    (stolen_by_last settings.dir key soft settings.rows.0 letter fields c.args.last_good heard c.requires.last)
