use Rattle.std.proofs.Common.{◌≡◌, map, None, sym, ap, ◌∙◌}
use Rattle.tetra_settings.specs.Slots.{mode_of}
use Rattle.tetra_session.specs.Heard.{letter_heard, second_stolen, field_heard}
use Rattle.tetra_session.specs.Spots.{load_place, places_before_load}
use Rattle.tetra_session.proofs.Loads.{half_there}
use Rattle.tetra_session.proofs.receiving.hear_turn.Goals as goal

pub load_by_front-load-requires : goal.load_by_front-load-requires
load_by_front-load-requires g c =
    let settings = c.args.settings.now in
    let key = c.args.key.now in
    let soft = c.args.soft.now in
    let letter = c.hear_before_load-letter.result in
    let heard : c.deref.result.now ≡ map (field_heard settings.dir key None soft) (places_before_load settings.dir letter) =
    c.deref.ensures.0 ∙ c.hear_before_load-letter.ensures.begun.fields
    ∙ ap (λ k. map (field_heard settings.dir k None soft) (places_before_load settings.dir (letter_heard settings c.args.turn soft))) (sym c.requires.keyed)
    ∙ ap (λ l. map (field_heard settings.dir key None soft) (places_before_load settings.dir l)) (sym c.hear_before_load-letter.ensures.letter) in
    half_there settings.dir key soft letter c.deref.result.now heard

pub hear_load-requires-clause-load : goal.hear_load-requires-clause-load
hear_load-requires-clause-load g c =
    let settings = c.args.settings.now in
    let key = c.args.key.now in
    let soft = c.args.soft.now in
    let letter = c.hear_before_load-letter.result in
    let heard : c.deref.result.now ≡ map (field_heard settings.dir key None soft) (places_before_load settings.dir letter) =
    c.deref.ensures.0 ∙ c.hear_before_load-letter.ensures.begun.fields
    ∙ ap (λ k. map (field_heard settings.dir k None soft) (places_before_load settings.dir (letter_heard settings c.args.turn soft))) (sym c.requires.keyed)
    ∙ ap (λ l. map (field_heard settings.dir key None soft) (places_before_load settings.dir l)) (sym c.hear_before_load-letter.ensures.letter) in
    let stolen = second_stolen settings.dir key soft in
    c.load_by_front-load.ensures settings.dir key soft heard
    ∙ ap (λ m. load_place letter m stolen) c.mode_at.ensures.mode
    ∙ ap (λ l. load_place l (mode_of settings c.args.turn) stolen) c.hear_before_load-letter.ensures.letter
