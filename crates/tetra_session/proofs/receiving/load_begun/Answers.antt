use Rattle.std.proofs.Common.{◌≡◌, Some, sym, ap, ◌∙◌}
use Rattle.tetra_settings.specs.Slots.{letter_of_byte}
use Rattle.tetra_session.specs.Spots.{load_place}
use Rattle.tetra_session.proofs.Steps.{by_byte}
use Rattle.tetra_session.proofs.receiving.load_begun.Goals as goal

pub returns-in-Some : goal.returns-in-Some
returns-in-Some c = λ read e.
    let found : Some c.in-Some.letter ≡ Some read = sym c.in-Some.is ∙ c.from_byte.ensures ∙ ap letter_of_byte e ∙ by_byte read in
    let same : c.in-Some.letter ≡ read = cc in
    c.load_place.ensures
    ∙ ap (λ l. load_place l c.mode_at.result c.args.second_stolen) same
    ∙ ap (λ m. load_place read m c.args.second_stolen) c.mode_at.ensures.mode

pub returns-in-None : goal.returns-in-None
returns-in-None c = λ read e.
    let found = sym c.in-None.is ∙ c.from_byte.ensures ∙ ap letter_of_byte e ∙ by_byte read in
    absurd cc
