use Rattle.std.proofs.Common.{◌≡◌, true, false, refl, sym, ◌∙◌}
use Rattle.tetra_session.specs.Heard.{field_heard, field_of_place, is_spread}
use Rattle.tetra_session.specs.Readers.{read_field}
use Rattle.tetra_session.proofs.fields.read_field.Goals as goal

pub returns-then-is_spread : goal.returns-then-is_spread
unfolding field_of_place read_field field_heard
returns-then-is_spread c =
    let spread : is_spread c.args.place.name ≡ true = sym c.is_spread.ensures ∙ c.if-is_spread.true in
    rw (spread, c.read_block.ensures, c.requires.access) refl

pub returns : goal.returns
unfolding field_of_place read_field field_heard
returns c =
    let once : is_spread c.args.place.name ≡ false = sym c.is_spread.ensures ∙ c.if-is_spread.false in
    rw (once, c.read.ensures, c.hear.ensures.values, c.requires.access) refl
