use Rattle.std.proofs.Common.{◌≡◌, length, None, arith, refl, sym, ap, ◌∙◌, subst}
use Rattle.std.proofs.lemmas.List.Elements.{All-same}
use Rattle.std.specs.Prelude.{All}
use Rattle.tetra_session.specs.Fronts.{IsFrontField}
use Rattle.tetra_session.specs.Heard.{letter_heard, field_heard}
use Rattle.tetra_session.specs.Spots.{places_before_load, FitsSpot}
use Rattle.tetra_session.specs.lemmas.Places.{before_fits}
use Rattle.tetra_session.proofs.Answering.{fields_formed}
use Rattle.tetra_session.proofs.WrittenOver.{IsFrontWritten, only_items}
use Rattle.tetra_session.proofs.receiving.hear_before_load.Goals as goal

pub hear_fields-requires-clause-fit : goal.hear_fields-requires-clause-fit
hear_fields-requires-clause-fit c =
    let settings = c.args.settings.now in
    let turn = c.args.turn in
    let right = places_before_load settings.dir (letter_heard settings turn c.args.soft.now) in
    let places : c.deref.result.now ≡ right =
    c.deref.ensures.0 ∙ c.places_before_load-places.ensures ∙ ap (places_before_load settings.dir) c.letter_heard-letter.ensures in
    All-same (FitsSpot settings.dir) c.deref.result.now right places (before_fits settings turn c.args.soft.now c.requires.valid)

pub returns-clause-formed : goal.returns-clause-formed
returns-clause-formed c =
    let settings = c.args.settings.now in
    let key = c.args.key.now in
    let turn = c.args.turn in
    let soft = c.args.soft.now in
    let places = c.places_before_load-places.result.items in
    let bare = field_heard settings.dir key None soft in
    let kept = c.keep_fields.new.fields in
    let written : IsFrontWritten bare kept places c.hear_fields.new.fields = record {
      first_is = c.hear_fields.ensures ∙ rw (c.deref.ensures.0, c.deref_mut.ensures.value) refl;
      room = omega (arith, c.len.ensures.value, c.keep_fields.ensures);
    } in
    let size : length kept.items ≡ length places = omega (arith, c.len.ensures.value, c.keep_fields.ensures) in
    let places_are : places ≡ places_before_load settings.dir (letter_heard settings turn soft) =
    c.places_before_load-places.ensures ∙ ap (places_before_load settings.dir) c.letter_heard-letter.ensures in
    let fit : All (FitsSpot settings.dir) places =
    All-same (FitsSpot settings.dir) places (places_before_load settings.dir (letter_heard settings turn soft)) places_are
    (before_fits settings turn soft c.requires.valid) in
    let long : length soft ≡ 510 = omega arith in
    subst (All IsFrontField) (sym (only_items bare kept places c.hear_fields.new.fields written size))
    (fields_formed c.field_sizes.ensures settings.dir key None soft long tt places fit)
