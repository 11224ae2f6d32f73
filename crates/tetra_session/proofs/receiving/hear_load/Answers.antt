use Rattle.std.proofs.Common.{◌≡◌, length, map, None, arith, sym, ap, ◌∙◌, refl}
use Rattle.tetra_settings.specs.Slots.{mode_of}
use Rattle.tetra_session.specs.Heard.{letter_heard, second_stolen, field_heard}
use Rattle.tetra_session.specs.Spots.{places_before_load, places_of, with_load}
use Rattle.tetra_session.specs.lemmas.Places.{are_places}
use Rattle.tetra_session.specs.lemmas.Spread.{before_same}
use Rattle.tetra_session.proofs.Answering.{front_is, front_formed}
use Rattle.tetra_session.proofs.Steps.{load_added}
use Rattle.tetra_session.proofs.receiving.hear_load.Goals as goal

pub returns-clause-front : goal.returns-clause-front
returns-clause-front g c = λ history turn h.
    let settings = c.args.settings.now in
    let soft = c.args.soft.now in
    let key = c.args.key.now in
    let block = c.take_slot.new.work.block in
    let letter = letter_heard settings c.args.turn soft in
    let before = places_before_load settings.dir letter in
    let places = places_of settings.dir letter (mode_of settings c.args.turn) (second_stolen settings.dir key soft) in
    let heard = field_heard settings.dir key block soft in
    let old : c.args.front.now.fields.items ≡ map heard before =
    c.requires.begun.fields ∙ ap (λ k. map (field_heard settings.dir k None soft) before) (sym c.requires.keyed)
    ∙ before_same settings.dir key soft None block settings.dir letter in
    let all : c.add_load.new.fields.items ≡ map heard places =
    load_added heard c.args.load c.args.front.now.fields.items c.add_load.new.fields.items c.add_load.ensures before old
    ∙ ap (λ load. map heard (with_load before load)) c.requires.load in
    front_is settings history soft c.args.turn c.args.front.now.letter letter key block places
    turn c.requires.keyed refl c.requires.begun.letter refl (c.take_slot.ensures.block history turn h)
    c.add_load.new.fields all

pub returns-clause-well_formed : goal.returns-clause-well_formed
returns-clause-well_formed g c =
    let settings = c.args.settings.now in
    let soft = c.args.soft.now in
    let key = c.args.key.now in
    let block = c.take_slot.new.work.block in
    let letter = letter_heard settings c.args.turn soft in
    let stolen = second_stolen settings.dir key soft in
    let before = places_before_load settings.dir letter in
    let places = places_of settings.dir letter (mode_of settings c.args.turn) stolen in
    let heard = field_heard settings.dir key block soft in
    let old : c.args.front.now.fields.items ≡ map heard before =
    c.requires.begun.fields ∙ ap (λ k. map (field_heard settings.dir k None soft) before) (sym c.requires.keyed)
    ∙ before_same settings.dir key soft None block settings.dir letter in
    let all : c.add_load.new.fields.items ≡ map heard places =
    load_added heard c.args.load c.args.front.now.fields.items c.add_load.new.fields.items c.add_load.ensures before old
    ∙ ap (λ load. map heard (with_load before load)) c.requires.load in
    let size : length soft ≡ 510 = omega arith in
    front_formed c.field_sizes.ensures settings.dir key block soft size c.take_slot.ensures.size
    letter c.args.front.now.letter places c.add_load.new.fields
    (are_places settings c.args.turn soft stolen c.requires.valid) c.requires.begun.letter all
