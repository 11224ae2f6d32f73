use Rattle.std.proofs.Common.{◌≡◌, length, nat_abs, arith, refl}
use Rattle.tetra_bits.specs.declared.soft.TheConstants.{SOFT_MAX}
use Rattle.tetra_settings.specs.Slots.{mode_of}
use Rattle.tetra_session.specs.Heard.{second_stolen}
use Rattle.tetra_session.specs.Spots.{places_of, ArePlaces}
use Rattle.tetra_session.specs.lemmas.Places.{are_places}
use Rattle.tetra_session.proofs.Answering.{reading_is, reading_formed, reading_bounded, all_bounded}
use Rattle.tetra_session.proofs.receiving.read_turn.Goals as goal

pub returns-clause-reading : goal.returns-clause-reading
returns-clause-reading g c = λ history turn h.
    let settings = c.args.settings.now in
    let soft = c.args.soft.now in
    let key = c.args.tables.now.key in
    let letter = c.letter_heard-letter.result in
    let places = places_of settings.dir letter (mode_of settings c.args.turn) (second_stolen settings.dir key soft) in
    reading_is settings history soft c.args.turn c.byte-reading.result letter key c.read_slot.new.work.block places
    turn c.requires.keyed c.letter_heard-letter.ensures c.byte-reading.ensures refl (c.read_slot.ensures.block history turn h)
    c.read_slot.new.fields c.read_slot.ensures.fields

pub returns-clause-well_formed : goal.returns-clause-well_formed
returns-clause-well_formed g c =
    let settings = c.args.settings.now in
    let soft = c.args.soft.now in
    let key = c.args.tables.now.key in
    let letter = c.letter_heard-letter.result in
    let stolen = second_stolen settings.dir key soft in
    let places = places_of settings.dir letter (mode_of settings c.args.turn) stolen in
    let size : length soft ≡ 510 = omega arith in
    reading_formed c.field_sizes.ensures settings key c.read_slot.new.work.block soft size c.read_slot.ensures.size
    letter c.byte-reading.result places c.read_slot.new.fields
    (rw c.letter_heard-letter.ensures (are_places settings c.args.turn soft stolen c.requires.valid)) c.byte-reading.ensures c.read_slot.ensures.fields

pub returns-clause-small : goal.returns-clause-small
returns-clause-small g c =
    let settings = c.args.settings.now in
    let soft = c.args.soft.now in
    let key = c.args.tables.now.key in
    let letter = c.letter_heard-letter.result in
    let stolen = second_stolen settings.dir key soft in
    let places = places_of settings.dir letter (mode_of settings c.args.turn) stolen in
    let are : ArePlaces settings.dir letter places = rw c.letter_heard-letter.ensures (are_places settings c.args.turn soft stolen c.requires.valid) in
    let size : length soft ≡ 510 = omega arith in
    rw c.read_slot.ensures.fields
    (all_bounded c.field_sizes.ensures settings key c.read_slot.new.work.block soft size c.read_slot.ensures.size (nat_abs SOFT_MAX)
    c.block_is_soft.ensures c.requires.soft places are.fit)

pub returns-clause-bounded : goal.returns-clause-bounded
returns-clause-bounded g c = λ history turn h top earlier last.
    let settings = c.args.settings.now in
    let soft = c.args.soft.now in
    let key = c.args.tables.now.key in
    let letter = c.letter_heard-letter.result in
    let stolen = second_stolen settings.dir key soft in
    let places = places_of settings.dir letter (mode_of settings c.args.turn) stolen in
    let size : length soft ≡ 510 = omega arith in
    reading_bounded settings history soft c.args.turn c.byte-reading.result letter key c.read_slot.new.work.block places
    turn c.requires.keyed c.letter_heard-letter.ensures c.byte-reading.ensures refl (c.read_slot.ensures.block history turn h)
    c.field_sizes.ensures size c.read_slot.new.fields.items
    (rw c.letter_heard-letter.ensures (are_places settings c.args.turn soft stolen c.requires.valid)) c.read_slot.ensures.fields
    top earlier last
