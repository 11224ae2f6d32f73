use Rattle.std.proofs.Common.{◌≡◌, ◌≢◌, Some, sym, ap, ◌∙◌}
use Rattle.tetra_scramble.specs.Key.{key_of}
use Rattle.tetra_settings.specs.Slots.{mode_of, use_of}
use Rattle.tetra_settings.specs.declared.slots.SlotUse.TheVariants.{Traffic}
use Rattle.tetra_session.specs.Heard.{second_stolen, word_heard}
use Rattle.tetra_session.specs.Time.{depth}
use Rattle.tetra_session.specs.lemmas.FourSteps.{turn_silent}
use Rattle.tetra_session.specs.lemmas.Places.{load_fits}
use Rattle.tetra_session.specs.lemmas.Spread.{no_load_silent}
use Rattle.tetra_session.proofs.GatherLanes.{block_is, lane_is}
use Rattle.tetra_session.proofs.receiving.take_slot.Goals as goal

pub gather-requires-clause-place : goal.gather-requires-clause-place
gather-requires-clause-place g c =
    let settings = c.args.settings.now in
    load_fits settings c.args.turn c.args.soft.now c.requires.valid (second_stolen settings.dir c.args.key.now c.args.soft.now) (Some c.in-Some.load)
    (sym c.in-Some.is ∙ c.requires.load)

pub returns-in-Some-clause-block : goal.returns-in-Some-clause-block
returns-in-Some-clause-block g c = λ history turn h traffic spread.
    let settings = c.args.settings.now in
    let deep : c.depth.result ≡ depth (mode_of settings c.args.turn) = c.depth.ensures.value ∙ ap depth c.mode_at.ensures.mode in
    block_is g.G.Gathers.Stands settings history c.args.soft.now c.args.turn c.args.key.now c.depth.result c.in-Some.load c.args.lane.now
    turn c.requires.keyed deep (sym c.in-Some.is ∙ c.requires.load) h c.gather.new.work.block spread c.gather.ensures.block

pub returns-in-Some-clause-stands : goal.returns-in-Some-clause-stands
returns-in-Some-clause-stands g c = λ history turn h.
    let settings = c.args.settings.now in
    let deep : c.depth.result ≡ depth (mode_of settings c.args.turn) = c.depth.ensures.value ∙ ap depth c.mode_at.ensures.mode in
    lane_is g.G.Gathers.Stands settings history c.args.soft.now c.args.turn c.args.key.now c.depth.result c.in-Some.load c.args.lane.now
    turn c.requires.keyed deep (sym c.in-Some.is ∙ c.requires.load) h c.gather.new.lane g.met.G.Gathers.idle c.gather.ensures.stands c.gather.ensures.still

pub returns-in-None-clause-block : goal.returns-in-None-clause-block
returns-in-None-clause-block g c = λ history turn h traffic spread.
    let settings = c.args.settings.now in
    let silent : use_of settings c.args.turn ≢ Traffic =
    no_load_silent settings c.args.turn c.args.soft.now (mode_of settings c.args.turn) (second_stolen settings.dir c.args.key.now c.args.soft.now)
    (sym c.in-None.is ∙ c.requires.load) in
    absurd (silent (ap (use_of settings) turn ∙ traffic))

pub returns-in-None-clause-stands : goal.returns-in-None-clause-stands
returns-in-None-clause-stands g c = λ history turn h.
    let settings = c.args.settings.now in
    let silent : use_of settings c.args.turn ≢ Traffic =
    no_load_silent settings c.args.turn c.args.soft.now (mode_of settings c.args.turn) (second_stolen settings.dir c.args.key.now c.args.soft.now)
    (sym c.in-None.is ∙ c.requires.load) in
    turn_silent g.G.Gathers.Stands (word_heard settings.dir (key_of settings.colour)) settings c.args.turn history c.args.soft.now c.args.lane.now turn
    g.met.G.Gathers.idle silent h
