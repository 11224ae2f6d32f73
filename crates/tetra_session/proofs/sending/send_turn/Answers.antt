use Rattle.std.proofs.Common.{◌≡◌, sym, ap, refl, ◌∙◌, Bor, Option, Some, None}
use Rattle.std.specs.Option.{option_copied, option_map}
use Rattle.tetra_bits.specs.declared.bits.Bits.{Bits}
use Rattle.tetra_bursts.specs.declared.table.Train.TheVariants.{N, P}
use Rattle.tetra_channels.specs.Channels.{half, type5_bits}
use Rattle.tetra_settings.specs.Slots.{timeslot_of, mode_of}
use Rattle.tetra_session.specs.Sent.{Normal, Synchronisation, Subslots, burst_of, blocks_sent, subslot_bits, whole, load_of, load_word}
use Rattle.tetra_session.proofs.Fitting.{access_there, fits_traffic, fits_stolen, fits_both, full_no_traffic, halves_no_traffic, sync_no_traffic, subslots_no_traffic}
use Rattle.tetra_session.proofs.Lanes.{lane_silent, lane_taken, lane_now}
use Rattle.tetra_session.proofs.SlotBursts.{slot_is, slot_of_sync, slot_of_subs}
use Rattle.tetra_session.proofs.sending.send_turn.Goals as goal

pub load_word-word-requires-clause-carries : goal.load_word-word-requires-clause-carries
load_word-word-requires-clause-carries g c =
    let settings = c.args.settings.now in
    rw c.mode_at-mode.ensures.mode (fits_traffic settings c.args.turn c.args.blocks.now c.requires.fits c.in-Traffic.load c.in-Traffic.is).1

pub whole-requires-in-Traffic-clause-access : goal.whole-requires-in-Traffic-clause-access
whole-requires-in-Traffic-clause-access g c = λ down.
    let there = access_there c.args.settings.now.dir c.args.blocks.now.aach c.requires.fits.access down in
    rw there.1 at c.access-access.ensures.size

pub returns-in-Full-clause-slot : goal.returns-in-Full-clause-slot
returns-in-Full-clause-slot g c = λ history turn h.
    let settings = c.args.settings.now in
    let key = c.args.key.now in
    let mode = mode_of settings c.args.turn in
    let before = blocks_sent settings (timeslot_of settings.at c.args.turn) history in
    c.whole.ensures ∙ slot_is settings history c.args.blocks.now c.args.turn key c.access-access.result turn c.requires.keyed c.access-access.ensures.bits
    _ (ap (whole N) c.encode.ensures.bits ∙ ap (burst_of key mode before) (sym c.in-Full.is))

pub returns-in-Halves-clause-slot : goal.returns-in-Halves-clause-slot
returns-in-Halves-clause-slot g c = λ history turn h.
    let settings = c.args.settings.now in
    let key = c.args.key.now in
    c.halves.ensures ∙ slot_is settings history c.args.blocks.now c.args.turn key c.access-access.result turn c.requires.keyed c.access-access.ensures.bits
    (Normal P (type5_bits half key c.in-Halves.first) (type5_bits half key c.in-Halves.second)) (rw c.in-Halves.is refl)

pub returns-in-Sync-clause-slot : goal.returns-in-Sync-clause-slot
returns-in-Sync-clause-slot g c = λ history turn h.
    let settings = c.args.settings.now in
    let key = c.args.key.now in
    c.sync_down.ensures.value ∙ sym (slot_of_sync settings.dir c.access-access.result c.encode-in-Sync.result c.encode-in-Sync-2.result)
    ∙ slot_is settings history c.args.blocks.now c.args.turn key c.access-access.result turn c.requires.keyed c.access-access.ensures.bits
    (Synchronisation c.encode-in-Sync.result c.encode-in-Sync-2.result) (rw (c.in-Sync.is, c.encode-in-Sync.ensures.bits, c.encode-in-Sync-2.ensures.bits, c.zero_key.ensures.value) refl)

pub returns-in-Traffic-clause-slot : goal.returns-in-Traffic-clause-slot
returns-in-Traffic-clause-slot g c = λ history turn h.
    let settings = c.args.settings.now in
    let key = c.args.key.now in
    let mode = c.mode_at-mode.result in
    let load = c.in-Traffic.load in
    let before = blocks_sent settings (timeslot_of settings.at c.args.turn) history in
    let kept = lane_now g.S.Spreads.Stands settings c.args.turn history c.args.blocks.now c.args.lane.now turn h c.mode_at-mode.result c.mode_at-mode.ensures.mode in
    c.whole-in-Traffic.ensures ∙ slot_is settings history c.args.blocks.now c.args.turn key c.access-access.result turn c.requires.keyed c.access-access.ensures.bits
    _ (ap (whole N) (c.load_word-word.ensures.word before kept) ∙ (ap (λ m. whole N (load_word key m before load)) c.mode_at-mode.ensures.mode ∙ ap (burst_of key (mode_of settings c.args.turn) before) (sym c.in-Traffic.is)))

-- a subslot that is read through a loan
copied : (sub : Option (Bor Bits)) → option_map (λ bits. bits.now) sub ≡ option_copied sub
copied None = refl
copied (Some bits) = refl

pub returns-in-Control-clause-slot : goal.returns-in-Control-clause-slot
returns-in-Control-clause-slot g c = λ history turn h.
    let settings = c.args.settings.now in
    let key = c.args.key.now in
    let first = subslot_bits key (option_map (λ bits. bits.now) c.as_ref.result) in
    let second = subslot_bits key (option_map (λ bits. bits.now) c.as_ref-in-Control.result) in
    let a : option_map (λ bits. bits.now) c.as_ref.result ≡ c.in-Control.first = copied c.as_ref.result ∙ c.as_ref.ensures.value in
    let b : option_map (λ bits. bits.now) c.as_ref-in-Control.result ≡ c.in-Control.second = copied c.as_ref-in-Control.result ∙ c.as_ref-in-Control.ensures.value in
    c.control.ensures ∙ sym (slot_of_subs settings.dir c.access-access.result first second)
    ∙ slot_is settings history c.args.blocks.now c.args.turn key c.access-access.result turn c.requires.keyed c.access-access.ensures.bits
    (Subslots first second) (rw (a, b, c.in-Control.is) refl)

pub returns-in-Full-clause-stands : goal.returns-in-Full-clause-stands
returns-in-Full-clause-stands g c = λ history turn h.
    let settings = c.args.settings.now in
    lane_silent g.S.Spreads.Stands settings c.args.turn history c.args.blocks.now c.args.lane.now turn h g.met.S.Spreads.idle (full_no_traffic settings c.args.turn c.args.blocks.now c.requires.fits c.in-Full.block c.in-Full.is)

pub returns-in-Halves-clause-stands : goal.returns-in-Halves-clause-stands
returns-in-Halves-clause-stands g c = λ history turn h.
    let settings = c.args.settings.now in
    lane_silent g.S.Spreads.Stands settings c.args.turn history c.args.blocks.now c.args.lane.now turn h g.met.S.Spreads.idle (halves_no_traffic settings c.args.turn c.args.blocks.now c.requires.fits c.in-Halves.first c.in-Halves.second c.in-Halves.is)

pub returns-in-Sync-clause-stands : goal.returns-in-Sync-clause-stands
returns-in-Sync-clause-stands g c = λ history turn h.
    let settings = c.args.settings.now in
    lane_silent g.S.Spreads.Stands settings c.args.turn history c.args.blocks.now c.args.lane.now turn h g.met.S.Spreads.idle (sync_no_traffic settings c.args.turn c.args.blocks.now c.requires.fits c.in-Sync.sync c.in-Sync.half c.in-Sync.is)

pub returns-in-Traffic-clause-stands : goal.returns-in-Traffic-clause-stands
returns-in-Traffic-clause-stands g c = λ history turn h.
    let settings = c.args.settings.now in
    let traffic = fits_traffic settings c.args.turn c.args.blocks.now c.requires.fits c.in-Traffic.load c.in-Traffic.is in
    lane_taken g.S.Spreads.Stands settings c.args.turn history c.args.blocks.now c.args.lane.now turn h c.mode_at-mode.result c.mode_at-mode.ensures.mode
    c.in-Traffic.load c.load_word-word.new.lane traffic.0 (ap load_of c.in-Traffic.is) c.load_word-word.ensures.stands

pub returns-in-Control-clause-stands : goal.returns-in-Control-clause-stands
returns-in-Control-clause-stands g c = λ history turn h.
    let settings = c.args.settings.now in
    lane_silent g.S.Spreads.Stands settings c.args.turn history c.args.blocks.now c.args.lane.now turn h g.met.S.Spreads.idle (subslots_no_traffic settings c.args.turn c.args.blocks.now c.requires.fits c.in-Control.first c.in-Control.second c.in-Control.is)

pub returns-in-Stolen-clause-slot : goal.returns-in-Stolen-clause-slot
returns-in-Stolen-clause-slot g c = λ history turn h.
    let settings = c.args.settings.now in
    let key = c.args.key.now in
    let load = c.in-Stolen.load in
    let before = blocks_sent settings (timeslot_of settings.at c.args.turn) history in
    let kept = lane_now g.S.Spreads.Stands settings c.args.turn history c.args.blocks.now c.args.lane.now turn h c.mode_at-mode.result c.mode_at-mode.ensures.mode in
    c.normal.ensures ∙ slot_is settings history c.args.blocks.now c.args.turn key c.access-access.result turn c.requires.keyed c.access-access.ensures.bits
    (Normal P c.encode-first.result c.rest_word-rest.result)
    (rw (c.in-Stolen.is, c.encode-first.ensures.bits, c.rest_word-rest.ensures.word before kept, c.mode_at-mode.ensures.mode) refl)

pub returns-in-Stolen-clause-stands : goal.returns-in-Stolen-clause-stands
returns-in-Stolen-clause-stands g c = λ history turn h.
    let settings = c.args.settings.now in
    let traffic = fits_stolen settings c.args.turn c.args.blocks.now c.requires.fits c.in-Stolen.first c.in-Stolen.load c.in-Stolen.is in
    lane_taken g.S.Spreads.Stands settings c.args.turn history c.args.blocks.now c.args.lane.now turn h c.mode_at-mode.result c.mode_at-mode.ensures.mode
    c.in-Stolen.load c.rest_word-rest.new.lane traffic.0 (ap load_of c.in-Stolen.is) c.rest_word-rest.ensures.stands

pub rest_word-rest-requires-clause-carries : goal.rest_word-rest-requires-clause-carries
rest_word-rest-requires-clause-carries g c =
    let settings = c.args.settings.now in
    rw c.mode_at-mode.ensures.mode (fits_stolen settings c.args.turn c.args.blocks.now c.requires.fits c.in-Stolen.first c.in-Stolen.load c.in-Stolen.is).1

pub returns-in-Both-clause-slot : goal.returns-in-Both-clause-slot
returns-in-Both-clause-slot g c = λ history turn h.
    let settings = c.args.settings.now in
    let key = c.args.key.now in
    c.halves-in-Both.ensures ∙ slot_is settings history c.args.blocks.now c.args.turn key c.access-access.result turn c.requires.keyed c.access-access.ensures.bits
    (Normal P (type5_bits half key c.in-Both.first) (type5_bits half key c.in-Both.second)) (rw c.in-Both.is refl)

pub returns-in-Both-clause-stands : goal.returns-in-Both-clause-stands
returns-in-Both-clause-stands g c = λ history turn h.
    let settings = c.args.settings.now in
    let traffic = fits_both settings c.args.turn c.args.blocks.now c.requires.fits c.in-Both.first c.in-Both.second c.in-Both.load c.in-Both.is in
    lane_taken g.S.Spreads.Stands settings c.args.turn history c.args.blocks.now c.args.lane.now turn h c.mode_at-mode.result c.mode_at-mode.ensures.mode
    c.in-Both.load c.take_load.new.lane traffic.0 (ap load_of c.in-Both.is) c.take_load.ensures
