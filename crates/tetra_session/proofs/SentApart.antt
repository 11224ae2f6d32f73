-- What is sent in a timeslot depends on no other timeslot.
use Rattle.std.proofs.Common.{ℕ, ◌≡◌, List, length, map, refl, ap, sym, ◌∙◌}
use Rattle.tetra_scramble.specs.Key.{key_of}
use Rattle.tetra_settings.specs.Slots.{timeslot_of, mode_of}
use Rattle.tetra_settings.specs.declared.types.Settings.{Settings}
use Rattle.tetra_settings.specs.declared.blocks.SlotBlocks.{SlotBlocks}
use Rattle.tetra_session.specs.Apart.{AgreeOn, SentApart}
use Rattle.tetra_session.specs.Sent.{slot_of, access_of, burst_of, block_sent, blocks_sent, slot_written}
use Rattle.tetra_session.specs.Time.{timeslot_mode, own}
use Rattle.tetra_session.specs.lemmas.Same.{apart}

-- a slot by the number of its timeslot
written_at : (settings : Settings) (history : List SlotBlocks) (blocks : SlotBlocks) (t c : ℕ) → length history ≡ t → timeslot_of settings.at t ≡ c
    → slot_written settings history blocks
    ≡ slot_of settings.dir (access_of settings.rows.0 (key_of settings.colour) blocks.aach) (burst_of (key_of settings.colour) (timeslot_mode settings c) (blocks_sent settings c history) blocks.body)
unfolding slot_written mode_of
written_at settings history blocks t c l e = rw (l, e) refl

written_same : (c : ℕ) (s z : Settings) → AgreeOn c s z → (t : ℕ) → timeslot_of s.at t ≡ c → (history other : List SlotBlocks) (blocks : SlotBlocks) → length history ≡ t → length other ≡ t
    → own s.at c history ≡ own z.at c other → slot_written s history blocks ≡ slot_written z other blocks
written_same c s z agree t here history other blocks lh lo owns =
    let there : timeslot_of z.at t ≡ c = ap (λ a. timeslot_of a t) (sym agree.at) ∙ here in
    let sent : blocks_sent s c history ≡ blocks_sent z c other = ap (λ m. map (block_sent m) (own s.at c history)) agree.mode ∙ ap (map (block_sent (timeslot_mode z c))) owns in
    written_at s history blocks t c lh here
    ∙ ap (λ before. slot_of s.dir (access_of s.rows.0 (key_of s.colour) blocks.aach) (burst_of (key_of s.colour) (timeslot_mode s c) before blocks.body)) sent
    ∙ ap (λ mode. slot_of s.dir (access_of s.rows.0 (key_of s.colour) blocks.aach) (burst_of (key_of s.colour) mode (blocks_sent z c other) blocks.body)) agree.mode
    ∙ ap (λ colour. slot_of s.dir (access_of s.rows.0 (key_of colour) blocks.aach) (burst_of (key_of colour) (timeslot_mode z c) (blocks_sent z c other) blocks.body)) agree.colour
    ∙ ap (λ rows. slot_of s.dir (access_of rows.0 (key_of z.colour) blocks.aach) (burst_of (key_of z.colour) (timeslot_mode z c) (blocks_sent z c other) blocks.body)) agree.rows
    ∙ ap (λ dir. slot_of dir (access_of z.rows.0 (key_of z.colour) blocks.aach) (burst_of (key_of z.colour) (timeslot_mode z c) (blocks_sent z c other) blocks.body)) agree.dir
    ∙ sym (written_at z other blocks t c lo there)

pub sent_apart : SentApart
sent_apart = apart slot_written written_same
