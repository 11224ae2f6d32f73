-- What an undamaged slot of protected data brings to its timeslot.
use Rattle.std.proofs.Common.{ℕ, ℤ, ◌≡◌, ◌<◌, Bool, true, false, List, [], ◌∷◌, ◌++◌, length, take, drop, refl, ap, sym, subst, ◌∙◌}
use Rattle.std.proofs.lemmas.Bool.{and_parts, eqb-true, ltb-true}
use Rattle.tetra_bits.specs.Numbered.{length-numbered}
use Rattle.tetra_bits.specs.Undamaged.{IsUndamaged, IsNoneWrong}
use Rattle.tetra_bursts.specs.Fields.{second_half}
use Rattle.tetra_bursts.specs.declared.table.Train.TheVariants.{N, P as PTrain}
use Rattle.tetra_channels.specs.Channels.{Channel, half, type5_bits, word_bits, front_values}
use Rattle.tetra_diag.specs.Diagonal.{spread_word}
use Rattle.tetra_scramble.specs.Key.{key_of}
use Rattle.tetra_settings.specs.Blocks.{Fits, letter_of}
use Rattle.tetra_settings.specs.Readings.{traffic_name}
use Rattle.tetra_settings.specs.Slots.{timeslot_of, frame_of, use_of, use_in, mode_of}
use Rattle.tetra_settings.specs.declared.types.Dir.{Dir}
use Rattle.tetra_settings.specs.declared.types.Mode.{Mode}
use Rattle.tetra_settings.specs.declared.types.Settings.{Settings}
use Rattle.tetra_settings.specs.declared.slots.Letter.TheVariants.{T, P}
use Rattle.tetra_settings.specs.declared.slots.SlotUse.TheVariants.{Traffic as TrafficUse}
use Rattle.tetra_settings.specs.declared.blocks.Body.{Body}
use Rattle.tetra_settings.specs.declared.blocks.Body.TheVariants.{Full, Halves, Sync, Traffic, Stolen, Both, Control}
use Rattle.tetra_settings.specs.declared.blocks.SlotBlocks.{SlotBlocks}
use Rattle.tetra_settings.specs.declared.readings.FieldName.{FieldName}
use Rattle.tetra_settings.specs.declared.readings.FieldName.TheVariants.{Whole, Single}
use Rattle.tetra_session.specs.Heard.{traffic_letter, second_stolen, key_for, values_there, word_heard, place_values}
use Rattle.tetra_session.specs.Readers.{reader, heard_by}
use Rattle.tetra_session.specs.Sent.{KeepsSlot, KeepsSlotOf, Normal, access_in, load_of, rest_word, data_block, blocks_sent, burst_of, whole}
use Rattle.tetra_session.specs.Spots.{place, load_place, is_downlink, data_rest, rest_spot, spot_values}
use Rattle.tetra_session.specs.Time.{timeslot_mode, depth, counts}
use Rattle.tetra_session.specs.declared.spots.Spot.{Spot}
use Rattle.tetra_session.specs.declared.spots.Spot.TheVariants.{WholeSlot}
use Rattle.tetra_session.specs.lemmas.NoneWrong.{undamaged_none_wrong}
use Rattle.tetra_session.proofs.Fitting.{fits_both, full_no_traffic, halves_no_traffic, sync_no_traffic, subslots_no_traffic}
use Rattle.tetra_session.proofs.DataModes.{Laws, IsSpread}
use Rattle.tetra_session.proofs.FittingData.{CarriesLoad, fits_load}
use Rattle.tetra_session.proofs.TrafficKept.{traffic_kept, n_may, p_may, joined, rest_kept, stolen_there}
use Rattle.tetra_session.proofs.WordSizes.{coded_size, word_size, first_size, second_size}

-- a slot of a timeslot of protected data
pub record IsOwn (settings : Settings) (c t : ℕ) : Type 0 where
  pub place : timeslot_of settings.at t ≡ c
  pub mode : mode_of settings t ≡ timeslot_mode settings c
  pub carries : use_of settings t ≡ TrafficUse

spread_length : (n : ℕ) (blocks : List (List Bool)) → length (spread_word n blocks) ≡ 432
unfolding spread_word
spread_length n blocks = length-numbered _ 432

-- a body of which nothing was stolen
body_whole : (body : Body) → letter_of body ≡ T → body ≡ Traffic (load_of body)
body_whole (Traffic load) h = refl
body_whole (Full block) h = absurd cc
body_whole (Halves first second) h = absurd cc
body_whole (Sync sync second) h = absurd cc
body_whole (Stolen first load) h = absurd cc
body_whole (Both first second load) h = absurd cc
body_whole (Control first second) h = absurd cc

-- what a slot brings to its timeslot, by its letter
module _ (dir : Dir) (key : List Bool) (mode : Mode) (soft : List ℤ) (channel : Channel) (spread : IsSpread mode channel) where
  values_at : (name : FieldName) (spot : Spot) → name ≡ traffic_name mode Whole → place_values dir key soft (place name spot) ≡ front_values channel key (spot_values dir spot soft)
  unfolding place_values
  values_at name spot e =
      ap (λ n. heard_by (reader n) (key_for key n) (spot_values dir spot soft)) e ∙ spread.heard key (spot_values dir spot soft)

  whole_heard : traffic_letter dir soft ≡ T → word_heard dir key mode soft ≡ front_values channel key (spot_values dir WholeSlot soft)
  unfolding word_heard
  whole_heard letter =
      ap (λ l. values_there dir key soft (load_place l mode (second_stolen dir key soft))) letter ∙ values_at (traffic_name mode Whole) WholeSlot refl

  rest_heard : traffic_letter dir soft ≡ P → word_heard dir key mode soft ≡ front_values channel key (spot_values dir (data_rest (second_stolen dir key soft)) soft)
  unfolding word_heard
  rest_heard letter =
      ap (λ l. values_there dir key soft (load_place l mode (second_stolen dir key soft))) letter
      ∙ values_at (traffic_name mode Single) (rest_spot mode (second_stolen dir key soft)) spread.one_name
      ∙ ap (λ spot. front_values channel key (spot_values dir spot soft)) (spread.rest_there (second_stolen dir key soft))

module _ (laws : Laws) (settings : Settings) (c : ℕ) (channel : Channel) (spread : IsSpread (timeslot_mode settings c) channel) where
  abbrev key : List Bool
  key = key_of settings.colour

  abbrev mode : Mode
  mode = timeslot_mode settings c

  pub own_slot : (t : ℕ) → counts settings.at c t ≡ true → IsOwn settings c t
  unfolding use_of mode_of
  own_slot t h =
      let p = and_parts _ _ h in
      let e : timeslot_of settings.at t ≡ c = eqb-true (timeslot_of settings.at t) c p.0 in
      let low : frame_of settings.at t < 18 = ltb-true (frame_of settings.at t) 18 p.1 in
      let m : mode_of settings t ≡ timeslot_mode settings c = ap (timeslot_mode settings) e in
      record { place = e; mode = m; carries = ap (λ here. use_in here (frame_of settings.at t)) m ∙ spread.frame (frame_of settings.at t) low }

  pub own_load : (t : ℕ) (x : SlotBlocks) → IsOwn settings c t → Fits settings t x → CarriesLoad mode (letter_of x.body) (load_of x.body)
  own_load t x o fits =
      subst (λ m. CarriesLoad m (letter_of x.body) (load_of x.body)) o.mode (fits_load settings t x fits o.carries x.body refl)

  -- an undamaged slot of the timeslot
  module _ (t : ℕ) (before : List SlotBlocks) (x : SlotBlocks) (soft : List ℤ) (long : length before ≡ t) (o : IsOwn settings c t) (fits : Fits settings t x)
      (kept : KeepsSlot settings before x soft) where
    abbrev sent : List (List Bool)
    sent = blocks_sent settings c before

    -- its slot word, in the order of type-3 bits, and as it is sent
    abbrev word : List Bool → List Bool
    word load = spread_word (depth mode) (sent ++ data_block mode load ∷ [])

    abbrev word_sent : List Bool → List Bool
    word_sent load = word_bits channel key (word load)

    abbrev heard_here : List ℤ
    heard_here = word_heard settings.dir key mode soft

    word_long : (load : List Bool) → length (word load) ≡ channel.plan.sent
    word_long load = spread_length (depth mode) (sent ++ data_block mode load ∷ []) ∙ sym spread.sent

    sent_long : (load : List Bool) → length (word_sent load) ≡ 432
    sent_long load = word_size channel key (word load) ∙ spread.sent

    kept_as : (body : Body) → x.body ≡ body → KeepsSlotOf settings.dir (access_in settings x) (burst_of key mode sent body) soft
    unfolding KeepsSlot
    kept_as body e =
        let at_mode : mode_of settings (length before) ≡ mode = ap (mode_of settings) long ∙ o.mode in
        let at_place : timeslot_of settings.at (length before) ≡ c = ap (timeslot_of settings.at) long ∙ o.place in
        let one = subst (λ b. KeepsSlotOf settings.dir (access_in settings x) (burst_of key (mode_of settings (length before)) (blocks_sent settings (timeslot_of settings.at (length before)) before) b) soft) e kept in
        let two = subst (λ m. KeepsSlotOf settings.dir (access_in settings x) (burst_of key m (blocks_sent settings (timeslot_of settings.at (length before)) before) body) soft) at_mode one in
        subst (λ k. KeepsSlotOf settings.dir (access_in settings x) (burst_of key mode (blocks_sent settings k before) body) soft) at_place two

    -- nothing was stolen
    slot_whole : (load : List Bool) → x.body ≡ Traffic load → IsUndamaged (word load) heard_here
    slot_whole load e =
        let w : List Bool = word_sent load in
        let keeps = subst (λ bits. KeepsSlotOf settings.dir (access_in settings x) (whole N bits) soft) (spread.word key sent load) (kept_as (Traffic load) e) in
        let parts = traffic_kept laws.fields laws.kinds settings.dir settings.rows.0 key x.aach N (take 216 w) (drop 216 w) soft fits.access (n_may settings.dir)
        (first_size w (sent_long load)) (second_size w (sent_long load)) keeps in
        let arrived = spread.laws.arrives key (word load) (spot_values settings.dir WholeSlot soft) (word_long load) (joined w (sent_long load) _ _ parts.block_1 parts.block_2) in
        subst (λ values. IsUndamaged (word load) values) (sym (whole_heard settings.dir key mode soft channel spread parts.letter)) arrived

    -- where the first half is stolen, no value of what is left has the wrong sign
    slot_rest : (first second load : List Bool) → KeepsSlotOf settings.dir (access_in settings x) (Normal PTrain (type5_bits half key first) second) soft → length second ≡ 216
        → (IsUndamaged second (second_half (is_downlink settings.dir) soft) → second_stolen settings.dir key soft ≡ false → IsUndamaged (drop 216 (word_sent load)) (second_half (is_downlink settings.dir) soft))
        → IsNoneWrong (word load) heard_here
    slot_rest first second load keeps size means =
        let w : List Bool = word_sent load in
        let parts = traffic_kept laws.fields laws.kinds settings.dir settings.rows.0 key x.aach PTrain (type5_bits half key first) second soft fits.access (p_may settings.dir)
        (coded_size half key first) size keeps in
        let stolen : Bool = second_stolen settings.dir key soft in
        let left : IsNoneWrong w (spot_values settings.dir (data_rest stolen) soft) = rest_kept w (sent_long load) settings.dir soft stolen (means parts.block_2) in
        let arrived = spread.laws.none_wrong_arrives key (word load) (spot_values settings.dir (data_rest stolen) soft) (word_long load) left in
        subst (λ values. IsNoneWrong (word load) values) (sym (rest_heard settings.dir key mode soft channel spread parts.letter)) arrived

    slot_first_stolen : (first load : List Bool) → x.body ≡ Stolen first load → IsNoneWrong (word load) heard_here
    slot_first_stolen first load e =
        let w : List Bool = word_sent load in
        let rest_is : rest_word key mode sent load ≡ drop 216 w = spread.rest key sent load ∙ ap (drop 216) (spread.word key sent load) in
        let keeps = subst (λ bits. KeepsSlotOf settings.dir (access_in settings x) (Normal PTrain (type5_bits half key first) bits) soft) rest_is (kept_as (Stolen first load) e) in
        slot_rest first (drop 216 w) load keeps (second_size w (sent_long load)) (λ u whole. u)

    slot_both_stolen : (first second load : List Bool) → x.body ≡ Both first second load → IsNoneWrong (word load) heard_here
    slot_both_stolen first second load e =
        let size = (fits_both settings t x fits first second load e).3 in
        slot_rest first (type5_bits half key second) load (kept_as (Both first second load) e) (coded_size half key second)
        (λ u whole. absurd (let clash : true ≡ false = sym (stolen_there laws.half_read settings.dir key second soft size u) ∙ whole in cc))

    slot_by_body : (body : Body) → x.body ≡ body → IsNoneWrong (word (load_of body)) heard_here
    slot_by_body (Traffic load) e = undamaged_none_wrong (word load) heard_here (slot_whole load e)
    slot_by_body (Stolen first load) e = slot_first_stolen first load e
    slot_by_body (Both first second load) e = slot_both_stolen first second load e
    slot_by_body (Full block) e = absurd (full_no_traffic settings t x fits block e o.carries)
    slot_by_body (Halves first second) e = absurd (halves_no_traffic settings t x fits first second e o.carries)
    slot_by_body (Sync sync second) e = absurd (sync_no_traffic settings t x fits sync second e o.carries)
    slot_by_body (Control first second) e = absurd (subslots_no_traffic settings t x fits first second e o.carries)

    -- the word of the slot: no value has the wrong sign, and it is undamaged where nothing was stolen
    pub slot_none_wrong : IsNoneWrong (word (load_of x.body)) heard_here
    slot_none_wrong = slot_by_body x.body refl

    pub slot_undamaged : letter_of x.body ≡ T → IsUndamaged (word (load_of x.body)) heard_here
    slot_undamaged letter = slot_whole (load_of x.body) (body_whole x.body letter)
