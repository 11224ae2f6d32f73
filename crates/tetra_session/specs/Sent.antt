-- What a sender sends, and what it stands for.
use Rattle.std.specs.Prelude.{◌≡◌, ℕ, Bool, List, [], ◌∷◌, ◌++◌, length, take, drop, ℤ, None, Some}
use Rattle.std.specs.declared.option.Option.{Option}
use Rattle.tetra_bursts.specs.Arrives.{KeepsNormalDown, KeepsSyncDown, KeepsNormalUp, KeepsControlUp}
use Rattle.tetra_bursts.specs.Bursts.{normal_down_slot, sync_down_slot, normal_up_slot, control_up_slot}
use Rattle.tetra_bursts.specs.declared.table.Train.{Train}
use Rattle.tetra_bursts.specs.declared.table.Train.TheVariants.{N, P as PTrain}
use Rattle.tetra_channels.specs.Channels.{bsch, hu, half, full, data48, data24, type3_bits, type5_bits, word_bits, raw_bits, access_bits}
use Rattle.tetra_diag.specs.Diagonal.{spread_word, SpreadStands}
use Rattle.tetra_scramble.specs.Flips.{flipped}
use Rattle.tetra_scramble.specs.Key.{key_of, zero_key_bits}
use Rattle.tetra_settings.specs.Slots.{timeslot_of, mode_of}
use Rattle.tetra_settings.specs.declared.types.Dir.{Dir}
use Rattle.tetra_settings.specs.declared.types.Dir.TheVariants.{Dl, Ul}
use Rattle.tetra_settings.specs.declared.types.Mode.{Mode}
use Rattle.tetra_settings.specs.declared.types.Mode.TheVariants.{Sig, Cb, D72, D48, D24, Speech}
use Rattle.tetra_settings.specs.declared.types.Settings.{Settings}
use Rattle.tetra_settings.specs.declared.blocks.Body.{Body}
use Rattle.tetra_settings.specs.declared.blocks.Body.TheVariants.{Full, Halves, Sync, Traffic, Stolen, Both, Control}
use Rattle.tetra_settings.specs.declared.blocks.SlotBlocks.{SlotBlocks}
use Rattle.tetra_speech.specs.Words.{whole_type4, half_type4}
use Rattle.tetra_session.specs.Four.{all_brought, FourStand, TurnStands}
use Rattle.tetra_session.specs.Time.{span_slots}
use Rattle.tetra_session.specs.declared.sender.Sender.{Sender}
use Rattle.tetra_session.specs.declared.spreading.SpreadLane.{SpreadLane}
use Rattle.tetra_session.specs.declared.spreading.SpreadLane.TheVariants.{Still, One, Four, Eight}

-- the burst of a slot with the type-5 bits that it carries, but for the access field: a training sequence, block 1 and
-- block 2; the BSCH and block 2; or two subslots, where each is sent
pub data SlotBurst : Type 0 where
  Normal : Train → List Bool → List Bool → SlotBurst
  Synchronisation : List Bool → List Bool → SlotBurst
  Subslots : Option (List Bool) → Option (List Bool) → SlotBurst

-- a normal burst whose blocks are the halves of a word of 432 bits
abbrev pub whole : Train → List Bool → SlotBurst
whole train word = Normal train (take 216 word) (drop 216 word)

-- the load of a traffic slot
abbrev pub load_of : Body → List Bool
load_of (Full block) = []
load_of (Halves first second) = []
load_of (Sync sync second) = []
load_of (Traffic load) = load
load_of (Stolen first load) = load
load_of (Both first second load) = load
load_of (Control first second) = []

-- the type-3 bits of a load of protected data, which are spread over slots
abbrev pub data_block : Mode → List Bool → List Bool
data_block (D48 span) load = type3_bits data48 load
data_block (D24 span) load = type3_bits data24 load
data_block Sig load = []
data_block Cb load = []
data_block D72 load = []
data_block Speech load = []

-- the 432 type-5 bits of the load of a traffic slot, by the mode of its timeslot and the blocks of protected data before
-- it; a load of speech is frames A and B
abbrev pub load_word : List Bool → Mode → List (List Bool) → List Bool → List Bool
load_word key D72 before load = raw_bits key load
load_word key (D48 span) before load =
    word_bits data48 key (spread_word (span_slots span) (before ++ data_block (D48 span) load ∷ []))
load_word key (D24 span) before load =
    word_bits data24 key (spread_word (span_slots span) (before ++ data_block (D24 span) load ∷ []))
load_word key Sig before load = []
load_word key Cb before load = []
load_word key Speech before load = flipped (whole_type4 (take 137 load) (take 137 (drop 137 load))) key 1

-- the 216 type-5 bits of block 2 of a traffic slot whose first half is stolen: data has the second half of its word
-- there, and speech one frame
abbrev pub rest_word : List Bool → Mode → List (List Bool) → List Bool → List Bool
rest_word key D72 before load = drop 216 (load_word key D72 before load)
rest_word key (D48 span) before load = drop 216 (load_word key (D48 span) before load)
rest_word key (D24 span) before load = drop 216 (load_word key (D24 span) before load)
rest_word key Sig before load = []
rest_word key Cb before load = []
rest_word key Speech before load = flipped (half_type4 load) key 1

-- the type-5 bits of a subslot that is sent
abbrev pub subslot_bits : List Bool → Option (List Bool) → Option (List Bool)
subslot_bits key None = None
subslot_bits key (Some block) = Some (type5_bits hu key block)

-- the burst of a body, after the blocks of protected data before it. BSCH has the key of no colour. In a stolen half
-- slot an STCH block is sent, and not the bits of the load that stand there
abbrev pub burst_of : List Bool → Mode → List (List Bool) → Body → SlotBurst
burst_of key mode before (Full block) = whole N (type5_bits full key block)
burst_of key mode before (Halves first second) = Normal PTrain (type5_bits half key first) (type5_bits half key second)
burst_of key mode before (Sync sync second) =
    Synchronisation (type5_bits bsch zero_key_bits sync) (type5_bits half key second)
burst_of key mode before (Traffic load) = whole N (load_word key mode before load)
burst_of key mode before (Stolen first load) = Normal PTrain (type5_bits half key first) (rest_word key mode before load)
burst_of key mode before (Both first second load) =
    Normal PTrain (type5_bits half key first) (type5_bits half key second)
burst_of key mode before (Control first second) = Subslots (subslot_bits key first) (subslot_bits key second)

-- the access field of a downlink slot
abbrev pub access_of : List ℕ → List Bool → Option ℕ → List Bool
access_of rows key None = []
access_of rows key (Some message) = access_bits rows key message

-- a slot of a direction with an access field and a burst
abbrev pub slot_of : Dir → List Bool → SlotBurst → List ℤ
slot_of Dl access (Normal train first second) = normal_down_slot train first access second
slot_of Ul access (Normal train first second) = normal_up_slot train first second
slot_of dir access (Synchronisation sync second) = sync_down_slot sync access second
slot_of dir access (Subslots first second) = control_up_slot first second

-- a received slot that is undamaged against it
abbrev pub KeepsSlotOf : Dir → List Bool → SlotBurst → List ℤ → Type 0
KeepsSlotOf Dl access (Normal train first second) received = KeepsNormalDown train first access second received
KeepsSlotOf Ul access (Normal train first second) received = KeepsNormalUp train first second received
KeepsSlotOf dir access (Synchronisation sync second) received = KeepsSyncDown sync access second received
KeepsSlotOf dir access (Subslots first second) received = KeepsControlUp first second received

-- the block of protected data that a slot brings to its timeslot
abbrev pub block_sent : Mode → SlotBlocks → List Bool
block_sent mode blocks = data_block mode (load_of blocks.body)

-- the blocks of protected data of timeslot c
abbrev pub blocks_sent : Settings → ℕ → List SlotBlocks → List (List Bool)
blocks_sent settings c history = all_brought block_sent settings c history

-- the burst of the slot that follows these
abbrev pub burst_after : Settings → List SlotBlocks → SlotBlocks → SlotBurst
burst_after settings history blocks =
    let t = length history in
    burst_of (key_of settings.colour) (mode_of settings t) (blocks_sent settings (timeslot_of settings.at t) history)
    blocks.body

abbrev pub access_in : Settings → SlotBlocks → List Bool
access_in settings blocks = access_of settings.rows.0 (key_of settings.colour) blocks.aach

-- the slot that follows these
unfoldable pub slot_written : Settings → List SlotBlocks → SlotBlocks → List ℤ
slot_written settings history blocks =
    slot_of settings.dir (access_in settings blocks) (burst_after settings history blocks)

-- a received slot that is undamaged against the slot that follows these: at each position of a sent bit its value has
-- the sign of the bit and is not 0; silent positions, silent subslots and phase pairs are free
unfoldable pub KeepsSlot : Settings → List SlotBlocks → SlotBlocks → List ℤ → Type 0
KeepsSlot settings history blocks received =
    KeepsSlotOf settings.dir (access_in settings blocks) (burst_after settings history blocks) received

-- a timeslot whose blocks are spread over n slots keeps the last n; nothing where they are not spread
abbrev pub SpreadLaneStands : ℕ → List (List Bool) → SpreadLane → Type 0
SpreadLaneStands n blocks Still = n ≡ 0
SpreadLaneStands n blocks (One spread) = (n ≡ 1) × SpreadStands 1 blocks spread
SpreadLaneStands n blocks (Four spread) = (n ≡ 4) × SpreadStands 4 blocks spread
SpreadLaneStands n blocks (Eight spread) = (n ≡ 8) × SpreadStands 8 blocks spread

-- a lane, of any form, of the timeslot of slot t stands for the blocks that its slots brought
abbrev pub SentStands : {L : Type 0} → (ℕ → List (List Bool) → L → Type 0) → Settings → ℕ → List SlotBlocks → L → Type 0
SentStands Stands settings t history lane = TurnStands Stands block_sent settings t history lane

pub record SenderStands (settings : Settings) (history : List SlotBlocks) (sender : Sender) : Type 0 where
  pub same : sender.settings ≡ settings
  pub turn : sender.turn ≡ length history
  pub timeslots : FourStand SpreadLaneStands block_sent Still settings history sender.lanes
