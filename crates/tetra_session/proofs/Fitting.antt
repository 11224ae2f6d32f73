-- What blocks that fit a slot are.
use Rattle.std.proofs.Common.{ℕ, ◌<◌, ◌≡◌, ◌≢◌, Bool, List, length, refl, sym, ◌∙◌, IsTrue, Option, Some, None, IfSome}
use Rattle.tetra_settings.specs.Blocks.{Fits, FitsAccess, HasLengths, IsTrafficMode, load_bits}
use Rattle.tetra_settings.specs.Slots.{use_of, use_in, mode_of, frame_of, is_allowed}
use Rattle.tetra_settings.specs.declared.types.Dir.{Dir}
use Rattle.tetra_settings.specs.declared.types.Dir.TheVariants.{Dl, Ul}
use Rattle.tetra_settings.specs.declared.types.Mode.{Mode}
use Rattle.tetra_settings.specs.declared.types.Mode.TheVariants.{Sig, Cb, D72, D48, D24, Speech}
use Rattle.tetra_settings.specs.declared.types.Settings.{Settings}
use Rattle.tetra_settings.specs.declared.slots.Letter.TheVariants.{F, H, S, T, P, Q, C}
use Rattle.tetra_settings.specs.declared.slots.SlotUse.{SlotUse}
use Rattle.tetra_settings.specs.declared.slots.SlotUse.TheVariants.{Signalling, Control as ControlUse, Traffic as TrafficUse}
use Rattle.tetra_settings.specs.declared.blocks.Body.TheVariants.{Full, Halves, Sync, Traffic, Stolen, Both, Control}
use Rattle.tetra_settings.specs.declared.blocks.SlotBlocks.{SlotBlocks}

-- what carries a letter
pub signalling_f : (dir : Dir) (slot : SlotUse) → IsTrue (is_allowed dir slot F) → slot ≡ Signalling
signalling_f dir Signalling h = refl
signalling_f Dl ControlUse h = absurd cc
signalling_f Ul ControlUse h = absurd cc
signalling_f dir TrafficUse h = absurd cc

pub signalling_h : (dir : Dir) (slot : SlotUse) → IsTrue (is_allowed dir slot H) → (slot ≡ Signalling) × (dir ≡ Dl)
signalling_h Dl Signalling h = (refl, refl)
signalling_h Ul Signalling h = absurd cc
signalling_h Dl ControlUse h = absurd cc
signalling_h Ul ControlUse h = absurd cc
signalling_h Dl TrafficUse h = absurd cc
signalling_h Ul TrafficUse h = absurd cc

pub signalling_s : (dir : Dir) (slot : SlotUse) → IsTrue (is_allowed dir slot S) → (slot ≡ Signalling) × (dir ≡ Dl)
signalling_s Dl Signalling h = (refl, refl)
signalling_s Ul Signalling h = absurd cc
signalling_s Dl ControlUse h = absurd cc
signalling_s Ul ControlUse h = absurd cc
signalling_s Dl TrafficUse h = absurd cc
signalling_s Ul TrafficUse h = absurd cc

pub traffic_t : (dir : Dir) (slot : SlotUse) → IsTrue (is_allowed dir slot T) → slot ≡ TrafficUse
traffic_t dir TrafficUse h = refl
traffic_t Dl Signalling h = absurd cc
traffic_t Ul Signalling h = absurd cc
traffic_t Dl ControlUse h = absurd cc
traffic_t Ul ControlUse h = absurd cc

pub traffic_p : (dir : Dir) (slot : SlotUse) → IsTrue (is_allowed dir slot P) → slot ≡ TrafficUse
traffic_p dir TrafficUse h = refl
traffic_p Dl Signalling h = absurd cc
traffic_p Ul Signalling h = absurd cc
traffic_p Dl ControlUse h = absurd cc
traffic_p Ul ControlUse h = absurd cc

pub traffic_q : (dir : Dir) (slot : SlotUse) → IsTrue (is_allowed dir slot Q) → slot ≡ TrafficUse
traffic_q dir TrafficUse h = refl
traffic_q Dl Signalling h = absurd cc
traffic_q Ul Signalling h = absurd cc
traffic_q Dl ControlUse h = absurd cc
traffic_q Ul ControlUse h = absurd cc

pub control_c : (dir : Dir) (slot : SlotUse) → IsTrue (is_allowed dir slot C) → (slot ≡ ControlUse) × (dir ≡ Ul)
control_c Ul ControlUse h = (refl, refl)
control_c Dl ControlUse h = absurd cc
control_c Dl Signalling h = absurd cc
control_c Ul Signalling h = absurd cc
control_c Dl TrafficUse h = absurd cc
control_c Ul TrafficUse h = absurd cc

-- a traffic slot has a mode of traffic
traffic_mode : (mode : Mode) (frame : ℕ) → use_in mode frame ≡ TrafficUse → IsTrafficMode mode
traffic_mode D72 frame h = tt
traffic_mode Sig frame h = absurd cc
traffic_mode Cb frame h = absurd cc
traffic_mode (D48 span) frame h = tt
traffic_mode (D24 span) frame h = tt
traffic_mode Speech frame h = tt

mode_of_traffic : (settings : Settings) (t : ℕ) → use_of settings t ≡ TrafficUse → IsTrafficMode (mode_of settings t)
unfolding use_of
mode_of_traffic settings t e = traffic_mode (mode_of settings t) (frame_of settings.at t) e

-- signalling and control are no traffic
signalling_no_traffic : (slot : SlotUse) → slot ≡ Signalling → slot ≢ TrafficUse
signalling_no_traffic slot e = λ f. absurd (let g : Signalling ≡ TrafficUse = sym e ∙ f in cc)

control_no_traffic : (slot : SlotUse) → slot ≡ ControlUse → slot ≢ TrafficUse
control_no_traffic slot e = λ f. absurd (let g : ControlUse ≡ TrafficUse = sym e ∙ f in cc)

-- the access field
pub access_small : (dir : Dir) (aach : Option ℕ) → FitsAccess dir aach → IfSome aach (λ message. message < 16384)
access_small Dl (Some message) h = h
access_small Dl None h = tt
access_small Ul (Some message) h = absurd h
access_small Ul None h = tt

pub access_there : (dir : Dir) (aach : Option ℕ) → FitsAccess dir aach → dir ≡ Dl → (message : ℕ) × (aach ≡ Some message) × (message < 16384)
access_there Dl (Some message) h e = (message, refl, h)
access_there Dl None h e = absurd h
access_there Ul aach h e = absurd cc

pub access_none : (dir : Dir) (aach : Option ℕ) → FitsAccess dir aach → dir ≡ Ul → aach ≡ None
access_none Ul None h e = refl
access_none Ul (Some message) h e = absurd h
access_none Dl aach h e = absurd cc

-- a subslot that is sent
subs_sizes : (mode : Mode) (first second : Option (List Bool)) → HasLengths mode (Control first second)
    → IfSome first (λ bits. length bits ≡ 92) × IfSome second (λ bits. length bits ≡ 92)
subs_sizes mode (Some a) (Some b) h = (h.0, h.1.0)
subs_sizes mode (Some a) None h = (h.0, tt)
subs_sizes mode None (Some b) h = (tt, h.1.0)
subs_sizes mode None None h = (tt, tt)

module _ (settings : Settings) (t : ℕ) (blocks : SlotBlocks) (fits : Fits settings t blocks) where
  pub fits_full : (block : List Bool) → blocks.body ≡ Full block → (use_of settings t ≡ Signalling) × (length block ≡ 268)
  fits_full block e =
      let letter = rw e at fits.letter in
      let lengths = rw e at fits.lengths in
      (signalling_f settings.dir (use_of settings t) letter, lengths.0)

  pub fits_halves : (first second : List Bool) → blocks.body ≡ Halves first second
      → (use_of settings t ≡ Signalling) × (settings.dir ≡ Dl) × (length first ≡ 124) × (length second ≡ 124)
  fits_halves first second e =
      let letter = rw e at fits.letter in
      let lengths = rw e at fits.lengths in
      let slot = signalling_h settings.dir (use_of settings t) letter in
      (slot.0, slot.1, lengths.0, lengths.1.0)

  pub fits_sync : (sync second : List Bool) → blocks.body ≡ Sync sync second
      → (use_of settings t ≡ Signalling) × (settings.dir ≡ Dl) × (length sync ≡ 60) × (length second ≡ 124)
  fits_sync sync second e =
      let letter = rw e at fits.letter in
      let lengths = rw e at fits.lengths in
      let slot = signalling_s settings.dir (use_of settings t) letter in
      (slot.0, slot.1, lengths.0, lengths.1.0)

  pub fits_traffic : (load : List Bool) → blocks.body ≡ Traffic load
      → (use_of settings t ≡ TrafficUse) × IsTrafficMode (mode_of settings t)
      × (length load ≡ load_bits (mode_of settings t) T)
  fits_traffic load e =
      let letter = rw e at fits.letter in
      let lengths = rw e at fits.lengths in
      let carries = traffic_t settings.dir (use_of settings t) letter in
      (carries, mode_of_traffic settings t carries, lengths.0)

  pub fits_stolen : (first load : List Bool) → blocks.body ≡ Stolen first load
      → (use_of settings t ≡ TrafficUse) × IsTrafficMode (mode_of settings t)
      × (length first ≡ 124) × (length load ≡ load_bits (mode_of settings t) P)
  fits_stolen first load e =
      let letter = rw e at fits.letter in
      let lengths = rw e at fits.lengths in
      let carries = traffic_p settings.dir (use_of settings t) letter in
      (carries, mode_of_traffic settings t carries, lengths.0, lengths.1.0)

  pub fits_both : (first second load : List Bool) → blocks.body ≡ Both first second load
      → (use_of settings t ≡ TrafficUse) × IsTrafficMode (mode_of settings t)
      × (length first ≡ 124) × (length second ≡ 124) × (length load ≡ load_bits (mode_of settings t) Q)
  fits_both first second load e =
      let letter = rw e at fits.letter in
      let lengths = rw e at fits.lengths in
      let carries = traffic_q settings.dir (use_of settings t) letter in
      (carries, mode_of_traffic settings t carries, lengths.0, lengths.1.0, lengths.1.1.0)

  pub fits_control : (first second : Option (List Bool)) → blocks.body ≡ Control first second
      → (use_of settings t ≡ ControlUse) × (settings.dir ≡ Ul)
      × IfSome first (λ bits. length bits ≡ 92) × IfSome second (λ bits. length bits ≡ 92)
  fits_control first second e =
      let letter = rw e at fits.letter in
      let lengths = rw e at fits.lengths in
      let slot = control_c settings.dir (use_of settings t) letter in
      let subs = subs_sizes (mode_of settings t) first second lengths in
      (slot.0, slot.1, subs.0, subs.1)

  -- a slot of another letter is no traffic
  pub full_no_traffic : (block : List Bool) → blocks.body ≡ Full block → use_of settings t ≢ TrafficUse
  full_no_traffic block e = signalling_no_traffic (use_of settings t) (fits_full block e).0

  pub halves_no_traffic : (first second : List Bool) → blocks.body ≡ Halves first second → use_of settings t ≢ TrafficUse
  halves_no_traffic first second e = signalling_no_traffic (use_of settings t) (fits_halves first second e).0

  pub sync_no_traffic : (sync second : List Bool) → blocks.body ≡ Sync sync second → use_of settings t ≢ TrafficUse
  sync_no_traffic sync second e = signalling_no_traffic (use_of settings t) (fits_sync sync second e).0

  pub subslots_no_traffic : (first second : Option (List Bool)) → blocks.body ≡ Control first second → use_of settings t ≢ TrafficUse
  subslots_no_traffic first second e = control_no_traffic (use_of settings t) (fits_control first second e).0
