-- Blocks that a slot may carry are well formed.
use Rattle.std.proofs.Common.{ℕ, ◌<◌, Option, Some, None}
use Rattle.std.specs.Prelude.{IsTrue, IfSome}
use Rattle.tetra_settings.specs.declared.types.Dir.{Dir}
use Rattle.tetra_settings.specs.declared.types.Dir.TheVariants.{Dl, Ul}
use Rattle.tetra_settings.specs.declared.types.Mode.{Mode}
use Rattle.tetra_settings.specs.declared.types.Mode.TheVariants.{Sig, Cb, D72, D48, D24, Speech}
use Rattle.tetra_settings.specs.declared.types.Settings.{Settings}
use Rattle.tetra_settings.specs.declared.blocks.Body.{Body}
use Rattle.tetra_settings.specs.declared.blocks.Body.TheVariants.{Full, Halves, Sync, Control}
use Rattle.tetra_settings.specs.declared.blocks.SlotBlocks.{SlotBlocks}
use Rattle.tetra_settings.specs.Slots.{use_in, use_of, mode_of, frame_of, is_allowed}
use Rattle.tetra_settings.specs.Blocks.{letter_of, HasLengths, IsTrafficMode, FitsAccess, AreWellFormed, Fits}

-- some traffic mode gives the lengths: those in signalling and control slots go by no mode
some_mode : (dir : Dir) (mode : Mode) (frame : ℕ) (body : Body) → IsTrue (is_allowed dir (use_in mode frame) (letter_of body)) → HasLengths mode body
    → (m : Mode) × IsTrafficMode m × HasLengths m body
some_mode dir D72 frame body allowed lengths = (D72, tt, lengths)
some_mode dir (D48 span) frame body allowed lengths = (D48 span, tt, lengths)
some_mode dir (D24 span) frame body allowed lengths = (D24 span, tt, lengths)
some_mode dir Speech frame body allowed lengths = (Speech, tt, lengths)
some_mode dir Sig frame (Full block) allowed lengths = (D72, tt, lengths)
some_mode dir Sig frame (Halves first second) allowed lengths = (D72, tt, lengths)
some_mode dir Sig frame (Sync sync half) allowed lengths = (D72, tt, lengths)
some_mode dir Sig frame (Control first second) allowed lengths = (D72, tt, lengths)
some_mode Dl Sig frame body allowed lengths = absurd (cc allowed)
some_mode Ul Sig frame body allowed lengths = absurd (cc allowed)
some_mode dir Cb frame (Control first second) allowed lengths = (D72, tt, lengths)
some_mode Dl Cb frame body allowed lengths = absurd (cc allowed)
some_mode Ul Cb frame body allowed lengths = absurd (cc allowed)

small_access : (dir : Dir) (access : Option ℕ) → FitsAccess dir access → IfSome access (λ message. message < 16384)
small_access Dl (Some message) fits = fits
small_access Ul (Some message) fits = absurd fits
small_access dir None fits = tt

pub fits_well_formed : (settings : Settings) (t : ℕ) (blocks : SlotBlocks) → Fits settings t blocks → AreWellFormed blocks
unfolding use_of
fits_well_formed settings t blocks fits = record {
  lengths = some_mode settings.dir (mode_of settings t) (frame_of settings.at t) blocks.body fits.letter fits.lengths;
  access = small_access settings.dir blocks.aach fits.access;
}
