-- Settings in range are valid.
use Prim.Native.Nat.{zero, suc}
use Rattle.std.proofs.Common.{ℕ, ◌≤◌, ◌≡◌, Bool, true, false, List, length, arith, lit≤}
use Rattle.std.specs.Prelude.{IsTrue, not, ◌&&◌, ◌==◌, if◌then◌else◌, nat_lt, slice_index, slice_index_or}
use Rattle.std.specs.List.{list_all}
use Rattle.std.proofs.lemmas.Bool.{and_parts}
use Rattle.std.proofs.lemmas.List.Sums.{AllPass-from_list_all}
use Rattle.tetra_scramble.specs.Colour.{IsColour}
use Rattle.tetra_settings.specs.Validity.{HasMode, IsValid}
use Rattle.tetra_settings.specs.declared.types.Dir.{Dir}
use Rattle.tetra_settings.specs.declared.types.Dir.TheVariants.{Dl, Ul}
use Rattle.tetra_settings.specs.declared.types.Mode.{Mode}
use Rattle.tetra_settings.specs.declared.types.Mode.TheVariants.{Sig, Cb, D72, D48, D24, Speech}
use Rattle.tetra_settings.specs.declared.types.Span.TheVariants.{One, Four, Eight}
use Rattle.tetra_c.specs.Colours.{colour_of}
use Rattle.tetra_c.specs.Settings.{mode_of, direction_of, modes_of, has_mode, has_modes, settings_of}
use Rattle.tetra_c.specs.declared.settings.TetraSettings.{TetraSettings}

-- the mode of a number that is not 1 is no control mode
other_mode : (b c d e f g h i : Bool) → HasMode Dl
    (if b then D72 else (if c then D48 One else (if d then D48 Four else (if e then D48 Eight else (if f then D24 One
    else (if g then D24 Four else (if h then D24 Eight else (if i then Speech else Sig))))))))
other_mode true c d e f g h i = tt
other_mode false true d e f g h i = tt
other_mode false false true e f g h i = tt
other_mode false false false true f g h i = tt
other_mode false false false false true g h i = tt
other_mode false false false false false true h i = tt
other_mode false false false false false false true i = tt
other_mode false false false false false false false true = tt
other_mode false false false false false false false false = tt

some_mode : (down control : Bool) (other : Mode) → HasMode Dl other → IsTrue (not (down && control))
    → HasMode (if down then Dl else Ul) (if control then Cb else other)
some_mode true true other h allowed = absurd (cc allowed)
some_mode true false other h allowed = h
some_mode false control other h allowed = tt

mode_valid : (direction mode : ℕ) → has_mode direction mode ≡ true → HasMode (direction_of direction) (mode_of mode)
mode_valid direction mode h =
    some_mode (direction == 0) (mode == 1) _
    (other_mode (mode == 2) (mode == 3) (mode == 4) (mode == 5) (mode == 6) (mode == 7) (mode == 8) (mode == 9))
    (and_parts (nat_lt mode 10) (not (direction == 0 && mode == 1)) h).1

-- a timeslot that is none is signalling
signalling_valid : (dir : Dir) → HasMode dir Sig
signalling_valid Dl = tt
signalling_valid Ul = tt

module _ (direction : ℕ) (modes : List ℕ) (size : length modes ≡ 4) (each : list_all (has_mode direction) modes ≡ true) where
  at : (k : ℕ) → k ≤ 3 → HasMode (direction_of direction) (mode_of (slice_index modes k))
  at k low = mode_valid direction (slice_index modes k) (AllPass-from_list_all (has_mode direction) modes each k 0 (omega (arith, size)))

  modes_valid : (i : ℕ) → HasMode (direction_of direction) (slice_index_or (modes_of modes) i Sig)
  modes_valid zero = at 0 (lit≤ tt)
  modes_valid (suc zero) = at 1 (lit≤ tt)
  modes_valid (suc (suc zero)) = at 2 (lit≤ tt)
  modes_valid (suc (suc (suc zero))) = at 3 (lit≤ tt)
  modes_valid (suc (suc (suc (suc i)))) = signalling_valid (direction_of direction)

pub settings_valid : (settings : TetraSettings) → IsColour (colour_of settings.colour) → length settings.modes ≡ 4 → IsTrue (has_modes settings)
    → settings.at ≤ 4319 → IsValid (settings_of settings)
unfolding settings_of
settings_valid settings colour size modes place = record {
  ranges = record { colour = colour; at = place; max = (lit≤ tt, lit≤ tt); slots = (lit≤ tt, lit≤ tt); damage = lit≤ tt };
  modes = modes_valid settings.direction settings.modes size (and_parts (nat_lt settings.direction 2) (list_all (has_mode settings.direction) settings.modes) modes).1;
}
