-- The settings of a session as C has them.
use Rattle.std.specs.Prelude.{ℕ, Bool, List, [], ◌∷◌, None, Some, nat_lt, not, ◌&&◌, ◌==◌, if◌then◌else◌, slice_index}
use Rattle.std.specs.List.{list_all}
use Rattle.std.specs.declared.option.Option.{Option}
use Rattle.tetra_rm.specs.Access.{access_rows}
use Rattle.tetra_settings.specs.declared.types.Settings.{Settings}
use Rattle.tetra_settings.specs.declared.types.Dir.{Dir}
use Rattle.tetra_settings.specs.declared.types.Dir.TheVariants.{Dl, Ul}
use Rattle.tetra_settings.specs.declared.types.Mode.{Mode}
use Rattle.tetra_settings.specs.declared.types.Mode.TheVariants.{Sig, Cb, D72, D48, D24, Speech}
use Rattle.tetra_settings.specs.declared.types.Span.TheVariants.{One, Four, Eight}
use Rattle.tetra_settings.specs.declared.types.Form.TheVariants.{Plain}
use Rattle.tetra_c.specs.Colours.{colour_of, is_out_of_range}
use Rattle.tetra_c.specs.declared.settings.TetraSettings.{TetraSettings}
use Rattle.tetra_c.specs.declared.fault.Fault.{Fault}
use Rattle.tetra_c.specs.declared.fault.Fault.TheVariants.{Colour, Mode as ModeFault, Place}

-- the numbers of the modes; any other is refused
abbrev pub mode_of : ℕ → Mode
mode_of number =
    if number == 1 then Cb
    else (if number == 2 then D72
    else (if number == 3 then D48 One
    else (if number == 4 then D48 Four
    else (if number == 5 then D48 Eight
    else (if number == 6 then D24 One
    else (if number == 7 then D24 Four
    else (if number == 8 then D24 Eight
    else (if number == 9 then Speech
    else Sig))))))))

-- the numbers of the directions; any other is refused
abbrev pub direction_of : ℕ → Dir
direction_of number = if number == 0 then Dl else Ul

abbrev pub modes_of : List ℕ → List Mode
modes_of modes =
    mode_of (slice_index modes 0) ∷ mode_of (slice_index modes 1) ∷ mode_of (slice_index modes 2)
    ∷ mode_of (slice_index modes 3) ∷ []

-- a direction has a mode: control bursts are uplink only
abbrev pub has_mode : ℕ → ℕ → Bool
has_mode direction mode = nat_lt mode 10 && not (direction == 0 && mode == 1)

abbrev pub has_modes : TetraSettings → Bool
has_modes settings = nat_lt settings.direction 2 && list_all (has_mode settings.direction) settings.modes

-- the settings of a session for C; what a session does not look at is least
unfoldable pub settings_of : TetraSettings → Settings
settings_of settings =
    record {
      dir = direction_of settings.direction;
      colour = colour_of settings.colour;
      modes = modes_of settings.modes;
      at = settings.at;
      max = 1;
      form = Plain;
      draw = 0;
      slots = 1;
      damage = 0;
      rows = access_rows;
    }

-- why settings are refused
unfoldable pub settings_fault : TetraSettings → Option Fault
settings_fault settings =
    if is_out_of_range settings.colour then Some Colour
    else (if not (has_modes settings) then Some ModeFault
    else (if nat_lt 4319 settings.at then Some Place else None))
