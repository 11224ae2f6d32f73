-- The values that a key takes.
use Rattle.std.specs.Prelude.{◌≤◌, ℕ, ◌&&◌, ◌==◌, nat_le, List, [], ◌∷◌, length, Bool, false, codes, None, Some, Ok, Err, Result, if◌then◌else◌, slice_index}
use Rattle.std.specs.List.{list_all}
use Rattle.std.specs.Char.{is_ascii_digit}
use Rattle.std.specs.Str.{bytes_eq}
use Rattle.std.specs.Str.Parse.{digits_value}
use Rattle.std.specs.Option.{option_map}
use Rattle.std.specs.declared.option.Option.{Option}
use Rattle.tetra_settings.specs.declared.types.Dir.{Dir}
use Rattle.tetra_settings.specs.declared.types.Dir.TheVariants.{Dl, Ul}
use Rattle.tetra_settings.specs.declared.types.Span.TheVariants.{One, Four, Eight}
use Rattle.tetra_settings.specs.declared.types.Mode.{Mode}
use Rattle.tetra_settings.specs.declared.types.Mode.TheVariants.{Sig, Cb, D72, D48, D24, Speech}
use Rattle.tetra_settings.specs.declared.types.Form.{Form}
use Rattle.tetra_settings.specs.declared.types.Form.TheVariants.{Plain, Audit}
use Rattle.tetra_settings.specs.declared.types.WordWhy.{WordWhy}
use Rattle.tetra_settings.specs.declared.types.WordWhy.TheVariants.{BadNumber, OutOfRange, UnknownValue}
use Rattle.tetra_settings.specs.declared.values.Value.{Value}
use Rattle.tetra_settings.specs.declared.values.Value.TheVariants.{Number, Direction, Timeslot, Shape}
use Rattle.tetra_settings.specs.declared.values.Values.{Values}
use Rattle.tetra_settings.specs.declared.values.Values.TheVariants.{Between, Directions, Timeslots, Forms}

-- what a table has beside a text
abbrev pub beside : {X : Type 0} → List (List ℕ × X) → List ℕ → Option X
beside [] text = None
beside (row ∷ rows) text = if bytes_eq text row.0 then Some row.1 else beside rows text

abbrev pub directions : List (List ℕ × Dir)
directions = (codes "dl", Dl) ∷ (codes "ul", Ul) ∷ []

abbrev pub modes : List (List ℕ × Mode)
modes = (codes "sig", Sig) ∷ (codes "cb", Cb) ∷ (codes "d72", D72)
    ∷ (codes "d48n1", D48 One) ∷ (codes "d48n4", D48 Four) ∷ (codes "d48n8", D48 Eight)
    ∷ (codes "d24n1", D24 One) ∷ (codes "d24n4", D24 Four) ∷ (codes "d24n8", D24 Eight)
    ∷ (codes "speech", Speech) ∷ []

abbrev pub forms : List (List ℕ × Form)
forms = (codes "plain", Plain) ∷ (codes "audit", Audit) ∷ []

unfoldable pub direction_by_text : List ℕ → Option Dir
direction_by_text text = beside directions text

unfoldable pub mode_by_text : List ℕ → Option Mode
mode_by_text text = beside modes text

unfoldable pub form_by_text : List ℕ → Option Form
form_by_text text = beside forms text

-- `0`, or digits of which the first is not 0
abbrev pub is_number : List ℕ → Bool
is_number text =
    if length text == 0 then false
    else if slice_index text 0 == 48 then length text == 1
    else list_all is_ascii_digit text

-- a number from low to high
abbrev pub number_value : ℕ → ℕ → List ℕ → Result Value WordWhy
number_value low high text =
    if is_number text then (if nat_le low (digits_value 10 text) && nat_le (digits_value 10 text) high
    then Ok (Number (digits_value 10 text)) else Err OutOfRange)
    else Err BadNumber

abbrev pub known : Option Value → Result Value WordWhy
known None = Err UnknownValue
known (Some value) = Ok value

-- the value that a text gives, or why it gives none
abbrev pub value_by : Values → List ℕ → Result Value WordWhy
value_by (Between low high) text = number_value low high text
value_by Directions text = known (option_map (λ dir. Direction dir) (direction_by_text text))
value_by Timeslots text = known (option_map (λ mode. Timeslot mode) (mode_by_text text))
value_by Forms text = known (option_map (λ form. Shape form) (form_by_text text))

-- the number, direction, mode or form that a value is; the default of its kind where it is of another
abbrev pub number_in : Value → ℕ
number_in (Number n) = n
number_in (Direction dir) = 0
number_in (Timeslot mode) = 0
number_in (Shape form) = 0

abbrev pub direction_in : Value → Dir
direction_in (Direction dir) = dir
direction_in (Number n) = Dl
direction_in (Timeslot mode) = Dl
direction_in (Shape form) = Dl

abbrev pub mode_in : Value → Mode
mode_in (Timeslot mode) = mode
mode_in (Number n) = Sig
mode_in (Direction dir) = Sig
mode_in (Shape form) = Sig

abbrev pub form_in : Value → Form
form_in (Shape form) = form
form_in (Number n) = Plain
form_in (Direction dir) = Plain
form_in (Timeslot mode) = Plain

-- a number lies in its range
abbrev pub IsAmong : Values → Value → Type 0
IsAmong (Between low high) value = (low ≤ number_in value) × (number_in value ≤ high)
IsAmong Directions value = Unit {0}
IsAmong Timeslots value = Unit {0}
IsAmong Forms value = Unit {0}
