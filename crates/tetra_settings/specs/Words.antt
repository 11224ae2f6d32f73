-- What a list of words means.
use Rattle.std.specs.Prelude.{ℕ, ◌+◌, ◌&&◌, ◌==◌, not, nat_lt, List, [], ◌∷◌, ◌++◌, length, take, drop, map, Bool, true, false, codes, None, Some, Ok, Err, Result, if◌then◌else◌, is_some, string_bytes}
use Rattle.std.specs.List.{position_or_len, before_first, after_first}
use Rattle.std.specs.Str.{bytes_eq}
use Rattle.std.specs.Result.{result_unwrap_or}
use Rattle.std.specs.declared.option.Option.{Option}
use Rattle.std.specs.declared.string.String.{String}
use Rattle.tetra_rm.specs.Access.{access_rows}
use Rattle.tetra_settings.specs.declared.keys.Key.{Key}
use Rattle.tetra_settings.specs.declared.keys.Key.TheVariants.{Dir as DirKey, Mcc, Mnc, Cc, Ts1, Ts2, Ts3, Ts4, At, Max, Form as FormKey, Draw, Slots, Damage}
use Rattle.tetra_settings.specs.declared.types.Command.{Command}
use Rattle.tetra_settings.specs.declared.types.WordWhy.{WordWhy}
use Rattle.tetra_settings.specs.declared.types.WordWhy.TheVariants.{NotPair, UnknownKey, NotHere, Repeated, NoCommand, UnknownCommand, NotUplink}
use Rattle.tetra_settings.specs.declared.types.WordFault.{WordFault}
use Rattle.tetra_settings.specs.declared.types.Settings.{Settings}
use Rattle.tetra_settings.specs.declared.types.Dir.{Dir}
use Rattle.tetra_settings.specs.declared.types.Dir.TheVariants.{Dl, Ul}
use Rattle.tetra_settings.specs.declared.values.Value.{Value}
use Rattle.tetra_settings.specs.declared.values.Values.{Values}
use Rattle.tetra_settings.specs.declared.values.Values.TheVariants.{Between, Directions, Timeslots, Forms}
use Rattle.tetra_settings.specs.Keys.{row, key_of_text, command_of_text, takes_key}
use Rattle.tetra_settings.specs.Values.{value_by, number_in, direction_in, mode_in, form_in}

-- the bytes of each word
abbrev pub texts : {A : Type 0} → List (String A) → List (List ℕ)
texts words = map (λ w. string_bytes w) words

-- whether a word has a `=`
abbrev pub is_pair : List ℕ → Bool
is_pair word = nat_lt (position_or_len (λ b. b == 61) word) (length word)

-- what is before the first `=`, and what is behind it
abbrev pub key_text : List ℕ → List ℕ
key_text word = before_first (λ b. b == 61) word

abbrev pub value_text : List ℕ → List ℕ
value_text word = after_first (λ b. b == 61) word

-- the value of a word that has this key
abbrev pub value_under : List ℕ → List ℕ → Option (List ℕ)
value_under name word = if is_pair word && bytes_eq (key_text word) name then Some (value_text word) else None

abbrev pub or_else : {X : Type 0} → Option X → Option X → Option X
or_else None other = other
or_else (Some x) other = Some x

-- the value of the first word that has this key
abbrev pub given : List ℕ → List (List ℕ) → Option (List ℕ)
given name [] = None
given name (word ∷ words) = or_else (value_under name word) (given name words)

abbrev pub error_of : {X Y : Type 0} → Result X Y → Option Y
error_of (Ok x) = None
error_of (Err y) = Some y

-- the first reason against a pair
abbrev pub reason_by_key : Command → List (List ℕ) → List ℕ → List ℕ → Option Key → Option WordWhy
reason_by_key command earlier name value None = Some UnknownKey
reason_by_key command earlier name value (Some key) =
    if not (takes_key command key) then Some NotHere
    else if is_some (given name earlier) then Some Repeated
    else error_of (value_by (row key).values value)

-- the first reason against a word behind the earlier ones
abbrev pub reason : Command → List (List ℕ) → List ℕ → Option WordWhy
reason command earlier word =
    if is_pair word
    then reason_by_key command earlier (key_text word) (value_text word) (key_of_text (key_text word))
    else Some NotPair

abbrev pub fault_at : ℕ → Option WordWhy → Option WordFault
fault_at index None = None
fault_at index (Some why) = Some (record { index = index; why = why })

-- the first faulty word of those that are left
abbrev pub first_fault : Command → List (List ℕ) → List (List ℕ) → Option WordFault
first_fault command earlier [] = None
first_fault command earlier (word ∷ words) =
    or_else (fault_at (length earlier) (reason command earlier word)) (first_fault command (earlier ++ word ∷ []) words)

-- whether these are the values of a timeslot
abbrev pub are_timeslots : Values → Bool
are_timeslots (Between low high) = false
are_timeslots Directions = false
are_timeslots Timeslots = true
are_timeslots Forms = false

abbrev pub is_timeslot : Option Key → Bool
is_timeslot None = false
is_timeslot (Some key) = are_timeslots (row key).values

-- whether a word gives a timeslot `cb`
abbrev pub gives_cb : List ℕ → Bool
gives_cb word = is_pair word && is_timeslot (key_of_text (key_text word)) && bytes_eq (value_text word) (codes "cb")

-- the first word that gives `cb`, of those from an index on
abbrev pub first_cb : ℕ → List (List ℕ) → Option WordFault
first_cb index [] = None
first_cb index (word ∷ words) =
    if gives_cb word then Some (record { index = index; why = NotUplink }) else first_cb (index + 1) words

-- what a text, if there is one, gives a key
abbrev pub setting_by_text : Key → Option (List ℕ) → Value
setting_by_text key None = (row key).default
setting_by_text key (Some text) = result_unwrap_or (value_by (row key).values text) (row key).default

-- what the words give a key, and else its default
abbrev pub setting_of : Key → List (List ℕ) → Value
setting_of key words = setting_by_text key (given (row key).name words)

-- the settings that the words give
abbrev pub settings_of : List (List ℕ) → Settings
settings_of words = record {
  dir = direction_in (setting_of DirKey words);
  colour = record {
    mcc = number_in (setting_of Mcc words);
    mnc = number_in (setting_of Mnc words);
    cc = number_in (setting_of Cc words);
  };
  modes = mode_in (setting_of Ts1 words) ∷ mode_in (setting_of Ts2 words)
      ∷ mode_in (setting_of Ts3 words) ∷ mode_in (setting_of Ts4 words) ∷ [];
  at = number_in (setting_of At words);
  max = number_in (setting_of Max words);
  form = form_in (setting_of FormKey words);
  draw = number_in (setting_of Draw words);
  slots = number_in (setting_of Slots words);
  damage = number_in (setting_of Damage words);
  rows = access_rows;
}

-- on the downlink no word gives `cb`
abbrev pub meaning_by_dir : Command → Settings → Dir → Option WordFault → Result (Command × Settings) WordFault
meaning_by_dir command settings Dl (Some fault) = Err fault
meaning_by_dir command settings Dl None = Ok (command, settings)
meaning_by_dir command settings Ul cb = Ok (command, settings)

abbrev pub meaning_by_fault : Command → List (List ℕ) → Option WordFault → Result (Command × Settings) WordFault
meaning_by_fault command words (Some fault) = Err fault
meaning_by_fault command words None =
    meaning_by_dir command (settings_of words) (settings_of words).dir (first_cb 0 words)

abbrev pub meaning_by_command : Option Command → List (List ℕ) → Result (Command × Settings) WordFault
meaning_by_command None words = Err (record { index = 0; why = UnknownCommand })
meaning_by_command (Some command) words =
    meaning_by_fault command words (first_fault command (take 1 words) (drop 1 words))

-- the command and the settings of the words, or the first faulty word with its first reason
unfoldable pub meaning : List (List ℕ) → Result (Command × Settings) WordFault
meaning [] = Err (record { index = 0; why = NoCommand })
meaning (word ∷ words) = meaning_by_command (command_of_text word) (word ∷ words)
