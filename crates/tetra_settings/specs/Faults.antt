-- The reasons against words, each by itself, and what a command line owes to all of them.
use Rattle.std.specs.Prelude.{ℕ, ◌≡◌, ◌⊎◌, ◌<◌, ◌≤◌, slice_index_or, List, [], ◌∷◌, length, take, true, false, codes, None, Some, Ok, Err, Result, if◌then◌else◌}
use Rattle.std.specs.Option.{IsSomeAnd}
use Rattle.std.specs.Str.Parse.{digits_value}
use Rattle.std.specs.declared.option.Option.{Option}
use Rattle.tetra_settings.specs.declared.keys.Key.{Key}
use Rattle.tetra_settings.specs.declared.types.Command.{Command}
use Rattle.tetra_settings.specs.declared.types.Settings.{Settings}
use Rattle.tetra_settings.specs.declared.types.WordFault.{WordFault}
use Rattle.tetra_settings.specs.declared.types.WordWhy.{WordWhy}
use Rattle.tetra_settings.specs.declared.types.WordWhy.TheVariants.{NoCommand, UnknownCommand, NotPair, UnknownKey, NotHere, Repeated, BadNumber, OutOfRange, UnknownValue, NotUplink}
use Rattle.tetra_settings.specs.declared.types.Dir.TheVariants.{Dl}
use Rattle.tetra_settings.specs.declared.values.Values.{Values}
use Rattle.tetra_settings.specs.declared.values.Values.TheVariants.{Between, Directions, Timeslots, Forms}
use Rattle.tetra_settings.specs.Keys.{row, key_of_text, command_of_text, takes_key}
use Rattle.tetra_settings.specs.Values.{is_number, direction_by_text, mode_by_text, form_by_text}
use Rattle.tetra_settings.specs.Words.{is_pair, key_text, value_text, settings_of}

-- word i, and nothing past the last
abbrev pub word_at : List (List ℕ) → ℕ → List ℕ
word_at words i = slice_index_or words i []

-- the command, where there are words and the first is one
abbrev pub command_in : List (List ℕ) → Option Command
command_in [] = None
command_in (word ∷ words) = command_of_text word

-- the key of a word, where the word is a pair and the key is in the table
abbrev pub key_in : List ℕ → Option Key
key_in word = if is_pair word then key_of_text (key_text word) else None

-- a number is not so written
abbrev pub IsNoNumber : Values → List ℕ → Type 0
IsNoNumber (Between low high) text = is_number text ≡ false
IsNoNumber Directions text = ⊥
IsNoNumber Timeslots text = ⊥
IsNoNumber Forms text = ⊥

-- a number is outside its range
abbrev pub IsOutside : Values → List ℕ → Type 0
IsOutside (Between low high) text =
    (is_number text ≡ true) × ((digits_value 10 text < low) ⊎ (high < digits_value 10 text))
IsOutside Directions text = ⊥
IsOutside Timeslots text = ⊥
IsOutside Forms text = ⊥

-- another value is not in its table
abbrev pub IsUnknown : Values → List ℕ → Type 0
IsUnknown (Between low high) text = ⊥
IsUnknown Directions text = direction_by_text text ≡ None
IsUnknown Timeslots text = mode_by_text text ≡ None
IsUnknown Forms text = form_by_text text ≡ None

-- one of the words has this key
abbrev pub IsGiven : Key → List (List ℕ) → Type 0
IsGiven key words = (j : ℕ) × (j < length words) × (key_in (word_at words j) ≡ Some key)

-- a reason stands against a word behind the command and the earlier words
abbrev pub Against : Command → List (List ℕ) → List ℕ → WordWhy → Type 0
Against command earlier word NotPair = is_pair word ≡ false
Against command earlier word UnknownKey = (is_pair word ≡ true) × (key_of_text (key_text word) ≡ None)
Against command earlier word NotHere = IsSomeAnd (key_in word) (λ key. takes_key command key ≡ false)
Against command earlier word Repeated = IsSomeAnd (key_in word) (λ key. IsGiven key earlier)
Against command earlier word BadNumber = IsSomeAnd (key_in word) (λ key. IsNoNumber (row key).values (value_text word))
Against command earlier word OutOfRange = IsSomeAnd (key_in word) (λ key. IsOutside (row key).values (value_text word))
Against command earlier word UnknownValue =
    IsSomeAnd (key_in word) (λ key. IsUnknown (row key).values (value_text word))
Against command earlier word NoCommand = ⊥
Against command earlier word UnknownCommand = ⊥
Against command earlier word NotUplink = ⊥

-- a reason other than NotUplink stands against word i
abbrev pub StandsAlone : List (List ℕ) → ℕ → WordWhy → Type 0
StandsAlone words i NoCommand = (words ≡ []) × (i ≡ 0)
StandsAlone words i UnknownCommand = (0 < length words) × (i ≡ 0) × (command_in words ≡ None)
StandsAlone words i why = (1 ≤ i) × (i < length words)
    × IsSomeAnd (command_in words) (λ command. Against command (take i words) (word_at words i) why)

-- a timeslot is given `cb`
abbrev pub GivesCb : List ℕ → Type 0
GivesCb word = IsSomeAnd (key_in word) (λ key. ((row key).values ≡ Timeslots) × (value_text word ≡ codes "cb"))

-- a reason stands against word i: NotUplink where no other stands against any word, the direction is
-- down, and the word gives `cb`
abbrev pub Stands : List (List ℕ) → ℕ → WordWhy → Type 0
Stands words i NotUplink = ((j : ℕ) (why : WordWhy) → StandsAlone words j why → ⊥)
    × ((settings_of words).dir ≡ Dl) × (i < length words) × GivesCb (word_at words i)
Stands words i why = StandsAlone words i why

-- the reasons in their order
abbrev pub reasons : List WordWhy
reasons =
    NoCommand ∷ UnknownCommand ∷ NotPair ∷ UnknownKey ∷ NotHere
    ∷ Repeated ∷ BadNumber ∷ OutOfRange ∷ UnknownValue ∷ NotUplink ∷ []

-- the first of a list of which P holds, or none where it holds of none
abbrev pub IsFirstOf : {X : Type 0} → (X → Type 0) → List X → Option X → Type 0
IsFirstOf P [] found = found ≡ None
IsFirstOf P (x ∷ xs) found = (P x × (found ≡ Some x)) ⊎ ((P x → ⊥) × IsFirstOf P xs found)

-- the first reason that stands against word i
abbrev pub IsFirstReason : List (List ℕ) → ℕ → Option WordWhy → Type 0
IsFirstReason words i found = IsFirstOf (Stands words i) reasons found

-- the word named is the first against which a reason stands, and the reason is the first that stands against it
pub record IsFirstFault (words : List (List ℕ)) (fault : WordFault) : Type 0 where
  pub earlier : (i : ℕ) → i < fault.index → IsFirstReason words i None
  pub here : IsFirstReason words fault.index (Some fault.why)

-- a fault is the first one, and where there is none no reason stands against any word
abbrev pub NamesFirst : List (List ℕ) → Result (Command × Settings) WordFault → Type 0
NamesFirst words (Ok found) = (i : ℕ) → IsFirstReason words i None
NamesFirst words (Err fault) = IsFirstFault words fault
