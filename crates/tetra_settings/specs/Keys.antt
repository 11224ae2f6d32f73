-- The commands and the keys, by their texts.
use Rattle.std.specs.Prelude.{ℕ, List, [], ◌∷◌, Bool, true, false, codes, find}
use Rattle.std.specs.Str.{bytes_eq}
use Rattle.std.specs.declared.option.Option.{Option}
use Rattle.tetra_settings.specs.declared.keys.Key.{Key}
use Rattle.tetra_settings.specs.declared.keys.Key.TheVariants.{Dir, Mcc, Mnc, Cc, Ts1, Ts2, Ts3, Ts4, At, Max, Form, Draw, Slots, Damage}
use Rattle.tetra_settings.specs.declared.keys.Takers.{Takers}
use Rattle.tetra_settings.specs.declared.keys.Takers.TheVariants.{All, Readers, Decode as DecodeAlone, Makers, Trial as TrialAlone}
use Rattle.tetra_settings.specs.declared.types.Command.{Command}
use Rattle.tetra_settings.specs.declared.types.Command.TheVariants.{Encode, Decode, Audit, Gen, Trial}
use Rattle.tetra_settings.specs.declared.types.Dir.TheVariants.{Dl}
use Rattle.tetra_settings.specs.declared.types.Mode.TheVariants.{Sig}
use Rattle.tetra_settings.specs.declared.types.Form.TheVariants.{Plain}
use Rattle.tetra_settings.specs.declared.values.Value.{Value}
use Rattle.tetra_settings.specs.declared.values.Value.TheVariants.{Number, Direction, Timeslot, Shape}
use Rattle.tetra_settings.specs.declared.values.Values.{Values}
use Rattle.tetra_settings.specs.declared.values.Values.TheVariants.{Between, Directions, Timeslots, Forms}
use Rattle.tetra_settings.specs.Values.{beside}

abbrev pub commands : List (List ℕ × Command)
commands =
    (codes "encode", Encode) ∷ (codes "decode", Decode) ∷ (codes "audit", Audit)
    ∷ (codes "gen", Gen) ∷ (codes "trial", Trial) ∷ []

unfoldable pub command_of_text : List ℕ → Option Command
command_of_text text = beside commands text

-- the text of a key, the values that it takes, what it is where no word gives it, and the commands that take it
pub record KeyRow : Type 0 where
  pub name : List ℕ
  pub values : Values
  pub default : Value
  pub takers : Takers

-- the keys, in the order of the table
abbrev pub keys : List Key
keys =
    Dir ∷ Mcc ∷ Mnc ∷ Cc
    ∷ Ts1 ∷ Ts2 ∷ Ts3 ∷ Ts4
    ∷ At ∷ Max ∷ Form
    ∷ Draw ∷ Slots ∷ Damage ∷ []

-- the table of keys
abbrev pub row : Key → KeyRow
row Dir = record { name = codes "dir"; values = Directions; default = Direction Dl; takers = All }
row Mcc = record { name = codes "mcc"; values = Between 0 1023; default = Number 0; takers = All }
row Mnc = record { name = codes "mnc"; values = Between 0 16383; default = Number 0; takers = All }
row Cc = record { name = codes "cc"; values = Between 0 63; default = Number 0; takers = All }
row Ts1 = record { name = codes "ts1"; values = Timeslots; default = Timeslot Sig; takers = All }
row Ts2 = record { name = codes "ts2"; values = Timeslots; default = Timeslot Sig; takers = All }
row Ts3 = record { name = codes "ts3"; values = Timeslots; default = Timeslot Sig; takers = All }
row Ts4 = record { name = codes "ts4"; values = Timeslots; default = Timeslot Sig; takers = All }
row At = record { name = codes "at"; values = Between 0 4319; default = Number 0; takers = All }
row Max = record { name = codes "max"; values = Between 1 16777216; default = Number 1000000; takers = Readers }
row Form = record { name = codes "form"; values = Forms; default = Shape Plain; takers = DecodeAlone }
row Draw = record { name = codes "draw"; values = Between 0 18446744073709551615; default = Number 0; takers = Makers }
row Slots = record { name = codes "slots"; values = Between 1 1000000; default = Number 1; takers = Makers }
row Damage = record { name = codes "damage"; values = Between 0 510; default = Number 0; takers = TrialAlone }

-- one answer for each command: encode, decode, audit, gen and trial
abbrev pub by_command : {X : Type 0} → X → X → X → X → X → Command → X
by_command encode decode audit gen trial Encode = encode
by_command encode decode audit gen trial Decode = decode
by_command encode decode audit gen trial Audit = audit
by_command encode decode audit gen trial Gen = gen
by_command encode decode audit gen trial Trial = trial

abbrev pub is_taker : Takers → Command → Bool
is_taker All command = true
is_taker Readers command = by_command true true true false false command
is_taker DecodeAlone command = by_command false true false false false command
is_taker Makers command = by_command false false false true true command
is_taker TrialAlone command = by_command false false false false true command

-- whether a command takes a key
abbrev pub takes_key : Command → Key → Bool
takes_key command key = is_taker (row key).takers command

-- the key of this name
unfoldable pub key_of_text : List ℕ → Option Key
key_of_text text = find (λ key. bytes_eq (row key).name text) keys
