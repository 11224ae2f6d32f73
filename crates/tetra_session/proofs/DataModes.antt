-- The modes of protected data: their channels, and what the definitions say of both.
use Rattle.std.proofs.Common.{ℕ, ℤ, ◌≡◌, ◌+◌, ◌<◌, ◌≤◌, Bool, true, false, List, [], ◌∷◌, ◌++◌, length, drop, Some, IsTrue, nat_eq, arith, refl}
use Rattle.std.proofs.lemmas.Bool.Decides.{nat_tests}
use Rattle.tetra_bursts.specs.Arrives.{FieldsArrive, KindArrives}
use Rattle.tetra_channels.specs.Channels.{Channel, half, data48, data24, type3_bits, word_bits, front_values}
use Rattle.tetra_channels.specs.Fields.{coded_reading}
use Rattle.tetra_channels.specs.Laws.{UndamagedIsRead, UndamagedWordIsRead, UndamagedWordArrives, NoneWrongWordIsRead, NoneWrongWordArrives}
use Rattle.tetra_diag.specs.Arrives.{UndamagedArrives, NoneWrongArrives}
use Rattle.tetra_diag.specs.Diagonal.{is_depth, IsDepth, spread_word}
use Rattle.tetra_parity.specs.Parity.{width}
use Rattle.tetra_parity.specs.declared.kind.Parity.TheVariants.{Nothing}
use Rattle.tetra_settings.specs.Readings.{traffic_name}
use Rattle.tetra_settings.specs.Slots.{use_in, traffic_in}
use Rattle.tetra_settings.specs.declared.types.Mode.{Mode}
use Rattle.tetra_settings.specs.declared.types.Mode.TheVariants.{Sig, Cb, D72, D48, D24, Speech}
use Rattle.tetra_settings.specs.declared.types.Span.{Span}
use Rattle.tetra_settings.specs.declared.types.Span.TheVariants.{One, Four, Eight}
use Rattle.tetra_settings.specs.declared.slots.Letter.{Letter}
use Rattle.tetra_settings.specs.declared.slots.SlotUse.TheVariants.{Traffic as TrafficUse}
use Rattle.tetra_settings.specs.declared.readings.FieldName.TheVariants.{Whole, Single}
use Rattle.tetra_session.specs.Heard.{key_for, is_spread}
use Rattle.tetra_session.specs.Readers.{reader, heard_by, field_reading}
use Rattle.tetra_session.specs.Sent.{load_word, rest_word, data_block}
use Rattle.tetra_session.specs.Spots.{data_rest, rest_spot}
use Rattle.tetra_session.specs.Time.{span_slots, depth}
use Rattle.tetra_session.proofs.FittingData.{CarriesLoad}

-- what is known of a channel of protected data
pub record DataLaws (channel : Channel) : Type 0 where
  pub arrives : UndamagedWordArrives channel
  pub is_read : UndamagedWordIsRead channel
  pub none_wrong_arrives : NoneWrongWordArrives channel
  pub none_wrong_is_read : NoneWrongWordIsRead channel

-- a mode of protected data: its channel, and what the definitions say of both
pub record IsSpread (mode : Mode) (channel : Channel) : Type 0 where
  pub depth_is : IsDepth (depth mode)
  pub some : 1 ≤ depth mode
  pub block : (load : List Bool) → data_block mode load ≡ type3_bits channel load
  pub word : (key : List Bool) (before : List (List Bool)) (load : List Bool)
      → load_word key mode before load ≡ word_bits channel key (spread_word (depth mode) (before ++ data_block mode load ∷ []))
  pub rest : (key : List Bool) (before : List (List Bool)) (load : List Bool) → rest_word key mode before load ≡ drop 216 (load_word key mode before load)
  pub one_name : traffic_name mode Single ≡ traffic_name mode Whole
  pub rest_there : (stolen : Bool) → rest_spot mode stolen ≡ data_rest stolen
  pub heard : (key : List Bool) (values : List ℤ) → heard_by (reader (traffic_name mode Whole)) (key_for key (traffic_name mode Whole)) values ≡ front_values channel key values
  pub spread : is_spread (traffic_name mode Whole) ≡ true
  pub read : (rows : List ℕ) (soft : List ℤ) → field_reading rows (traffic_name mode Whole) (Some soft) ≡ coded_reading channel soft
  pub sent : channel.plan.sent ≡ 432
  pub none : channel.parity ≡ Nothing
  pub steps : (letter : Letter) (load : List Bool) → CarriesLoad mode letter load → length load + width channel.parity + 4 ≡ channel.plan.steps
  pub frame : (frame : ℕ) → frame < 18 → use_in mode frame ≡ TrafficUse
  pub laws : DataLaws channel

data_frame : (frame : ℕ) → frame < 18 → traffic_in frame ≡ TrafficUse
data_frame frame h =
    let e : nat_eq frame 18 ≡ false = grind (arith, nat_tests) in
    rw e refl

is_48 : (span : Span) → IsDepth (depth (D48 span)) → 1 ≤ depth (D48 span) → DataLaws data48 → IsSpread (D48 span) data48
is_48 span d one laws = record {
  depth_is = d;
  some = one;
  block = λ load. refl;
  word = λ key before load. refl;
  rest = λ key before load. refl;
  one_name = refl;
  rest_there = λ stolen. refl;
  heard = λ key values. refl;
  spread = refl;
  read = λ rows soft. refl;
  sent = refl;
  none = refl;
  steps = λ letter load h. omega (arith, h.1);
  frame = data_frame;
  laws = laws;
}

is_24 : (span : Span) → IsDepth (depth (D24 span)) → 1 ≤ depth (D24 span) → DataLaws data24 → IsSpread (D24 span) data24
is_24 span d one laws = record {
  depth_is = d;
  some = one;
  block = λ load. refl;
  word = λ key before load. refl;
  rest = λ key before load. refl;
  one_name = refl;
  rest_there = λ stolen. refl;
  heard = λ key values. refl;
  spread = refl;
  read = λ rows soft. refl;
  sent = refl;
  none = refl;
  steps = λ letter load h. omega (arith, h.1);
  frame = data_frame;
  laws = laws;
}

span_depth : (span : Span) → IsTrue (is_depth (span_slots span)) × (1 ≤ span_slots span)
span_depth One = (refl, omega arith)
span_depth Four = (refl, omega arith)
span_depth Eight = (refl, omega arith)

pub record Laws : Type 0 where
  pub of_48 : DataLaws data48
  pub of_24 : DataLaws data24
  pub half_read : UndamagedIsRead half
  pub gathered_whole : UndamagedArrives
  pub gathered_none_wrong : NoneWrongArrives
  pub fields : FieldsArrive
  pub kinds : KindArrives

pub spread_mode : Laws → (mode : Mode) → 1 ≤ depth mode → (channel : Channel) × IsSpread mode channel
spread_mode laws Sig h = absurd (omega arith)
spread_mode laws Cb h = absurd (omega arith)
spread_mode laws D72 h = absurd (omega arith)
spread_mode laws (D48 span) h = (data48, is_48 span (span_depth span).0 (span_depth span).1 laws.of_48)
spread_mode laws (D24 span) h = (data24, is_24 span (span_depth span).0 (span_depth span).1 laws.of_24)
spread_mode laws Speech h = absurd (omega arith)
