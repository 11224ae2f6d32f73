-- The blocks of a slot: the letter and the fields of a body, with the number of their bits.
use Rattle.std.specs.Prelude.{ℕ, ◌≡◌, ◌<◌, List, [], ◌∷◌, length, Bool, false, IsTrue, is_some, unwrap_or, None, Some, IfSome, if◌then◌else◌}
use Rattle.std.specs.declared.option.Option.{Option}
use Rattle.tetra_settings.specs.declared.types.Dir.{Dir}
use Rattle.tetra_settings.specs.declared.types.Dir.TheVariants.{Dl, Ul}
use Rattle.tetra_settings.specs.declared.types.Mode.{Mode}
use Rattle.tetra_settings.specs.declared.types.Mode.TheVariants.{Sig, Cb, D72, D48, D24, Speech}
use Rattle.tetra_settings.specs.declared.types.Settings.{Settings}
use Rattle.tetra_settings.specs.declared.slots.Letter.{Letter}
use Rattle.tetra_settings.specs.declared.slots.Letter.TheVariants.{F, H, S, T, P, Q, C}
use Rattle.tetra_settings.specs.declared.blocks.Body.{Body}
use Rattle.tetra_settings.specs.declared.blocks.Body.TheVariants.{Full, Halves, Sync, Traffic, Stolen, Both, Control}
use Rattle.tetra_settings.specs.declared.blocks.SlotBlocks.{SlotBlocks}
use Rattle.tetra_settings.specs.Slots.{use_of, mode_of, is_allowed}

abbrev pub letter_of : Body → Letter
letter_of (Full block) = F
letter_of (Halves first second) = H
letter_of (Sync sync half) = S
letter_of (Traffic load) = T
letter_of (Stolen first load) = P
letter_of (Both first second load) = Q
letter_of (Control first second) = C

-- the fields of a body in their order, and empty lists up to three
abbrev pub fields_of : Body → List (List Bool)
fields_of (Full block) = block ∷ [] ∷ [] ∷ []
fields_of (Halves first second) = first ∷ second ∷ [] ∷ []
fields_of (Sync sync half) = sync ∷ half ∷ [] ∷ []
fields_of (Traffic load) = load ∷ [] ∷ [] ∷ []
fields_of (Stolen first load) = first ∷ load ∷ [] ∷ []
fields_of (Both first second load) = first ∷ second ∷ load ∷ []
fields_of (Control first second) = unwrap_or first [] ∷ unwrap_or second [] ∷ [] ∷ []

-- whether the first and the second subslot are sent
abbrev pub sends_first : Body → Bool
sends_first (Full block) = false
sends_first (Halves first second) = false
sends_first (Sync sync half) = false
sends_first (Traffic load) = false
sends_first (Stolen first load) = false
sends_first (Both first second load) = false
sends_first (Control first second) = is_some first

abbrev pub sends_second : Body → Bool
sends_second (Full block) = false
sends_second (Halves first second) = false
sends_second (Sync sync half) = false
sends_second (Traffic load) = false
sends_second (Stolen first load) = false
sends_second (Both first second load) = false
sends_second (Control first second) = is_some second

-- the bits of the load of a traffic letter: TCH/7.2, TCH/4.8, TCH/2.4, and two frames of speech, one or none
abbrev pub load_bits : Mode → Letter → ℕ
load_bits D72 letter = 432
load_bits (D48 span) letter = 288
load_bits (D24 span) letter = 144
load_bits Speech T = 274
load_bits Speech P = 137
load_bits Speech F = 0
load_bits Speech H = 0
load_bits Speech S = 0
load_bits Speech Q = 0
load_bits Speech C = 0
load_bits Sig letter = 0
load_bits Cb letter = 0

-- the bits of a subslot, where it is sent
abbrev pub subslot_bits : Bool → ℕ
subslot_bits sent = if sent then 92 else 0

-- the table of fields: the bits of each in its order, 0 where there is no field
abbrev pub field_bits : Letter → Mode → Bool → Bool → List ℕ
field_bits F mode first second = 268 ∷ 0 ∷ 0 ∷ []
field_bits H mode first second = 124 ∷ 124 ∷ 0 ∷ []
field_bits S mode first second = 60 ∷ 124 ∷ 0 ∷ []
field_bits T mode first second = load_bits mode T ∷ 0 ∷ 0 ∷ []
field_bits P mode first second = 124 ∷ load_bits mode P ∷ 0 ∷ []
field_bits Q mode first second = 124 ∷ 124 ∷ load_bits mode Q ∷ []
field_bits C mode first second = subslot_bits first ∷ subslot_bits second ∷ 0 ∷ []

-- the body of a letter with these fields
abbrev pub body_of : Letter → Bool → Bool → List Bool → List Bool → List Bool → Body
body_of F first second a b c = Full a
body_of H first second a b c = Halves a b
body_of S first second a b c = Sync a b
body_of T first second a b c = Traffic a
body_of P first second a b c = Stolen a b
body_of Q first second a b c = Both a b c
body_of C first second a b c = Control (if first then Some a else None) (if second then Some b else None)

-- lists have these lengths
abbrev pub Lengths : List (List Bool) → List ℕ → Type 0
Lengths [] [] = Unit {0}
Lengths (x ∷ xs) (n ∷ ns) = (length x ≡ n) × Lengths xs ns
Lengths xs ns = ⊥

-- the fields of a body have the lengths of the table
abbrev pub HasLengths : Mode → Body → Type 0
HasLengths mode body =
    Lengths (fields_of body) (field_bits (letter_of body) mode (sends_first body) (sends_second body))

abbrev pub IsTrafficMode : Mode → Type 0
IsTrafficMode Sig = ⊥
IsTrafficMode Cb = ⊥
IsTrafficMode D72 = Unit {0}
IsTrafficMode (D48 span) = Unit {0}
IsTrafficMode (D24 span) = Unit {0}
IsTrafficMode Speech = Unit {0}

-- each list has a length that the table gives to its place, and an access field is below 2^14
pub record AreWellFormed (blocks : SlotBlocks) : Type 0 where
  pub lengths : (mode : Mode) × IsTrafficMode mode × HasLengths mode blocks.body
  pub access : IfSome blocks.aach (λ message. message < 16384)

-- the downlink has an access field, and the uplink none
abbrev pub FitsAccess : Dir → Option ℕ → Type 0
FitsAccess Dl (Some message) = message < 16384
FitsAccess Ul None = Unit {0}
FitsAccess Dl None = ⊥
FitsAccess Ul (Some message) = ⊥

-- blocks that slot t may carry
pub record Fits (settings : Settings) (t : ℕ) (blocks : SlotBlocks) : Type 0 where
  pub letter : IsTrue (is_allowed settings.dir (use_of settings t) (letter_of blocks.body))
  pub lengths : HasLengths (mode_of settings t) blocks.body
  pub access : FitsAccess settings.dir blocks.aach
