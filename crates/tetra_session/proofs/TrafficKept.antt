-- What is read of an undamaged traffic slot: its letter, its access field and its two blocks.
use Rattle.std.proofs.Common.{ℕ, ℤ, ◌≡◌, Bool, true, false, List, ◌++◌, length, take, drop, Option, Some, None, IfSome, arith, refl, ap, subst}
use Rattle.std.proofs.lemmas.List.{take-append-drop}
use Rattle.tetra_bits.specs.Undamaged.{IsUndamaged, IsNoneWrong}
use Rattle.tetra_bursts.specs.Arrives.{KeepsBy, FieldsArrive, KindArrives}
use Rattle.tetra_bursts.specs.Bursts.{blocks_down, blocks_up}
use Rattle.tetra_bursts.specs.Fields.{first_half, second_half, aach_field}
use Rattle.tetra_bursts.specs.Kind.{kind, allows, burst_with}
use Rattle.tetra_bursts.specs.Table.{normal_down, normal_up}
use Rattle.tetra_bursts.specs.declared.table.Train.{Train}
use Rattle.tetra_bursts.specs.declared.table.Train.TheVariants.{N, P as PTrain, Y}
use Rattle.tetra_bursts.specs.lemmas.Joined.{undamaged_both}
use Rattle.tetra_channels.specs.Channels.{half, type5_bits, access_bits}
use Rattle.tetra_channels.specs.Laws.{UndamagedIsRead, written_reading}
use Rattle.tetra_parity.specs.Marks.{good_mark}
use Rattle.tetra_settings.specs.Blocks.{FitsAccess}
use Rattle.tetra_settings.specs.Slots.{use_of}
use Rattle.tetra_settings.specs.declared.types.Dir.{Dir}
use Rattle.tetra_settings.specs.declared.types.Dir.TheVariants.{Dl, Ul}
use Rattle.tetra_settings.specs.declared.types.Settings.{Settings}
use Rattle.tetra_settings.specs.declared.slots.SlotUse.TheVariants.{Traffic as TrafficUse}
use Rattle.tetra_session.specs.Heard.{allowed_in, letter_by, letter_heard, traffic_letter, is_good, second_stolen, place_values}
use Rattle.tetra_session.specs.Sent.{KeepsSlotOf, Normal, access_of}
use Rattle.tetra_session.specs.Spots.{is_downlink, data_rest, spot_values}
use Rattle.tetra_session.specs.lemmas.NoneWrong.{undamaged_none_wrong, zeros_none_wrong, none_wrong_both}
use Rattle.tetra_session.proofs.WordSizes.{access_size, first_size}

-- both blocks together are the word, and so are the values 0 and block 2 where the first half is stolen
module _ (word : List Bool) (size : length word ≡ 432) where
  pub joined : (v w : List ℤ) → IsUndamaged (take 216 word) v → IsUndamaged (drop 216 word) w → IsUndamaged word (v ++ w)
  joined v w a b = subst (λ bits. IsUndamaged bits (v ++ w)) (take-append-drop 216 word) (undamaged_both (take 216 word) (drop 216 word) v w a b)

  joined_none_wrong : (v w : List ℤ) → IsNoneWrong (take 216 word) v → IsNoneWrong (drop 216 word) w → IsNoneWrong word (v ++ w)
  joined_none_wrong v w a b = subst (λ bits. IsNoneWrong bits (v ++ w)) (take-append-drop 216 word) (none_wrong_both (take 216 word) (drop 216 word) v w a b)

  -- what is left of data: block 2, or nothing where it seems stolen too
  pub rest_kept : (dir : Dir) (soft : List ℤ) (stolen : Bool) → (stolen ≡ false → IsUndamaged (drop 216 word) (second_half (is_downlink dir) soft))
      → IsNoneWrong word (spot_values dir (data_rest stolen) soft)
  rest_kept dir soft true second = zeros_none_wrong word 432 size
  rest_kept dir soft false second =
      joined_none_wrong _ _ (zeros_none_wrong (take 216 word) 216 (first_size word size)) (undamaged_none_wrong (drop 216 word) (second_half (is_downlink dir) soft) (second refl))

-- a block of a half slot channel in block 2 is Good, so block 2 seems stolen
pub stolen_there : UndamagedIsRead half → (dir : Dir) (key second : List Bool) (soft : List ℤ) → length second ≡ 124
    → IsUndamaged (type5_bits half key second) (second_half (is_downlink dir) soft) → second_stolen dir key soft ≡ true
unfolding second_stolen place_values written_reading good_mark
stolen_there read dir key second soft size u =
    ap (λ r. is_good r.mark) (read key second (second_half (is_downlink dir) soft) (omega (arith, size)) u)

-- the letter of a slot that carries traffic
pub letter_in_traffic : (settings : Settings) (t : ℕ) (soft : List ℤ) → use_of settings t ≡ TrafficUse → letter_heard settings t soft ≡ traffic_letter settings.dir soft
unfolding letter_heard traffic_letter
letter_in_traffic settings t soft u = ap (λ slot. letter_by slot (kind soft (is_downlink settings.dir) (allowed_in settings.dir slot))) u

pub record TrafficKept (dir : Dir) (rows : List ℕ) (key : List Bool) (aach : Option ℕ) (train : Train) (first second : List Bool) (soft : List ℤ) : Type 0 where
  pub letter : traffic_letter dir soft ≡ letter_by TrafficUse train
  pub access : IfSome aach (λ message. IsUndamaged (access_bits rows key message) (aach_field soft))
  pub block_1 : IsUndamaged first (first_half (is_downlink dir) soft)
  pub block_2 : IsUndamaged second (second_half (is_downlink dir) soft)

-- n and p may stand in a traffic slot
abbrev MayStand : Dir → Train → Type 0
MayStand dir train = allows (allowed_in dir TrafficUse) train ≡ true

pub n_may : (dir : Dir) → MayStand dir N
n_may Dl = refl
n_may Ul = refl

pub p_may : (dir : Dir) → MayStand dir PTrain
p_may Dl = refl
p_may Ul = refl

burst_down : (train : Train) → MayStand Dl train → normal_down train ≡ burst_with true train
burst_down N may = refl
burst_down PTrain may = refl
burst_down Y may = absurd cc

burst_up : (train : Train) → MayStand Ul train → normal_up train ≡ burst_with false train
burst_up N may = refl
burst_up PTrain may = refl
burst_up Y may = absurd cc

pub traffic_kept : FieldsArrive → KindArrives → (dir : Dir) (rows : List ℕ) (key : List Bool) (aach : Option ℕ) (train : Train) (first second : List Bool) (soft : List ℤ)
    → FitsAccess dir aach → MayStand dir train → length first ≡ 216 → length second ≡ 216
    → KeepsSlotOf dir (access_of rows key aach) (Normal train first second) soft → TrafficKept dir rows key aach train first second soft
unfolding traffic_letter
traffic_kept fields kinds Dl rows key (Some message) train first second soft fit may one two kept =
    let access : List Bool = access_bits rows key message in
    let parts = fields.normal_down train first access second soft one (access_size rows key message) two kept in
    let burst = subst (λ table. KeepsBy (blocks_down first access second) table soft) (burst_down train may) kept in
    let train_is = kinds.kind (blocks_down first access second) true train (allowed_in Dl TrafficUse) soft burst may (λ y. refl) in
    record { letter = ap (letter_by TrafficUse) train_is; access = parts.access; block_1 = parts.block_1; block_2 = parts.block_2 }
traffic_kept fields kinds Dl rows key None train first second soft fit may one two kept = absurd fit
traffic_kept fields kinds Ul rows key None train first second soft fit may one two kept =
    let parts = fields.normal_up train first second soft one two kept in
    let burst = subst (λ table. KeepsBy (blocks_up first second) table soft) (burst_up train may) kept in
    let train_is = kinds.kind (blocks_up first second) false train (allowed_in Ul TrafficUse) soft burst may (λ y. absurd cc) in
    record { letter = ap (letter_by TrafficUse) train_is; access = tt; block_1 = parts.block_1; block_2 = parts.block_2 }
traffic_kept fields kinds Ul rows key (Some message) train first second soft fit may one two kept = absurd fit
