-- What an intake reads, for any shape over slots.
use Rattle.std.proofs.Common.{◌≡◌, ℕ, ◌<◌, List, [], length, take, sym, arith, subst}
use Rattle.std.specs.declared.option.Option.{Option}
use Rattle.std.proofs.KnownBytes.{Consumes-nil}
use Rattle.std.proofs.lemmas.List.{length-take}
use Rattle.tetra_io.specs.Filling.{Fills}
use Rattle.tetra_io.specs.lemmas.Told.{AreTold-all}
use Rattle.tetra_io.specs.declared.filling.Filled.TheVariants.{Ended}
use Rattle.tetra_engine.specs.declared.status.Status.TheVariants.{Input}
use Rattle.tetra_engine.specs.declared.work.Stop.{Stop}
use Rattle.tetra_engine.specs.declared.work.Stop.TheVariants.{End, Bad, More, Fault}
use Rattle.tetra_engine.specs.Intake.{IntakeStops}
use Rattle.tetra_engine.specs.Outcomes.{Over}
use Rattle.tetra_engine.specs.Shapes.{Shape}
use Rattle.tetra_engine.specs.Working.{NoneBegins, StopGives}
use Rattle.tetra_engine.proofs.Fronts.{IsShort, fault_behind}

-- the source ended inside a slot
pub cut_off : (old new : Option (List ℕ)) (m : ℕ) (buf : List ℕ) → 0 < m → length buf ≡ 510 → Fills old new (Ended m) buf → Over old (λ bytes. (0 < length bytes) × (length bytes < 510))
cut_off old new m buf some size fills = (
  take m buf,
  AreTold-all old new (take m buf) fills.1 fills.2,
  (omega (arith, length-take m buf, fills.0), omega (arith, length-take m buf, fills.0)),
)

-- what its stops say of a shape whose inputs begin with slots
pub slot_stopped : {X : Type 0} (shape : Shape X) (before : List X) → IsShort shape before [] 510
    → (old new : Option (List ℕ)) (Stands : Type 0) (stop : Stop) → Stands → IntakeStops old new stop → StopGives shape before old new Stands stop
slot_stopped shape before short old new Stands End stands stops = (stands, stops.0, stops.1)
slot_stopped shape before short old new Stands (Bad why) stands (truncated, (bytes, told, (some, few))) =
    subst (λ w. NoneBegins shape before old (Input (length before) w)) (sym truncated) (bytes, told, (some, short.none bytes few, short.stops bytes few))
slot_stopped shape before short old new Stands More stands stops = absurd stops
slot_stopped shape before short old new Stands Fault stands takes = fault_behind shape before [] 510 old old new short (Consumes-nil old) takes
