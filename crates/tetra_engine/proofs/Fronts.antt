-- What is left to read behind a front, over any shape.
use Rattle.std.proofs.Common.{◌≡◌, ℕ, ◌+◌, ◌<◌, List, ◌++◌, length, take, inr, arith, length-append}
use Rattle.std.specs.declared.option.Option.{Option}
use Rattle.std.specs.Io.KnownBytes.{Consumes}
use Rattle.std.proofs.lemmas.List.{length-take}
use Rattle.tetra_io.specs.Filling.{Fills, TakesFewer}
use Rattle.tetra_io.specs.declared.filling.Filled.TheVariants.{Ended}
use Rattle.tetra_io.specs.lemmas.Told.{Went-behind, AreTold-behind, AreTold-all}
use Rattle.tetra_engine.specs.declared.status.Status.TheVariants.{Input}
use Rattle.tetra_records.specs.declared.faults.RecordFault.TheVariants.{Truncated}
use Rattle.tetra_engine.specs.Shapes.{Shape, NoInput}
use Rattle.tetra_engine.specs.Working.{NoneBegins, TakesPart}

-- this front with fewer than so many bytes behind it begins no input, for want of more
pub record IsShort {X : Type 0} (shape : Shape X) (before : List X) (front : List ℕ) (more : ℕ) : Type 0 where
  pub none : (u : List ℕ) → length u < more → NoInput shape before (front ++ u)
  pub stops : (u : List ℕ) → length u < more → shape.Stops before (front ++ u) (Input (length before) Truncated)

-- the source ended behind a front and some bytes
pub ended_behind : {X : Type 0} (shape : Shape X) (before : List X) (front : List ℕ) (more m : ℕ) (buf : List ℕ) (old mid new : Option (List ℕ)) → IsShort shape before front more
    → Consumes old mid front → Fills mid new (Ended m) buf → length buf ≡ more → 0 < length front + m → NoneBegins shape before old (Input (length before) Truncated)
ended_behind shape before front more m buf old mid new short came fills size some =
    let few : length (take m buf) < more = omega (arith, length-take m buf, fills.0) in (
      front ++ take m buf,
      AreTold-behind old mid front (take m buf) came (AreTold-all mid new (take m buf) fills.1 fills.2),
      (omega (arith, length-append front (take m buf), length-take m buf, fills.0), short.none (take m buf) few, short.stops (take m buf) few),
    )

-- a read failed behind a front
pub fault_behind : {X : Type 0} (shape : Shape X) (before : List X) (front : List ℕ) (more : ℕ) (old mid new : Option (List ℕ)) → IsShort shape before front more
    → Consumes old mid front → TakesFewer mid new more → TakesPart shape before old new
fault_behind shape before front more old mid new short came (bs, few, went) =
    (front ++ bs, Went-behind old mid new front bs came went, inr (short.none bs few, short.stops bs few))
