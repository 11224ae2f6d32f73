-- Block records at the front of the input.
use Rattle.std.proofs.Common.{◌≡◌, ℕ, List, length, ap, sym, ◌∙◌, inl, inr, subst, refl}
use Rattle.std.specs.declared.option.Option.{Option}
use Rattle.tetra_settings.specs.declared.types.Settings.{Settings}
use Rattle.tetra_settings.specs.declared.blocks.SlotBlocks.{SlotBlocks}
use Rattle.tetra_records.specs.declared.faults.RecordFault.{RecordFault}
use Rattle.tetra_records.specs.Records.{why, IsUnambiguous as AreUnambiguous, NoneBegins as NoRecordBegins, BeginsNone, TakesPart as TakesRecordPart}
use Rattle.tetra_engine.specs.declared.status.Status.TheVariants.{Input}
use Rattle.tetra_engine.specs.Encoding.{encoding}
use Rattle.tetra_engine.specs.Shapes.{NoInput, IsUnambiguous}
use Rattle.tetra_engine.specs.Working.{NoneBegins, TakesPart}

-- the record of blocks names them
pub one_record : (settings : Settings) → AreUnambiguous settings → IsUnambiguous (encoding settings)
one_record settings unambiguous before x y u v fx fy e = unambiguous (length before) x y u v fx fy e

-- bytes that begin with no record begin no input
no_record : (settings : Settings) (before : List SlotBlocks) (bytes : List ℕ) → NoRecordBegins settings (length before) bytes → NoInput (encoding settings) before bytes
unfolding NoRecordBegins
no_record settings before bytes none x rest fits e = none x rest fits e

-- bytes that begin with no record
pub bad_record : (settings : Settings) (before : List SlotBlocks) (n : ℕ) (fault : RecordFault) (old new : Option (List ℕ)) → n ≡ length before
    → BeginsNone settings n fault old new → NoneBegins (encoding settings) before old (Input (length before) fault)
bad_record settings before n fault old new is bad =
    let none = subst (λ k. NoRecordBegins settings k bad.bytes) is bad.none in
    (bad.bytes, bad.told, (bad.some, no_record settings before bad.bytes none, (refl, none, ap (λ k. why settings k bad.bytes) (sym is) ∙ bad.reason)))

-- part of a record
pub part_record : (settings : Settings) (before : List SlotBlocks) (n : ℕ) (old new : Option (List ℕ)) → n ≡ length before
    → TakesRecordPart settings n old new → TakesPart (encoding settings) before old new
part_record settings before n old new is (part, went, inl nothing) = (part, went, inl nothing)
part_record settings before n old new is (part, went, inr (none, truncated)) =
    let here = subst (λ k. NoRecordBegins settings k part) is none in
    (part, went, inr (no_record settings before part here, (refl, here, ap (λ k. why settings k part) (sym is) ∙ truncated)))
