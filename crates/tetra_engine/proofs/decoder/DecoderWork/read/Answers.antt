use Rattle.std.proofs.Common.{rules, arith, map, ◌<◌, length}
use Rattle.tetra_engine.specs.Intake.{IntakeStands}
use Rattle.tetra_engine.specs.Slots.{soft_values}
use Rattle.tetra_engine.proofs.Framed.{decoding_read}
use Rattle.tetra_engine.proofs.decoder.DecoderWork.read.Goals as goal

pub returns-clause-gives : goal.returns-clause-gives
returns-clause-gives g c xs stands slot =
    let next : IntakeStands c.next.new.self (map soft_values xs) = search rules in
    let few : length xs < 16777216 = omega (arith, slot, c.requires.slot) in
    decoding_read c.args.self.now.intake.settings _ xs _ _ c.next.result next few c.next.ensures.gives
