use Rattle.tetra_engine.proofs.Encoded.{bad_record, part_record}
use Rattle.tetra_engine.proofs.encoder.EncoderWork.read.Goals as goal

pub returns-in-Err-Bad-clause-gives : goal.returns-in-Err-Bad-clause-gives
returns-in-Err-Bad-clause-gives g c xs stands slot = bad_record c.args.self.now.settings xs c.args.slot c.in-Err-Bad.why _ _ slot (rw c.in-Err-Bad.field-0-is at c.in-Err-Bad.ensures.gives)

pub returns-in-Err-Source-clause-gives : goal.returns-in-Err-Source-clause-gives
returns-in-Err-Source-clause-gives g c xs stands slot = part_record c.args.self.now.settings xs c.args.slot _ _ slot (rw c.in-Err-Source.field-0-is at c.in-Err-Source.ensures.gives)
