use Rattle.std.proofs.Common.{rules}
use Rattle.tetra_engine.proofs.Runs.{flush_front}
use Rattle.tetra_engine.proofs.MeetsEnd.{met_where_write_failed}
use Rattle.tetra_engine.proofs.work.finish.Goals as goal

pub returns-in-Err-clause-ends : goal.returns-in-Err-clause-ends
returns-in-Err-clause-ends g c =
    flush_front c.drive-end.result.status (g.W.Work.shape (g.W.Work.settings c.args.work.now)) c.args.max _ _ _ _ _ c.drive-end.result c.drive-end.ensures.ends (search rules) c.flush.ensures.taken

pub returns-in-Err-clause-met : goal.returns-in-Err-clause-met
returns-in-Err-clause-met g c = met_where_write_failed c.drive-end.result.status _ _ c.drive-end.ensures.met
