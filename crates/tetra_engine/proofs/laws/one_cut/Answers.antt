use Rattle.tetra_engine.specs.Auditing.{auditing}
use Rattle.tetra_engine.specs.Decoding.{decoding}
use Rattle.tetra_engine.specs.Encoding.{encoding}
use Rattle.tetra_engine.proofs.Cuts.{one_cut}
use Rattle.tetra_engine.proofs.Encoded.{one_record}
use Rattle.tetra_engine.proofs.Unambiguous.{one_slot, one_claimed}
use Rattle.tetra_engine.proofs.laws.one_cut.Goals as goal

pub returns-clause-encode : goal.returns-clause-encode
returns-clause-encode c settings = one_cut (encoding settings) (one_record settings (c.records_are_unambiguous.ensures settings))

pub returns-clause-decode : goal.returns-clause-decode
returns-clause-decode c settings = one_cut (decoding settings) (one_slot settings)

pub returns-clause-audit : goal.returns-clause-audit
returns-clause-audit c settings = one_cut (auditing settings) (one_claimed settings)
