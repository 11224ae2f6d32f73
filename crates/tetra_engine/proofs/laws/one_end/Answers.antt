use Rattle.std.proofs.Common.{◌∙◌, sym}
use Rattle.tetra_engine.specs.Auditing.{auditing}
use Rattle.tetra_engine.specs.Decoding.{decoding}
use Rattle.tetra_engine.specs.Encoding.{encoding}
use Rattle.tetra_engine.proofs.Ends.{one_end, encoding_decided}
use Rattle.tetra_engine.proofs.Encoded.{one_record}
use Rattle.tetra_engine.proofs.Unambiguous.{one_slot, one_claimed}
use Rattle.tetra_engine.proofs.laws.one_end.Goals as goal

pub returns-clause-encode : goal.returns-clause-encode
returns-clause-encode c settings = one_end (encoding settings) (one_record settings (c.records_are_unambiguous.ensures settings)) (encoding_decided settings)

pub returns-clause-decode : goal.returns-clause-decode
returns-clause-decode c settings = one_end (decoding settings) (one_slot settings) (λ before bytes s t a b. a ∙ sym b)

pub returns-clause-audit : goal.returns-clause-audit
returns-clause-audit c settings = one_end (auditing settings) (one_claimed settings) (λ before bytes s t a b. a ∙ sym b)
