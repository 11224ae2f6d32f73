use Rattle.std.proofs.Common.{length, ap, ◌∙◌}
use Rattle.tetra_scramble.specs.lemmas.Entries.{length-flipped}
use Rattle.tetra_session.proofs.spreading.speech_word.Goals as goal

pub returns-clause-size : goal.returns-clause-size
returns-clause-size c = ap length c.flip_bits.ensures ∙ length-flipped c.encode_whole-word.result c.args.key.now 1 ∙ c.encode_whole-word.ensures.size
