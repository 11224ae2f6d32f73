use Rattle.std.proofs.Common.{arith}
use Rattle.tetra_c.proofs.WordRings.{word_written}
use Rattle.tetra_c.proofs.kept_words.TetraKeptWord.put.Goals as goal

pub returns : goal.returns
returns c = word_written c.loop-i.self c.args.word.now c.requires (λ k low. c.loop-i.invariant.each k (omega arith))
