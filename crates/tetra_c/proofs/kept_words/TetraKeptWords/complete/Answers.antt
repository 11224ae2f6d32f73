use Rattle.std.proofs.Common.{take}
use Rattle.tetra_c.proofs.WordRings.{words_whole}
use Rattle.tetra_c.proofs.kept_words.TetraKeptWords.complete.Goals as goal

pub gather_ring-requires-clause-size : goal.gather_ring-requires-clause-size
gather_ring-requires-clause-size g c = words_whole (take c.from.result c.args.self.now.words)
