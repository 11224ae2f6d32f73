use Rattle.std.proofs.Common.{rules, ◌<◌, arith}
use Rattle.tetra_c.proofs.WordRings.{word_size, word_value}
use Rattle.tetra_c.proofs.kept_words.TetraKeptWordWordRow.value.Goals as goal

pub bounds-self-i : goal.bounds-self-i
bounds-self-i c = omega (arith, c.requires, word_size c.args.self.now)

pub returns-clause-value : goal.returns-clause-value
returns-clause-value c =
    let within : c.args.i < 432 = omega (arith, c.requires, word_size c.args.self.now) in
    let read = word_value c.args.self.now c.args.i within in
    search (rules, read)
