use Rattle.std.proofs.Common.{◌++◌, ap, ◌∙◌}
use Rattle.tetra_bits.specs.Digits.{digits}
use Rattle.tetra_rm.specs.Code.{access_word}
use Rattle.tetra_rm.proofs.words.encode.Goals as goal

pub returns-clause-word : goal.returns-clause-word
unfolding access_word
returns-clause-word c =
    c.push_digits-2.ensures.list
    ∙ ap (λ l. l ++ digits 16 c.sum_of_rows.result) (c.push_digits.ensures.list ∙ ap (λ l. l ++ digits 14 c.args.message) c.new-word.ensures)
    ∙ ap (λ n. digits 14 c.args.message ++ digits 16 n) c.sum_of_rows.ensures
