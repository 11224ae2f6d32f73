use Rattle.std.proofs.Common.{◌≡◌, ℕ, List, ap, ◌∙◌}
use Rattle.tetra_settings.specs.Blocks.{body_of}
use Rattle.tetra_gen.specs.Words.{generator, word}
use Rattle.tetra_gen.specs.Made.{field_begin, nth_field, body_drawn}
use Rattle.tetra_gen.proofs.Making.{begin_none, begin_more}
use Rattle.tetra_gen.proofs.blocks.draw_body.Goals as goal

pub returns-clause-body : goal.returns-clause-body
unfolding body_drawn nth_field
returns-clause-body c = λ seed stream i from.
    let sizes = c.field_bits.result in
    let begins = field_begin i sizes in
    let none : c.args.words.now ≡ generator seed stream (begins 0) = from ∙ ap (generator seed stream) (begin_none i sizes) in
    let one : c.draw_field-first.new.words ≡ generator seed stream (begins 1) = c.draw_field-first.ensures.words seed stream (begins 0) none ∙ ap (generator seed stream) (begin_more i sizes 0) in
    let two : c.draw_field-second.new.words ≡ generator seed stream (begins 2) = c.draw_field-second.ensures.words seed stream (begins 1) one ∙ ap (generator seed stream) (begin_more i sizes 1) in
    let first = c.draw_field-first.ensures.field seed stream (begins 0) none in
    let second = c.draw_field-second.ensures.field seed stream (begins 1) one in
    let third = c.draw_field-third.ensures.field seed stream (begins 2) two in
    c.from_fields.ensures.body ∙ (λ j. body_of c.args.letter c.args.sent.0 c.args.sent.1 (first j) (second j) (third j))
    ∙ ap (λ (s : List ℕ). body_drawn (word seed stream) c.args.letter c.args.sent.0 c.args.sent.1 s i) c.field_bits.ensures

pub returns-clause-words : goal.returns-clause-words
returns-clause-words c = λ seed stream i from.
    let sizes = c.field_bits.result in
    let begins = field_begin i sizes in
    let none : c.args.words.now ≡ generator seed stream (begins 0) = from ∙ ap (generator seed stream) (begin_none i sizes) in
    let one : c.draw_field-first.new.words ≡ generator seed stream (begins 1) = c.draw_field-first.ensures.words seed stream (begins 0) none ∙ ap (generator seed stream) (begin_more i sizes 0) in
    let two : c.draw_field-second.new.words ≡ generator seed stream (begins 2) = c.draw_field-second.ensures.words seed stream (begins 1) one ∙ ap (generator seed stream) (begin_more i sizes 1) in
    c.draw_field-third.ensures.words seed stream (begins 2) two ∙ ap (generator seed stream) (begin_more i sizes 2)
    ∙ ap (λ (s : List ℕ). generator seed stream (field_begin i s 3)) c.field_bits.ensures
