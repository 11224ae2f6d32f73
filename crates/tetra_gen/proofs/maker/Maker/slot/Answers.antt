use Rattle.std.proofs.Common.{◌+◌, refl, sym, subst}
use Rattle.tetra_settings.specs.Blocks.{Fits}
use Rattle.tetra_settings.specs.Validity.{IsValid}
use Rattle.tetra_gen.specs.Made.{first_word, access_words, mask_words}
use Rattle.tetra_gen.specs.lemmas.Fitting.{made_fits}
use Rattle.tetra_gen.proofs.Making.{made_is, words_are}
use Rattle.tetra_gen.proofs.maker.Maker.slot.Goals as goal

pub returns-clause-blocks : goal.returns-clause-blocks
returns-clause-blocks c = λ settings k h.
    let s = c.args.self.now in
    let i = first_word settings k in
    let behind_letter = c.draw_letter-letter.ensures.words settings.draw 1 i h.words in
    let behind_access = c.draw_access-aach.ensures.words settings.draw 1 (i + 1) behind_letter in
    let behind_mask = c.draw_mask-sent.ensures.words settings.draw 1 (i + 1 + access_words s.settings.dir) behind_access in
    made_is settings s.settings k s.turn c.slot_use.result c.mode_at-mode.result c.letters-allowed.result.now c.draw_letter-letter.result c.draw_mask-sent.result.0 c.draw_mask-sent.result.1 h.same h.turn
    c.slot_use.ensures.slot c.mode_at-mode.ensures.mode c.letters-allowed.ensures.letters (c.draw_letter-letter.ensures.letter settings.draw 1 i h.words)
    (c.draw_mask-sent.ensures.first settings.draw 1 (i + 1 + access_words s.settings.dir) behind_access)
    (c.draw_mask-sent.ensures.second settings.draw 1 (i + 1 + access_words s.settings.dir) behind_access)
    c.draw_access-aach.result c.draw_body-body.result (c.draw_access-aach.ensures.access settings.draw 1 (i + 1) behind_letter)
    (c.draw_body-body.ensures.body settings.draw 1 (i + 1 + access_words s.settings.dir + mask_words c.draw_letter-letter.result) behind_mask)

pub returns-clause-fits : goal.returns-clause-fits
returns-clause-fits c = λ settings k h.
    let s = c.args.self.now in
    let valid : IsValid settings = subst IsValid h.same s.valid in
    subst (Fits settings k) (sym (returns-clause-blocks c settings k h)) (made_fits settings k valid)

pub returns-clause-stands : goal.returns-clause-stands
returns-clause-stands c = λ settings k h.
    let s = c.args.self.now in
    let i = first_word settings k in
    let behind_letter = c.draw_letter-letter.ensures.words settings.draw 1 i h.words in
    let behind_access = c.draw_access-aach.ensures.words settings.draw 1 (i + 1) behind_letter in
    let behind_mask = c.draw_mask-sent.ensures.words settings.draw 1 (i + 1 + access_words s.settings.dir) behind_access in
    let behind_body = c.draw_body-body.ensures.words settings.draw 1 (i + 1 + access_words s.settings.dir + mask_words c.draw_letter-letter.result) behind_mask in
    record {
      same = h.same;
      turn = rw h.turn refl;
      words = words_are settings s.settings k s.turn c.slot_use.result c.mode_at-mode.result c.letters-allowed.result.now c.draw_letter-letter.result c.draw_mask-sent.result.0 c.draw_mask-sent.result.1 h.same h.turn
          c.slot_use.ensures.slot c.mode_at-mode.ensures.mode c.letters-allowed.ensures.letters (c.draw_letter-letter.ensures.letter settings.draw 1 i h.words)
          (c.draw_mask-sent.ensures.first settings.draw 1 (i + 1 + access_words s.settings.dir) behind_access)
          (c.draw_mask-sent.ensures.second settings.draw 1 (i + 1 + access_words s.settings.dir) behind_access)
          c.draw_body-body.new.words behind_body;
    }
