use Rattle.std.proofs.Common.{◌≡◌, inl, inr, length, drop, ap, refl, ◌∙◌}
use Rattle.tetra_scramble.specs.lemmas.Entries.{length-flipped}
use Rattle.tetra_session.specs.Sent.{load_word, rest_word}
use Rattle.tetra_session.proofs.spreading.rest_word.Goals as goal

pub returns-in-D72-clause-word : goal.returns-in-D72-clause-word
returns-in-D72-clause-word g c = λ before h.
    let key = c.args.key.now in
    let mode = c.args.mode in
    let load = c.args.load.now in
    let same : drop 216 (load_word key mode before load) ≡ rest_word key mode before load =
    elim c.in-D72.is [
      | inl e ↦ rw e refl
      | inr spread ↦ elim spread [ inl over ↦ rw over.1 refl | inr over ↦ rw over.1 refl ]
    ]
    in
    c.second_half.ensures.bits ∙ ap (drop 216) (c.load_word.ensures.word before h) ∙ same

pub returns-in-Speech-clause-size : goal.returns-in-Speech-clause-size
returns-in-Speech-clause-size g c =
    ap length c.flip_bits.ensures ∙ length-flipped c.encode_half.result c.args.key.now 1 ∙ c.encode_half.ensures.size
