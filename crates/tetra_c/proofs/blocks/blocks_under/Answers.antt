use Rattle.tetra_settings.specs.Slots.{mode_of}
use Rattle.tetra_c.proofs.Fitting.{blocks_fit, carries, fields_fit}
use Rattle.tetra_c.proofs.blocks.blocks_under.Goals as goal

pub returns-clause-fits : goal.returns-clause-fits
returns-clause-fits c =
    let settings = c.args.settings.now in
    let mode = mode_of settings c.args.turn in
    let each = carries settings c.args.turn c.args.blocks.now c.args.letter c.requires.fits in
    blocks_fit settings c.args.turn c.args.blocks.now c.args.letter _ each c.access.ensures c.from_fields.ensures.letter
    (c.from_fields.ensures.lengths mode
    (fields_fit c.args.blocks.now c.args.letter mode c.sent.result.0 c.sent.result.1 c.field.result c.field-2.result c.field-3.result
    c.sent.ensures.first c.sent.ensures.second each.lengths c.field.ensures.size c.field-2.ensures.size c.field-3.ensures.size))
