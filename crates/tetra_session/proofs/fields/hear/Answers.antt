use Rattle.std.proofs.Common.{length, ap, ◌∙◌}
use Rattle.tetra_scramble.specs.lemmas.Entries.{length-turned}
use Rattle.tetra_settings.specs.Readings.{sizes}
use Rattle.tetra_settings.specs.declared.readings.FieldName.{FieldName}
use Rattle.tetra_session.proofs.fields.hear.Goals as goal

pub returns-in-Aach-clause-size : goal.returns-in-Aach-clause-size
returns-in-Aach-clause-size c =
    ap length c.flip_soft_into.ensures ∙ length-turned c.spot_into.new.values c.args.key.now _
    ∙ c.spot_into.ensures.size ∙ c.requires.place.size

pub returns-in-D72-clause-size : goal.returns-in-D72-clause-size
returns-in-D72-clause-size c =
    ap length c.flip_soft_into-in-D72.ensures ∙ length-turned c.spot_into.new.values c.args.key.now _
    ∙ c.spot_into.ensures.size ∙ c.requires.place.size

pub whole_front_into-requires : goal.whole_front_into-requires
whole_front_into-requires c =
    ap length c.flip_soft.ensures ∙ length-turned c.spot_into.new.values c.args.key.now _
    ∙ c.spot_into.ensures.size ∙ c.requires.place.size ∙ ap (λ (name : FieldName). (sizes name).values) c.in-Whole.is

pub half_front_into-requires : goal.half_front_into-requires
half_front_into-requires c =
    ap length c.flip_soft-in-Single.ensures ∙ length-turned c.spot_into.new.values c.args.key.now _
    ∙ c.spot_into.ensures.size ∙ c.requires.place.size ∙ ap (λ (name : FieldName). (sizes name).values) c.in-Single.is
