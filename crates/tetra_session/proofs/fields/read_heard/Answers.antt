use Rattle.std.proofs.Common.{nat_abs, refl}
use Rattle.tetra_bits.specs.declared.soft.TheConstants.{SOFT_MAX}
use Rattle.tetra_session.specs.Readers.{read_field, not_yet}
use Rattle.tetra_session.specs.lemmas.Fields.{reading_formed_of, reading_bounded_of}
use Rattle.tetra_session.proofs.InParts.{no_rows}
use Rattle.tetra_session.proofs.fields.read_heard.Goals as goal

pub returns-in-None-clause-parts : goal.returns-in-None-clause-parts
unfolding read_field not_yet
returns-in-None-clause-parts g c =
    rw c.in-None.is (record { mark = refl; metric = refl; bits = rw (c.zeros.ensures, c.sizes.ensures.sizes) refl; rows = no_rows (g.T.Table.rows_of c.begin.new.self) c.begin.ensures })

pub returns-in-Some-clause-formed : goal.returns-in-Some-clause-formed
unfolding read_field
returns-in-Some-clause-formed g c = reading_formed_of c.args.heard.now.name c.args.code.now.0 c.args.heard.now.soft c.requires.soft

pub returns-in-Some-clause-small : goal.returns-in-Some-clause-small
unfolding read_field
returns-in-Some-clause-small g c =
    reading_bounded_of (nat_abs SOFT_MAX) c.args.heard.now.name c.args.code.now.0 c.args.heard.now.soft c.requires.soft c.block_is_soft.ensures

pub returns-in-None-clause-formed : goal.returns-in-None-clause-formed
unfolding read_field
returns-in-None-clause-formed g c = reading_formed_of c.args.heard.now.name c.args.code.now.0 c.args.heard.now.soft c.requires.soft

pub returns-in-None-clause-small : goal.returns-in-None-clause-small
unfolding read_field
returns-in-None-clause-small g c =
    reading_bounded_of (nat_abs SOFT_MAX) c.args.heard.now.name c.args.code.now.0 c.args.heard.now.soft c.requires.soft c.block_is_soft.ensures
