use Rattle.std.proofs.Common.{rules, sym, ap, ◌∙◌, subst, get_or}
use Rattle.std.specs.Io.KnownBytes.{Consumes}
use Rattle.tetra_settings.specs.declared.types.Dir.{Dir}
use Rattle.tetra_settings.specs.declared.types.Mode.{Mode}
use Rattle.tetra_settings.specs.declared.slots.Letter.{Letter}
use Rattle.tetra_settings.specs.Slots.{is_allowed}
use Rattle.tetra_records.specs.declared.parsing.Layout.{Layout}
use Rattle.tetra_records.proofs.Filled.{rest_size}
use Rattle.tetra_records.proofs.Given.{one_of, unknown_from, wrong_from, failed_from, blocks_from, padded_from}
use Rattle.tetra_records.proofs.records.next_record.Goals as goal

abbrev layout_at : Dir → Letter → Mode → Layout
layout_at dir letter mode = record { dir = dir; letter = letter; mode = mode }

pub returns-in_default-clause-gives : goal.returns-in_default-clause-gives
returns-in_default-clause-gives g c =
    unknown_from c.args.settings.now c.args.t (get_or c.fill.new.buf 0 0) (g.S.Source.rest c.args.src.now) (g.S.Source.rest c.fill.new.src)
    (subst (Consumes (g.S.Source.rest c.args.src.now) (g.S.Source.rest c.fill.new.src)) (one_of c.fill.new.buf (search rules)) c.in-Whole.ensures.bytes) (sym c.from_byte.ensures ∙ c.in_default.is)

pub returns-then-not-allows-clause-gives : goal.returns-then-not-allows-clause-gives
returns-then-not-allows-clause-gives g c =
    wrong_from c.args.settings.now c.args.t (get_or c.fill.new.buf 0 0) (g.S.Source.rest c.args.src.now) (g.S.Source.rest c.fill.new.src) c.in-Some.letter
    (subst (Consumes (g.S.Source.rest c.args.src.now) (g.S.Source.rest c.fill.new.src)) (one_of c.fill.new.buf (search rules)) c.in-Whole.ensures.bytes) (sym c.from_byte.ensures ∙ c.in-Some.is) (sym (c.allows.ensures ∙ ap (λ u. is_allowed c.args.settings.now.dir u c.in-Some.letter) c.slot_use.ensures.slot) ∙ c.if-not-allows.true)

pub returns-in-Err-clause-gives : goal.returns-in-Err-clause-gives
returns-in-Err-clause-gives g c =
    failed_from c.args.settings.now c.args.t (get_or c.fill.new.buf 0 0) c.in-Some.letter (sym c.from_byte.ensures ∙ c.in-Some.is) (sym (c.allows.ensures ∙ ap (λ u. is_allowed c.args.settings.now.dir u c.in-Some.letter) c.slot_use.ensures.slot) ∙ c.if-not-allows.false)
    (layout_at c.args.settings.now.dir c.in-Some.letter c.mode_at.result) (g.S.Source.rest c.args.src.now) (g.S.Source.rest c.fill.new.src) (g.S.Source.rest c.read_behind.new.src) c.read_behind.new.buf c.in-Err.fault (ap (layout_at c.args.settings.now.dir c.in-Some.letter) c.mode_at.ensures.mode)
    (subst (Consumes (g.S.Source.rest c.args.src.now) (g.S.Source.rest c.fill.new.src)) (one_of c.fill.new.buf (search rules)) c.in-Whole.ensures.bytes) c.in-Err.ensures.gives

pub parse-requires-clause-size : goal.parse-requires-clause-size
parse-requires-clause-size g c =
    rest_size (layout_at c.args.settings.now.dir c.in-Some.letter c.mode_at.result) c.in-Ok.len c.read_behind.new.buf c.read_behind.array_long c.in-Ok.ensures.gives.1 c.in-Ok.ensures.gives.2

pub returns-in-Ok-parse-clause-gives : goal.returns-in-Ok-parse-clause-gives
returns-in-Ok-parse-clause-gives g c =
    blocks_from c.args.settings.now c.args.t (get_or c.fill.new.buf 0 0) c.in-Some.letter (sym c.from_byte.ensures ∙ c.in-Some.is) (sym (c.allows.ensures ∙ ap (λ u. is_allowed c.args.settings.now.dir u c.in-Some.letter) c.slot_use.ensures.slot) ∙ c.if-not-allows.false)
    (layout_at c.args.settings.now.dir c.in-Some.letter c.mode_at.result) (g.S.Source.rest c.args.src.now) (g.S.Source.rest c.fill.new.src) (g.S.Source.rest c.read_behind.new.src) c.read_behind.new.buf c.in-Ok.len (ap (layout_at c.args.settings.now.dir c.in-Some.letter) c.mode_at.ensures.mode) c.read_behind.array_long
    (subst (Consumes (g.S.Source.rest c.args.src.now) (g.S.Source.rest c.fill.new.src)) (one_of c.fill.new.buf (search rules)) c.in-Whole.ensures.bytes) c.in-Ok.ensures.gives c.in-Ok-parse.found c.in-Ok-parse.ensures.made.0 c.in-Ok-parse.ensures.made.1 c.in-Ok-parse.ensures.pad

pub returns-in-Err-parse-clause-gives : goal.returns-in-Err-parse-clause-gives
returns-in-Err-parse-clause-gives g c =
    padded_from c.args.settings.now c.args.t (get_or c.fill.new.buf 0 0) c.in-Some.letter (sym c.from_byte.ensures ∙ c.in-Some.is) (sym (c.allows.ensures ∙ ap (λ u. is_allowed c.args.settings.now.dir u c.in-Some.letter) c.slot_use.ensures.slot) ∙ c.if-not-allows.false)
    (layout_at c.args.settings.now.dir c.in-Some.letter c.mode_at.result) (g.S.Source.rest c.args.src.now) (g.S.Source.rest c.fill.new.src) (g.S.Source.rest c.read_behind.new.src) c.read_behind.new.buf c.in-Ok.len (ap (layout_at c.args.settings.now.dir c.in-Some.letter) c.mode_at.ensures.mode) c.read_behind.array_long
    (subst (Consumes (g.S.Source.rest c.args.src.now) (g.S.Source.rest c.fill.new.src)) (one_of c.fill.new.buf (search rules)) c.in-Whole.ensures.bytes) c.in-Ok.ensures.gives c.in-Err-parse.ensures.pad
