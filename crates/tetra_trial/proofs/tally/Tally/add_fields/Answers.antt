use Rattle.std.proofs.Common.{◌+◌, ◌*◌, ◌^◌, arith, map, sym, ◌∙◌, ap, drop}
use Rattle.std.specs.Option.{option_map}
use Rattle.tetra_trial.proofs.Adding.{most_more, field_on}
use Rattle.tetra_trial.specs.Tallies.{with_field, with_fields}
use Rattle.tetra_trial.proofs.tally.Tally.add_fields.Goals as goal

pub add_field-requires : goal.add_field-requires
add_field-requires c =
    most_more (2 ^ 62 + c.loop-i.i * 2 ^ 33) (2 ^ 63) c.loop-i.self (omega arith) (c.loop-i.invariant.most (2 ^ 62) c.requires.room)

pub loop-i-preserved : goal.loop-i-preserved
loop-i-preserved c =
    let fields = c.args.fields.now in
    let i = c.loop-i.i in
    let f = c.index-fields-i.result in
    let taken = c.add_field.ensures.field ∙ ap (λ s. with_field f (option_map (λ b. b.now) s) c.loop-i.self) (sym c.index-sent-i.is) in
    record {
      left = ap (with_fields (drop (i + 1) fields) (drop (i + 1) (map (option_map (λ s. s.now)) c.args.sent))) taken
          ∙ sym (field_on (option_map (λ s. s.now)) fields c.args.sent i c.loop-i.self f c.index-sent-i.result
          c.loop-i-test.true (omega arith) c.index-fields-i.is c.index-sent-i.is)
          ∙ c.loop-i.invariant.left;
      most = λ top h.
          most_more (top + i * 2 ^ 33 + 2 ^ 33) (top + (i + 1) * 2 ^ 33) c.add_field.new.self (omega arith)
          (c.add_field.ensures.most (top + i * 2 ^ 33) (c.loop-i.invariant.most top h));
    }

pub returns-clause-most : goal.returns-clause-most
returns-clause-most c = λ top h.
    most_more (top + c.loop-i.i * 2 ^ 33) (top + 4 * 2 ^ 33) c.loop-i.self (omega arith) (c.loop-i.invariant.most top h)
