use Rattle.std.proofs.Common.{rules, arith, refl, ◌≤◌, ◌+◌, take, length-take}
use Rattle.tetra_records.proofs.Filled.{head_ended, head_failed, behind_whole, behind_ended, behind_failed}
use Rattle.tetra_records.proofs.records.read_behind.Goals as goal

pub returns-in-Ended-clause-gives : goal.returns-in-Ended-clause-gives
returns-in-Ended-clause-gives g c = (
  refl,
  head_ended c.args.layout (g.S.Source.rest c.args.src.now) (g.S.Source.rest c.fill_part.new.src) (take c.in-Ended.field-0 (take c.head_len-head.result c.fill_part.new.buf))
      (omega (arith, c.in-Ended.ensures.bytes.0, c.head_len-head.ensures, length-take c.in-Ended.field-0 (take c.head_len-head.result c.fill_part.new.buf), length-take c.head_len-head.result c.fill_part.new.buf))
      c.in-Ended.ensures.bytes.1 c.in-Ended.ensures.bytes.2,
)

pub returns-in-Fault-clause-gives : goal.returns-in-Fault-clause-gives
returns-in-Fault-clause-gives g c =
    head_failed c.args.layout (g.S.Source.rest c.args.src.now) (g.S.Source.rest c.fill_part.new.src) _
    (omega (arith, c.head_len-head.ensures, length-take c.head_len-head.result c.fill_part.new.buf)) c.in-Fault.ensures.bytes

pub returns-in-Whole-fill_part-clause-gives : goal.returns-in-Whole-fill_part-clause-gives
returns-in-Whole-fill_part-clause-gives g c =
    let fits : c.head_len-head.result + c.fields_len.result ≤ 88 = search rules in
    behind_whole c.args.layout (g.S.Source.rest c.args.src.now) (g.S.Source.rest c.fill_part.new.src) (g.S.Source.rest c.fill_part-2.new.src) c.fill_part.new.buf c.fill_part-2.new.buf
    c.head_len-head.result c.fields_len.result c.field_bits.result c.sent_by-sent.result.0 c.sent_by-sent.result.1 c.access_len.result c.head_len-head.ensures c.access_len.ensures c.fill_part.array_long (search rules)
    c.sent_by-sent.ensures.first c.sent_by-sent.ensures.second c.field_bits.ensures c.fields_len.ensures
    c.in-Whole-fill_part.ensures.front c.in-Whole.ensures.bytes fits c.in-Whole-fill_part.ensures.bytes

pub returns-in-Ended-fill_part-clause-gives : goal.returns-in-Ended-fill_part-clause-gives
returns-in-Ended-fill_part-clause-gives g c = (
  refl,
  behind_ended c.args.layout (g.S.Source.rest c.args.src.now) (g.S.Source.rest c.fill_part.new.src) (g.S.Source.rest c.fill_part-2.new.src) c.fill_part.new.buf c.fill_part-2.new.buf
      c.head_len-head.result c.fields_len.result c.field_bits.result c.sent_by-sent.result.0 c.sent_by-sent.result.1 c.access_len.result c.head_len-head.ensures c.access_len.ensures c.fill_part.array_long (search rules)
      c.sent_by-sent.ensures.first c.sent_by-sent.ensures.second c.field_bits.ensures c.fields_len.ensures
      c.in-Ended-fill_part.ensures.front c.in-Whole.ensures.bytes c.in-Ended-fill_part.field-0 c.in-Ended-fill_part.ensures.bytes.0 c.in-Ended-fill_part.ensures.bytes.1 c.in-Ended-fill_part.ensures.bytes.2,
)

pub returns-in-Fault-fill_part-clause-gives : goal.returns-in-Fault-fill_part-clause-gives
returns-in-Fault-fill_part-clause-gives g c =
    behind_failed c.args.layout (g.S.Source.rest c.args.src.now) (g.S.Source.rest c.fill_part.new.src) (g.S.Source.rest c.fill_part-2.new.src) c.fill_part.new.buf c.fill_part-2.new.buf
    c.head_len-head.result c.fields_len.result c.field_bits.result c.sent_by-sent.result.0 c.sent_by-sent.result.1 c.access_len.result c.head_len-head.ensures c.access_len.ensures c.fill_part.array_long (search rules)
    c.sent_by-sent.ensures.first c.sent_by-sent.ensures.second c.field_bits.ensures c.fields_len.ensures
    c.in-Fault-fill_part.ensures.front c.in-Whole.ensures.bytes c.in-Fault-fill_part.ensures.bytes
