use Rattle.std.proofs.Common.{length, take, ap, ◌∙◌}
use Rattle.tetra_session.specs.Heard.{is_good}
use Rattle.tetra_session.specs.Readers.{read_field}
use Rattle.tetra_c.specs.Bytes.{bytes_of}
use Rattle.tetra_c.specs.Readings.{mark_number}
use Rattle.tetra_c.proofs.Putting.{table_put}
use Rattle.tetra_c.proofs.readings.put_field.Goals as goal

pub returns-clause-put : goal.returns-clause-put
unfolding read_field
returns-clause-put c =
    let parts = c.read_heard-outcome.ensures.parts in
    let field = read_field c.args.code.now.0 c.args.heard.now in
    let out = c.read_heard-outcome.new.table in
    record {
      name = c.name_number-out.ensures;
      mark = c.mark_number-out.ensures ∙ ap mark_number parts.mark;
      metric = parts.metric;
      bits = c.len.ensures.value ∙ ap length parts.bits;
      message = ap (λ n. take n c.put_message.new.bytes) c.len.ensures.value ∙ c.put_message.ensures ∙ ap bytes_of parts.bits;
      table = table_put field.reading.potentials out.rows c.count.result out.potentials c.count.ensures parts.rows;
    }

pub returns-clause-good : goal.returns-clause-good
returns-clause-good c = c.is_good.ensures ∙ ap is_good c.read_heard-outcome.ensures.parts.mark
