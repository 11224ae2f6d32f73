use Rattle.std.proofs.Common.{rules, ◌∙◌, sym, subst, ap}
use Rattle.std.specs.Io.KnownBytes.{Appends}
use Rattle.std.proofs.KnownBytes.{Appends-trans}
use Rattle.tetra_records.specs.Spelling.{spelling}
use Rattle.tetra_engine.specs.Generating.{generating}
use Rattle.tetra_engine.proofs.Runs.{all_written, some_written}
use Rattle.tetra_engine.proofs.Serial.{outputs-push, write_front}
use Rattle.tetra_engine.proofs.series.write_records.Goals as goal

pub block_bytes-record-requires : goal.block_bytes-record-requires
block_bytes-record-requires g c =
    c.fitting_are_well_formed.ensures c.args.settings.now c.loop-slot.slot c.slot.result (c.slot.ensures.fits c.args.settings.now c.loop-slot.slot c.loop-slot.invariant.maker)

pub returns-then-is_err-clause-ends : goal.returns-then-is_err-clause-ends
returns-then-is_err-clause-ends g c =
    let series = generating c.args.settings.now in
    let out = c.as_slice.ensures.value ∙ c.block_bytes-record.ensures ∙ ap spelling (c.slot.ensures.blocks c.args.settings.now c.loop-slot.slot c.loop-slot.invariant.maker) in
    write_front series c.loop-slot.slot (g.K.Sink.taken c.args.sink.now) (g.K.Sink.taken c.loop-slot.sink) (g.K.Sink.taken c.put_all.new.sink)
    c.loop-slot-test.true c.loop-slot.invariant.wrote (some_written c.put_all.result _ _ _ _ c.put_all.ensures.err (search rules) out)

pub loop-slot-preserved : goal.loop-slot-preserved
loop-slot-preserved g c =
    let series = generating c.args.settings.now in
    let out = c.as_slice.ensures.value ∙ c.block_bytes-record.ensures ∙ ap spelling (c.slot.ensures.blocks c.args.settings.now c.loop-slot.slot c.loop-slot.invariant.maker) in
    record {
      maker = c.slot.ensures.stands c.args.settings.now c.loop-slot.slot c.loop-slot.invariant.maker;
      wrote = subst (Appends (g.K.Sink.taken c.args.sink.now) (g.K.Sink.taken c.put_all.new.sink)) (sym (outputs-push series c.loop-slot.slot))
          (Appends-trans (g.K.Sink.taken c.args.sink.now) (g.K.Sink.taken c.loop-slot.sink) (g.K.Sink.taken c.put_all.new.sink) _ _ c.loop-slot.invariant.wrote
          (all_written c.put_all.result _ _ _ _ c.put_all.ensures.ok (search rules) out));
      later = search rules;
    }
