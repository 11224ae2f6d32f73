use Rattle.std.proofs.Common.{◌++◌, arith, ◌∙◌}
use Rattle.tetra_speech.specs.Classes.{class_place}
use Rattle.tetra_speech.specs.lemmas.ClassPlaces.{each_in_one_class}
use Rattle.tetra_speech.specs.lemmas.Sorted.{written_more, all_written}
use Rattle.tetra_speech.proofs.sorting.unclasses.Goals as goal

pub loop-i-preserved : goal.loop-i-preserved
loop-i-preserved c =
    let i = c.loop-i.i in
    record {
      size = c.set.ensures.len ∙ c.loop-i.invariant.size;
      written = written_more 137 class_place (c.args.c.now.zero ++ c.args.c.now.one ++ c.args.c.now.two) c.loop-i.frame c.set.new.self i _ c.class_bit.result each_in_one_class c.loop-i.invariant.size
          (omega arith) (omega (arith, c.class_place.ensures.value)) c.set.ensures.list c.class_bit.ensures c.loop-i.invariant.written;
    }

pub returns-clause-frame : goal.returns-clause-frame
returns-clause-frame c =
    all_written c.args.c.now c.loop-i.frame c.loop-i.i c.requires c.loop-i.invariant.size c.loop-i.invariant.written (omega arith)
