use Rattle.std.proofs.Common.{rules, subst}
use Rattle.std.specs.Io.KnownBytes.{Appends}
use Rattle.std.proofs.KnownBytes.{Appends-trans}
use Rattle.tetra_io.proofs.Fronts.{take_more_of_rest}
use Rattle.tetra_io.proofs.filling.put_all.Goals as goal

pub loop-at-preserved : goal.loop-at-preserved
loop-at-preserved g c = record {
  within = search rules;
  bytes = subst (Appends _ _) (take_more_of_rest c.loop-at.at c.in_ok-at.field-0 c.args.bytes.now)
      (Appends-trans _ _ _ _ _ c.loop-at.invariant.bytes c.in_ok-at.ensures.taken.0);
  later = search rules;
  settled = search rules;
}
