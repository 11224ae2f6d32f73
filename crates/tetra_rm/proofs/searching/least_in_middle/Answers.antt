use Rattle.std.proofs.Common.{get_or, arith}
use Rattle.tetra_rm.specs.Search.{key_in_middle}
use Rattle.tetra_rm.proofs.Least.{least_of_one, least_more}
use Rattle.tetra_rm.proofs.searching.least_in_middle.Goals as goal

pub loop-at-init : goal.loop-at-init
loop-at-init c = record {
  long = c.in_middle-least.ensures.long;
  least = λ j h. least_of_one (key_in_middle c.args.first.now c.args.second.now c.args.middle.now c.args.sum j) (get_or c.in_middle-least.result j 0) (c.in_middle-least.ensures.keys j h);
  small = c.in_middle-least.ensures.small;
}

pub loop-at-preserved : goal.loop-at-preserved
loop-at-preserved c = record {
  long = c.lesser-least.ensures.long;
  least = λ j h. least_more (key_in_middle c.args.first.now c.args.second.now c.args.middle.now c.args.sum j) c.loop-at.at (get_or c.loop-at.least j 0) (get_or c.in_middle.result j 0) (get_or c.lesser-least.result j 0)
      (c.in_middle.ensures.keys j h) (c.lesser-least.ensures.value j h) (c.loop-at.invariant.least j h);
  small = λ j h. omega (arith, c.lesser-least.ensures.value j h, c.loop-at.invariant.small j h);
}
