use Rattle.std.proofs.Common.{◌≡◌, ◌+◌, ◌*◌, ◌^◌, ◌++◌, ◌∷◌, [], arith, sym, ap, ◌∙◌, subst}
use Rattle.tetra_trial.specs.Kept.{KeptStands}
use Rattle.tetra_trial.specs.Sent.{has_letter, in_place}
use Rattle.tetra_trial.specs.Tallies.{with_letter, with_fields}
use Rattle.tetra_trial.specs.Trials.{blocks_before}
use Rattle.tetra_trial.proofs.Adding.{most_more}
use Rattle.tetra_trial.proofs.Passing.{blocks_none, blocks_more, length-blocks_before}
use Rattle.tetra_trial.proofs.Summing.{Counted, none_counted, none_most, counted_more, all_counted}
use Rattle.tetra_trial.proofs.counting.trial.Goals as goal

pub loop-init : goal.loop-init
loop-init c =
    let settings = c.args.settings.now in
    record {
      passage = c.new-passage.ensures;
      kept = rw (blocks_none settings) c.new-kept.ensures;
      counted = rw c.new-tally.ensures (none_counted settings);
      most = rw c.new-tally.ensures (none_most settings.slots 0);
    }

pub pass-blocks-requires : goal.pass-blocks-requires
pass-blocks-requires c = record { stands = (c.args.settings.now, c.loop.counter, c.loop.invariant.passage, omega arith) }

pub count-requires-clause-room : goal.count-requires-clause-room
count-requires-clause-room c = most_more (c.loop.counter * 2 ^ 37) (2 ^ 61) c.loop.tally (omega arith) c.loop.invariant.most

pub take-requires : goal.take-requires
take-requires c = omega (arith, c.loop.invariant.kept.turn, length-blocks_before c.args.settings.now c.loop.counter)

pub loop-preserved : goal.loop-preserved
loop-preserved c =
    let settings = c.args.settings.now in
    let k = c.loop.counter in
    let before = blocks_before settings k in
    let blocks = c.pass-blocks.result in
    let tally = c.loop.tally in
    let reading = c.pass-blocks.new.reading in
    let is_made = c.pass-blocks.ensures.blocks settings k c.loop.invariant.passage in
    let is_read = c.pass-blocks.ensures.reading settings k c.loop.invariant.passage in
    let counts = c.count.ensures.counted settings before c.loop.invariant.kept
    ∙ ap (λ x. with_fields reading.fields.items (in_place settings before x reading.letter) (with_letter (has_letter x reading.letter) tally)) is_made in
    let added = ap (λ x. before ++ x ∷ []) is_made ∙ sym (blocks_more settings k) in
    record {
      passage = c.pass-blocks.ensures.stands settings k c.loop.invariant.passage;
      kept = subst (λ history. KeptStands settings history c.take.new.self) added (c.take.ensures settings before c.loop.invariant.kept);
      counted = subst (λ t. Counted settings (k + 1) t) (sym counts) (counted_more settings k tally reading is_read c.loop.invariant.counted);
      most = most_more (k * 2 ^ 37 + 2 ^ 36) ((k + 1) * 2 ^ 37) c.count.new.tally (omega arith) (c.count.ensures.most (k * 2 ^ 37) c.loop.invariant.most);
    }

pub returns : goal.returns
returns c =
    let settings = c.args.settings.now in
    let all : c.loop.counter ≡ settings.slots = omega arith in
    all_counted settings c.loop.tally (subst (λ k. Counted settings k c.loop.tally) all c.loop.invariant.counted)
