use Rattle.std.proofs.Common.{◌≡◌, ◌+◌, ◌*◌, ◌/◌, ◌%◌, ℕ, arith, pos, ap, subst, ◌∙◌}
use Rattle.std.proofs.lemmas.Nat.{mod_below}
use Rattle.tetra_bits.specs.lemmas.InPlace.{Begins, begins_all}
use Rattle.tetra_interleave.specs.Steps.{step_entry}
use Rattle.tetra_interleave.proofs.BySteps.{next_turn}
use Rattle.tetra_interleave.proofs.block.values_by_steps.Goals as goal

pub loop-turn-preserved : goal.loop-turn-preserved
loop-turn-preserved g c =
    let t = c.loop-turn.turn in
    let next : 8 * t + 8 ≡ 8 * (t + 1) = omega arith in
    record {
      size = c.take_values.ensures.size;
      below = rw c.moved-at.ensures (mod_below (c.loop-turn.at + (8 * c.args.by) % g.row.K) g.row.K (omega arith));
      at = next_turn g.row.K c.args.from c.args.by c.loop-turn.at t c.moved-at.result c.loop-turn.invariant.at c.moved-at.ensures;
      taken = subst (λ (n : ℕ). Begins (step_entry (pos 0) g.row.K c.args.from c.args.by c.args.x.now) (pos 0) n c.take_values.new.all) next
          (c.take_values.ensures.taken c.args.x.now c.args.from c.write_values_twice.ensures.twice c.loop-turn.invariant.at c.loop-turn.invariant.taken);
    }

pub returns : goal.returns
returns g c =
    let whole : 8 * c.loop-turn.turn ≡ g.row.K / 8 * 8 = omega arith in
    let front = subst (λ (n : ℕ). Begins (step_entry (pos 0) g.row.K c.args.from c.args.by c.args.x.now) (pos 0) n c.loop-turn.all) whole c.loop-turn.invariant.taken in
    let at = c.loop-turn.invariant.at ∙ ap (λ n. (c.args.from + c.args.by * n) % g.row.K) whole in
    begins_all (step_entry (pos 0) g.row.K c.args.from c.args.by c.args.x.now) (pos 0) g.row.K (g.row.K / 8 * 8 + g.row.K % 8) c.take_values-2.new.all c.take_values-2.ensures.size
    (c.take_values-2.ensures.taken c.args.x.now c.args.from c.write_values_twice.ensures.twice at front) (omega arith)
