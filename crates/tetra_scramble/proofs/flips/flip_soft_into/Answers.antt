use Rattle.std.proofs.Common.{◌≡◌, arith, rules, ◌∙◌, pos, length}
use Rattle.std.proofs.Common.{to_z, of_z, w16}
use Rattle.std.proofs.lemmas.Int.{to_z-of_z}
use Rattle.tetra_bits.specs.lemmas.InPlace.{begins_set, begins_all}
use Rattle.tetra_scramble.specs.Flips.{turned_value, turned}
use Rattle.tetra_scramble.specs.lemmas.Entries.{sign_turned}
use Rattle.tetra_scramble.proofs.flips.flip_soft_into.Goals as goal

pub loop-i-preserved : goal.loop-i-preserved
loop-i-preserved c =
    let read : to_z w16 (of_z w16 c.get.result) ≡ c.get.result = to_z-of_z w16 c.get.result (search rules) in
    let written : to_z w16 (of_z w16 c.turned_by.result) ≡ c.turned_by.result = to_z-of_z w16 c.turned_by.result (search rules) in
    record {
      size = omega (arith, c.loop-i.invariant.size, c.set.ensures.len);
      written = begins_set (turned_value c.args.x.now c.args.key.now c.args.from) (pos 0) c.loop-i.i c.loop-i.values _ _ c.loop-i.invariant.written c.set.ensures.list (omega (arith, c.loop-i.invariant.size))
          (written ∙ sign_turned c.args.x.now c.args.key.now c.args.from c.loop-i.i _ c.turned_by.result c.get-in-loop-i.result c.requires.first (read ∙ c.get.ensures.value) c.get-in-loop-i.ensures.value c.turned_by.ensures.value);
    }

pub returns : goal.returns
unfolding turned
returns c = begins_all (turned_value c.args.x.now c.args.key.now c.args.from) (pos 0) (length c.args.x.now) c.loop-i.i c.loop-i.values c.loop-i.invariant.size c.loop-i.invariant.written (omega arith)
