use Rattle.std.proofs.Common.{◌≡◌, arith, rules, ◌∙◌, pos, length, get_or, ap, to_z, of_z, w16}
use Rattle.std.proofs.lemmas.Int.{to_z-of_z}
use Rattle.std.proofs.lemmas.List.{get_or-set_other}
use Rattle.tetra_bits.specs.lemmas.InPlace.{begins_set, begins_all}
use Rattle.tetra_scramble.specs.Flips.{turned_value, turned}
use Rattle.tetra_scramble.specs.lemmas.Entries.{sign_turned}
use Rattle.tetra_scramble.proofs.flips.flip_soft_in_place.Goals as goal

pub loop-i-preserved : goal.loop-i-preserved
loop-i-preserved c =
    let i = c.loop-i.i in
    let read : to_z w16 (of_z w16 c.get-value.result) ≡ c.get-value.result = to_z-of_z w16 c.get-value.result (search rules) in
    let written : to_z w16 (of_z w16 c.turned_by.result) ≡ c.turned_by.result = to_z-of_z w16 c.turned_by.result (search rules) in
    let fresh = read ∙ c.get-value.ensures.value ∙ c.loop-i.invariant.rest i (omega arith) in
    record {
      size = c.set.ensures.len ∙ c.loop-i.invariant.size;
      written = begins_set (turned_value c.args.values.now c.args.key.now c.args.from) (pos 0) i c.loop-i.values _ _ c.loop-i.invariant.written c.set.ensures.list (omega (arith, c.loop-i.invariant.size))
          (written ∙ sign_turned c.args.values.now c.args.key.now c.args.from i _ c.turned_by.result c.get.result c.requires.first fresh c.get.ensures.value c.turned_by.ensures.value);
      rest = λ k h. ap (λ xs. get_or xs k (pos 0)) c.set.ensures.list ∙ get_or-set_other c.loop-i.values i k _ (pos 0) (omega (arith, h)) ∙ c.loop-i.invariant.rest k (omega (arith, h));
    }

pub returns : goal.returns
unfolding turned
returns c = begins_all (turned_value c.args.values.now c.args.key.now c.args.from) (pos 0) (length c.args.values.now) c.loop-i.i c.loop-i.values c.loop-i.invariant.size c.loop-i.invariant.written (omega arith)
