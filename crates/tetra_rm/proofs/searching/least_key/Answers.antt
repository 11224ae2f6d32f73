use Rattle.std.proofs.Common.{◌≡◌, ◌+◌, ◌*◌, ◌/◌, ◌%◌, arith, ap, ◌∙◌, sym}
use Rattle.std.proofs.lemmas.Nat.{xor_of_16}
use Rattle.tetra_rm.specs.Search.{key_by_tables, key_of_number}
use Rattle.tetra_rm.proofs.Least.{least_of_same}
use Rattle.tetra_rm.proofs.WholeKeys.{key_by_parts}
use Rattle.tetra_rm.proofs.searching.least_key.Goals as goal

pub returns : goal.returns
unfolding key_by_tables
returns c = λ rows tables.
    let front = c.part_tables-front.ensures.part rows tables.front in
    let middle = c.part_tables-middle.ensures.part rows tables.middle in
    let last = c.part_tables-last.ensures.part rows tables.last in
    least_of_same (key_of_number rows c.args.soft.now)
    (key_by_tables c.fill_lane_keys.new.keys c.fill_lane_keys-2.new.keys c.part_tables-front.result c.part_tables-middle.result c.part_tables-last.result)
    16384 c.least_of_all.result
    (λ k h.
    let number : (k / 512 * 64 + k / 8 % 64) * 8 + k % 8 ≡ k = omega arith in
    ap (key_of_number rows c.args.soft.now) (sym number)
    ∙ sym (key_by_parts rows c.args.soft.now c.requires.values c.part_tables-front.result c.part_tables-middle.result c.part_tables-last.result
    front middle last c.fill_lane_keys.new.keys c.fill_lane_keys-2.new.keys c.fill_lane_keys.ensures.keys c.fill_lane_keys-2.ensures.keys
    (k / 512) (k / 8 % 64) (k % 8) (omega arith) (omega arith) (omega arith) (xor_of_16 _ _ (front.fit (k / 512) (omega arith)) (middle.fit (k / 8 % 64) (omega arith)))))
    c.least_of_all.ensures
