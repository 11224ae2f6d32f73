use Rattle.std.proofs.Common.{◌≡◌, ℕ, ◌+◌, ◌-◌, ◌<◌, take, length, arith, ap, ◌∙◌, FitsSigned, w8, rules}
use Rattle.std.proofs.lemmas.Int.{to_z-of_z}
use Rattle.std.proofs.lemmas.List.{length-set}
use Rattle.tetra_bits.specs.Order.{bit_at}
use Rattle.tetra_bursts.specs.Slot.{level, levels, text_bits}
use Rattle.tetra_bursts.proofs.Walking.{put, put_none}
use Rattle.tetra_bursts.proofs.writing.copy_whole_text.Goals as goal

pub loop-i-init : goal.loop-i-init
unfolding levels
loop-i-init c = record { size = search rules; so_far = put_none _ c.args.slot.now c.args.at }

pub loop-i-preserved : goal.loop-i-preserved
unfolding levels
loop-i-preserved c =
    let fits : FitsSigned w8 c.level.result = search rules in
    let room : c.args.at + c.loop-i.i < length c.loop-i.slot = omega arith in
    let place : c.loop-i.i + 1 - 1 ≡ c.loop-i.i = omega arith in
    let value : c.level.result ≡ level (bit_at (text_bits c.args.text.now) (c.args.skipped + (c.loop-i.i + 1 - 1))) = rw place (c.level.ensures ∙ ap level (rw c.from-from.ensures at c.text_bit.ensures)) in
    simp to_z-of_z (record {
      size = length-set c.loop-i.slot (c.args.at + c.loop-i.i) c.level.result ∙ c.loop-i.invariant.size;
      so_far = put (λ (i : ℕ). level (bit_at (text_bits c.args.text.now) (c.args.skipped + (i - 1)))) (take c.args.at c.args.slot.now) c.loop-i.slot c.args.at c.loop-i.i c.level.result room c.loop-i.invariant.so_far value;
    })
