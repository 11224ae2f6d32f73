use Rattle.std.proofs.Common.{◌≡◌, ◌+◌, ◌*◌, ℕ, false, arith, refl, subst, ◌∙◌}
use Rattle.tetra_bits.specs.Digits.{digits}
use Rattle.tetra_bits.specs.lemmas.InPlace.{begins_all}
use Rattle.tetra_scramble.specs.Key.{key_bit, key_from}
use Rattle.tetra_scramble.specs.Register.{HoldsLast, IsWritten}
use Rattle.tetra_scramble.proofs.Table.{first_register, low_half, high_half}
use Rattle.tetra_scramble.proofs.register.key_of_number.Goals as goal

pub loop-chunk-init : goal.loop-chunk-init
loop-chunk-init c = record { size = refl; written = λ k h. absurd (omega (arith, h)); last = first_register c.args.number }

pub loop-chunk-preserved : goal.loop-chunk-preserved
loop-chunk-preserved c =
    let e = digits 30 c.args.number in
    let n = 32 * c.loop-chunk.chunk in
    let more : n + 32 ≡ 32 * (c.loop-chunk.chunk + 1) = omega arith in
    let room : n + 16 + 16 ≡ n + 32 = omega arith in
    let held : HoldsLast e (n + 32) c.next_32-register.result = c.next_32-register.ensures e n c.loop-chunk.invariant.last in
    let half = c.write_16.ensures.key e c.loop-chunk.invariant.written (low_half e n c.next_32-register.result held) in
    let all = c.write_16-in-loop-chunk.ensures.key e half (high_half e n c.next_32-register.result held) in
    record {
      size = c.write_16-in-loop-chunk.ensures.size;
      written = subst (λ (m : ℕ). IsWritten e m c.write_16-in-loop-chunk.new.bits) (room ∙ more) all;
      last = subst (λ (m : ℕ). HoldsLast e m c.next_32-register.result) more held;
    }

pub returns : goal.returns
unfolding key_from
returns c =
    let e = digits 30 c.args.number in
    let n = 32 * c.loop-chunk.chunk in
    let end : n ≡ 416 = omega arith in
    let held : HoldsLast e (416 + 32) c.next_32.result = c.next_32.ensures e 416 (subst (λ (m : ℕ). HoldsLast e m c.loop-chunk.register) end c.loop-chunk.invariant.last) in
    let before : IsWritten e 416 c.loop-chunk.bits = subst (λ (m : ℕ). IsWritten e m c.loop-chunk.bits) end c.loop-chunk.invariant.written in
    c.of_bits.ensures
    ∙ begins_all (key_bit e) false 432 432 c.write_16-2.new.bits c.write_16-2.ensures.size (c.write_16-2.ensures.key e before (low_half e 416 c.next_32.result held)) (omega arith)
