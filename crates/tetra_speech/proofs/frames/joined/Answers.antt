use Rattle.std.proofs.Common.{◌≡◌, ℕ, ◌+◌, ◌-◌, ◌++◌, ◌≤◌, length, false, arith, ap, sym, subst, length-append, ◌∙◌}
use Rattle.std.proofs.lemmas.List.{get_or-append_right}
use Rattle.tetra_bits.specs.Lists.{resized}
use Rattle.tetra_bits.specs.Order.{bit_at}
use Rattle.tetra_speech.proofs.Pieces.{IsFront, begins_first, front_set, is_written}
use Rattle.tetra_speech.proofs.frames.joined.Goals as goal

pub loop-i-init : goal.loop-i-init
loop-i-init c =
    let first = c.args.first.now in
    let second = c.args.second.now in
    let total = c.len-front.result + c.len.result in
    let e : c.resize.new.self ≡ resized false total first = c.resize.ensures.list ∙ ap (resized false total) c.copy-all.ensures in
    let room : length first ≤ total = omega (arith, c.len-front.ensures.value) in
    let none : length first ≡ c.len-front.result + 0 = omega (arith, c.len-front.ensures.value) in
    record {
      size = omega (arith, c.resize.ensures.len, c.len-front.ensures.value, c.len.ensures.value);
      written = subst (λ (n : ℕ). IsFront false (first ++ second) n c.resize.new.self) none
          (begins_first false first second c.resize.new.self total e room);
    }

pub loop-i-preserved : goal.loop-i-preserved
loop-i-preserved c =
    let first = c.args.first.now in
    let second = c.args.second.now in
    let front = c.len-front.result in
    let i = c.loop-i.i in
    let next : front + i + 1 ≡ front + (i + 1) = omega arith in
    let behind : front ≤ front + i = omega arith in
    let at : i ≡ front + i - front = omega arith in
    let more = front_set false (first ++ second) c.loop-i.all c.set.new.self (front + i) c.get.result c.loop-i.invariant.written
    c.set.ensures.list (omega (arith, c.loop-i.invariant.size, c.len-front.ensures.value))
    (c.get.ensures ∙ ap (bit_at second) at
    ∙ sym (get_or-append_right first second front (front + i) false (sym c.len-front.ensures.value) behind)) in
    record {
      size = c.set.ensures.len ∙ c.loop-i.invariant.size;
      written = subst (λ (n : ℕ). IsFront false (first ++ second) n c.set.new.self) next more;
    }

pub returns-clause-bits : goal.returns-clause-bits
returns-clause-bits c =
    let first = c.args.first.now in
    let second = c.args.second.now in
    let long : length (first ++ second) ≡ length first + length second = length-append first second in
    is_written false (first ++ second) c.loop-i.all (c.len-front.result + c.loop-i.i) (c.loop-i.invariant.size ∙ sym long)
    c.loop-i.invariant.written (omega (arith, long, c.len-front.ensures.value))
