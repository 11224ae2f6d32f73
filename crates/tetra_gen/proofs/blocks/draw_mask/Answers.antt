use Rattle.std.proofs.Common.{◌≡◌, ℕ, ◌/◌, ◌%◌, nat_eq, arith, ap, ◌∙◌}
use Rattle.tetra_bits.specs.Digits.{digit}
use Rattle.tetra_gen.specs.Made.{sends_drawn}
use Rattle.tetra_gen.proofs.blocks.draw_mask.Goals as goal

pub returns-in-C-clause-first : goal.returns-in-C-clause-first
unfolding digit
returns-in-C-clause-first c = λ seed stream i from.
    let w : ℕ = c.draw-mask.result in
    let higher : w % 4 / 2 ≡ w % 4 / 2 % 2 = omega arith in
    rw c.in-C.is (ap (λ (n : ℕ). nat_eq n 1) higher ∙ ap (λ (w : ℕ). sends_drawn w 1) (c.draw-mask.ensures.word seed stream i from))

pub returns-in-C-clause-second : goal.returns-in-C-clause-second
unfolding digit
returns-in-C-clause-second c = λ seed stream i from.
    let w : ℕ = c.draw-mask.result in
    let lower : w % 4 % 2 ≡ w % 4 / 1 % 2 = omega arith in
    rw c.in-C.is (ap (λ (n : ℕ). nat_eq n 1) lower ∙ ap (λ (w : ℕ). sends_drawn w 2) (c.draw-mask.ensures.word seed stream i from))
