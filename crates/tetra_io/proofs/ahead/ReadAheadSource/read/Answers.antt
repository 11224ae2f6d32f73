use Rattle.std.proofs.Common.{rules, arith, ◌≡◌, [], length, length-take-le, length-drop, ◌-◌, subst, sym, ap, ◌∙◌, take, drop}
use Rattle.std.proofs.lemmas.Bool.{eqb-true}
use Rattle.std.specs.Io.KnownBytes.{Consumes, IsAtEnd, prepend_known}
use Rattle.std.proofs.KnownBytes.{Consumes-nil}
use Rattle.tetra_io.proofs.Fronts.{held_behind, given_front, none_given, none_left}
use Rattle.tetra_io.proofs.ahead.ReadAheadSource.read.Goals.{then-self+then-not-is_empty+in_ok-refill, else-self, else-self-via-then-self+else-not-is_empty, else-self-via-else-self}
use Rattle.tetra_io.proofs.ahead.ReadAheadSource.read.Goals as goal

pub returns-clause-bytes : goal.returns-clause-bytes
returns-clause-bytes g c =
    let rest = g.S.Source.rest in
    let before = c.args.self.now in
    let ready = c.if-self.self in
    let after = c.hand_on.new.self in
    let there : Consumes (prepend_known before.held (rest before.source)) (prepend_known ready.held (rest ready.source)) [] =
    elim c.if-self.branch [
      | then-self+then-not-is_empty+in_ok-refill w ↦
          let nothing : before.held ≡ [] = search rules in
          subst (λ s. Consumes (prepend_known before.held (rest before.source)) (prepend_known s.held (rest s.source)) []) (sym w.self-is)
          (subst (λ h. Consumes (prepend_known h (rest before.source)) (prepend_known w.refill.new.self.held (rest w.refill.new.self.source)) []) (sym nothing)
          (held_behind (rest before.source) (rest w.refill.new.self.source) w.refill.new.self.held w.in_ok-refill.ensures.ok))
      | else-self w ↦
          subst (λ s. Consumes (prepend_known before.held (rest before.source)) (prepend_known s.held (rest s.source)) []) (sym w.self-is)
          (Consumes-nil (prepend_known before.held (rest before.source)))
    ] in
    let given : Consumes (prepend_known before.held (rest before.source)) (prepend_known after.held (rest after.source)) (take c.hand_on.result c.hand_on.new.buf) =
    subst (λ s. Consumes (prepend_known before.held (rest before.source)) (prepend_known after.held (rest s)) (take c.hand_on.result c.hand_on.new.buf)) (sym c.hand_on.ensures.source)
    (subst (λ h. Consumes (prepend_known before.held (rest before.source)) (prepend_known h (rest ready.source)) (take c.hand_on.result c.hand_on.new.buf)) (sym c.hand_on.ensures.left)
    (subst (Consumes (prepend_known before.held (rest before.source)) (prepend_known (drop c.hand_on.result ready.held) (rest ready.source))) (sym c.hand_on.ensures.given)
    (given_front (prepend_known before.held (rest before.source)) (rest ready.source) ready.held c.hand_on.result there))) in (
      given,
      λ none some.
          let empty : ready.held ≡ [] = none_given ready.held (length c.args.buf.now) (sym c.hand_on.ensures.count ∙ none) (omega (arith, c.hand_on.ensures.size)) in
          let ended : IsAtEnd (rest ready.source) =
          elim c.if-self.branch [
            | then-self+then-not-is_empty+in_ok-refill w ↦
                subst (λ s. IsAtEnd (rest s.source)) (sym w.self-is) (w.in_ok-refill.ensures.end (ap (λ s. s.held) (sym w.self-is) ∙ empty))
            | else-self w ↦
                elim w.else-self.branch [
                  | else-self-via-then-self+else-not-is_empty w' ↦ absurd (omega (arith, eqb-true (length c.args.buf.now) 0 (sym w'.if-not-is_empty.ensures), c.hand_on.ensures.size, some))
                  | else-self-via-else-self w' ↦
                      let held : ready.held ≡ take (c.self.inside.end - c.self.inside.at) (drop c.self.inside.at c.self.inside.bytes) = ap (λ s. s.held) (w.self-is ∙ sym c.self.view_is) in
                      let size : length ready.held ≡ c.self.inside.end - c.self.inside.at = ap length held ∙ length-take-le (c.self.inside.end - c.self.inside.at) (drop c.self.inside.at c.self.inside.bytes) (omega (arith, length-drop c.self.inside.at c.self.inside.bytes, c.self.told, c.self.invariant.0, c.self.invariant.1)) in
                      absurd (w'.if-self.false (omega (arith, ap length empty, size, c.self.invariant.0)))
                ]
          ] in
          subst (λ s. IsAtEnd (prepend_known after.held (rest s))) (sym c.hand_on.ensures.source)
          (subst (λ h. IsAtEnd (prepend_known h (rest ready.source))) (sym (c.hand_on.ensures.left ∙ ap (drop c.hand_on.result) empty))
          (none_left (rest ready.source) c.hand_on.result ended)),
    )
