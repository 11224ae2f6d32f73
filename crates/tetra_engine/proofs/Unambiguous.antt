-- The inputs of one slot whose bytes begin the same bytes are the same.
use Rattle.std.proofs.Common.{◌≡◌, ◌++◌, length, ap, sym, ◌∙◌, append_assoc, refl}
use Rattle.tetra_settings.specs.declared.types.Settings.{Settings}
use Rattle.tetra_engine.specs.Auditing.{auditing, Claimed, front_at}
use Rattle.tetra_audit.specs.Fields.{claim_length}
use Rattle.tetra_engine.specs.Decoding.{decoding}
use Rattle.tetra_engine.specs.Shapes.{IsUnambiguous}
use Rattle.tetra_engine.proofs.Cuts.{same_front, behind}

pub one_slot : (settings : Settings) → IsUnambiguous (decoding settings)
one_slot settings before x y u v fx fy e = same_front 510 x y u v fx fy e

same_pair : (x y : Claimed) → x.0 ≡ y.0 → x.1 ≡ y.1 → x ≡ y
same_pair (a, b) (c, d) e f = cc (e, f)

pub one_claimed : (settings : Settings) → IsUnambiguous (auditing settings)
one_claimed settings before x y u v fx fy e =
    let all : x.0 ++ (x.1 ++ u) ≡ y.0 ++ (y.1 ++ v) = sym (append_assoc x.0 x.1 u) ∙ e ∙ append_assoc y.0 y.1 v in
    let slot : x.0 ≡ y.0 = same_front 510 x.0 y.0 (x.1 ++ u) (y.1 ++ v) fx.0 fy.0 all in
    let rest : x.1 ++ u ≡ y.1 ++ v = behind x.0 _ _ (all ∙ ap (λ s. s ++ (y.1 ++ v)) (sym slot)) in
    let same : length x.1 ≡ length y.1 = fx.1 ∙ ap (λ s. claim_length (front_at settings before s)) slot ∙ sym fy.1 in
    same_pair x y slot (same_front (length y.1) x.1 y.1 u v same refl rest)
