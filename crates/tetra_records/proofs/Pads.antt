-- Pad bits of fields.
use Rattle.std.proofs.Common.{◌≡◌, ℕ, List, [], ◌∷◌, take, drop, length, inl, inr, subst, sym, ap, ◌∙◌}
use Rattle.std.proofs.Math.Seq.{take-length}
use Rattle.tetra_bits.specs.Packed.{bytes_for, HasPad}
use Rattle.tetra_records.specs.Layouts.{FieldsHavePad}

module _ (bytes first rest second third : List ℕ) (a b c : ℕ) (is_first : first ≡ take (bytes_for a) bytes) (is_rest : rest ≡ drop (bytes_for a) bytes)
    (is_second : second ≡ take (bytes_for b) rest) (is_third : third ≡ drop (bytes_for b) rest) (whole : length third ≡ bytes_for c) where
  all_third : third ≡ take (bytes_for c) third
  all_third = sym (ap (λ n. take n third) (sym whole) ∙ take-length third)

  pub second_pad : HasPad second b → FieldsHavePad (a ∷ b ∷ c ∷ []) bytes
  second_pad h = inr (inl (subst (λ l. HasPad (take (bytes_for b) l) b) is_rest (subst (λ l. HasPad l b) is_second h)))

  pub third_pad : HasPad third c → FieldsHavePad (a ∷ b ∷ c ∷ []) bytes
  third_pad h =
      inr (inr (inl (subst (λ l. HasPad (take (bytes_for c) (drop (bytes_for b) l)) c) is_rest (subst (λ l. HasPad (take (bytes_for c) l) c) is_third (subst (λ l. HasPad l c) all_third h)))))

  pub no_pads : (HasPad first a → ⊥) → (HasPad second b → ⊥) → (HasPad third c → ⊥) → FieldsHavePad (a ∷ b ∷ c ∷ []) bytes → ⊥
  no_pads f s t (inl h) = f (subst (λ l. HasPad l a) (sym is_first) h)
  no_pads f s t (inr (inl h)) = s (subst (λ l. HasPad l b) (sym is_second) (subst (λ l. HasPad (take (bytes_for b) l) b) (sym is_rest) h))
  no_pads f s t (inr (inr (inl h))) =
      t (subst (λ l. HasPad l c) (sym all_third) (subst (λ l. HasPad (take (bytes_for c) l) c) (sym is_third) (subst (λ l. HasPad (take (bytes_for c) (drop (bytes_for b) l)) c) (sym is_rest) h)))
  no_pads f s t (inr (inr (inr h))) = h
