-- The code of rate 1/4 by lanes.
use Prim.Native.Nat.{zero, suc}
use Rattle.std.proofs.Common.{◌≡◌, ℕ, ◌+◌, ◌*◌, ◌<◌, Bool, true, false, nat_lt, List, [], ◌∷◌, get_or, ℤ, pos, arith, refl, sym, ap, ◌∙◌}
use Rattle.std.proofs.lemmas.Bool.{lt-ltb}
use Rattle.std.proofs.lemmas.List.FromFn.{get_or-map-range_with_len}
use Rattle.tetra_bits.specs.Cost.{cost}
use Rattle.tetra_mother.specs.Generators.{quarter}
use Rattle.tetra_mother.specs.Mother.{edge}
use Rattle.tetra_puncture.specs.Butterflies.{HasMasks, mask_of, masked_cost, turned_cost}
use Rattle.tetra_puncture.specs.Labels.{number_of, branch_output, branch_label, label_at, HasLabels}
use Rattle.tetra_puncture.specs.Quarter.{IsQuarter, quarter_cost, quarter_turned}
use Rattle.tetra_puncture.specs.declared.branches.Labels.{Labels}
use Rattle.tetra_puncture.specs.lemmas.Butterflies.{masked_is}

-- codes with the same terms have the same outputs
edge_same : (taps others : ℕ → ℕ → Bool) (s : ℕ) (b : Bool) (i : ℕ) → ((j : ℕ) → j < 5 → taps i j ≡ others i j) → edge taps s b i ≡ edge others s b i
unfolding edge
edge_same taps others s b i same = rw (same 0 (omega arith), same 1 (omega arith), same 2 (omega arith), same 3 (omega arith), same 4 (omega arith)) refl

module _ (taps : ℕ → ℕ → Bool) (outs : ℕ) (is : IsQuarter taps outs) where
  output_is : (s : ℕ) (b : Bool) (j : ℕ) → j < 4 → branch_output taps outs s b j ≡ edge quarter s b (j + 1)
  unfolding branch_output
  output_is s b j h =
      let inside : nat_lt j outs ≡ true = lt-ltb j outs (omega (arith, is.four)) in
      rw inside (edge_same taps quarter s b (j + 1) (λ k below. is.terms (j + 1) k (omega arith) (omega arith) below))

  module _ (labels : Labels) (has : HasMasks taps outs labels) (values : List ℤ) (i : ℕ) (h : i < 8) where
    pub quarter_is_masked : quarter_cost values i ≡ masked_cost labels.masks values i
    unfolding quarter_cost masked_cost
    quarter_is_masked =
        rw (
          masked_is taps outs labels has 0 i (omega arith) h ∙ output_is (2 * i) false 0 (omega arith),
          masked_is taps outs labels has 1 i (omega arith) h ∙ output_is (2 * i) false 1 (omega arith),
          masked_is taps outs labels has 2 i (omega arith) h ∙ output_is (2 * i) false 2 (omega arith),
          masked_is taps outs labels has 3 i (omega arith) h ∙ output_is (2 * i) false 3 (omega arith),
        )
        refl

    pub turned_is_masked : quarter_turned values i ≡ turned_cost labels.masks values i
    unfolding quarter_turned turned_cost
    turned_is_masked =
        rw (
          masked_is taps outs labels has 0 i (omega arith) h ∙ output_is (2 * i) false 0 (omega arith),
          masked_is taps outs labels has 1 i (omega arith) h ∙ output_is (2 * i) false 1 (omega arith),
          masked_is taps outs labels has 2 i (omega arith) h ∙ output_is (2 * i) false 2 (omega arith),
          masked_is taps outs labels has 3 i (omega arith) h ∙ output_is (2 * i) false 3 (omega arith),
        )
        refl

-- the labels that are written out
quarter_itself : IsQuarter quarter 4
quarter_itself = record { four = refl; terms = λ i j first last below. refl }

module _ (labels : Labels) where
  pub labels_written : labels.zero ≡ 0 ∷ 15 ∷ 5 ∷ 10 ∷ 6 ∷ 9 ∷ 3 ∷ 12 ∷ 11 ∷ 4 ∷ 14 ∷ 1 ∷ 13 ∷ 2 ∷ 8 ∷ 7 ∷ [] →
      labels.one ≡ 15 ∷ 0 ∷ 10 ∷ 5 ∷ 9 ∷ 6 ∷ 12 ∷ 3 ∷ 4 ∷ 11 ∷ 1 ∷ 14 ∷ 2 ∷ 13 ∷ 7 ∷ 8 ∷ [] → HasLabels quarter 4 labels
  unfolding HasLabels label_at branch_label branch_output edge number_of
  labels_written zero_is one_is s false h = ap (λ xs. get_or xs s 0) zero_is ∙ get_or-map-range_with_len (λ k. branch_label quarter 4 k false) 0 16 s s 0 h (omega arith)
  labels_written zero_is one_is s true h = ap (λ xs. get_or xs s 0) one_is ∙ get_or-map-range_with_len (λ k. branch_label quarter 4 k true) 0 16 s s 0 h (omega arith)

  pub masks_written : labels.masks ≡ (0 ∷ 0 ∷ 0 ∷ 0 ∷ 4294967295 ∷ 4294967295 ∷ 4294967295 ∷ 4294967295 ∷ [])
      ∷ (0 ∷ 4294967295 ∷ 4294967295 ∷ 0 ∷ 0 ∷ 4294967295 ∷ 4294967295 ∷ 0 ∷ [])
      ∷ (0 ∷ 0 ∷ 4294967295 ∷ 4294967295 ∷ 4294967295 ∷ 4294967295 ∷ 0 ∷ 0 ∷ [])
      ∷ (0 ∷ 4294967295 ∷ 0 ∷ 4294967295 ∷ 4294967295 ∷ 0 ∷ 4294967295 ∷ 0 ∷ []) ∷ [] → HasMasks quarter 4 labels
  unfolding HasMasks mask_of branch_output edge
  masks_written is zero i hj hi = ap (λ xs. get_or (get_or xs 0 []) i 0) is ∙ get_or-map-range_with_len (λ k. mask_of (branch_output quarter 4 (2 * k) false 0)) 0 8 i i 0 hi (omega arith)
  masks_written is (suc zero) i hj hi = ap (λ xs. get_or (get_or xs 1 []) i 0) is ∙ get_or-map-range_with_len (λ k. mask_of (branch_output quarter 4 (2 * k) false 1)) 0 8 i i 0 hi (omega arith)
  masks_written is (suc (suc zero)) i hj hi = ap (λ xs. get_or (get_or xs 2 []) i 0) is ∙ get_or-map-range_with_len (λ k. mask_of (branch_output quarter 4 (2 * k) false 2)) 0 8 i i 0 hi (omega arith)
  masks_written is (suc (suc (suc zero))) i hj hi = ap (λ xs. get_or (get_or xs 3 []) i 0) is ∙ get_or-map-range_with_len (λ k. mask_of (branch_output quarter 4 (2 * k) false 3)) 0 8 i i 0 hi (omega arith)
  masks_written is (suc (suc (suc (suc j)))) i hj hi = absurd (omega arith)

-- they are those of each code with the same terms
module _ (taps : ℕ → ℕ → Bool) (outs : ℕ) (is : IsQuarter taps outs) where
  output_same : (s : ℕ) (b : Bool) (j : ℕ) → j < 4 → branch_output quarter 4 s b j ≡ branch_output taps outs s b j
  output_same s b j h = output_is quarter 4 quarter_itself s b j h ∙ sym (output_is taps outs is s b j h)

  label_same : (s : ℕ) (b : Bool) → branch_label quarter 4 s b ≡ branch_label taps outs s b
  unfolding branch_label
  label_same s b = rw (output_same s b 0 (omega arith), output_same s b 1 (omega arith), output_same s b 2 (omega arith), output_same s b 3 (omega arith)) refl

  pub quarter_labels : (labels : Labels) → HasLabels quarter 4 labels → HasLabels taps outs labels
  unfolding HasLabels
  quarter_labels labels has s b h = has s b h ∙ label_same s b

  pub quarter_masks : (labels : Labels) → HasMasks quarter 4 labels → HasMasks taps outs labels
  unfolding HasMasks
  quarter_masks labels has j i hj hi = has j i hj hi ∙ ap mask_of (output_same (2 * i) false j hj)

-- the costs of two values as pairs of bits: the first two values, and the last two
pub record PairCosts (values : List ℤ) (p q r s t u v w : ℕ) : Type 0 where
  pub p_is : p ≡ cost (get_or values 0 (pos 0)) false + cost (get_or values 1 (pos 0)) false
  pub q_is : q ≡ cost (get_or values 0 (pos 0)) false + cost (get_or values 1 (pos 0)) true
  pub r_is : r ≡ cost (get_or values 0 (pos 0)) true + cost (get_or values 1 (pos 0)) false
  pub s_is : s ≡ cost (get_or values 0 (pos 0)) true + cost (get_or values 1 (pos 0)) true
  pub t_is : t ≡ cost (get_or values 2 (pos 0)) false + cost (get_or values 3 (pos 0)) false
  pub u_is : u ≡ cost (get_or values 2 (pos 0)) false + cost (get_or values 3 (pos 0)) true
  pub v_is : v ≡ cost (get_or values 2 (pos 0)) true + cost (get_or values 3 (pos 0)) false
  pub w_is : w ≡ cost (get_or values 2 (pos 0)) true + cost (get_or values 3 (pos 0)) true

-- their sums by lanes
module _ (values : List ℤ) (p q r s t u v w : ℕ) (is : PairCosts values p q r s t u v w) where
  pub lanes_are : (sums : List ℕ) → sums ≡ (p + t) ∷ (q + u) ∷ (q + v) ∷ (p + w) ∷ (r + w) ∷ (s + v) ∷ (s + u) ∷ (r + t) ∷ [] →
      (i : ℕ) → i < 8 → get_or sums i 0 ≡ quarter_cost values i
  unfolding quarter_cost edge
  lanes_are sums e zero h = rw e (omega (arith, is.p_is, is.t_is))
  lanes_are sums e (suc zero) h = rw e (omega (arith, is.q_is, is.u_is))
  lanes_are sums e (suc (suc zero)) h = rw e (omega (arith, is.q_is, is.v_is))
  lanes_are sums e (suc (suc (suc zero))) h = rw e (omega (arith, is.p_is, is.w_is))
  lanes_are sums e (suc (suc (suc (suc zero)))) h = rw e (omega (arith, is.r_is, is.w_is))
  lanes_are sums e (suc (suc (suc (suc (suc zero))))) h = rw e (omega (arith, is.s_is, is.v_is))
  lanes_are sums e (suc (suc (suc (suc (suc (suc zero)))))) h = rw e (omega (arith, is.s_is, is.u_is))
  lanes_are sums e (suc (suc (suc (suc (suc (suc (suc zero))))))) h = rw e (omega (arith, is.r_is, is.t_is))
  lanes_are sums e (suc (suc (suc (suc (suc (suc (suc (suc i)))))))) h = absurd (omega arith)

  pub turned_lanes_are : (sums : List ℕ) → sums ≡ (s + w) ∷ (r + v) ∷ (r + u) ∷ (s + t) ∷ (q + t) ∷ (p + u) ∷ (p + v) ∷ (q + w) ∷ [] →
      (i : ℕ) → i < 8 → get_or sums i 0 ≡ quarter_turned values i
  unfolding quarter_turned edge
  turned_lanes_are sums e zero h = rw e (omega (arith, is.s_is, is.w_is))
  turned_lanes_are sums e (suc zero) h = rw e (omega (arith, is.r_is, is.v_is))
  turned_lanes_are sums e (suc (suc zero)) h = rw e (omega (arith, is.r_is, is.u_is))
  turned_lanes_are sums e (suc (suc (suc zero))) h = rw e (omega (arith, is.s_is, is.t_is))
  turned_lanes_are sums e (suc (suc (suc (suc zero)))) h = rw e (omega (arith, is.q_is, is.t_is))
  turned_lanes_are sums e (suc (suc (suc (suc (suc zero))))) h = rw e (omega (arith, is.p_is, is.u_is))
  turned_lanes_are sums e (suc (suc (suc (suc (suc (suc zero)))))) h = rw e (omega (arith, is.p_is, is.v_is))
  turned_lanes_are sums e (suc (suc (suc (suc (suc (suc (suc zero))))))) h = rw e (omega (arith, is.q_is, is.w_is))
  turned_lanes_are sums e (suc (suc (suc (suc (suc (suc (suc (suc i)))))))) h = absurd (omega arith)
