-- Values that have the signs of a sent word are read as its message.
use Rattle.std.proofs.Common.{◌≡◌, ◌-◌, ◌<◌, ◌⊎◌, inl, inr, Bool, List, length, arith, sym, ◌∙◌}
use Rattle.std.specs.Prelude.{ℤ}
use Rattle.tetra_bits.specs.Cost.{metric}
use Rattle.tetra_bits.specs.Numbered.{length-numbered}
use Rattle.tetra_bits.specs.Undamaged.{IsUndamaged}
use Rattle.tetra_bits.specs.lemmas.Written.{written_free, others_cost, free_is_best}
use Rattle.tetra_puncture.specs.Best.{best_of, message_metric}
use Rattle.tetra_puncture.specs.Plan.{CodePlan, IsMessage, WordsDiffer, word, sent_bit}

pub length-word : (p : CodePlan) (m : List Bool) → length (word p m) ≡ p.sent
unfolding word
length-word p m = length-numbered (sent_bit p m) p.sent

-- the metric of the message is 0
pub undamaged_free : (p : CodePlan) (r : List ℤ) (m : List Bool) → IsUndamaged (word p m) r → message_metric p r m ≡ 0
unfolding message_metric
undamaged_free p r m u = written_free (word p m) r u

-- and each other message costs something, as its word is another one
pub undamaged_is_best : (p : CodePlan) (r : List ℤ) (m : List Bool) → WordsDiffer p → IsMessage p m → IsUndamaged (word p m) r → best_of p r ≡ m
unfolding best_of message_metric
undamaged_is_best p r m differ message u =
    sym (free_is_best (p.steps - 4) (message_metric p r) m (omega arith) (undamaged_free p r m u) others)
  where
    others : (other : List Bool) → length other ≡ p.steps - 4 → (m ≡ other) ⊎ (0 < metric r (word p other))
    others other l = elim (others_cost (word p m) (word p other) r u (length-word p other ∙ sym (length-word p m))) [
      | inl same ↦ inl (sym (differ other m (omega arith) message same))
      | inr costs ↦ inr costs
    ]
