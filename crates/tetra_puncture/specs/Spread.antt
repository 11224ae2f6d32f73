-- Soft values at the places of the mother word.
use Prim.Native.Nat.{zero, suc}
use Rattle.std.specs.Prelude.{ℕ, ℤ, pos, ◌-◌, ◌*◌, ◌≤◌, ◌≡◌, ◌≢◌, cond, nat_eq, List, length}
use Rattle.tetra_bits.specs.Numbered.{numbered}
use Rattle.tetra_bits.specs.Soft.{value_at}
use Rattle.tetra_puncture.specs.Plan.{CodePlan}

-- the value that is sent at place v, by one of the first n sent bits: 0 where none of them has the place
unfoldable pub value_among : CodePlan → List ℤ → ℕ → ℕ → ℤ
value_among p r v zero = pos 0
value_among p r v (suc n) = cond (nat_eq (p.place (suc n)) v) (value_at r n) (value_among p r v n)

-- the value at place v of the mother word: that of the sent bit which has the place, and 0 where none has
unfoldable pub spread_value : CodePlan → List ℤ → ℕ → ℤ
spread_value p r v = value_among p r v p.sent

-- the values at all places of the mother word
unfoldable pub spread_values : CodePlan → List ℤ → List ℤ
spread_values p r = numbered (spread_value p r) (p.outs * p.steps)

-- wide has each of the first n sent values at its place, and 0 elsewhere
pub record IsSpreadTo (p : CodePlan) (r : List ℤ) (n : ℕ) (wide : List ℤ) : Type 0 where
  pub size : length wide ≡ p.outs * p.steps
  pub placed : (j : ℕ) → 1 ≤ j → j ≤ n → value_at wide (p.place j - 1) ≡ value_at r (j - 1)
  pub rest : (v : ℕ) → 1 ≤ v → v ≤ p.outs * p.steps → ((j : ℕ) → 1 ≤ j → j ≤ n → p.place j ≢ v)
      → value_at wide (v - 1) ≡ pos 0

-- wide has each sent value at its place, and 0 elsewhere
pub record IsSpread (p : CodePlan) (r wide : List ℤ) : Type 0 where
  pub size : length wide ≡ p.outs * p.steps
  pub placed : (j : ℕ) → 1 ≤ j → j ≤ p.sent → value_at wide (p.place j - 1) ≡ value_at r (j - 1)
  pub rest : (v : ℕ) → 1 ≤ v → v ≤ p.outs * p.steps → ((j : ℕ) → 1 ≤ j → j ≤ p.sent → p.place j ≢ v)
      → value_at wide (v - 1) ≡ pos 0
