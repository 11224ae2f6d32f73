-- Block interleaving of k entries, EN 300 392-2 clause 8.2.4.
use Rattle.std.specs.Prelude.{ℕ, ◌+◌, ◌*◌, ◌%◌, ◌<◌, ◌≤◌, ◌≡◌}

-- the place of entry i
unfoldable pub block_place : ℕ → ℕ → ℕ → ℕ
block_place k a i = 1 + (a * i) % k

-- the numbers of a block interleaver fit: inv undoes a modulo k
pub record IsBlock (k a inv : ℕ) : Type 0 where
  pub few : k ≤ 432
  pub a_below : a < k
  pub inv_below : inv < k
  pub undoes : (a * inv) % k ≡ 1
