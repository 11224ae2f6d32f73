-- The damage that is made of a number: signs of soft values are turned. This project's own.
use Rattle.std.specs.Prelude.{ℕ, ◌≡◌, ◌+◌, ◌-◌, ◌*◌, ◌%◌, ℤ, neg_ℤ, List, length, nat_eq, if◌then◌else◌}
use Rattle.tetra_bits.specs.Numbered.{numbered}
use Rattle.tetra_bits.specs.Soft.{AllSoft, value_at}
use Rattle.tetra_bits.specs.Sums.{sum_below, bit_number}
use Rattle.tetra_settings.specs.declared.types.Settings.{Settings}
use Rattle.tetra_gen.specs.declared.damage.Damage.{Damage}
use Rattle.tetra_gen.specs.Words.{generator, word}

-- the position that a word names, from 1 to 510
abbrev pub position : ℕ → ℕ
position w = 1 + w % 510

-- how many of so many words, the first of which is word i, name position p
unfoldable pub times_named : (ℕ → ℕ) → ℕ → ℕ → ℕ → ℕ
times_named words i count p = sum_below count (λ d. bit_number (nat_eq (position (words (i + d))) p))

-- a value whose sign is turned so often
unfoldable pub turned : ℕ → ℤ → ℤ
turned times value = if nat_eq (times % 2) 1 then neg_ℤ value else value

-- the value at position p, turned as often as the words name it
unfoldable pub turned_at : (ℕ → ℕ) → ℕ → ℕ → List ℤ → ℕ → ℤ
turned_at words i count values p = turned (times_named words i count p) (value_at values (p - 1))

-- values turned by so many words, the first of which is word i
unfoldable pub turned_by : (ℕ → ℕ) → ℕ → ℕ → List ℤ → List ℤ
turned_by words i count values = numbered (turned_at words i count values) (length values)

-- the values of slot k, turned by its words of stream 2, of which each slot has as many
unfoldable pub damaged : Settings → ℕ → List ℤ → List ℤ
damaged settings k values = turned_by (word settings.draw 2) (k * settings.damage) settings.damage values

-- a damage of the settings that has turned k slots
pub record DamageStands (settings : Settings) (k : ℕ) (damage : Damage) : Type 0 where
  pub count : damage.count ≡ settings.damage
  pub words : damage.words ≡ generator settings.draw 2 (k * settings.damage)

-- damage keeps the number of values
abbrev pub DamageKeepsLength : Type 0
DamageKeepsLength = (settings : Settings) (k : ℕ) (values : List ℤ) → length (damaged settings k values) ≡ length values

-- and that each is soft
abbrev pub DamageKeepsSoft : Type 0
DamageKeepsSoft = (settings : Settings) (k : ℕ) (values : List ℤ) → AllSoft values → AllSoft (damaged settings k values)
