-- The numbers of a reading fit two bytes.
use Rattle.std.proofs.Common.{ℕ, ◌*◌, ◌≤◌, List, arith, Option, None, Some}
use Rattle.std.specs.Prelude.{nat_abs, IfSome}
use Rattle.tetra_bits.specs.Readings.{entry}
use Rattle.tetra_bits.specs.declared.soft.TheConstants.{SOFT_MAX}
use Rattle.tetra_records.specs.Readings.{AreSmall, IsSmall}
use Rattle.tetra_session.specs.Fronts.{IsBounded}
use Rattle.tetra_settings.specs.declared.readings.Field.{Field}

small_number : (m : ℕ) → m ≤ nat_abs SOFT_MAX * 432 → m ≤ 65535
small_number m h = omega (arith, h)

small_potentials : (potentials : Option (List (List ℕ))) → IfSome potentials (λ rows. (t s : ℕ) → entry rows t s ≤ nat_abs SOFT_MAX * 432) → AreSmall potentials
small_potentials None h = tt
small_potentials (Some rows) h = λ t s. small_number (entry rows t s) (h t s)

pub small_field : (field : Field) → IsBounded (nat_abs SOFT_MAX) field → IsSmall field
small_field field bounded = record { metric = small_number field.reading.metric bounded.metric; potentials = small_potentials field.reading.potentials bounded.potentials }
