-- Readings from their parts.
use Rattle.std.proofs.Common.{◌≡◌, ℕ, Bool, List, [], ◌∷◌, length, ℤ, Some, None, arith, refl}
use Rattle.tetra_bits.specs.Parts.{InParts}
use Rattle.tetra_bits.specs.declared.reading.Outcome.{Outcome}
use Rattle.tetra_bits.specs.declared.reading.Reading.{Reading}
use Rattle.tetra_channels.specs.Fields.{access_reading, coded_reading, raw_reading}
use Rattle.tetra_settings.specs.Readings.{certificate_rows}
use Rattle.tetra_settings.specs.declared.readings.FieldName.{FieldName}
use Rattle.tetra_settings.specs.declared.readings.FieldName.TheVariants.{Aach, Sync, Half, Hu, Full, D72, D48, D24, Whole, Single}
use Rattle.tetra_speech.specs.Reading.{whole_reading, half_reading}
use Rattle.tetra_session.specs.Readers.{reader, read_by}

-- the parts of a field with a trellis in one
pub coded_in_one : (name : FieldName) (rows : List ℕ) (soft : List ℤ) (outcome : Outcome) (message : List Bool) (table : List (List ℕ))
    → (certificate_rows name ≡ 0 → ⊥) → InParts (read_by (reader name) rows soft) outcome message table
    → ◌≡◌ {A = Reading} (record { mark = outcome.mark; metric = outcome.metric; bits = message; potentials = Some table }) (read_by (reader name) rows soft)
unfolding coded_reading whole_reading half_reading
coded_in_one Aach rows soft outcome message table trellis parts = absurd (trellis refl)
coded_in_one Sync rows soft outcome message table trellis parts = rw (parts.mark, parts.metric, parts.bits, parts.rows) refl
coded_in_one Half rows soft outcome message table trellis parts = rw (parts.mark, parts.metric, parts.bits, parts.rows) refl
coded_in_one Hu rows soft outcome message table trellis parts = rw (parts.mark, parts.metric, parts.bits, parts.rows) refl
coded_in_one Full rows soft outcome message table trellis parts = rw (parts.mark, parts.metric, parts.bits, parts.rows) refl
coded_in_one D72 rows soft outcome message table trellis parts = absurd (trellis refl)
coded_in_one D48 rows soft outcome message table trellis parts = rw (parts.mark, parts.metric, parts.bits, parts.rows) refl
coded_in_one D24 rows soft outcome message table trellis parts = rw (parts.mark, parts.metric, parts.bits, parts.rows) refl
coded_in_one Whole rows soft outcome message table trellis parts = rw (parts.mark, parts.metric, parts.bits, parts.rows) refl
coded_in_one Single rows soft outcome message table trellis parts = rw (parts.mark, parts.metric, parts.bits, parts.rows) refl

-- the parts of a field without a trellis in one
pub uncoded_in_one : (name : FieldName) (rows : List ℕ) (soft : List ℤ) (outcome : Outcome) (message : List Bool)
    → certificate_rows name ≡ 0 → InParts (read_by (reader name) rows soft) outcome message []
    → ◌≡◌ {A = Reading} (record { mark = outcome.mark; metric = outcome.metric; bits = message; potentials = None }) (read_by (reader name) rows soft)
unfolding access_reading raw_reading
uncoded_in_one Aach rows soft outcome message none parts = rw (parts.mark, parts.metric, parts.bits) refl
uncoded_in_one Sync rows soft outcome message none parts = absurd (omega (arith, none))
uncoded_in_one Half rows soft outcome message none parts = absurd (omega (arith, none))
uncoded_in_one Hu rows soft outcome message none parts = absurd (omega (arith, none))
uncoded_in_one Full rows soft outcome message none parts = absurd (omega (arith, none))
uncoded_in_one D72 rows soft outcome message none parts = rw (parts.mark, parts.metric, parts.bits) refl
uncoded_in_one D48 rows soft outcome message none parts = absurd (omega (arith, none))
uncoded_in_one D24 rows soft outcome message none parts = absurd (omega (arith, none))
uncoded_in_one Whole rows soft outcome message none parts = absurd (omega (arith, none))
uncoded_in_one Single rows soft outcome message none parts = absurd (omega (arith, none))

-- a table of no rows
pub no_rows : (table : List (List ℕ)) → length table ≡ 0 → table ≡ []
no_rows [] none = refl
no_rows (row ∷ rows) none = absurd (omega (arith, none))
