-- Readings without a trellis.
use Rattle.std.proofs.Common.{◌≡◌, ℕ, Bool, List, [], ℤ, length, None, refl, ap, ◌∙◌}
use Rattle.tetra_bits.specs.Cost.{metric}
use Rattle.tetra_bits.specs.Digits.{digits}
use Rattle.tetra_bits.specs.Parts.{InParts}
use Rattle.tetra_bits.specs.Plain.{best_plain}
use Rattle.tetra_bits.specs.declared.reading.Mark.TheVariants.{Unchecked}
use Rattle.tetra_bits.specs.declared.reading.Reading.{Reading}
use Rattle.tetra_bits.specs.lemmas.Best.{best_is_first}
use Rattle.tetra_rm.specs.Code.{best_access, access_metric}
use Rattle.tetra_channels.specs.Fields.{access_reading}

pub length-best_plain : (values : List ℤ) → length (best_plain values) ≡ length values
unfolding best_plain
length-best_plain values = let first = best_is_first (length values) (metric values) in first.has_length

-- what is read of an access field, from what its decoder answers
pub is_access_reading : (rows : List ℕ) (soft : List ℤ) (message metric : ℕ) (bits : List Bool)
    → digits 14 message ≡ best_access rows soft → metric ≡ access_metric rows soft (digits 14 message)
    → bits ≡ digits 14 message
    → ◌≡◌ {A = Reading} (record { mark = Unchecked; metric = metric; bits = bits; potentials = None })
    (access_reading rows soft)
unfolding access_reading
is_access_reading rows soft message metric bits best rate eb = rw (eb, rate, best) refl

-- the same in parts
pub access_in_parts : (rows : List ℕ) (soft : List ℤ) (message metric : ℕ) (bits : List Bool)
    → digits 14 message ≡ best_access rows soft → metric ≡ access_metric rows soft (digits 14 message)
    → bits ≡ digits 14 message
    → InParts (access_reading rows soft) (record { mark = Unchecked; metric = metric }) bits []
unfolding access_reading
access_in_parts rows soft message metric bits best rate eb =
    record { mark = refl; metric = rate ∙ ap (access_metric rows soft) best; bits = eb ∙ best; rows = refl }
