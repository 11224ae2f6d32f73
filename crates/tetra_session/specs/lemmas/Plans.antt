-- The plans by which fields are read have the laws of plans, and the sizes of the table of fields.
use Rattle.std.proofs.Common.{◌≡◌, ◌+◌, arith, refl}
use Rattle.tetra_channels.specs.Channels.{Channel}
use Rattle.tetra_puncture.specs.Places.{IsTwoThirds, speech_whole, speech_half}
use Rattle.tetra_puncture.specs.Plan.{HasSizes, PlacesRise, PlacesLie}
use Rattle.tetra_puncture.specs.lemmas.TwoThirds.{two_thirds_sizes, two_thirds_rise, two_thirds_lie}
use Rattle.tetra_puncture.specs.lemmas.P148.{p148_sizes, p148_rise, p148_lie}
use Rattle.tetra_puncture.specs.lemmas.P292.{p292_sizes, p292_rise, p292_lie}
use Rattle.tetra_settings.specs.Readings.{sizes}
use Rattle.tetra_settings.specs.declared.readings.FieldName.{FieldName}
use Rattle.tetra_settings.specs.declared.readings.FieldName.TheVariants.{Aach, Sync, Half, Hu, Full, D72, D48, D24, Whole, Single}
use Rattle.tetra_settings.specs.declared.readings.FieldSizes.{FieldSizes}
use Rattle.tetra_session.specs.Readers.{Reader, Access, Plain, Trellis, WholeSpeech, HalfSpeech, reader}

-- the laws of the plan of a channel, and its numbers in the table of fields
pub record HasPlanLaws (channel : Channel) (row : FieldSizes) : Type 0 where
  pub sizes : HasSizes channel.plan
  pub rise : PlacesRise channel.plan
  pub lie : PlacesLie channel.plan
  pub steps : channel.plan.steps ≡ row.steps
  pub sent : channel.plan.sent ≡ row.values
  pub bits : row.bits + 4 ≡ channel.plan.steps

-- where a field is read by a channel
abbrev pub HasReaderLaws : Reader → FieldSizes → Type 0
HasReaderLaws Access row = row.steps ≡ 0
HasReaderLaws Plain row = row.steps ≡ 0
HasReaderLaws (Trellis channel) row = HasPlanLaws channel row
HasReaderLaws WholeSpeech row = row.steps ≡ speech_whole.steps
HasReaderLaws HalfSpeech row = row.steps ≡ speech_half.steps

bsch_sound : IsTwoThirds 80 120
bsch_sound = (refl, omega arith, omega arith, refl)

hu_sound : IsTwoThirds 112 168
hu_sound = (refl, omega arith, omega arith, refl)

half_sound : IsTwoThirds 144 216
half_sound = (refl, omega arith, omega arith, refl)

full_sound : IsTwoThirds 288 432
full_sound = (refl, omega arith, omega arith, refl)

pub reader_laws : (name : FieldName) → HasReaderLaws (reader name) (sizes name)
reader_laws Aach = refl
reader_laws Sync = record {
  sizes = two_thirds_sizes 80 120 bsch_sound;
  rise = two_thirds_rise 80 120 bsch_sound;
  lie = two_thirds_lie 80 120 bsch_sound;
  steps = refl;
  sent = refl;
  bits = refl;
}
reader_laws Half = record {
  sizes = two_thirds_sizes 144 216 half_sound;
  rise = two_thirds_rise 144 216 half_sound;
  lie = two_thirds_lie 144 216 half_sound;
  steps = refl;
  sent = refl;
  bits = refl;
}
reader_laws Hu = record {
  sizes = two_thirds_sizes 112 168 hu_sound;
  rise = two_thirds_rise 112 168 hu_sound;
  lie = two_thirds_lie 112 168 hu_sound;
  steps = refl;
  sent = refl;
  bits = refl;
}
reader_laws Full = record {
  sizes = two_thirds_sizes 288 432 full_sound;
  rise = two_thirds_rise 288 432 full_sound;
  lie = two_thirds_lie 288 432 full_sound;
  steps = refl;
  sent = refl;
  bits = refl;
}
reader_laws D72 = refl
reader_laws D48 = record { sizes = p292_sizes; rise = p292_rise; lie = p292_lie; steps = refl; sent = refl; bits = refl }
reader_laws D24 = record { sizes = p148_sizes; rise = p148_rise; lie = p148_lie; steps = refl; sent = refl; bits = refl }
reader_laws Whole = refl
reader_laws Single = refl
