-- What `gen` writes: the block records of slots that are drawn.
use Rattle.tetra_settings.specs.declared.types.Settings.{Settings}
use Rattle.tetra_records.specs.Spelling.{spelling}
use Rattle.tetra_gen.specs.Made.{made}
use Rattle.tetra_engine.specs.Series.{Series}

-- one record for each slot
abbrev pub generating : Settings → Series
generating settings = record {
  count = settings.slots;
  out = λ k. spelling (made settings k);
  slots = λ k. k;
}
