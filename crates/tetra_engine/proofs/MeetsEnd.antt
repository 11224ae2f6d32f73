-- How often a run met the end of its input.
use Rattle.std.proofs.Common.{◌≡◌, ◌⊎◌, ℕ, inl, inr}
use Rattle.tetra_io.specs.Streams.{next_count}
use Rattle.tetra_records.specs.Records.{ends_by_fault}
use Rattle.tetra_records.specs.declared.faults.RecordFault.{RecordFault}
use Rattle.tetra_records.specs.declared.faults.RecordFault.TheVariants.{UnknownKind, WrongKind, PadBit, Truncated}
use Rattle.tetra_engine.specs.declared.status.Status.{Status}
use Rattle.tetra_engine.specs.declared.status.Status.TheVariants.{Done, Refused, Words, TooLong, Input, Read, Write}
use Rattle.tetra_engine.specs.declared.work.Stop.{Stop}
use Rattle.tetra_engine.specs.declared.work.Stop.TheVariants.{End as EndStop, Bad, More, Fault}
use Rattle.tetra_engine.specs.Outcomes.{IsEnd, EndsMet}
use Rattle.tetra_engine.specs.Working.{ends_by_stop, end_by}

-- at the end of the input
met_at_end : (status : Status) (before now : ℕ) → IsEnd status → now ≡ next_count before → EndsMet status before now
met_at_end Done before now quiet met = met
met_at_end (Refused slot count) before now quiet met = met
met_at_end (Words index why) before now quiet met = absurd quiet
met_at_end (Input slot why) before now quiet met = absurd quiet
met_at_end Read before now quiet met = absurd quiet
met_at_end Write before now quiet met = absurd quiet
met_at_end TooLong before now quiet met = absurd quiet

-- where no input came
pub met_by_stop : (stop : Stop) (last : Status) (slots before now : ℕ) → now ≡ ends_by_stop stop before → IsEnd last → EndsMet (end_by stop last slots).status before now
met_by_stop EndStop last slots before now met quiet = met_at_end last before now quiet met
met_by_stop (Bad why) last slots before now met quiet = met
met_by_stop More last slots before now met quiet = met
met_by_stop Fault last slots before now met quiet = met

met_by_fault : (why : RecordFault) (before now : ℕ) → now ≡ ends_by_fault why before → (now ≡ before) ⊎ (now ≡ next_count before)
met_by_fault UnknownKind before now met = inl met
met_by_fault WrongKind before now met = inl met
met_by_fault PadBit before now met = inl met
met_by_fault Truncated before now met = inr met

-- and where the flush failed behind any end
pub met_where_write_failed : (status : Status) (before now : ℕ) → EndsMet status before now → (now ≡ before) ⊎ (now ≡ next_count before)
met_where_write_failed Done before now met = inr met
met_where_write_failed (Refused slot count) before now met = inr met
met_where_write_failed (Words index why) before now met = inl met
met_where_write_failed (Input slot why) before now met = met_by_fault why before now met
met_where_write_failed Read before now met = inl met
met_where_write_failed Write before now met = met
met_where_write_failed TooLong before now met = inl met
