use Rattle.tetra_engine.proofs.OwnReadings.{received_is_decoded, encoded_is_decoded}
use Rattle.tetra_engine.proofs.laws.encoded_is_decoded.Goals as goal

pub returns : goal.returns
returns c = record { received = received_is_decoded c.slots_arrive.ensures c.data_arrives.ensures; as_written = encoded_is_decoded c.slots_arrive.ensures c.data_arrives.ensures c.written_slots_arrive.ensures }
