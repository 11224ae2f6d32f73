use Rattle.tetra_channels.specs.Channels.{data48, data24}
use Rattle.tetra_session.proofs.DataArriving.{data_arrives}
use Rattle.tetra_session.proofs.DataModes.{DataLaws}
use Rattle.tetra_session.proofs.laws.data_arrives.Goals as goal

pub returns : goal.returns
returns c =
    let of_48 : DataLaws data48 = record {
      arrives = c.undamaged_word_arrives.ensures;
      is_read = c.undamaged_word_is_read.ensures;
      none_wrong_arrives = c.none_wrong_word_arrives.ensures;
      none_wrong_is_read = c.none_wrong_word_is_read.ensures;
    } in
    let of_24 : DataLaws data24 = record {
      arrives = c.undamaged_word_arrives-2.ensures;
      is_read = c.undamaged_word_is_read-2.ensures;
      none_wrong_arrives = c.none_wrong_word_arrives-2.ensures;
      none_wrong_is_read = c.none_wrong_word_is_read-2.ensures;
    } in
    data_arrives of_48 of_24 c.undamaged_is_read.ensures c.undamaged_arrives.ensures c.none_wrong_arrives.ensures c.fields_arrive.ensures c.kind_arrives.ensures
