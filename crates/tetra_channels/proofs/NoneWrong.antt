-- Values none of which has the wrong sign stay so on the way back from type 5 to type 3, and name the block or one that
-- stands before it.
use Rattle.std.proofs.Common.{◌≡◌, ℕ, ◌+◌, ◌-◌, Bool, List, length, arith, refl, sym, subst}
use Rattle.std.specs.Prelude.{ℤ}
use Rattle.tetra_bits.specs.Cost.{metric}
use Rattle.tetra_bits.specs.Least.{FirstLeast}
use Rattle.tetra_bits.specs.Plain.{best_plain}
use Rattle.tetra_bits.specs.Undamaged.{IsNoneWrong}
use Rattle.tetra_bits.specs.lemmas.Best.{best_is_first}
use Rattle.tetra_bits.specs.lemmas.Written.{none_wrong_free, first_is_free, first_is_up_to}
use Rattle.tetra_interleave.specs.Block.{IsBlock, block_place}
use Rattle.tetra_interleave.specs.Laws.{StayNoneWrong, BlocksAreOneToOne}
use Rattle.tetra_parity.specs.Parity.{width}
use Rattle.tetra_puncture.specs.Best.{best_of, message_metric}
use Rattle.tetra_scramble.specs.Flips.{flipped, turned, FlippedBack, StaysNoneWrong}
use Rattle.tetra_channels.specs.Channels.{Channel, message_of, type3_bits, word_bits, front_values, raw_bits}
use Rattle.tetra_channels.specs.Fields.{coded_reading, raw_reading}
use Rattle.tetra_channels.specs.Laws.{NoneWrongWordIsRead, NoneWrongWordArrives, NoneWrongRawIsRead}
use Rattle.tetra_channels.proofs.Sizes.{length-message_of}

-- descrambled
none_wrong_turned : FlippedBack → StaysNoneWrong → (x key : List Bool) (soft : List ℤ)
    → IsNoneWrong (flipped x key 1) soft → IsNoneWrong x (turned soft key 1)
none_wrong_turned back stays x key soft h =
    subst (λ bits. IsNoneWrong bits (turned soft key 1)) (back x key 1) (stays (flipped x key 1) soft key 1 h)

-- from type 5 back to type 3
pub none_wrong_word_arrives : FlippedBack → StaysNoneWrong → StayNoneWrong → BlocksAreOneToOne → (inv : ℕ) (channel : Channel)
    → IsBlock channel.plan.sent channel.a inv → NoneWrongWordArrives channel
unfolding word_bits front_values
none_wrong_word_arrives back stays placed one inv channel b key bits soft size h =
    let k = channel.plan.sent in
    placed k (block_place k channel.a) bits (turned soft key 1) (one k channel.a inv b) size (none_wrong_turned back stays _ key soft h)

-- the message of the block costs nothing, so what is read costs nothing, and no other comes before it
pub none_wrong_word_is_read : (channel : Channel) → NoneWrongWordIsRead channel
unfolding coded_reading type3_bits best_of message_metric
none_wrong_word_is_read channel block soft size h =
    let m = message_of channel block in
    let l : length m ≡ length block + width channel.parity = length-message_of channel block in
    let steps = channel.plan.steps in
    let fits : length m ≡ steps - 4 = omega arith in
    let rate = message_metric channel.plan soft in
    let first : FirstLeast (steps - 4) rate (best_of channel.plan soft) = best_is_first (steps - 4) rate in
    let costs : rate m ≡ 0 = none_wrong_free (type3_bits channel block) soft h in
    record {
      free = first_is_free (steps - 4) rate m (best_of channel.plan soft) first fits costs;
      up_to = first_is_up_to (steps - 4) rate m (best_of channel.plan soft) first fits costs;
    }

pub none_wrong_raw_is_read : FlippedBack → StaysNoneWrong → NoneWrongRawIsRead
unfolding raw_bits raw_reading best_plain
none_wrong_raw_is_read back_is stays key block soft h =
    let values = turned soft key 1 in
    let back : IsNoneWrong block values = none_wrong_turned back_is stays block key soft h in
    let first : FirstLeast (length values) (metric values) (best_plain values) = best_is_first (length values) (metric values) in
    let up_to = first_is_up_to (length values) (metric values) block (best_plain values) first (sym back.size) (none_wrong_free block values back) in
    record { free = refl; up_to = up_to }
