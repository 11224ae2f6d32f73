-- Undamaged values stay undamaged on the way back from type 5 to type 3, and name the block.
use Rattle.std.proofs.Common.{◌≡◌, ℕ, ◌+◌, ◌<◌, ◌⊎◌, inl, inr, Bool, List, length, arith, refl, sym, subst, ◌∙◌}
use Rattle.std.specs.Prelude.{ℤ}
use Rattle.tetra_bits.specs.Cost.{metric}
use Rattle.tetra_bits.specs.Digits.{digits}
use Rattle.tetra_bits.specs.Numbered.{length-numbered}
use Rattle.tetra_bits.specs.Plain.{best_plain}
use Rattle.tetra_bits.specs.Undamaged.{IsUndamaged}
use Rattle.tetra_bits.specs.lemmas.Written.{written_free, others_cost, free_is_best}
use Rattle.tetra_interleave.specs.Block.{IsBlock, block_place}
use Rattle.tetra_interleave.specs.Laws.{StayUndamaged, BlocksAreOneToOne}
use Rattle.tetra_parity.specs.Marks.{BlocksAreGood}
use Rattle.tetra_parity.specs.Parity.{width}
use Rattle.tetra_puncture.specs.Plan.{IsMessage, WordsDiffer}
use Rattle.tetra_puncture.specs.lemmas.Undamaged.{length-word, undamaged_free, undamaged_is_best}
use Rattle.tetra_rm.specs.Code.{access_word, UndamagedArrives}
use Rattle.tetra_scramble.specs.Flips.{flipped, turned, FlippedBack, StaysUndamaged}
use Rattle.tetra_channels.specs.Channels.{Channel, message_of, type3_bits, type4_bits, type5_bits, word_bits, front_values, raw_bits, access_bits}
use Rattle.tetra_channels.specs.Fields.{coded_reading, raw_reading, access_reading}
use Rattle.tetra_channels.specs.Laws.{written_reading, written_plain, UndamagedIsRead, UndamagedWordIsRead, UndamagedWordArrives, UndamagedRawIsRead, UndamagedAccessIsRead}
use Rattle.tetra_channels.proofs.Sizes.{length-message_of}

-- descrambled
pub undamaged_turned : FlippedBack → StaysUndamaged → (x key : List Bool) (soft : List ℤ)
    → IsUndamaged (flipped x key 1) soft → IsUndamaged x (turned soft key 1)
undamaged_turned back stays x key soft u =
    subst (λ bits. IsUndamaged bits (turned soft key 1)) (back x key 1) (stays (flipped x key 1) soft key 1 u)

-- from type 5 back to type 3
pub undamaged_word_arrives : FlippedBack → StaysUndamaged → StayUndamaged → BlocksAreOneToOne → (inv : ℕ) (channel : Channel)
    → IsBlock channel.plan.sent channel.a inv → UndamagedWordArrives channel
unfolding word_bits front_values
undamaged_word_arrives back stays placed one inv channel b key bits soft size u =
    let k = channel.plan.sent in
    placed k (block_place k channel.a) bits (turned soft key 1) (one k channel.a inv b) size (undamaged_turned back stays _ key soft u)

pub undamaged_word_is_read : BlocksAreGood → (channel : Channel) → WordsDiffer channel.plan → UndamagedWordIsRead channel
unfolding coded_reading written_reading type3_bits message_of
undamaged_word_is_read good channel differ block values size front =
    let m = message_of channel block in
    let l : length m ≡ length block + width channel.parity = length-message_of channel block in
    let message : IsMessage channel.plan m = omega arith in
    rw (undamaged_is_best channel.plan values m differ message front, undamaged_free channel.plan values m front, good channel.parity block) refl

-- the type-5 bits of a block are those of its type-3 bits
block_word : (channel : Channel) (key block : List Bool) → type5_bits channel key block ≡ word_bits channel key (type3_bits channel block)
unfolding type5_bits type4_bits word_bits
block_word channel key block = refl

length-type3 : (channel : Channel) (block : List Bool) → length (type3_bits channel block) ≡ channel.plan.sent
unfolding type3_bits
length-type3 channel block = length-word channel.plan (message_of channel block)

pub undamaged_is_read : FlippedBack → StaysUndamaged → StayUndamaged → BlocksAreOneToOne → BlocksAreGood → (inv : ℕ)
    (channel : Channel) → IsBlock channel.plan.sent channel.a inv → WordsDiffer channel.plan → UndamagedIsRead channel
undamaged_is_read back stays placed one good inv channel b differ key block soft size u =
    let arrived = undamaged_word_arrives back stays placed one inv channel b key (type3_bits channel block) soft (length-type3 channel block)
    (subst (λ bits. IsUndamaged bits soft) (block_word channel key block) u) in
    undamaged_word_is_read good channel differ block (front_values channel key soft) size arrived

pub undamaged_raw_is_read : FlippedBack → StaysUndamaged → UndamagedRawIsRead
unfolding raw_bits raw_reading written_plain best_plain
undamaged_raw_is_read back_is stays key block soft u =
    let values = turned soft key 1 in
    let back : IsUndamaged block values = undamaged_turned back_is stays block key soft u in
    let others : (other : List Bool) → length other ≡ length values → (block ≡ other) ⊎ (0 < metric values other) =
    λ other l. elim (others_cost block other values back (l ∙ back.size)) [ inl same ↦ inl (sym same) | inr costs ↦ inr costs ]
    in
    rw (← free_is_best (length values) (metric values) block (sym back.size) (written_free block values back) others) refl

pub undamaged_access_is_read : FlippedBack → StaysUndamaged → UndamagedArrives → UndamagedAccessIsRead
unfolding access_bits access_reading written_plain digits
undamaged_access_is_read back stays arrives rows key message soft below u =
    let values = turned soft key 1 in
    let here : IsUndamaged (access_word rows (digits 14 message)) values =
    undamaged_turned back stays (access_word rows (digits 14 message)) key soft u in
    let read = arrives rows (digits 14 message) values (length-numbered _ 14) here in
    rw (read.0, read.1) refl
