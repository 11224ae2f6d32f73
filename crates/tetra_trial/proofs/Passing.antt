-- What has passed, one slot on.
use Rattle.std.proofs.Common.{ℕ, ◌+◌, ◌<◌, ◌≡◌, ℤ, List, [], ◌∷◌, ◌++◌, length, arith, refl, sym, ap, ◌∙◌, subst, Option, Some, None, IfSome}
use Rattle.std.proofs.lemmas.List.FromFn.{map-range_with_len_more, length-map-range_with_len}
use Rattle.tetra_settings.specs.Blocks.{Fits, FitsAccess}
use Rattle.tetra_settings.specs.declared.types.Dir.{Dir}
use Rattle.tetra_settings.specs.declared.types.Dir.TheVariants.{Dl, Ul}
use Rattle.tetra_settings.specs.declared.types.Settings.{Settings}
use Rattle.tetra_settings.specs.declared.blocks.SlotBlocks.{SlotBlocks}
use Rattle.tetra_settings.specs.declared.readings.SlotReading.{SlotReading}
use Rattle.tetra_session.specs.Sent.{SenderStands, slot_written}
use Rattle.tetra_session.specs.Heard.{ReceiverStands, slot_reading}
use Rattle.tetra_session.specs.declared.sender.Sender.{Sender}
use Rattle.tetra_session.specs.declared.receiver.Receiver.{Receiver}
use Rattle.tetra_gen.specs.Made.{made}
use Rattle.tetra_gen.specs.Damaged.{damaged}
use Rattle.tetra_trial.specs.Trials.{blocks_before, received, received_before, reading_of}

pub blocks_none : (settings : Settings) → blocks_before settings 0 ≡ []
unfolding blocks_before
blocks_none settings = refl

pub received_none : (settings : Settings) → received_before settings 0 ≡ []
unfolding received_before
received_none settings = refl

pub blocks_more : (settings : Settings) (k : ℕ) → blocks_before settings (k + 1) ≡ blocks_before settings k ++ made settings k ∷ []
unfolding blocks_before
blocks_more settings k = map-range_with_len_more (made settings) 0 k k (omega arith)

received_more : (settings : Settings) (k : ℕ) → received_before settings (k + 1) ≡ received_before settings k ++ received settings k ∷ []
unfolding received_before
received_more settings k = map-range_with_len_more (received settings) 0 k k (omega arith)

pub length-blocks_before : (settings : Settings) (k : ℕ) → length (blocks_before settings k) ≡ k
unfolding blocks_before
length-blocks_before settings k = length-map-range_with_len (made settings) 0 k

pub length-received_before : (settings : Settings) (k : ℕ) → length (received_before settings k) ≡ k
unfolding received_before
length-received_before settings k = length-map-range_with_len (received settings) 0 k

-- the slot that was sent, and that slot as it is received
pub received_is : (settings : Settings) (k : ℕ) (blocks : SlotBlocks) (sent soft : List ℤ) → blocks ≡ made settings k
    → sent ≡ slot_written settings (blocks_before settings k) blocks → soft ≡ damaged settings k sent → soft ≡ received settings k
unfolding received
received_is settings k blocks sent soft b s d =
    d ∙ ap (damaged settings k) (s ∙ ap (slot_written settings (blocks_before settings k)) b)

pub reading_is : (settings : Settings) (k : ℕ) (soft : List ℤ) (reading : SlotReading) → soft ≡ received settings k
    → reading ≡ slot_reading settings (received_before settings k) soft → reading ≡ reading_of settings k
unfolding reading_of
reading_is settings k soft reading s r = r ∙ ap (slot_reading settings (received_before settings k)) s

pub sender_on : (settings : Settings) (k : ℕ) (blocks : SlotBlocks) (sender : Sender) → blocks ≡ made settings k
    → SenderStands settings (blocks_before settings k ++ blocks ∷ []) sender → SenderStands settings (blocks_before settings (k + 1)) sender
sender_on settings k blocks sender b h =
    subst (λ history. SenderStands settings history sender) (ap (λ x. blocks_before settings k ++ x ∷ []) b ∙ sym (blocks_more settings k)) h

pub receiver_on : (settings : Settings) (k : ℕ) (soft : List ℤ) (receiver : Receiver) → soft ≡ received settings k
    → ReceiverStands settings (received_before settings k ++ soft ∷ []) receiver → ReceiverStands settings (received_before settings (k + 1)) receiver
receiver_on settings k soft receiver s h =
    subst (λ history. ReceiverStands settings history receiver) (ap (λ x. received_before settings k ++ x ∷ []) s ∙ sym (received_more settings k)) h

-- blocks that fit a slot fit the one whose turn it is
pub fits_turn : (settings : Settings) (k : ℕ) (blocks : SlotBlocks) (sender : Sender) → SenderStands settings (blocks_before settings k) sender
    → Fits settings k blocks → Fits sender.settings sender.turn blocks
fits_turn settings k blocks sender h f =
    rw (h.same, h.turn, length-blocks_before settings k) f

-- access fields that fit are below 2^14
pub access_small : (dir : Dir) (access : Option ℕ) → FitsAccess dir access → IfSome access (λ message. message < 16384)
access_small Dl (Some message) h = h
access_small Dl None h = tt
access_small Ul (Some message) h = absurd h
access_small Ul None h = tt
