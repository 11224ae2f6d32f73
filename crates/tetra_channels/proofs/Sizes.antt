-- The sizes of the lists on the way of a block.
use Rattle.std.proofs.Common.{◌≡◌, ℕ, ◌+◌, ◌⊎◌, inl, inr, Bool, List, length, refl}
use Rattle.tetra_parity.specs.Parity.{width}
use Rattle.tetra_parity.specs.lemmas.Messages.{length-with_parity}
use Rattle.tetra_channels.specs.Channels.{Channel, message_of, parity_of}

pub width-parity_of : (par : ℕ) → (par ≡ 0) ⊎ (par ≡ 16) → width (parity_of par) ≡ par
width-parity_of par (inl none) = rw none refl
width-parity_of par (inr some) = rw some refl

pub length-message_of : (channel : Channel) (block : List Bool)
    → length (message_of channel block) ≡ length block + width channel.parity
unfolding message_of
length-message_of channel block = length-with_parity channel.parity block
