-- What the makers and takers of a trial's slots stand for.
use Rattle.std.specs.Prelude.{ℕ}
use Rattle.tetra_settings.specs.declared.types.Settings.{Settings}
use Rattle.tetra_session.specs.Sent.{SenderStands}
use Rattle.tetra_session.specs.Heard.{ReceiverStands}
use Rattle.tetra_gen.specs.Made.{MakerStands}
use Rattle.tetra_gen.specs.Damaged.{DamageStands}
use Rattle.tetra_trial.specs.Trials.{blocks_before, received_before}
use Rattle.tetra_trial.specs.declared.passage.Passage.{Passage}

-- k slots have passed
pub record PassageStands (settings : Settings) (k : ℕ) (passage : Passage) : Type 0 where
  pub maker : MakerStands settings k passage.maker
  pub sender : SenderStands settings (blocks_before settings k) passage.sender
  pub damage : DamageStands settings k passage.damage
  pub receiver : ReceiverStands settings (received_before settings k) passage.receiver
