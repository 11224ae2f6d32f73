-- What the loads that are kept stand for.
use Rattle.std.specs.Prelude.{ℕ, ◌≡◌, ◌⊎◌, List, Bool, length}
use Rattle.tetra_settings.specs.declared.types.Settings.{Settings}
use Rattle.tetra_settings.specs.declared.blocks.SlotBlocks.{SlotBlocks}
use Rattle.tetra_session.specs.Four.{FourStand}
use Rattle.tetra_trial.specs.Sent.{load_brought}
use Rattle.tetra_trial.specs.Loads.{LoadsStand}
use Rattle.tetra_trial.specs.declared.loads.Loads.{Loads}
use Rattle.tetra_trial.specs.declared.kept.Kept.{Kept}

-- a timeslot whose blocks are spread over n slots keeps its loads; any will do where they are not spread
abbrev pub LaneStands : ℕ → List (List Bool) → Loads → Type 0
LaneStands n loads kept = (n ≡ 0) ⊎ LoadsStand loads kept

pub record KeptStands (settings : Settings) (history : List SlotBlocks) (kept : Kept) : Type 0 where
  pub same : kept.settings ≡ settings
  pub turn : kept.turn ≡ length history
  pub timeslots : (none : Loads) → FourStand LaneStands load_brought none settings history kept.timeslots
