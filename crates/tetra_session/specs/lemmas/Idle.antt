-- Lanes at which nothing is spread stand for anything.
use Rattle.std.proofs.Common.{Bool, List, ℤ, arith}
use Rattle.tetra_session.specs.Heard.{GatherLaneStands}
use Rattle.tetra_session.specs.Sent.{SpreadLaneStands}
use Rattle.tetra_session.specs.declared.gathering.GatherLane.{GatherLane}
use Rattle.tetra_session.specs.declared.gathering.GatherLane.TheVariants.{Still as GatherStill, One as GatherOne, Four as GatherFour, Eight as GatherEight}
use Rattle.tetra_session.specs.declared.spreading.SpreadLane.{SpreadLane}
use Rattle.tetra_session.specs.declared.spreading.SpreadLane.TheVariants.{Still, One, Four, Eight}

pub gather_idle : (words more : List (List ℤ)) (lane : GatherLane) → GatherLaneStands 0 words lane → GatherLaneStands 0 more lane
gather_idle words more GatherStill h = h
gather_idle words more (GatherOne gather) h = absurd (omega (arith, h.0))
gather_idle words more (GatherFour gather) h = absurd (omega (arith, h.0))
gather_idle words more (GatherEight gather) h = absurd (omega (arith, h.0))

pub spread_idle : (blocks more : List (List Bool)) (lane : SpreadLane) → SpreadLaneStands 0 blocks lane → SpreadLaneStands 0 more lane
spread_idle blocks more Still h = h
spread_idle blocks more (One spread) h = absurd (omega (arith, h.0))
spread_idle blocks more (Four spread) h = absurd (omega (arith, h.0))
spread_idle blocks more (Eight spread) h = absurd (omega (arith, h.0))
