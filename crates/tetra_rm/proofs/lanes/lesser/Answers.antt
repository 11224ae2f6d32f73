use Rattle.std.proofs.Common.{ltb, length, get_or, ap, ◌∙◌, w32}
use Rattle.std.proofs.lemmas.Simd.{tops_compared}
use lib.Lanes.{sel_l}
use Rattle.tetra_rm.proofs.EightLanes.{lesser_lane, lesser_long}
use Rattle.tetra_rm.proofs.lanes.lesser.Goals as goal

pub returns-clause-long : goal.returns-clause-long
returns-clause-long c =
    ap (λ ms. length (sel_l ms c.args.a c.args.b)) (tops_compared w32 ltb c.args.a c.args.b) ∙ lesser_long c.args.a c.args.b c.requires.long.0 c.requires.long.1

pub returns-clause-value : goal.returns-clause-value
returns-clause-value c = λ j h.
    ap (λ ms. get_or (sel_l ms c.args.a c.args.b) j 0) (tops_compared w32 ltb c.args.a c.args.b)
    ∙ lesser_lane c.args.a c.args.b c.requires.long.0 c.requires.long.1 j h
