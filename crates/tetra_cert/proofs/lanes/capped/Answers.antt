use Rattle.std.proofs.Common.{ltb, length, get_or, replicate, ap, ◌∙◌, w32, min}
use Rattle.std.proofs.lemmas.List.{get_or-replicate}
use Rattle.std.proofs.lemmas.Simd.{tops_compared, length-replicate}
use lib.Lanes.{sel_l}
use Rattle.tetra_cert.proofs.SixteenLanes.{lesser_lane, lesser_long}
use Rattle.tetra_cert.proofs.lanes.capped.Goals as goal

pub returns-clause-long : goal.returns-clause-long
returns-clause-long c =
    let a = c.args.a in
    let b = replicate 16 c.args.limit in
    ap (λ ms. length (sel_l ms a b)) (tops_compared w32 ltb a b) ∙ lesser_long a b c.requires (length-replicate 16 c.args.limit)

pub returns-clause-value : goal.returns-clause-value
returns-clause-value c = λ s h.
    let a = c.args.a in
    let b = replicate 16 c.args.limit in
    ap (λ ms. get_or (sel_l ms a b) s 0) (tops_compared w32 ltb a b)
    ∙ (lesser_lane a b c.requires (length-replicate 16 c.args.limit) s h ∙ ap (min (get_or a s 0)) (get_or-replicate 16 s c.args.limit 0 h))
