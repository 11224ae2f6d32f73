use Rattle.std.proofs.Common.{◌<◌, get_or, pos, replicate, length, arith, ap, ◌∙◌, FitsSigned, w16, rules}
use Rattle.std.proofs.lemmas.Int.{to_z-of_z}
use Rattle.tetra_bursts.specs.Fields.{second_half}
use Rattle.tetra_session.proofs.WrittenOver.{pushed}
use Rattle.tetra_session.proofs.spots.rest_into.Goals as goal

pub loop-i-preserved : goal.loop-i-preserved
loop-i-preserved c =
    let second = second_half c.args.dl c.args.soft.now in
    let i = c.loop-i.i in
    let fits : FitsSigned w16 c.get.result = search rules in
    let list = simp to_z-of_z at c.push.ensures.list in
    let room : i < length second = omega (arith, ap length c.second_half-second.ensures.value) in
    record {
      size = omega arith;
      so_far = pushed (replicate 216 (pos 0)) second c.loop-i.values c.push.new.self i c.get.result (pos 0) room c.loop-i.invariant.so_far list
          (c.get.ensures.value ∙ ap (λ values. get_or values i (pos 0)) c.second_half-second.ensures.value);
    }
