use Prim.Native.Nat.{suc}
use Rattle.std.proofs.Common.{◌≡◌, ◌+◌, ◌<◌, ◌≤◌, ◌++◌, ◌∷◌, [], false, length, take, drop, arith, ap, sym, ◌∙◌}
use Rattle.std.proofs.Math.Seq.{take-suc}
use Rattle.std.proofs.lemmas.List.{get_or-drop, take_all, length-drop}
use Rattle.tetra_session.proofs.words.second_half.Goals as goal

pub loop-i-preserved : goal.loop-i-preserved
loop-i-preserved c =
    let back = drop 216 c.args.word.now in
    let i = c.loop-i.i in
    let room : i < length back = omega (arith, length-drop 216 c.args.word.now, c.requires, c.loop-i.auto, c.loop-i-test) in
    let next : suc i ≡ i + 1 = omega arith in
    c.push.ensures.list ∙ (ap (λ half. half ++ c.get.result ∷ []) c.loop-i.invariant
    ∙ (ap (λ bit. take i back ++ bit ∷ []) (c.get.ensures ∙ sym (get_or-drop 216 c.args.word.now i false))
    ∙ (sym (take-suc back i false room) ∙ ap (λ n. take n back) next)))

pub returns-clause-bits : goal.returns-clause-bits
returns-clause-bits c =
    let back = drop 216 c.args.word.now in
    let end : length back ≤ c.loop-i.i = omega (arith, length-drop 216 c.args.word.now, c.requires, c.loop-i.auto, c.loop-i-test) in
    c.loop-i.invariant ∙ take_all c.loop-i.i back end

pub returns-clause-size : goal.returns-clause-size
returns-clause-size c =
    let back = drop 216 c.args.word.now in
    let end : length back ≤ c.loop-i.i = omega (arith, length-drop 216 c.args.word.now, c.requires, c.loop-i.auto, c.loop-i-test) in
    ap length (c.loop-i.invariant ∙ take_all c.loop-i.i back end) ∙ omega (arith, length-drop 216 c.args.word.now, c.requires)
