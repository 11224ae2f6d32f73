use Rattle.std.proofs.Common.{◌≡◌, ◌∙◌, arith}
use Rattle.std.proofs.Math.ListN.{length-set}
use Rattle.tetra_puncture.specs.Labels.{AreLabels, branch_label}
use Rattle.tetra_puncture.specs.lemmas.Outputs.{outputs_are, label_is, one_more}
use Rattle.tetra_puncture.proofs.branches.labels_of.Goals as goal

pub loop-state-preserved : goal.loop-state-preserved
loop-state-preserved g c =
    let taps = g.M.Mother.taps in
    let outs = g.M.Mother.OUTS in
    let is : c.label.result ≡ branch_label taps outs c.loop-state.state c.args.bit =
    c.label.ensures ∙ label_is taps outs c.loop-state.state c.args.bit c.outs.result (outputs_are taps outs c.loop-state.state c.args.bit c.outs.result c.outs.ensures.outputs c.outs.ensures.rest) in
    record {
      long = length-set c.loop-state.labels c.from.result c.label.result ∙ c.loop-state.invariant.long;
      made = one_more (λ s. branch_label taps outs s c.args.bit) c.loop-state.labels c.loop-state.state c.from.result c.label.result c.from.ensures (omega (arith, c.loop-state.invariant.long)) c.loop-state.invariant.made is;
    }

pub returns : goal.returns
unfolding AreLabels
returns g c = λ s h. c.loop-state.invariant.made s (omega arith)
