use Rattle.std.proofs.Common.{◌<◌, ◌+◌, ◌^◌, rules, sym, subst}
use Rattle.std.specs.Option.{option_map}
use Rattle.tetra_trial.proofs.Adding.{most_mark, most_field}
use Rattle.tetra_trial.specs.Tallies.{with_field, AtMost}
use Rattle.tetra_trial.proofs.tally.Tally.add_field.Goals as goal

pub add_comparison-requires : goal.add_comparison-requires
add_comparison-requires c = rw c.add_mark.ensures (most_mark c.args.field.now.reading.mark (2 ^ 63) c.args.self.now c.requires)

pub returns-clause-field : goal.returns-clause-field
unfolding with_field
returns-clause-field c = search rules

pub returns-clause-most : goal.returns-clause-most
returns-clause-most c = λ top h.
    let small : c.args.field.now.reading.metric < 2 ^ 32 = search rules in
    subst (λ t. AtMost (top + 2 ^ 33) t) (sym (returns-clause-field c))
    (most_field c.args.field.now (option_map (λ s. s.now) c.args.sent) top c.args.self.now small h)
