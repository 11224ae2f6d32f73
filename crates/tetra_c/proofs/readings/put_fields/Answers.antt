use Rattle.std.proofs.Common.{rules, ◌≡◌, ◌<◌, ◌+◌, ◌-◌, length, map, get_or, length-set, refl, arith, subst, ap, ◌∙◌}
use Rattle.std.proofs.lemmas.List.{get_or_default}
use Rattle.tetra_session.specs.Heard.{is_good}
use Rattle.tetra_session.specs.Readers.{read_field}
use Rattle.tetra_session.specs.declared.front.FrontField.{FrontField}
use Rattle.tetra_c.specs.Readings.{IsPut}
use Rattle.tetra_c.proofs.Fronts.{read_at}
use Rattle.tetra_c.proofs.Putting.{put_more}
use Rattle.tetra_c.proofs.readings.put_fields.Goals as goal

pub loop-i-preserved : goal.loop-i-preserved
loop-i-preserved c =
    let rows = c.args.code.now.0 in
    let items = c.args.fields.now in
    let i = c.loop-i.i in
    let heard = c.index-fields-i.result in
    let is : heard ≡ get_or items i heard = c.index-fields-i.is in
    let read : i < length items = search rules in
    let within : i < length c.loop-i.out = search rules in
    let back : i ≡ i + 1 - 1 = omega arith in
    record {
      size = search (rules, length-set);
      put = λ before. put_more (map (read_field rows) items) c.loop-i.out i c.put_field-good.new.out within
          (λ field. subst (λ f. IsPut f c.put_field-good.new.out)
          (read_at rows items i heard (read_field rows heard) field is read refl) c.put_field-good.ensures.put)
          (c.loop-i.invariant.put before);
      last = λ some other. c.put_field-good.ensures.good
          ∙ ap (λ (f : FrontField). is_good (read_field rows f).reading.mark)
          (is ∙ get_or_default items i heard other read ∙ ap (λ n. get_or items n other) back);
    }

pub returns-clause-put : goal.returns-clause-put
returns-clause-put c = λ before k below field place.
    let past = c.loop-i-test.false in
    c.loop-i.invariant.put before k (omega (arith, below, past)) field place
