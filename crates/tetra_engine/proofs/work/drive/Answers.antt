use Rattle.std.proofs.Common.{rules, ap, inl, ◌≡◌, arith, [], ◌∷◌, ◌++◌, subst, refl, sym, ◌∙◌, OnOk, OnErr, Ok, Err}
use Rattle.std.specs.Io.KnownBytes.{Appends}
use Rattle.tetra_io.specs.Filling.{AddsFront}
use Rattle.tetra_engine.specs.Working.{ReadGives, ends_by_stop}
use Rattle.tetra_engine.specs.Outcomes.{EndsBy, TookBefore, EndsMet}
use Rattle.tetra_engine.proofs.Runs.{ran_on, stopped, passed, write_front, all_written, some_written}
use Rattle.tetra_engine.proofs.MeetsEnd.{met_by_stop}
use Rattle.tetra_engine.proofs.work.drive.Goals as goal

pub loop-slots-preserved : goal.loop-slots-preserved
loop-slots-preserved g c =
    let going = c.loop-slots.invariant in
    let shape = g.W.Work.shape (g.W.Work.settings c.args.work.now) in
    let (x, holds, fits, more) = subst (λ s. ReadGives (g.W.Work.shape s) going.xs (g.S.Source.rest c.loop-slots.src) (g.S.Source.rest c.read.new.src) (g.W.Work.holds c.read.new.self going.xs) (g.W.Work.stands c.read.new.self going.xs) (Ok tt)) going.settings (c.in_default.ensures.gives going.xs going.stands going.ran.slots_is) in
    let same = c.read.ensures.settings ∙ going.settings in
    let wrote = subst (λ s. OnOk c.write.result (Appends (g.K.Sink.taken c.loop-slots.sink) (g.K.Sink.taken c.write.new.sink) ((g.W.Work.shape s).out going.xs x))) same (c.write.ensures.ok going.xs x holds) in
    record {
      xs = going.xs ++ x ∷ [];
      stands = c.write.ensures.stands going.xs x holds;
      settings = c.write.ensures.settings ∙ same;
      ran = ran_on shape c.args.max c.loop-slots.slots going.xs x (g.S.Source.rest c.args.src.now) (g.S.Source.rest c.loop-slots.src) (g.S.Source.rest c.read.new.src) (g.K.Sink.taken c.args.sink.now) (g.K.Sink.taken c.loop-slots.sink) (g.K.Sink.taken c.write.new.sink)
          going.ran c.loop-slots-test.true fits more (all_written c.write.result _ _ _ _ wrote (search rules) refl);
      src_later = search rules;
      sink_later = search rules;
      not_ended = c.in_default.ensures.ended ∙ going.not_ended;
    }

pub returns-then-is_err-clause-ends : goal.returns-then-is_err-clause-ends
returns-then-is_err-clause-ends g c =
    let going = c.loop-slots.invariant in
    let shape = g.W.Work.shape (g.W.Work.settings c.args.work.now) in
    let (x, holds, fits, more) = subst (λ s. ReadGives (g.W.Work.shape s) going.xs (g.S.Source.rest c.loop-slots.src) (g.S.Source.rest c.read.new.src) (g.W.Work.holds c.read.new.self going.xs) (g.W.Work.stands c.read.new.self going.xs) (Ok tt)) going.settings (c.in_default.ensures.gives going.xs going.stands going.ran.slots_is) in
    let same = c.read.ensures.settings ∙ going.settings in
    let wrote = subst (λ s. OnErr c.write.result (AddsFront (g.K.Sink.taken c.loop-slots.sink) (g.K.Sink.taken c.write.new.sink) ((g.W.Work.shape s).out going.xs x))) same (c.write.ensures.err going.xs x holds) in
    write_front shape c.args.max c.loop-slots.slots going.xs x (g.S.Source.rest c.args.src.now) (g.S.Source.rest c.loop-slots.src) (g.S.Source.rest c.read.new.src) (g.K.Sink.taken c.args.sink.now) (g.K.Sink.taken c.loop-slots.sink) (g.K.Sink.taken c.write.new.sink)
    going.ran (omega (arith, going.ran.slots_is)) fits more (some_written c.write.result _ _ _ _ wrote (search rules) refl)

pub returns-in-Err-clause-ends : goal.returns-in-Err-clause-ends
returns-in-Err-clause-ends g c =
    let going = c.loop-slots.invariant in
    let settings = g.W.Work.settings c.args.work.now in
    let rest0 = g.S.Source.rest c.args.src.now in
    let taken0 = g.K.Sink.taken c.args.sink.now in
    let gives = subst (λ s. ReadGives (g.W.Work.shape s) going.xs (g.S.Source.rest c.loop-slots.src) (g.S.Source.rest c.read.new.src) (g.W.Work.holds c.read.new.self going.xs) (g.W.Work.stands c.read.new.self going.xs) (Err c.in-Err.stop)) going.settings (c.in-Err.ensures.gives going.xs going.stands going.ran.slots_is) in
    let same = c.read.ensures.settings ∙ going.settings in
    let is : g.W.Work.stands c.read.new.self going.xs → c.end.result ≡ (g.W.Work.shape settings).done going.xs =
    λ stands. subst (λ s. c.end.result ≡ (g.W.Work.shape s).done going.xs) same (c.end.ensures.status going.xs stands) in
    subst (λ e. EndsBy e.status (g.W.Work.shape settings) c.args.max rest0 (g.S.Source.rest c.read.new.src) (TookBefore e.status taken0 (g.K.Sink.taken c.loop-slots.sink)) e) (sym c.ended.ensures)
    (stopped (g.W.Work.shape settings) c.args.max c.loop-slots.slots going.xs c.in-Err.stop c.end.result _ _ _ _ _ _ (g.met.W.Work.some settings) going.ran c.loop-slots-test.true gives is c.end.ensures.quiet)

pub returns-clause-ends : goal.returns-clause-ends
returns-clause-ends g c =
    let going = c.loop-slots.invariant in
    let settings = g.W.Work.settings c.args.work.now in
    let rest0 = g.S.Source.rest c.args.src.now in
    let taken0 = g.K.Sink.taken c.args.sink.now in
    let is = subst (λ s. c.end-2.result ≡ (g.W.Work.shape s).done going.xs) going.settings (c.end-2.ensures.status going.xs going.stands) in
    subst (λ e. EndsBy e.status (g.W.Work.shape settings) c.args.max rest0 (g.S.Source.rest c.past_last.new.src) (TookBefore e.status taken0 (g.K.Sink.taken c.loop-slots.sink)) e) (sym c.ended-2.ensures)
    (passed (g.W.Work.shape settings) c.args.max c.loop-slots.slots going.xs c.past_last.result c.end-2.result _ _ _ _ _ (g.met.W.Work.some settings) going.ran c.loop-slots-test.false c.past_last.ensures.gives is c.end-2.ensures.quiet)

pub returns-then-is_err-clause-met : goal.returns-then-is_err-clause-met
returns-then-is_err-clause-met g c = inl (c.in_default.ensures.ended ∙ c.loop-slots.invariant.not_ended)

pub returns-in-Err-clause-met : goal.returns-in-Err-clause-met
returns-in-Err-clause-met g c =
    let now = c.in-Err.ensures.ended ∙ ap (ends_by_stop c.in-Err.stop) c.loop-slots.invariant.not_ended in
    subst (λ e. EndsMet e.status (g.S.Source.ends c.args.src.now) (g.S.Source.ends c.read.new.src)) (sym c.ended.ensures)
    (met_by_stop c.in-Err.stop c.end.result c.loop-slots.slots _ _ now c.end.ensures.quiet)

pub returns-clause-met : goal.returns-clause-met
returns-clause-met g c =
    let now = c.past_last.ensures.ended ∙ ap (ends_by_stop c.past_last.result) c.loop-slots.invariant.not_ended in
    subst (λ e. EndsMet e.status (g.S.Source.ends c.args.src.now) (g.S.Source.ends c.past_last.new.src)) (sym c.ended-2.ensures)
    (met_by_stop c.past_last.result c.end-2.result c.loop-slots.slots _ _ now c.end-2.ensures.quiet)
