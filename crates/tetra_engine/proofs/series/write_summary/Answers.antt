use Rattle.std.proofs.Common.{rules, ◌≡◌, ◌*◌, subst, arith}
use Rattle.std.proofs.KnownBytes.{Appends-nil}
use Rattle.tetra_engine.specs.declared.status.Status.TheVariants.{Write}
use Rattle.tetra_engine.specs.Outcomes.{Grows}
use Rattle.tetra_engine.specs.Series.{SeriesFront}
use Rattle.tetra_engine.specs.Trying.{trying}
use Rattle.tetra_engine.proofs.Serial.{write_front}
use Rattle.tetra_engine.proofs.series.write_summary.Goals as goal

pub returns-in-Err-clause-ends : goal.returns-in-Err-clause-ends
returns-in-Err-clause-ends g c =
    let series = trying c.args.settings.now in
    let t0 = g.K.Sink.taken c.args.sink.now in
    let t2 = g.K.Sink.taken c.put_all.new.sink in
    let none : 0 * c.args.settings.now.slots ≡ 0 = omega arith in
    subst (λ slots. SeriesFront series (Grows t0 t2) (record { status = Write; slots = slots })) none
    (write_front series 0 t0 t0 t2 (omega arith) (Appends-nil t0) (search rules))
