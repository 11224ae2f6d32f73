use Rattle.std.proofs.Common.{rules, ◌≡◌, sym, subst, Ok}
use Rattle.tetra_settings.specs.Words.{texts, meaning}
use Rattle.tetra_engine.specs.Running.{Says}
use Rattle.tetra_engine.proofs.Said.{command_says}
use Rattle.tetra_engine.proofs.engine.run.Goals as goal

pub returns-clause-says : goal.returns-clause-says
returns-clause-says g c =
    let pass : meaning (texts c.args.words.now) ≡ Ok c.in-Ok.found = search rules in
    subst (λ m. Says m c.run_command.result) (sym pass)
    (command_says c.in-Ok.found.0 c.in-Ok.found.1 (g.S.Source.rest c.args.src.now) (g.S.Source.rest c.run_command.new.src) (g.K.Sink.taken c.args.sink.now) (g.K.Sink.taken c.run_command.new.sink) c.run_command.result c.run_command.ensures.ends)
