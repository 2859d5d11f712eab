use Rattle.std.proofs.Common.{subst}
use Rattle.run_rules.specs.Answers.{RunsTo}
use Rattle.run_rules.specs.Runs.{FileRun}
use Rattle.file_runs.proofs.Taken.{runs}
use Rattle.file_runs.proofs.execute.run_taken.Goals as goal

pub returns : goal.returns
returns g c =
    subst (λ (r : FileRun). RunsTo r (g.O.Sink.state c.args.out.now) (g.O.Sink.state c.run_world.new.out) c.run_world.result) (runs c.args.files.now c.args.world.now c.args.input.now c.args.n c.requires) c.run_world.ensures
