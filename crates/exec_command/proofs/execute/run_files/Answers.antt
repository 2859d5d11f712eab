use Rattle.exec_command.proofs.Causes.{run_caused}
use Rattle.exec_command.proofs.execute.run_files.Goals as goal

pub returns : goal.returns
returns g c =
    run_caused _ c.args.files.now c.args.input.now c.args.steps (g.O.Sink.state c.args.out.now) (g.O.Sink.state c.exec_to-answer.new.out) (g.E.Sink.state c.args.err.now) (g.E.Sink.state c.report_run.new.err) c.exec_to-answer.result c.report_run.result c.exec_to-answer.ensures c.report_run.ensures
