use Rattle.trim_command.proofs.Causes.{finished_refused, finished_left}
use Rattle.trim_command.proofs.trimming.finish.Goals as goal

pub returns-in-Err-clause-finished : goal.returns-in-Err-clause-finished
returns-in-Err-clause-finished g c =
    finished_refused c.args.trimmed c.in-Err.why _ _ c.args.files.now c.args.output.now _ (g.F.Folder.state c.args.folder.now) (g.E.Sink.state c.args.err.now) (g.E.Sink.state c.report_status.new.err) c.refused.result c.report_status.result c.in-Err.is c.refused.ensures c.report_status.ensures

pub returns-in-Ok-clause-finished : goal.returns-in-Ok-clause-finished
returns-in-Ok-clause-finished g c =
    finished_left c.args.trimmed c.in-Ok.left _ _ c.args.files.now c.args.output.now _ (g.F.Folder.state c.args.folder.now) (g.F.Folder.state c.write_left-written.new.folder) (g.E.Sink.state c.args.err.now) (g.E.Sink.state c.report.new.err) c.write_left-written.result c.write_status.result c.report.result c.in-Ok.is c.write_status.ensures c.write_left-written.ensures.written c.report.ensures
