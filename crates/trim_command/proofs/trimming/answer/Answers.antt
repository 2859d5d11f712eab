use Rattle.trim_command.proofs.Causes.{trimmed_names}
use Rattle.trim_command.proofs.trimming.answer.Goals as goal

pub returns-in-Ok-clause-caused : goal.returns-in-Ok-clause-caused
returns-in-Ok-clause-caused g c =
    trimmed_names _ _ c.args.output.now _ c.args.internalize c.in-Ok.given (g.F.Folder.state c.args.folder.now) (g.F.Folder.state c.read_given.new.folder) (g.F.Folder.state c.trim_given.new.folder) (g.O.Sink.state c.args.out.now) (g.E.Sink.state c.args.err.now) (g.E.Sink.state c.trim_given.new.err) c.trim_given.result c.in-Ok.ensures.read c.read_given.ensures.kept c.trim_given.ensures.caused
