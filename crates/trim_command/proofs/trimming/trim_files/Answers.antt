use Rattle.trim_command.proofs.Completing.{is_answered}
use Rattle.trim_command.proofs.trimming.trim_files.Goals as goal

pub returns-clause-complete : goal.returns-clause-complete
returns-clause-complete g c = λ files known quiet.
    is_answered _ _ c.args.output.now _ c.args.internalize (g.F.Folder.state c.args.folder.now) (g.F.Folder.state c.answer.new.folder) files (g.O.Sink.state c.args.out.now) (g.O.Sink.state c.answer.new.out) (g.E.Sink.state c.args.err.now) (g.E.Sink.state c.answer.new.err) c.answer.result c.answer.ensures.caused known quiet
