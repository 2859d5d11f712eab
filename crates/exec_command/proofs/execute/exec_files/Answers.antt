use Rattle.exec_command.proofs.Causes.{some_taken}
use Rattle.exec_command.proofs.Completing.{is_answered}
use Rattle.exec_command.proofs.execute.exec_files.Goals as goal

pub returns-clause-complete : goal.returns-clause-complete
returns-clause-complete g c = λ files known quiet.
    is_answered _ c.args.steps (g.F.Folder.state c.args.folder.now) (g.F.Folder.state c.answer.new.folder) files (g.I.Source.state c.args.input.now) (g.I.Source.state c.answer.new.input) (g.O.Sink.state c.args.out.now) (g.O.Sink.state c.answer.new.out) (g.E.Sink.state c.args.err.now) (g.E.Sink.state c.answer.new.err) c.answer.result c.answer.ensures.caused known quiet

pub returns-clause-input : goal.returns-clause-input
returns-clause-input g c =
    some_taken _ c.args.steps (g.F.Folder.state c.args.folder.now) (g.F.Folder.state c.answer.new.folder) (g.I.Source.state c.args.input.now) (g.I.Source.state c.answer.new.input) (g.O.Sink.state c.args.out.now) (g.O.Sink.state c.answer.new.out) (g.E.Sink.state c.args.err.now) (g.E.Sink.state c.answer.new.err) c.answer.result c.answer.ensures.caused
