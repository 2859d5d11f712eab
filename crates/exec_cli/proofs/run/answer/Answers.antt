use Rattle.std.proofs.Common.{map}
use Rattle.std.specs.String.{string_bytes}
use Rattle.exec_cli.specs.Words.{read_words}
use Rattle.exec_cli.proofs.AnswerLemmas.{starved_words, takes_none}
use Rattle.exec_cli.proofs.run.answer.Goals as goal

pub returns-in-Err-clause-answered : goal.returns-in-Err-clause-answered
returns-in-Err-clause-answered g c =
    let words = map string_bytes c.args.words.now in
    starved_words (read_words words) words (g.F.Folder.state c.args.folder.now) (g.I.Source.state c.args.input.now) (g.O.Sink.state c.args.out.now) (g.E.Sink.state c.args.err.now) (g.E.Sink.state c.report.new.err) c.report.result c.report.ensures

pub returns-in-Err-clause-input : goal.returns-in-Err-clause-input
returns-in-Err-clause-input g c = takes_none (read_words (map string_bytes c.args.words.now)) (g.I.Source.state c.args.input.now)
