use Rattle.std.proofs.Common.{map}
use Rattle.std.specs.String.{string_bytes}
use Rattle.trim_cli.specs.Words.{read_words}
use Rattle.trim_cli.proofs.AnswerLemmas.{starved_words, keeps_all, takes_none}
use Rattle.trim_cli.proofs.run.answer.Goals as goal

pub returns-in-Err-clause-answered : goal.returns-in-Err-clause-answered
returns-in-Err-clause-answered g c =
    let words = map string_bytes c.args.words.now in
    starved_words (read_words words) words (g.F.Folder.state c.args.folder.now) (g.I.Source.state c.args.input.now) (g.O.Sink.state c.args.out.now) (g.E.Sink.state c.args.err.now) (g.E.Sink.state c.report.new.err) c.report.result c.report.ensures

pub returns-in-Err-clause-folder : goal.returns-in-Err-clause-folder
returns-in-Err-clause-folder g c =
    let words = map string_bytes c.args.words.now in
    keeps_all (read_words words) words (g.F.Folder.state c.args.folder.now).files

pub returns-in-Err-clause-input : goal.returns-in-Err-clause-input
returns-in-Err-clause-input g c = takes_none (read_words (map string_bytes c.args.words.now)) (g.I.Source.state c.args.input.now)
