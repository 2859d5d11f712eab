use Rattle.std.proofs.Common.{ℕ, List, map, ap, subst}
use Rattle.std.specs.String.{string_bytes}
use Rattle.exec_cli.specs.Words.{read_words}
use Rattle.exec_cli.specs.Answer.{Caused}
use Rattle.exec_cli.proofs.CompleteLemmas.{is_answered}
use Rattle.exec_cli.proofs.run.run.Goals as goal

pub returns-clause-complete : goal.returns-clause-complete
returns-clause-complete g c = λ files known quiet.
    let was = g.F.Folder.state c.args.folder.now in
    let now = g.F.Folder.state c.answer.new.folder in
    let in0 = g.I.Source.state c.args.input.now in
    let in1 = g.I.Source.state c.answer.new.input in
    let out0 = g.O.Sink.state c.args.out.now in
    let out1 = g.O.Sink.state c.answer.new.out in
    let err0 = g.E.Sink.state c.args.err.now in
    let err1 = g.E.Sink.state c.answer.new.err in
    let words = map string_bytes c.args.words.now.items in
    let caused = subst (λ (ws : List (List ℕ)). Caused ws was now in0 in1 out0 out1 err0 err1 c.answer.result) (ap (map string_bytes) c.as_slice.ensures.value) c.answer.ensures.answered in
    is_answered (read_words words) words was now files in0 in1 out0 out1 err0 err1 c.answer.result caused known quiet
