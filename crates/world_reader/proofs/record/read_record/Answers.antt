use Rattle.std.proofs.Common.{◌≡◌, ◌∙◌, ap}
use Rattle.std.proofs.lemmas.Result.{err_from_is_err_and}
use Rattle.rules.specs.record_format.Record.{record_at}
use Rattle.world_reader.proofs.Demands.{refused_record, read_record_of}
use Rattle.world_reader.proofs.record.read_record.Goals as goal

pub returns-in_err-file-clause-only : goal.returns-in_err-file-clause-only
returns-in_err-file-clause-only c = λ r h.
    let p = err_from_is_err_and c.from_residual.result c.from_residual.ensures.1 in
    rw (p.1, p.2) (refused_record c.in_err-file.field-0.0 c.args.bytes.now r h c.in_err-file.ensures)

pub returns-clause-only : goal.returns-clause-only
returns-clause-only c = λ r h.
    let is : c.assembled.result ≡ record_at c.args.bytes.now = c.assembled.ensures ∙ ap record_at c.in_ok-file.ensures.1 in
    read_record_of c.args.bytes.now c.assembled.result r h is
