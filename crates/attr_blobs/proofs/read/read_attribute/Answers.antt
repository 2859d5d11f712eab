use Rattle.std.proofs.Common.{sym, arith}
use Rattle.il_base.specs.blob_grammar.Laws.{AreBytes}
use Rattle.attr_blobs.proofs.Whole.{follows}
use Rattle.attr_blobs.proofs.read.read_attribute.Goals as goal

pub returns-clause-grammar : goal.returns-clause-grammar
returns-clause-grammar c =
    let fits : AreBytes c.args.bytes.now = λ i. let h = c.type_inv.bytes i in omega arith in
    follows c.args.enums.now c.args.params.now c.args.bytes.now c.answer_of.result fits (rw (sym c.as_slice.ensures, sym c.as_slice-2.ensures) c.answer_of.ensures)
