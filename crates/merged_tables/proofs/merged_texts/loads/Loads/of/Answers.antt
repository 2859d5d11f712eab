use Rattle.std.proofs.Common.{arith}
use Rattle.merged_tables.proofs.lemmas.merged_texts.TextLemmas.{texts_all}
use Rattle.merged_tables.proofs.merged_texts.loads.Loads.of.Goals as goal

pub returns : goal.returns
returns c = λ token.
    texts_all c.args.rec.now token _ c.loop-text.text-index c.as_slice-text-items.result.now (omega arith) c.as_slice-text-items.ensures (c.loop-text.invariant token)
