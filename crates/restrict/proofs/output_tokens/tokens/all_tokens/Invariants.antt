use Rattle.merged_tables.specs.merged_texts.Texts.{texts_in}
use Rattle.restrict.specs.output_tokens.Tokens.{AreFirstTokens}
use Rattle.restrict.proofs.output_tokens.tokens.all_tokens.Given as goal

abbrev pub invariant-loop-k : goal.invariant-loop-k
invariant-loop-k l = AreFirstTokens l.parts (texts_in l.texts) l.k l.all.items
