use Rattle.il_base.specs.blob_grammar.Signatures.{AreCounted, locals_bytes}
use Rattle.il_base.specs.blob_grammar.Reading.{counted_at}
use Rattle.il_base.proofs.lemmas.blob_grammar.Methods.{counted_law, counted_again, counted_written}
use Rattle.il_base.proofs.lemmas.blob_grammar.Whole.{reads_law, writes_law}
use Rattle.il_base.proofs.blob_grammar.laws.locals.Goals as goal

pub returns-clause-read : goal.returns-clause-read
returns-clause-read c = reads_law (counted_at 7) (AreCounted 7) (counted_law 7) (counted_again 7)

pub returns-clause-written : goal.returns-clause-written
returns-clause-written c = writes_law (counted_at 7) (AreCounted 7) (counted_law 7) (counted_again 7) (λ ss. locals_bytes ss) (counted_written 7)
