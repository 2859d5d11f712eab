use Rattle.il_base.specs.blob_grammar.Signatures.{IsMethod, method_bytes}
use Rattle.il_base.specs.blob_grammar.Reading.{method_at}
use Rattle.il_base.proofs.lemmas.blob_grammar.Methods.{method_law, method_again, method_written}
use Rattle.il_base.proofs.lemmas.blob_grammar.Whole.{reads_law, writes_law}
use Rattle.il_base.proofs.blob_grammar.laws.methods.Goals as goal

pub returns-clause-read : goal.returns-clause-read
returns-clause-read c = reads_law method_at IsMethod method_law method_again

pub returns-clause-written : goal.returns-clause-written
returns-clause-written c = writes_law method_at IsMethod method_law method_again (λ m. method_bytes m) method_written
