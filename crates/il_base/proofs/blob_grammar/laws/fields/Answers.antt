use Rattle.il_base.specs.blob_grammar.Signatures.{IsField, field_bytes}
use Rattle.il_base.specs.blob_grammar.Reading.{field_at}
use Rattle.il_base.proofs.lemmas.blob_grammar.Methods.{field_law, field_again, field_written}
use Rattle.il_base.proofs.lemmas.blob_grammar.Whole.{reads_law, writes_law}
use Rattle.il_base.proofs.blob_grammar.laws.fields.Goals as goal

pub returns-clause-read : goal.returns-clause-read
returns-clause-read c = reads_law field_at IsField field_law field_again

pub returns-clause-written : goal.returns-clause-written
returns-clause-written c = writes_law field_at IsField field_law field_again (λ s. field_bytes s) field_written
