use Rattle.il_base.specs.blob_grammar.Signatures.{IsProperty, property_bytes}
use Rattle.il_base.specs.blob_grammar.Reading.{property_at}
use Rattle.il_base.proofs.lemmas.blob_grammar.Methods.{property_law, property_again, property_written}
use Rattle.il_base.proofs.lemmas.blob_grammar.Whole.{reads_law, writes_law}
use Rattle.il_base.proofs.blob_grammar.laws.properties.Goals as goal

pub returns-clause-read : goal.returns-clause-read
returns-clause-read c = reads_law property_at IsProperty property_law property_again

pub returns-clause-written : goal.returns-clause-written
returns-clause-written c = writes_law property_at IsProperty property_law property_again (λ m. property_bytes m) property_written
