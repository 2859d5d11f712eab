use Rattle.il_base.specs.blob_grammar.Signatures.{levels, IsType, type_bytes}
use Rattle.il_base.specs.blob_grammar.Reading.{type_at}
use Rattle.il_base.proofs.lemmas.blob_grammar.TypeLaw.{type_law, type_again}
use Rattle.il_base.proofs.lemmas.blob_grammar.Writing.{type_written}
use Rattle.il_base.proofs.lemmas.blob_grammar.Whole.{reads_law, writes_law}
use Rattle.il_base.proofs.blob_grammar.laws.types.Goals as goal

pub returns-clause-read : goal.returns-clause-read
returns-clause-read c = reads_law (type_at levels) (IsType levels) (type_law levels) (type_again levels)

pub returns-clause-written : goal.returns-clause-written
returns-clause-written c = writes_law (type_at levels) (IsType levels) (type_law levels) (type_again levels) type_bytes (type_written levels)
