use Rattle.trim_laws.proofs.lemmas.merged_uses.FieldNamed.{field_token_reads}
use Rattle.trim_laws.proofs.merged_uses.laws.field_tokens_read.Goals as goal

pub returns : goal.returns
returns c m k kept r a rec token u there input met h = field_token_reads m k kept r a rec there input token u met h
