use Rattle.trim_laws.proofs.lemmas.merged_uses.Tokens.{callee_reads}
use Rattle.trim_laws.proofs.merged_uses.laws.callees_read.Goals as goal

pub returns : goal.returns
returns c m k kept r a rec token u there input met h = callee_reads m k kept r a rec there input token u met h
