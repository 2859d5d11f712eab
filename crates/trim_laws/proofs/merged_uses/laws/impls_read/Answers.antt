use Rattle.trim_laws.proofs.lemmas.merged_uses.Impls.{impl_reads}
use Rattle.trim_laws.proofs.merged_uses.laws.impls_read.Goals as goal

pub returns : goal.returns
returns c m k kept r a i j rec row there at input class stays = impl_reads m k kept r a rec there input i j row at class stays
