use Rattle.merge_laws.proofs.lemmas.merged_loads.ModuleType.{module_stays as stays}
use Rattle.merge_laws.proofs.merged_loads.laws.module_stays.Goals as goal

pub returns : goal.returns
returns c = stays
