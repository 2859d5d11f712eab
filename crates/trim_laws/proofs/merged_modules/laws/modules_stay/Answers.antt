use Rattle.trim_laws.proofs.lemmas.merged_modules.Modules.{stay}
use Rattle.trim_laws.proofs.merged_modules.laws.modules_stay.Goals as goal

pub returns : goal.returns
returns c = stay
