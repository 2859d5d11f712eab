use Rattle.trim_laws.proofs.lemmas.kept_parts.Core.{core_is_plain as plain}
use Rattle.trim_laws.proofs.kept_parts.laws.core_is_plain.Goals as goal

pub returns : goal.returns
returns c = plain
