use Rattle.merge_laws.proofs.lemmas.merged_references.Merges.{types_named}
use Rattle.merge_laws.proofs.merged_references.laws.types_named.Goals as goal

pub returns : goal.returns
returns c m is rows t at w e listed = types_named m is rows t at w e listed
