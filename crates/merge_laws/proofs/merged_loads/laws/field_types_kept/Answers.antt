use Rattle.merge_laws.proofs.lemmas.merged_loads.FieldTypes.{field_types}
use Rattle.merge_laws.proofs.merged_loads.laws.field_types_kept.Goals as goal

pub returns : goal.returns
returns c = field_types
