use Rattle.trim_laws.proofs.lemmas.merged_scopes.Whole.{marked_references_stand}
use Rattle.trim_laws.proofs.merged_scopes.laws.references_stand.Goals as goal

pub returns : goal.returns
returns c = marked_references_stand c.types_stand.ensures c.members_stand.ensures
