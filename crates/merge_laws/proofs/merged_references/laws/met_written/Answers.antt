use Rattle.merge_laws.proofs.lemmas.merged_references.Merges.{met_written}
use Rattle.merge_laws.proofs.merged_references.laws.met_written.Goals as goal

pub returns : goal.returns
returns c m is rows x t at h g e keeps = met_written m is rows x t at h g e keeps
