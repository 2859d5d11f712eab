use Rattle.merged_tables.proofs.lemmas.merged_maps.Telling.{all_tell}
use Rattle.merged_tables.proofs.merged_maps.laws.maps_tell.Goals as goal

pub returns : goal.returns
returns c = λ o t are. all_tell o t are
