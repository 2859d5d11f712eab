use Rattle.restrict.proofs.lemmas.merged_attributes.Telling.{all_tell, rows_are}
use Rattle.restrict.proofs.merged_attributes.laws.attributes_tell.Goals as goal

pub returns-clause-attributes : goal.returns-clause-attributes
returns-clause-attributes c = λ recs kept k are. all_tell recs kept k are

pub returns-clause-rows : goal.returns-clause-rows
returns-clause-rows c = λ o k are xs. rows_are o k (c.keys_tell.ensures o k are) xs
