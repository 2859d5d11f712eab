use Rattle.merge_laws.proofs.lemmas.merged_loads.Limits.{rows_few}
use Rattle.trim_laws.proofs.lemmas.trim_behaves.Few.{few_rows}
use Rattle.trim_laws.proofs.trim_behaves.laws.files_merge.Goals as goal

pub returns : goal.returns
returns c = λ internal inputs kept left some files links is within. record {
  some = some;
  restricts = is;
  records = λ a rec there. let f = files a rec there in c.file_has_record.ensures f.file rec f.has;
  links = links;
  few_inputs = λ a rec there. let f = files a rec there in few_rows f.file rec f.has;
  few = rows_few left within;
}
