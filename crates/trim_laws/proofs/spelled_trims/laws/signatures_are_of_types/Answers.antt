use Rattle.trim_laws.proofs.lemmas.spelled_trims.Whole.{signatures_named}
use Rattle.trim_laws.proofs.spelled_trims.laws.signatures_are_of_types.Goals as goal

pub returns : goal.returns
returns c = signatures_named (record {
  records = c.file_has_record.ensures;
  owners = c.owners_stay.ensures;
  types = c.types_stand.ensures;
  numbers = c.met_numbers_there.ensures;
})
