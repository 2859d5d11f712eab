-- What is left is a record, so it can be laid out and is read again.
use Rattle.rules.specs.link_rules.Linked.{assemblies}
use Rattle.il_base.specs.world_model.Records.{IsRecord}
use Rattle.merge_laws.proofs.lemmas.merged_loads.Whole.{numbers_fit, records, rows_fit}
use Rattle.merge_laws.proofs.merged_loads.laws.left_loads.Goals as goal

pub returns : goal.returns
returns c = λ internal inputs kept left l owners refs all.
    let is : IsRecord left =
    c.restricted_is_record.ensures internal (assemblies inputs) kept left l.is (records inputs l.files c.file_has_record.ensures) (numbers_fit inputs l.files) owners refs all (rows_fit left l.within) in
    c.reads_back.ensures left (c.left_can_be_laid.ensures internal inputs kept left l is) l.within
