-- The parts of what is left have a meaning, since nothing that is needed has a flaw, and its members go with their owners.
use Rattle.rules.specs.link_rules.Linked.{assemblies}
use Rattle.merge_laws.specs.merged_record.Laws.{InputsAreRecords}
use Rattle.merge_laws.specs.merged_loads.Laws.{FieldTypesAreKept}
use Rattle.merge_laws.specs.merged_loads.Marked.{AreRead}
use Rattle.merge_laws.proofs.lemmas.merged_loads.Whole.{records}
use Rattle.trim_laws.proofs.marked_loads.laws.trim_loads.Goals as goal

pub returns : goal.returns
returns c = λ internal inputs entry roots kept left t refs names.
    let recs = assemblies inputs in
    let inputs_are : InputsAreRecords (assemblies inputs) = records inputs t.files c.file_has_record.ensures in
    let read : AreRead left = c.parts_are_read.ensures internal recs entry roots kept left t.is inputs_are t.marked t.good in
    let types : FieldTypesAreKept (assemblies inputs) kept = c.field_types_kept.ensures recs entry roots kept inputs_are t.marked t.all t.good in
    let bytes = c.field_data_stays.ensures internal inputs kept left t.is t.files t.within types read.field_data in
    let owners = c.owners_stay.ensures recs entry roots kept inputs_are t.marked t.all in
    c.left_loads.ensures internal inputs kept left
    (record {
      is = t.is;
      some_input = t.some_input;
      files = t.files;
      some_type = t.some_type;
      parts = record { fields = read.fields; methods = read.methods; properties = read.properties; bodies = read.bodies; field_data = bytes };
      can = t.can;
      within = t.within;
    })
    owners refs names
