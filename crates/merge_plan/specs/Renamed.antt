-- Types with their new names.
use Rattle.rules.specs.merge_rules.Names.{NewName}
use Rattle.merge_plan.specs.declared.new_names.Renamed.{Renamed}

abbrev pub new_name : Renamed → NewName
new_name r = record { typ = r.typ; name = r.name }
