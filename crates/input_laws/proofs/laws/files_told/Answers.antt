use Rattle.std.proofs.Common.{subst}
use Rattle.inputs.specs.Files.{records}
use Rattle.base_laws.specs.flaw_laws.There.{RowsThere}
use Rattle.input_laws.proofs.Taken.{are_records, linked, world_recs}
use Rattle.input_laws.proofs.laws.files_told.Goals as goal

pub returns-clause-records : goal.returns-clause-records
returns-clause-records c = are_records c.file_has_record.ensures

pub returns-clause-rows : goal.returns-clause-rows
returns-clause-rows c = λ files e. subst RowsThere (world_recs (records files)) (c.flaws_told.ensures.there (records files) (linked files e) (are_records c.file_has_record.ensures files e))
