use Rattle.base_laws.proofs.lemmas.world_laws.Inputs.{nesting_kept}
use Rattle.run_laws.proofs.lemmas.closed_laws.Runs.{runs_end, methods_apart, fields_apart}
use Rattle.run_laws.proofs.closed_laws.laws.records_sound.Goals as goal

pub returns : goal.returns
returns c = λ inputs has are few reads follows. record { few = few; ends = runs_end inputs are; nests = nesting_kept inputs are; methods = methods_apart inputs are; fields = fields_apart inputs are; reads = reads; follows = follows }
