use Rattle.std.proofs.Common.{◌≡◌, [], drop}
use Rattle.reference_rows.specs.reference_scopes.Scopes.{recs_of}
use Rattle.reference_rows.proofs.lemmas.reference_assemblies.Walking.{all_met}
use Rattle.reference_rows.proofs.reference_assemblies.assemblies.assembly_refs.Given as goal

abbrev pub invariant-loop-id : goal.invariant-loop-id
invariant-loop-id l = all_met (recs_of l.scopes) l.rows (drop l.id-index l.types) ≡ all_met (recs_of l.scopes) [] l.types
