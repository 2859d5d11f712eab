use Rattle.std.proofs.Common.{arith}
use Rattle.reference_rows.specs.reference_scopes.Scopes.{recs_of}
use Rattle.reference_rows.proofs.lemmas.reference_assemblies.Walking.{all_done}
use Rattle.reference_rows.proofs.reference_assemblies.assemblies.assembly_refs.Goals as goal

pub returns : goal.returns
returns c = all_done (recs_of c.args.scopes.now) c.loop-id.rows c.args.types.now c.loop-id.id-index (omega arith) c.loop-id.invariant
