use Rattle.std.proofs.Common.{◌≡◌, ◌++◌, drop}
use Rattle.reference_rows.specs.reference_scopes.Scopes.{recs_of}
use Rattle.restrict.specs.reference_types.Types.{all_referred}
use Rattle.restrict.proofs.reference_types.types.with_rows.Given as goal

abbrev pub invariant-loop-id : goal.invariant-loop-id
invariant-loop-id l = l.types.items ++ all_referred (recs_of l.scopes) (drop l.id-index l.met) ≡ all_referred (recs_of l.scopes) l.met
