use Rattle.std.proofs.Common.{◌≡◌, ◌++◌, drop, map}
use Rattle.std.specs.List.{flat_map}
use Rattle.token_keys.specs.core_scopes.CoreRefs.{told, core_refs_of}
use Rattle.token_keys.proofs.core_scopes.core_refs.push_refs.Given as goal

abbrev pub invariant-loop-row : goal.invariant-loop-row
invariant-loop-row l = map told l.refs.items ++ flat_map (core_refs_of l.index.all.now l.rec) (drop l.row-index l.row-items) ≡ map told l.initial.refs.items ++ flat_map (core_refs_of l.index.all.now l.rec) l.row-items
