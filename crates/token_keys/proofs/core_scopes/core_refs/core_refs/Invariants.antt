use Rattle.std.proofs.Common.{◌≡◌, ◌++◌, drop, map}
use Rattle.std.specs.List.{flat_map}
use Rattle.token_keys.specs.core_scopes.CoreRefs.{told, core_refs_in}
use Rattle.token_keys.proofs.core_scopes.core_refs.core_refs.Given as goal

abbrev pub invariant-loop-rec : goal.invariant-loop-rec
invariant-loop-rec l = map told l.refs.items ++ flat_map (core_refs_in l.recs) (drop l.rec-index l.rec-items) ≡ flat_map (core_refs_in l.recs) l.rec-items
