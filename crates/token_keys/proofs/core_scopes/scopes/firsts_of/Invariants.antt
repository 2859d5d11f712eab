use Rattle.std.proofs.Common.{◌≡◌, drop, map}
use Rattle.std.specs.HashMap.{get}
use Rattle.std.specs.Option.{option_or}
use Rattle.rules.specs.declared.link_rules.row_at.RowAt.{RowAt}
use Rattle.token_keys.specs.core_scopes.CoreRefs.{told}
use Rattle.token_keys.specs.core_scopes.Firsts.{same_spot, spot_of, scope_at}
use Rattle.token_keys.proofs.core_scopes.scopes.firsts_of.Given as goal

abbrev pub invariant-loop-one : goal.invariant-loop-one
invariant-loop-one l = (q : RowAt) → option_or (get same_spot l.firsts (spot_of q)) (scope_at (map told (drop l.one-index l.refs)) q) ≡ scope_at (map told l.refs) q
