use Rattle.std.proofs.Common.{◌≡◌, [], map, drop}
use Rattle.rules.specs.merge_rules.Refs.{same_id, all_once}
use Rattle.token_keys.specs.met_keys.Ids.{id_code}
use Rattle.token_keys.proofs.met_keys.types.MetTypes.of.Given as goal

abbrev pub invariant-loop-one : goal.invariant-loop-one
invariant-loop-one l = (all_once same_id l.firsts.items (drop l.one-index l.all) ≡ all_once same_id [] l.all) × (l.codes ≡ map id_code l.firsts.items)
