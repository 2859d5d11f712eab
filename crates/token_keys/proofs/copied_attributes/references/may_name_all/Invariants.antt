use Rattle.std.proofs.Common.{◌≡◌, drop}
use Rattle.std.specs.List.{list_all}
use Rattle.rules.specs.merge_rules.Attributes.{may_name}
use Rattle.token_keys.proofs.copied_attributes.references.may_name_all.Given as goal

abbrev pub invariant-loop-token : goal.invariant-loop-token
invariant-loop-token l = list_all (may_name l.index.all.now l.a l.rec) (drop l.token-index l.tokens) ≡ list_all (may_name l.index.all.now l.a l.rec) l.tokens
