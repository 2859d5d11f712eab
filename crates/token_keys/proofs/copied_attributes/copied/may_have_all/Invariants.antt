use Rattle.std.proofs.Common.{◌≡◌, drop}
use Rattle.std.specs.List.{list_all}
use Rattle.rules.specs.merge_rules.Attributes.{may_have}
use Rattle.token_keys.proofs.copied_attributes.copied.may_have_all.Given as goal

abbrev pub invariant-loop-sig : goal.invariant-loop-sig
invariant-loop-sig l = list_all (may_have l.index.all.now l.a l.rec) (drop l.sig-index l.sigs) ≡ list_all (may_have l.index.all.now l.a l.rec) l.sigs
