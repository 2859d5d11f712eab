use Rattle.std.proofs.Common.{◌≡◌, ◌-◌}
use Rattle.rules.specs.merge_rules.Attributes.{may_refer}
use Rattle.token_keys.proofs.copied_attributes.references.may_refer.Given as goal

abbrev pub invariant-loop-i : goal.invariant-loop-i
invariant-loop-i l = may_refer l.index.all.now l.a l.rec (l.most - l.i) l.at ≡ may_refer l.index.all.now l.a l.rec l.most l.k
