use Rattle.std.proofs.Common.{◌≡◌, ◌++◌, drop}
use Rattle.il_base.specs.declared.world_model.record.AsmRec.{AsmRec}
use Rattle.rules.specs.link_rules.Faults.{numbered}
use Rattle.rules.specs.link_rules.Linked.{links_from}
use Rattle.link_faults.specs.Values.{held_by, all_held}
use Rattle.link_faults.proofs.held.all_held.Given as goal

abbrev pub invariant-loop-at : goal.invariant-loop-at
invariant-loop-at l =
    l.graph.items ++ links_from (λ a (rec : AsmRec). numbered (held_by l.scope.all.now l.scope.links.now l.values a rec) 0 rec.type_def) l.at (drop l.at l.scope.all.now)
    ≡ all_held l.scope.all.now l.scope.links.now l.values
