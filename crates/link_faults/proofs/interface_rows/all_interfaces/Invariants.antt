use Rattle.std.proofs.Common.{◌≡◌, ◌++◌, drop}
use Rattle.il_base.specs.declared.world_model.record.AsmRec.{AsmRec}
use Rattle.rules.specs.link_rules.Faults.{numbered}
use Rattle.rules.specs.link_rules.Linked.{links_from}
use Rattle.link_faults.specs.Supertypes.{interfaces_of, all_interfaces}
use Rattle.link_faults.proofs.interface_rows.all_interfaces.Given as goal

abbrev pub invariant-loop-at : goal.invariant-loop-at
invariant-loop-at l =
    l.graph.items ++ links_from (λ a (rec : AsmRec). numbered (interfaces_of l.scope.all.now l.scope.links.now l.flags a rec.interface_impl) 0 rec.type_def) l.at (drop l.at l.scope.all.now)
    ≡ all_interfaces l.scope.all.now l.scope.links.now l.flags
