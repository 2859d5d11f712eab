use Rattle.std.proofs.Common.{◌≡◌, ◌++◌, drop}
use Rattle.il_base.specs.declared.world_model.record.AsmRec.{AsmRec}
use Rattle.rules.specs.link_rules.Faults.{numbered}
use Rattle.rules.specs.link_rules.Linked.{links_from}
use Rattle.link_faults.specs.Values.{is_value, all_values}
use Rattle.link_faults.proofs.value_types.all_values.Given as goal

abbrev pub invariant-loop-at : goal.invariant-loop-at
invariant-loop-at l =
    l.values.items ++ links_from (λ a (rec : AsmRec). numbered (is_value l.scope.all.now l.scope.links.now a) 0 rec.type_def) l.at (drop l.at l.scope.all.now)
    ≡ all_values l.scope.all.now l.scope.links.now
