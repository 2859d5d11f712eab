use Rattle.std.proofs.Common.{◌≡◌, ◌++◌, drop}
use Rattle.il_base.specs.declared.world_model.record.AsmRec.{AsmRec}
use Rattle.rules.specs.link_rules.Faults.{numbered}
use Rattle.rules.specs.link_rules.Linked.{links_from}
use Rattle.link_faults.specs.Supertypes.{interface_flag, interface_flags}
use Rattle.link_faults.proofs.interface_rows.interface_flags.Given as goal

abbrev pub invariant-loop-rec : goal.invariant-loop-rec
invariant-loop-rec l =
    l.flags.items ++ links_from (λ a (rec : AsmRec). numbered interface_flag 0 rec.type_def) l.rec-index (drop l.rec-index l.scope.all.now) ≡ interface_flags l.scope.all.now
