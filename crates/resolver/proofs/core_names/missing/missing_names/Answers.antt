use Rattle.std.proofs.Common.{◌<◌, length, [], arith}
use Rattle.rules.specs.link_rules.Cycles.{add_all}
use Rattle.rules.specs.link_rules.CoreNames.{same_core_name, missing_from}
use Rattle.resolver.proofs.lemmas.core_names.Adding.{add_from}
use Rattle.resolver.proofs.core_names.missing.missing_names.Goals as goal

pub loop-a-preserved : goal.loop-a-preserved
loop-a-preserved c =
    let all = c.args.all.now in
    let lt : c.loop-a.a < length all = omega arith in
    add_from all c.loop-a.a c.index-all-a.result c.loop-a.names c.add_in.new.names (add_all same_core_name [] (missing_from all 0 all)) lt c.index-all-a.is
    c.in_ok-add_in.ensures c.loop-a.invariant
