use Rattle.il_base.proofs.lemmas.core_table.Whole.{core-is}
use Rattle.il_base.proofs.core_table.record.core.Goals as goal

pub returns : goal.returns
returns c =
    core-is c.record_with.result c.in_ok-modules.modules c.in_ok-types.types c.in_ok-fields.fields c.in_ok-methods.methods c.in_ok-assemblies.assemblies
    c.record_with.ensures c.in_ok-modules.ensures c.in_ok-types.ensures c.in_ok-fields.ensures c.in_ok-methods.ensures c.in_ok-assemblies.ensures
