use Rattle.std.proofs.Common.{◌-◌, ◌∙◌, length, arith, length-take}
use Rattle.attribute_values.proofs.lemmas.attribute_kinds.PrimLemmas.{prim_in_core, none_in_core}
use Rattle.attribute_values.proofs.attribute_kinds.prims.prim_at.Goals as goal

pub returns-in-Some : goal.returns-in-Some
returns-in-Some c =
    c.prim_of.ensures
    ∙ prim_in_core c.args.all.now c.core-item.result c.args.at c.in-len1-up.len_at_least c.core-item.is (omega (arith, length-take (length c.args.all.now - 1) c.args.all.now)) c.in-Some.row.now c.in-Some.ensures.value

pub returns-in-None : goal.returns-in-None
returns-in-None c =
    none_in_core c.args.all.now c.core-item.result c.args.at c.in-len1-up.len_at_least c.core-item.is (omega (arith, length-take (length c.args.all.now - 1) c.args.all.now)) c.in-None.ensures.value
