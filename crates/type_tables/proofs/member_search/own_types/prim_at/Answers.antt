use Rattle.std.proofs.Common.{◌-◌, ◌∙◌, length, arith, length-take}
use Rattle.type_tables.proofs.lemmas.member_search.OwnLemmas.{prim_in_core, none_in_core}
use Rattle.type_tables.proofs.member_search.own_types.prim_at.Goals as goal

pub returns-in-Some : goal.returns-in-Some
returns-in-Some c =
    c.prim_of.ensures
    ∙ prim_in_core c.args.all.now c.core-item.result c.args.at c.in-len1-up.len_at_least c.core-item.is (omega (arith, length-take (length c.args.all.now - 1) c.args.all.now)) c.in-Some.row.now c.in-Some.ensures.value

pub returns-in-None : goal.returns-in-None
returns-in-None c =
    none_in_core c.args.all.now c.core-item.result c.args.at c.in-len1-up.len_at_least c.core-item.is (omega (arith, length-take (length c.args.all.now - 1) c.args.all.now)) c.in-None.ensures.value
