-- A world that a link gave has the links of all its type tokens.
use Rattle.std.proofs.Common.{List, refl, sym, subst}
use Rattle.il_base.specs.declared.world_model.record.AsmRec.{AsmRec}
use Rattle.il_base.specs.declared.world_model.world.World.{World}
use Rattle.rules.specs.link_rules.Laws.{AreTypeLinks}
use Rattle.rules.specs.link_rules.Linked.{world_in, assemblies, IsWorld}

in_world : (all : List AsmRec) → AreTypeLinks (world_in all).recs (world_in all).types
unfolding world_in
in_world all = refl

pub type_links_are : (w : World) → IsWorld w → AreTypeLinks w.recs w.types
type_links_are w is = subst (λ (x : World). AreTypeLinks x.recs x.types) (sym is.linked) (in_world (assemblies is.inputs))
