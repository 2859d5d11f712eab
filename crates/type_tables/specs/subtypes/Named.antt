-- The types that rows name, with the arguments of a type put in.
use Rattle.std.specs.Prelude.{ℕ, List, [], map}
use Rattle.il_base.specs.declared.world_model.expr.TypeExpr.{TypeExpr}
use Rattle.il_base.specs.declared.world_model.record.AsmRec.{AsmRec}
use Rattle.il_base.specs.declared.world_model.types.InterfaceImplRow.{InterfaceImplRow}
use Rattle.il_base.specs.world_model.Exprs.{subst}
use Rattle.rules.specs.link_rules.Signatures.{token_type}
use Rattle.rules.specs.link_rules.Members.{good_type}
use Rattle.rules.specs.link_rules.Cycles.{only_interface}

-- these types, with these arguments put in
abbrev pub with_args : List TypeExpr → List TypeExpr → List TypeExpr
with_args args types = map (subst args []) types

-- the interface that a row names, in a list; a row that names something else, or a bad one, gives none
abbrev pub row_interface : List AsmRec → ℕ → AsmRec → List TypeExpr → InterfaceImplRow → List TypeExpr
row_interface recs a rec args row = with_args args (only_interface recs (good_type (token_type recs a rec row.interface)))
