-- The definitions of the interfaces that rows name.
use Rattle.std.specs.Prelude.{ℕ, List, Some}
use Rattle.std.specs.List.{flat_map}
use Rattle.il_base.specs.declared.world_model.expr.TypeExpr.{TypeExpr}
use Rattle.il_base.specs.declared.world_model.types.InterfaceImplRow.{InterfaceImplRow}
use Rattle.il_base.specs.declared.world_model.record.AsmRec.{AsmRec}
use Rattle.rules.specs.declared.link_rules.row_at.RowAt.{RowAt}
use Rattle.rules.specs.link_rules.Signatures.{token_type}
use Rattle.rules.specs.link_rules.Members.{good_type}
use Rattle.rules.specs.link_rules.Cycles.{listed, home_of, only_interface}

-- of an interface; of any other type none
abbrev pub interface_home : List AsmRec → TypeExpr → List RowAt
interface_home recs e = flat_map (λ x. listed (home_of recs x)) (only_interface recs (Some e))

abbrev pub definition_in : List AsmRec → ℕ → AsmRec → InterfaceImplRow → List RowAt
definition_in recs a rec row = flat_map (λ x. listed (home_of recs x)) (only_interface recs (good_type (token_type recs a rec row.interface)))
