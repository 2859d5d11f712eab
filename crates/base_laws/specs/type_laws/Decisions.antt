-- That the search for a subtype answers as the relation has it.
use Rattle.std.specs.Prelude.{◌≡◌, List, None}
use Rattle.std.specs.Bool.{Decides}
use Rattle.il_base.specs.declared.world_model.expr.TypeExpr.{TypeExpr}
use Rattle.il_base.specs.declared.world_model.record.AsmRec.{AsmRec}
use Rattle.rules.specs.link_rules.Linked.{assemblies, link_fault_of}
use Rattle.rules.specs.type_rules.Subtypes.{IsSubtype, is_subtype}

-- where these inputs link: true gives the relation, and the relation gives true
abbrev pub SubtypeDecides : Type 0
SubtypeDecides =
    (inputs : List AsmRec) → link_fault_of inputs ≡ None
    → (a b : TypeExpr) → Decides (is_subtype (assemblies inputs) a b) (IsSubtype (assemblies inputs) a b)
