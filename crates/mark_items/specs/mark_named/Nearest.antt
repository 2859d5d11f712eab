-- The field or property of a name in a type or in its nearest base that has one.
use Rattle.std.specs.Prelude.{ℕ, List, ◌∷◌, Option, Bool, if◌then◌else◌}
use Rattle.std.specs.List.{flat_map}
use Rattle.il_base.specs.declared.world_model.expr.TypeExpr.{TypeExpr}
use Rattle.il_base.specs.declared.world_model.record.AsmRec.{AsmRec}
use Rattle.rules.specs.declared.link_rules.row_at.RowAt.{RowAt}
use Rattle.rules.specs.mark_rules.Facts.{Fact}
use Rattle.rules.specs.mark_rules.Facts.Fact.{marked}
use Rattle.rules.specs.mark_rules.Places.{marks_method, field_item}
use Rattle.rules.specs.mark_rules.Naming.{of_expr}
use Rattle.rules.specs.mark_rules.Attributes.{head_of, fields_named_in, properties_called_in, setters_of, field_facts, setter_facts}
use Rattle.mark_items.specs.declared.mark_named.nearest.Member.{Member}

-- the first field, or property, of a type with a name
abbrev pub member_in : List AsmRec → Bool → List ℕ → TypeExpr → Option RowAt
member_in recs field name e = if field then head_of (fields_named_in recs name e) else head_of (properties_called_in recs name e)

-- what it marks, found in a type
abbrev pub setter_marks : List AsmRec → TypeExpr → RowAt → List Fact
setter_marks recs e p = flat_map (λ m. marks_method recs m ∷ of_expr e) (setters_of recs p)

abbrev pub field_marks : List AsmRec → TypeExpr → RowAt → List Fact
field_marks recs e f = marked (field_item recs f) ∷ of_expr e

abbrev pub member_marks : List AsmRec → Bool → TypeExpr → RowAt → List Fact
member_marks recs field e at = if field then field_marks recs e at else setter_marks recs e at

-- both
abbrev pub sought : List AsmRec → Bool → List ℕ → TypeExpr → Option (List Fact)
sought recs field name = if field then field_facts recs name else setter_facts recs name

abbrev pub found_marks : List AsmRec → Bool → Member → List Fact
found_marks recs field m = member_marks recs field m.of m.at
