-- The cells of fields by the fields' ids.
use Rattle.std.specs.Prelude.{ℕ, List, [], map, Option}
use Rattle.std.specs.Option.{option_and_then, option_map}
use Rattle.il_base.specs.declared.world_model.expr.TypeExpr.{TypeExpr}
use Rattle.il_base.specs.declared.world_model.record.AsmRec.{AsmRec}
use Rattle.il_base.specs.declared.cil_values.definition.FieldDef.{FieldDef}
use Rattle.il_base.specs.declared.cil_values.layout.Layout.{Layout}
use Rattle.il_base.specs.declared.cil_values.layout.Shape.{Shape}
use Rattle.il_base.specs.declared.cil_values.layout.Cell.TheVariants.{Field as of_field}
use Rattle.rules.specs.step_rules.Closing.{closed_cell_by}
use Rattle.rules.specs.step_rules.Stores.{zero_shape}
use Rattle.rules.specs.view_rules.Methods.{field_query, head_query}
use Rattle.rules.specs.view_rules.Layouts.{good_type, all_there}

abbrev pub closed_type : List AsmRec → List TypeExpr → FieldDef → Option TypeExpr
closed_type recs args f = option_and_then (closed_cell_by (head_query recs) args []) (good_type f.typ)

-- the closed type of a field, where the type has these arguments
unfoldable pub numbered_cell : List AsmRec → List TypeExpr → ℕ → Option TypeExpr
numbered_cell recs args n = option_and_then (closed_type recs args) (field_query recs n)

abbrev pub numbered_by : (TypeExpr → Shape) → ℕ → TypeExpr → Option Layout
numbered_by below n e = option_map (λ v. record { cell = of_field n; typ = e; zero = v }) (zero_shape e (below e))

unfoldable pub numbered_layout : List AsmRec → (TypeExpr → Shape) → List TypeExpr → ℕ → Option Layout
numbered_layout recs below args n = option_and_then (numbered_by below n) (numbered_cell recs args n)

unfoldable pub numbered_cells : List AsmRec → (TypeExpr → Shape) → List TypeExpr → List ℕ → Option (List Layout)
numbered_cells recs below args ns = all_there (map (numbered_layout recs below args) ns)
