-- The cells of one type, by the ids of its fields.
use Rattle.std.specs.Prelude.{ℕ, List, [], Option, Some, None}
use Rattle.std.specs.List.{flat_map}
use Rattle.il_base.specs.declared.world_model.expr.TypeExpr.{TypeExpr}
use Rattle.il_base.specs.declared.world_model.record.AsmRec.{AsmRec}
use Rattle.rules.specs.link_rules.Cycles.{listed}
use Rattle.il_base.specs.declared.cil_values.layout.Layout.{Layout}
use Rattle.rules.specs.view_rules.Layouts.{shape_within, most_nested}
use Rattle.cil_world.specs.declared.world_layouts.kinds.TypeKind.{TypeKind}
use Rattle.cil_world.specs.world_layouts.Fields.{numbered_layout}

abbrev pub numbered_cell_list : List AsmRec → List TypeExpr → ℕ → List Layout
numbered_cell_list recs args n = listed (numbered_layout recs (shape_within recs most_nested) args n)

-- a field without a value has no cell
abbrev pub cells_of_fields : List AsmRec → List TypeExpr → List ℕ → List Layout
cells_of_fields recs args fields = flat_map (numbered_cell_list recs args) fields

abbrev pub cells_of_kind : List AsmRec → List TypeExpr → Option TypeKind → List Layout
cells_of_kind recs args None = []
cells_of_kind recs args (Some k) = cells_of_fields recs args k.fields
