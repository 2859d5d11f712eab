-- Cells that are kept by type definition.
use Rattle.std.specs.Prelude.{◌≡◌, ℕ, List, Option, Some, slice_get}
use Rattle.il_base.specs.declared.world_model.expr.TypeExpr as expr
use Rattle.il_base.specs.declared.world_model.record.AsmRec.{AsmRec}
use Rattle.il_base.specs.declared.cil_values.layout.Layout.{Layout}
use Rattle.rules.specs.view_rules.Layouts.{cells_query}

-- what is kept of a type definition, by its place in the world, are the cells of that type without arguments
abbrev pub IsKept : List AsmRec → ℕ → Option (List Layout) → Type 0
IsKept recs n kept = (cells : List Layout) → kept ≡ Some cells → cells ≡ cells_query recs (expr.Def (record { 0 = n }))

abbrev pub AreKept : List AsmRec → List (Option (List Layout)) → Type 0
AreKept recs kept = (n : ℕ) (one : Option (List Layout)) → slice_get kept n ≡ Some one → IsKept recs n one
