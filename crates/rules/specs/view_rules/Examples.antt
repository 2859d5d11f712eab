-- Examples: fields with bytes, and the shapes of enums and structs.
use Rattle.std.specs.Prelude.{◌≡◌, ℕ, pos, [], ◌∷◌, Some}
use Rattle.std.specs.Option.{option_map}
use Rattle.il_base.specs.declared.element.TheConstants as element
use Rattle.il_base.specs.declared.world_model.known.Known.TheVariants.{Good}
use Rattle.il_base.specs.declared.world_model.expr.TypeExpr.{TypeExpr}
use Rattle.il_base.specs.declared.world_model.expr.TypeExpr as expr
use Rattle.il_base.specs.declared.cil_values.value.Value.TheVariants as value
use Rattle.il_base.specs.declared.cil_values.definition.First.{First}
use Rattle.il_base.specs.declared.cil_values.definition.First.TheVariants as first
use Rattle.il_base.specs.declared.cil_values.layout.Cell.TheVariants as cell
use Rattle.il_base.specs.declared.cil_values.layout.Shape.TheVariants as shape
use Rattle.rules.specs.view_rules.Methods.{field_query}
use Rattle.rules.specs.view_rules.Layouts.{shape_query, shape_within}
use Rattle.rules.specs.view_rules.Sample.{recs}

abbrev pub Begins : ℕ → First → Type 0
Begins f first = option_map (λ d. d.first) (field_query recs f) ≡ Some first

abbrev pub def : ℕ → TypeExpr
def t = expr.Def (record { 0 = t })

-- a field of a struct type has its bytes
abbrev pub HasBytes : Type 0
HasBytes = Begins 0 (first.Bytes (Good (1 ∷ 2 ∷ 3 ∷ [])))

abbrev pub HasNone : Type 0
HasNone = Begins 1 first.Blank

abbrev pub ClassIsReference : Type 0
ClassIsReference = shape_query recs (def 1) ≡ shape.Reference

abbrev pub StructHasCells : Type 0
StructHasCells = shape_query recs (def 0) ≡ shape.Structure []

-- an enum over int32 is an int32, and one over an enum a struct
abbrev pub EnumIsNumber : Type 0
EnumIsNumber = shape_query recs (def 2) ≡ shape.Integer element.I4

abbrev pub EnumOfEnum : Type 0
EnumOfEnum = shape_within recs 1 (def 3) ≡ shape.Structure (record { cell = cell.Field 3; typ = def 2; zero = value.I4 (pos 0) } ∷ [])

-- at the greatest depth of nested structs a further struct has no value, and a number has one
abbrev pub TooDeep : Type 0
TooDeep = shape_within recs 0 (def 0) ≡ shape.NoValue

abbrev pub NumberIsThere : Type 0
NumberIsThere = shape_within recs 0 (def 2) ≡ shape.Integer element.I4
