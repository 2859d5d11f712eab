-- The types that a type can stand for (I.8.7), without variance: itself, Object, its base, its interfaces, and all that these can
-- stand for. T[] also stands for U[] where T is a reference type that stands for U.
use Rattle.std.specs.Prelude.{ℕ, zero, suc, List, [], ◌∷◌, ◌++◌, map, Option, Some, None, ◌==◌, ◌&&◌, ◌||◌, Bool, true, false, not, IsTrue}
use Rattle.std.specs.List.{list_any, flat_map}
use Rattle.std.specs.Option.{is_some, option_map, option_and_then}
use Rattle.il_base.specs.declared.world_model.expr.TypeExpr.{TypeExpr, out-TypeExpr}
use Rattle.il_base.specs.declared.world_model.expr.TypeExpr.TheOpen.{TypeExpr-F}
use Rattle.il_base.specs.declared.world_model.expr.TypeExpr as expr
use Rattle.il_base.specs.declared.world_model.record.AsmRec.{AsmRec}
use Rattle.il_base.specs.world_model.Exprs.{subst, levels, same_expr}
use Rattle.rules.specs.declared.link_rules.row_at.RowAt.{RowAt}
use Rattle.rules.specs.link_rules.Members.{array_type, args_of, base_at, type_count}
use Rattle.rules.specs.link_rules.Cycles.{listed, led_to, home_of, interfaces_at, is_value_type}
use Rattle.il_base.specs.declared.element.TheConstants.{OBJECT, STRING}

-- ---- one step up

-- types in a definition, with the arguments of a type put in
abbrev pub put_in : TypeExpr → List TypeExpr → List TypeExpr
put_in e types = map (subst (args_of e) []) types

-- the base that the row of a type names
abbrev pub bases_of : List AsmRec → TypeExpr → List TypeExpr
bases_of recs e = put_in e (listed (option_and_then (base_at recs) (home_of recs e)))

-- the interfaces that the rows of a type name, in order
unfoldable pub interfaces_of : List AsmRec → TypeExpr → List TypeExpr
interfaces_of recs e = put_in e (flat_map (interfaces_at recs) (listed (home_of recs e)))

-- the types one step up: the base and the interfaces; of an array System.Array (I.8.9.1)
abbrev pub up_in : List AsmRec → TypeExpr → TypeExpr-F TypeExpr → List TypeExpr
up_in recs e (TypeExpr-F.Array x) = listed (option_map (λ t. expr.Def t) (array_type recs))
up_in recs e _ = bases_of recs e ++ interfaces_of recs e

unfoldable pub up : List AsmRec → TypeExpr → List TypeExpr
up recs e = up_in recs e (out-TypeExpr e)

-- ---- the relation

-- whether a definition is a class or an interface, and no value type (I.8.2.1)
abbrev pub is_class_at : List AsmRec → Option RowAt → Bool
is_class_at recs None = false
is_class_at recs (Some at) = not (is_value_type recs at)

-- STRING and OBJECT are the primitives that are classes (II.23.1.16)
abbrev pub is_reference_in : List AsmRec → TypeExpr → TypeExpr-F TypeExpr → Bool
is_reference_in recs e (TypeExpr-F.Prim n) = n == STRING || n == OBJECT
is_reference_in recs e (TypeExpr-F.Def t) = is_class_at recs (home_of recs e)
is_reference_in recs e (TypeExpr-F.Inst t args) = is_class_at recs (home_of recs e)
is_reference_in recs e (TypeExpr-F.Array x) = true
is_reference_in recs e _ = false

unfoldable pub is_reference : List AsmRec → TypeExpr → Bool
is_reference recs e = is_reference_in recs e (out-TypeExpr e)

-- whether a type has a definition
abbrev pub is_defined : List AsmRec → TypeExpr → Bool
is_defined recs e = is_some (home_of recs e)

-- the subtype relation, the least with these rules; every type of a definition is below System.Object, whether or not it has a base
pub data IsSubtype (recs : List AsmRec) : TypeExpr → TypeExpr → Type 0 where
  same : (e : TypeExpr) → IsSubtype recs e e
  object : (a : TypeExpr) → IsTrue (is_defined recs a) → IsSubtype recs a (expr.Prim OBJECT)
  step : (a b c : TypeExpr) → IsTrue (list_any (same_expr b) (up recs a)) → IsSubtype recs b c → IsSubtype recs a c
  array : (a b c : TypeExpr) → IsTrue (is_reference recs a) → IsSubtype recs a b → IsSubtype recs (expr.Array b) c → IsSubtype recs (expr.Array a) c

-- ---- the same as a search

-- all types reachable by steps up from a type, itself first; a chain passes each type of a linked world once, and System.Array before
unfoldable pub above : List AsmRec → TypeExpr → List TypeExpr
above recs e = led_to same_expr (up recs) (suc (type_count recs)) (e ∷ [])

abbrev pub is_under_object : List AsmRec → TypeExpr → TypeExpr → Bool
is_under_object recs a b = is_defined recs a && same_expr b (expr.Prim OBJECT)

abbrev pub leads_up : List AsmRec → TypeExpr → TypeExpr → Bool
leads_up recs a b = is_under_object recs a b || list_any (same_expr b) (above recs a)

abbrev pub element_in : TypeExpr-F TypeExpr → Option TypeExpr
element_in (TypeExpr-F.Array x) = Some x
element_in _ = None

unfoldable pub element_of : TypeExpr → Option TypeExpr
element_of e = element_in (out-TypeExpr e)

abbrev pub are_elements : List AsmRec → (TypeExpr → TypeExpr → Bool) → Option TypeExpr → Option TypeExpr → Bool
are_elements recs below None y = false
are_elements recs below (Some x) None = false
are_elements recs below (Some x) (Some y) = is_reference recs x && below x y

-- whether one type can stand for another, for arrays at most n levels deep
unfoldable pub is_below : List AsmRec → ℕ → TypeExpr → TypeExpr → Bool
is_below recs zero a b = leads_up recs a b
is_below recs (suc n) a b = leads_up recs a b || are_elements recs (is_below recs n) (element_of a) (element_of b)

abbrev pub is_subtype : List AsmRec → TypeExpr → TypeExpr → Bool
is_subtype recs a b = is_below recs (levels a) a b
