-- Which members hide others.
use Rattle.std.specs.Prelude.{List, Bool, false}
use Rattle.std.specs.List.{list_any}
use Rattle.il_base.specs.declared.table.TheConstants.{EVENT, PROPERTY}
use Rattle.il_base.specs.declared.world_model.expr.TypeExpr.{TypeExpr}
use Rattle.il_base.specs.declared.world_model.record.AsmRec.{AsmRec}
use Rattle.rules.specs.declared.link_rules.row_at.RowAt.{RowAt}
use Rattle.rules.specs.type_rules.Searches.{overrides, accessors_override}
use Rattle.virtual_calls.specs.declared.named_members.kinds.Kind.{Kind}
use Rattle.virtual_calls.specs.declared.named_members.kinds.Kind.TheVariants.{Field, Method, Property, Event}

-- whether one of some methods overrides one of others
abbrev pub any_overrides : List AsmRec → List TypeExpr → List RowAt → List RowAt → Bool
any_overrides recs es others methods = list_any (λ m. list_any (overrides recs es m) others) methods

abbrev pub hides : List AsmRec → List TypeExpr → Kind → RowAt → RowAt → Bool
hides recs es Field x y = false
hides recs es Method x y = overrides recs es x y
hides recs es Property x y = accessors_override recs es PROPERTY x y
hides recs es Event x y = accessors_override recs es EVENT x y
