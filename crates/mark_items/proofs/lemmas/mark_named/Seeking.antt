-- What is sought of a type, by the field or property of the name.
use Rattle.std.proofs.Common.{◌≡◌, ℕ, List, Bool, true, false, Some, None, refl, ap, ◌∙◌}
use Rattle.std.specs.Option.{option_map}
use Rattle.il_base.specs.declared.world_model.expr.TypeExpr.{TypeExpr}
use Rattle.il_base.specs.declared.world_model.record.AsmRec.{AsmRec}
use Rattle.rules.specs.declared.link_rules.row_at.RowAt.{RowAt}
use Rattle.mark_items.specs.mark_named.Nearest.{member_in, member_marks, sought}

module _ (recs : List AsmRec) (name : List ℕ) (e : TypeExpr) where
  by_member : (field : Bool) → sought recs field name e ≡ option_map (member_marks recs field e) (member_in recs field name e)
  by_member true = refl
  by_member false = refl

  pub sought_here : (field : Bool) (at : RowAt) → member_in recs field name e ≡ Some at → sought recs field name e ≡ Some (member_marks recs field e at)
  sought_here field at h = by_member field ∙ ap (option_map (member_marks recs field e)) h

  pub sought_none : (field : Bool) → member_in recs field name e ≡ None → sought recs field name e ≡ None
  sought_none field h = by_member field ∙ ap (option_map (member_marks recs field e)) h
