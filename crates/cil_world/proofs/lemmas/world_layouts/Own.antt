-- The cells of a type's own fields, and of a type and its bases.
use Rattle.std.proofs.Common.{◌≡◌, List, [], ◌∷◌, ◌++◌, Option, Some, None, refl, sym, ap, ◌∙◌, append-nil}
use Rattle.std.specs.Prelude.{reverse}
use Rattle.std.proofs.lemmas.List.{flat_map_more, reverse-append}
use Rattle.std.specs.List.{flat_map}
use Rattle.std.specs.Option.{option_and_then, option_map}
use Rattle.il_base.specs.declared.ids.TypeId.{TypeId}
use Rattle.il_base.specs.declared.world_model.expr.TypeExpr.{TypeExpr}
use Rattle.il_base.specs.declared.world_model.record.AsmRec.{AsmRec}
use Rattle.rules.specs.declared.link_rules.row_at.RowAt.{RowAt}
use Rattle.rules.specs.link_rules.Cycles.{listed}
use Rattle.rules.specs.link_rules.Members.{type_home, owner_of, args_of}
use Rattle.rules.specs.view_rules.Layouts.{own_cells, shape_query, shape_within, most_nested, layout_of, instance_fields}
use Rattle.cil_world.specs.world_layouts.Kinds.{kind_at}
use Rattle.cil_world.specs.world_layouts.Cells.{cells_of_kind}
use Rattle.cil_world.specs.world_layouts.Settled.{kind_of}
use Rattle.cil_world.proofs.lemmas.world_layouts.Numbered.{listed_same}

module _ (recs : List AsmRec) (e : TypeExpr) where
  own_home : (o : Option RowAt)
      → cells_of_kind recs (args_of e) (option_map (kind_at recs) o) ≡ flat_map (λ at. flat_map (λ f. listed (layout_of recs (shape_query recs) (args_of e) f)) (instance_fields recs at)) (listed o)
  unfolding kind_at shape_query
  own_home None = refl
  own_home (Some at) =
      listed_same recs (args_of e) at (shape_within recs most_nested) ∙ sym (append-nil (flat_map (λ f. listed (layout_of recs (shape_query recs) (args_of e) f)) (instance_fields recs at)))

  own_owner : (o : Option TypeId)
      → cells_of_kind recs (args_of e) (option_and_then (kind_of recs) o) ≡ flat_map (λ at. flat_map (λ f. listed (layout_of recs (shape_query recs) (args_of e) f)) (instance_fields recs at)) (listed (option_and_then (type_home recs) o))
  own_owner None = refl
  own_owner (Some t) = own_home (type_home recs t)

  pub own_same : own_cells recs e ≡ cells_of_kind recs (args_of e) (option_and_then (kind_of recs) (owner_of recs e))
  own_same = sym (own_owner (owner_of recs e))

-- from the last one to the first
pub one_before : {A B : Type 0} (f : A → List B) (x : A) (xs : List A) (first : List B) → (first ++ flat_map f (reverse xs)) ++ f x ≡ first ++ flat_map f (reverse (x ∷ xs))
one_before f x xs first =
    let turned : reverse (x ∷ xs) ≡ reverse xs ++ x ∷ [] = reverse-append (x ∷ []) xs in
    flat_map_more f first (reverse xs) x ∙ sym (ap (λ (ys : _). first ++ flat_map f ys) turned)
