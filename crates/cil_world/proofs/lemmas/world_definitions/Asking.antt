-- What the tables of a world answer.
use Rattle.std.proofs.Common.{◌≡◌, ℕ, List, Option, Some, None, refl, ap, ◌∙◌}
use Rattle.std.specs.Option.{option_map, option_and_then}
use Rattle.il_base.specs.declared.world_model.record.AsmRec.{AsmRec}
use Rattle.il_base.specs.world_model.Worlds.{types_in, type_id}
use Rattle.rules.specs.declared.link_rules.row_at.RowAt.{RowAt}
use Rattle.rules.specs.link_rules.Members.{home_from, fields_in}
use Rattle.rules.specs.type_rules.Initializers.{initializer}
use Rattle.rules.specs.type_rules.Makers.{maker}
use Rattle.rules.specs.type_rules.Labels.{encloser_at}
use Rattle.rules.specs.type_rules.Dispatch.{method_id}
use Rattle.il_base.specs.declared.cil_values.definition.FieldDef.{FieldDef}
use Rattle.il_base.specs.declared.cil_values.definition.Head.{Head}
use Rattle.rules.specs.view_rules.Methods.{field_at, field_query, head_at, head_query}
use Rattle.rules.specs.view_rules.Answers.{starts_query, maker_of, encloser_query}
use Rattle.cil_world.specs.world_methods.Rows.{rows_from, in_place}
use Rattle.cil_world.proofs.lemmas.world_methods.Placed.{placed}
use Rattle.cil_world.specs.world_definitions.Types.{starts_at, maker_at, around_at}

mapped_then : {A B C : Type 0} (g : B → C) (h : A → Option B) (o : Option A) → option_and_then (λ x. option_map g (h x)) o ≡ option_map g (option_and_then h o)
mapped_then g h None = refl
mapped_then g h (Some x) = refl

module _ (recs all : List AsmRec) (same : all ≡ recs) (n : ℕ) where
  -- a table over all assemblies of the world
  in_table : {A : Type 0} (count : AsmRec → ℕ) (f : RowAt → Option A) (rows : List (Option A)) → rows ≡ rows_from count f 0 all → in_place rows n ≡ option_and_then f (home_from count 0 recs n)
  in_table count f rows are =
      ap (λ (xs : List (Option _)). in_place xs n) (are ∙ ap (λ (rs : List AsmRec). rows_from count f 0 rs) same) ∙ placed count f recs n

  pub fields_placed : (rows : List (Option FieldDef)) → rows ≡ rows_from fields_in (field_at recs) 0 all → in_place rows n ≡ field_query recs n
  unfolding field_query
  fields_placed rows are = in_table fields_in (field_at recs) rows are

  pub heads_placed : (rows : List (Option Head)) → rows ≡ rows_from types_in (head_at recs) 0 all → in_place rows n ≡ head_query recs n
  unfolding head_query
  heads_placed rows are = in_table types_in (head_at recs) rows are

  pub starts_placed : (rows : List (Option ℕ)) → rows ≡ rows_from types_in (starts_at recs) 0 all → in_place rows n ≡ starts_query recs n
  starts_placed rows are =
      in_table types_in (starts_at recs) rows are ∙ mapped_then (λ (m : RowAt). (method_id recs m).0) (initializer recs) (home_from types_in 0 recs n)

  pub makers_placed : (rows : List (Option ℕ)) → rows ≡ rows_from types_in (maker_at recs) 0 all → in_place rows n ≡ maker_of recs n
  makers_placed rows are =
      in_table types_in (maker_at recs) rows are ∙ mapped_then (λ (m : RowAt). (method_id recs m).0) (maker recs) (home_from types_in 0 recs n)

  pub enclosers_placed : (rows : List (Option ℕ)) → rows ≡ rows_from types_in (around_at recs) 0 all → in_place rows n ≡ encloser_query recs n
  unfolding encloser_query
  enclosers_placed rows are =
      in_table types_in (around_at recs) rows are ∙ mapped_then (λ (t : RowAt). (type_id recs t.asm t.row).0) (encloser_at recs) (home_from types_in 0 recs n)
