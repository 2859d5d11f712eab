-- A shape is settled, or that of cells.
use Rattle.std.proofs.Common.{◌≡◌, ◌<◌, ℕ, suc, ◌-◌, Bool, true, false, nat_eq, List, [], length, Option, Some, None, refl, sym, ap, ◌∙◌, arith}
use Rattle.std.specs.Prelude.{slice_get, not, ◌||◌, if◌then◌else◌}
use Rattle.std.specs.Option.{option_and_then, option_map}
use Rattle.il_base.specs.declared.ids.TypeId.{TypeId}
use Rattle.il_base.specs.declared.world_model.expr.TypeExpr.{TypeExpr, out-TypeExpr}
use Rattle.il_base.specs.declared.world_model.expr.TypeExpr.TheOpen.{TypeExpr-F}
use Rattle.il_base.specs.declared.world_model.types.TypeDefRow.{TypeDefRow}
use Rattle.il_base.specs.declared.world_model.record.AsmRec.{AsmRec}
use Rattle.il_base.specs.declared.core_table.names.CoreName.TheVariants as core
use Rattle.rules.specs.declared.link_rules.row_at.RowAt.{RowAt}
use Rattle.rules.specs.link_rules.Cycles.{is_value_type}
use Rattle.rules.specs.link_rules.Members.{type_home, param_count, args_in, args_of}
use Rattle.rules.specs.type_rules.Rows.{is_enum}
use Rattle.base_laws.proofs.lemmas.type_laws.Places.{home_is, place_has}
use Rattle.il_base.specs.declared.cil_values.layout.Shape.{Shape}
use Rattle.il_base.specs.declared.cil_values.layout.Shape.TheVariants.{Reference as reference, TypeHandle as type_handle, FieldHandle as field_handle, NoValue as no_value}
use Rattle.il_base.specs.declared.cil_values.layout.Layout.{Layout}
use Rattle.rules.specs.step_rules.Closing.{plain, takes}
use Rattle.rules.specs.view_rules.Methods.{head_query, head_at}
use Rattle.rules.specs.view_rules.Layouts.{is_core_type, fits_params, struct_shape, or_shape, row_shape, home_shape, shape_in, without_struct, shape_within}
use Rattle.cil_world.specs.declared.world_layouts.kinds.Handle.TheVariants as handle
use Rattle.cil_world.specs.world_layouts.Kinds.{kind_at}
use Rattle.cil_world.specs.world_layouts.Fields.{numbered_cells}
use Rattle.cil_world.specs.world_layouts.Settled.{number_of, enum_of, or_handle, settled_kind, settled_home, kind_of, settled_in, settled, fields_of_kind, definition_in, fields_of}
use Rattle.cil_world.proofs.lemmas.world_layouts.Numbered.{first_same, cells_same}

-- ---- how many parameters a definition has

or_false : (b : Bool) → (b || false) ≡ b
or_false true = refl
or_false false = refl

module _ (recs : List AsmRec) (at : RowAt) (args : List TypeExpr) where
  fits_row : (rec : AsmRec) (t : TypeDefRow) → slice_get recs at.asm ≡ Some rec → slice_get rec.type_def at.row ≡ Some t → fits_params recs at args ≡ takes (head_at recs at) (length args)
  fits_row rec t here row = rw (here, row) (or_false (nat_eq (param_count rec at.row) (length args)))

  fits_same : (n : ℕ) → type_home recs (record { 0 = n }) ≡ Some at → fits_params recs at args ≡ takes (head_query recs n) (length args)
  unfolding head_query
  fits_same n e =
      let s = home_is recs 0 n at e in
      let asm : at.asm ≡ s.asm = omega (arith, s.numbered) in
      let row = place_has s.rec.type_def at.row s.below in
      fits_row s.rec row.0 (ap (slice_get recs) asm ∙ s.there) row.1 ∙ ap (λ (h : _). takes h (length args)) (sym (ap (option_and_then (head_at recs)) e))

-- ---- a definition

pick : (fit value en th fh : Bool) (num : Option Shape) (st : Shape)
    → (if not value then reference else if not fit then no_value else or_shape (if en then num else None) (if th then type_handle else if fh then field_handle else st))
    ≡ or_shape (if not value then Some reference else if not fit then Some no_value else or_handle (if en then num else None) (if th then Some handle.OfType else if fh then Some handle.OfField else None)) st
pick fit false en th fh num st = refl
pick false true en th fh num st = refl
pick true true true th fh (Some s) st = refl
pick true true true true fh None st = refl
pick true true true false true None st = refl
pick true true true false false None st = refl
pick true true false true fh num st = refl
pick true true false false true num st = refl
pick true true false false false num st = refl

module _ (recs : List AsmRec) (below : TypeExpr → Shape) where
  cells_shape : List TypeExpr → List ℕ → Shape
  cells_shape args fields = struct_shape (numbered_cells recs below args fields)

  row_settled : (t : TypeId) (args : List TypeExpr) (at : RowAt) → type_home recs t ≡ Some at
      → row_shape recs below args at ≡ or_shape (settled_kind recs t args (kind_at recs at)) (struct_shape (numbered_cells recs below args (kind_at recs at).fields))
  unfolding settled_kind kind_at enum_of
  row_settled t args at home =
      let fit = fits_same recs at args t.0 home in
      let num = ap (option_and_then number_of) (first_same recs args at) in
      let st = ap struct_shape (cells_same recs args at below) in
      rw (fit, ← num, ← st)
      (pick (takes (head_query recs t.0) (length args)) (is_value_type recs at) (is_enum recs at) (is_core_type recs core.RuntimeTypeHandle at) (is_core_type recs core.RuntimeFieldHandle at) _ _)

  home_settled : (t : TypeId) (args : List TypeExpr) (o : Option RowAt) → type_home recs t ≡ o
      → home_shape recs below args o ≡ or_shape (settled_home recs t args (option_map (kind_at recs) o)) (struct_shape (numbered_cells recs below args (fields_of_kind (option_map (kind_at recs) o))))
  home_settled t args None home = refl
  home_settled t args (Some at) home = row_settled t args at home

  layer_settled : (x : TypeExpr-F TypeExpr)
      → shape_in recs below x ≡ or_shape (settled_in recs x) (struct_shape (numbered_cells recs below (args_in x) (fields_of_kind (option_and_then (kind_of recs) (definition_in x)))))
  layer_settled (TypeExpr-F.Prim n) = refl
  layer_settled (TypeExpr-F.Def t) = home_settled t [] (type_home recs t) refl
  layer_settled (TypeExpr-F.Inst t args) = home_settled t args (type_home recs t) refl
  layer_settled (TypeExpr-F.Array x) = refl
  layer_settled (TypeExpr-F.ByRef x) = refl
  layer_settled (TypeExpr-F.Var n) = refl
  layer_settled (TypeExpr-F.MVar n) = refl
  layer_settled (TypeExpr-F.Mod required by x) = refl

  type_settled : (p : TypeExpr) → shape_in recs below (out-TypeExpr p) ≡ or_shape (settled recs p) (struct_shape (numbered_cells recs below (args_of p) (fields_of recs p)))
  unfolding settled fields_of args_of
  type_settled p = layer_settled (out-TypeExpr p)

-- ---- a shape within a depth

no_struct : (o : Option (List Layout)) → without_struct (struct_shape o) ≡ no_value
no_struct None = refl
no_struct (Some cells) = refl

-- what is left of a shape where no struct may be
abbrev pub bottom_of : Option Shape → Shape
bottom_of None = no_value
bottom_of (Some s) = without_struct s

bottom_by : (o : Option Shape) (cells : Option (List Layout)) → without_struct (or_shape o (struct_shape cells)) ≡ bottom_of o
bottom_by None cells = no_struct cells
bottom_by (Some s) cells = refl

module _ (recs : List AsmRec) where
  bottom : (e : TypeExpr) → shape_within recs 0 e ≡ bottom_of (settled recs (plain e))
  unfolding shape_within
  bottom e =
      ap without_struct (type_settled recs (λ d. no_value) (plain e))
      ∙ bottom_by (settled recs (plain e)) (numbered_cells recs (λ d. no_value) (args_of (plain e)) (fields_of recs (plain e)))

  above : (n : ℕ) (e : TypeExpr) → shape_within recs (suc n) e ≡ or_shape (settled recs (plain e)) (struct_shape (numbered_cells recs (shape_within recs n) (args_of (plain e)) (fields_of recs (plain e))))
  unfolding shape_within
  above n e = type_settled recs (shape_within recs n) (plain e)

  pub at_bottom : (n : ℕ) (e : TypeExpr) → n ≡ 0 → shape_within recs n e ≡ bottom_of (settled recs (plain e))
  at_bottom n e z = ap (λ (k : ℕ). shape_within recs k e) z ∙ bottom e

  pub further_up : (n : ℕ) (e : TypeExpr) → 0 < n
      → shape_within recs n e ≡ or_shape (settled recs (plain e)) (struct_shape (numbered_cells recs (shape_within recs (n - 1)) (args_of (plain e)) (fields_of recs (plain e))))
  further_up n e lt =
      let m : n ≡ suc (n - 1) = omega arith in
      ap (λ (k : ℕ). shape_within recs k e) m ∙ above (n - 1) e
