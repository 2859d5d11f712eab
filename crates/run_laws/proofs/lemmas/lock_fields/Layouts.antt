-- Cells of structs and of instances, by their fields.
use Rattle.std.proofs.Common.{◌≡◌, ℕ, suc, Bool, true, false, List, [], ◌∷◌, map, Option, Some, None, refl, sym, ap, subst, ◌∙◌}
use Rattle.std.specs.Prelude.{IsTrue, cond}
use Rattle.std.specs.List.{list_all}
use Rattle.std.specs.Option.{option_map, option_and_then}
use Rattle.std.specs.Cmp.{first_so, second_so}
use Rattle.std.proofs.lemmas.Bool.{eqb-true}
use Rattle.il_base.specs.declared.world_model.expr.TypeExpr.{TypeExpr}
use Rattle.il_base.specs.declared.cil_values.layout.Cell.{Cell}
use Rattle.il_base.specs.declared.cil_values.layout.Layout.{Layout}
use Rattle.il_base.specs.declared.cil_values.layout.Shape.{Shape}
use Rattle.il_base.specs.declared.cil_values.layout.Cell.TheVariants.{Field as of_field, Message as message, Inner as inner}
use Rattle.il_base.specs.declared.cil_values.layout.Shape.TheVariants.{Reference as reference, Pointer as pointer, Integer as integer, TypeHandle as type_handle, FieldHandle as field_handle, Structure as structure, NoValue as no_value}
use Rattle.rules.specs.step_rules.Queries.{Queries}
use Rattle.rules.specs.step_rules.Places.{same_cell, cell_place}
use Rattle.rules.specs.step_rules.Fields.{layout_of, StructCell, cell_with, struct_cell_in, struct_cell}
use Rattle.rules.specs.change_rules.Keeping.{keep}
use Rattle.rules.specs.change_rules.Change.{Rho, Keep, Change}
use Rattle.rules.specs.change_rules.Moves.{move_expr}
use Rattle.rules.specs.change_rules.Answers.{move_cell, move_layout, move_shape}
use Rattle.rules.specs.change_rules.States.{keeps_cell, keeps_place, mask}
use Rattle.rules.specs.change_rules.Keeps.{keeps_expr, keeps_value, keeps_layout, keeps_shape}
use Rattle.rules.specs.change_rules.Agree.{Agree}
use Rattle.base_laws.proofs.lemmas.change_laws.Same.{same_fields_moved}
use Rattle.base_laws.proofs.lemmas.change_laws.Lists.{find_moved}
use Rattle.base_laws.proofs.lemmas.change_laws.Cells.{place_step}
use Rattle.run_laws.proofs.lemmas.lock_places.Options.{Through, through_is, Made, made_is, some_is}

abbrev pub move_struct_cell : Rho → StructCell → StructCell
move_struct_cell r c = record { number = c.number; typ = move_expr r c.typ }

module _ (k : Change) where
  pub same_moved : (c d : Cell) → same_cell (move_cell k.rho c) (move_cell k.rho d) ≡ same_cell c d
  same_moved (of_field x) (of_field y) = same_fields_moved k.back k.rho k.undone x y
  same_moved (of_field x) message = refl
  same_moved (of_field x) inner = refl
  same_moved message (of_field y) = refl
  same_moved message message = refl
  same_moved message inner = refl
  same_moved inner (of_field y) = refl
  same_moved inner message = refl
  same_moved inner inner = refl

  layout_moved : (c : Cell) (ls : List Layout) → layout_of (move_cell k.rho c) (map (move_layout k.rho) ls) ≡ option_map (move_layout k.rho) (layout_of c ls)
  layout_moved c ls = find_moved (move_layout k.rho) (λ (l : Layout). same_cell c l.cell) (λ (l : Layout). same_cell (move_cell k.rho c) l.cell) (λ l. same_moved c l.cell) ls

  no_place : (c d : Cell) → cell_place c [] ≡ cell_place d []
  unfolding cell_place
  no_place c d = refl

  place_all : (c : Cell) (ls : List Layout) → cell_place (move_cell k.rho c) (map (move_layout k.rho) ls) ≡ cell_place c ls
  place_all c [] = no_place (move_cell k.rho c) c
  place_all c (l ∷ ls) =
      place_step (move_cell k.rho c) (move_layout k.rho l) (map (move_layout k.rho) ls)
      ∙ (λ i. cond (same_moved c l.cell i) (Some 0) (option_map suc (place_all c ls i))) ∙ sym (place_step c l ls)

  struct_by : (n : ℕ) (o : Option Layout)
      → option_map (λ (l : Layout). record { number = n; typ = l.typ }) (option_map (move_layout k.rho) o) ≡ option_map (move_struct_cell k.rho) (option_map (λ (l : Layout). record { number = n; typ = l.typ }) o)
  struct_by n None = refl
  struct_by n (Some l) = refl

  cell_with_moved : (ls : List Layout) (c : Cell) (o : Option ℕ)
      → option_and_then (cell_with (map (move_layout k.rho) ls) (move_cell k.rho c)) o ≡ option_map (move_struct_cell k.rho) (option_and_then (cell_with ls c) o)
  cell_with_moved ls c None = refl
  cell_with_moved ls c (Some n) = ap (option_map (λ (l : Layout). record { number = n; typ = l.typ })) (layout_moved c ls) ∙ struct_by n (layout_of c ls)

  struct_in_moved : (c : Cell) (s : Shape) → struct_cell_in (move_cell k.rho c) (move_shape k.rho s) ≡ option_map (move_struct_cell k.rho) (struct_cell_in c s)
  struct_in_moved c reference = refl
  struct_in_moved c pointer = refl
  struct_in_moved c (integer code) = refl
  struct_in_moved c type_handle = refl
  struct_in_moved c field_handle = refl
  struct_in_moved c (structure ls) = ap (option_and_then (cell_with (map (move_layout k.rho) ls) (move_cell k.rho c))) (place_all c ls) ∙ cell_with_moved ls c (cell_place c ls)
  struct_in_moved c no_value = refl

-- ---- what is found is kept

module _ (k : Keep) where
  pub layout_typ : (l : Layout) → IsTrue (keeps_layout k l) → IsTrue (keeps_expr k l.typ)
  layout_typ l h = second_so _ (keeps_expr k l.typ) (first_so _ (keeps_value k l.zero) h)

  pub layout_kept : (c : Cell) (ls : List Layout) (l : Layout) → IsTrue (list_all (keeps_layout k) ls) → layout_of c ls ≡ Some l → IsTrue (keeps_layout k l)
  layout_kept c [] l h e = cc
  layout_kept c (x ∷ ls) l h e = by_test (same_cell c x.cell) (λ r. layout_kept c ls l (second_so (keeps_layout k x) (list_all (keeps_layout k) ls) h) r) e
    where
      by_test : (b : Bool) → (layout_of c ls ≡ Some l → IsTrue (keeps_layout k l)) → cond b (Some x) (layout_of c ls) ≡ Some l → IsTrue (keeps_layout k l)
      by_test true rest e = some_is (λ y. IsTrue (keeps_layout k y)) x l e (first_so (keeps_layout k x) (list_all (keeps_layout k) ls) h)
      by_test false rest e = rest e

  struct_kept_in : (c : Cell) (s : Shape) (x : StructCell) → IsTrue (keeps_shape k s) → struct_cell_in c s ≡ Some x → IsTrue (keeps_expr k x.typ)
  struct_kept_in c reference x h e = cc
  struct_kept_in c pointer x h e = cc
  struct_kept_in c (integer code) x h e = cc
  struct_kept_in c type_handle x h e = cc
  struct_kept_in c field_handle x h e = cc
  struct_kept_in c (structure ls) x h e =
      let t : Through (cell_with ls c) (cell_place c ls) x = through_is _ _ _ e in
      let m : Made (λ (l : Layout). record { number = t.x; typ = l.typ }) (layout_of c ls) x = made_is _ _ _ t.is in
      subst (λ (y : StructCell). IsTrue (keeps_expr k y.typ)) m.is (layout_typ m.x (layout_kept c ls m.x h m.there))
  struct_kept_in c no_value x h e = cc

  -- a kept cell is found among those that stay
  alike_kept : (c d : Cell) → same_cell c d ≡ true → IsTrue (keeps_cell k c) → IsTrue (keeps_cell k d)
  alike_kept (of_field x) (of_field y) e h = let is : x ≡ y = eqb-true x y e in ap k.field (sym is) ∙ h
  alike_kept (of_field x) message e h = refl
  alike_kept (of_field x) inner e h = refl
  alike_kept message (of_field y) e h = cc
  alike_kept message message e h = refl
  alike_kept message inner e h = refl
  alike_kept inner (of_field y) e h = cc
  alike_kept inner message e h = refl
  alike_kept inner inner e h = refl

  unlike : (c d : Cell) (s : Bool) → same_cell c d ≡ s → IsTrue (keeps_cell k c) → keeps_cell k d ≡ false → s ≡ false
  unlike c d true e h f = sym (alike_kept c d e h) ∙ f
  unlike c d false e h f = refl

  stays_by : (c : Cell) (l : Layout) (ls : List Layout) (b : Bool) → IsTrue (keeps_cell k c) → keeps_place k l ≡ b → layout_of c (keep (mask k ls) ls) ≡ layout_of c ls
      → layout_of c (keep (b ∷ mask k ls) (l ∷ ls)) ≡ layout_of c (l ∷ ls)
  unfolding keep
  stays_by c l ls true h e rest = ap (cond (same_cell c l.cell) (Some l)) rest
  stays_by c l ls false h e rest = rest ∙ ap (λ (b : Bool). cond b (Some l) (layout_of c ls)) (sym (unlike c l.cell (same_cell c l.cell) refl h e))

  nothing_kept : (c : Cell) → layout_of c (keep (mask k []) []) ≡ layout_of c []
  unfolding keep
  nothing_kept c = refl

  pub layout_stays : (c : Cell) → IsTrue (keeps_cell k c) → (ls : List Layout) → layout_of c (keep (mask k ls) ls) ≡ layout_of c ls
  layout_stays c h [] = nothing_kept c
  layout_stays c h (l ∷ ls) = stays_by c l ls (keeps_place k l) h refl (layout_stays c h ls)

module _ (k : Change) (after before : Queries) (a : Agree k after before) where
  pub struct_cell_moved : (e : TypeExpr) (c : Cell) → IsTrue (keeps_expr k.keep e) → struct_cell after (move_expr k.rho e) (move_cell k.rho c) ≡ option_map (move_struct_cell k.rho) (struct_cell before e c)
  unfolding struct_cell
  struct_cell_moved e c h = ap (struct_cell_in (move_cell k.rho c)) (a.shape e h) ∙ struct_in_moved k c (before.shape e)

  pub struct_cell_kept : (e : TypeExpr) (c : Cell) (x : StructCell) → IsTrue (keeps_expr k.keep e) → struct_cell before e c ≡ Some x → IsTrue (keeps_expr k.keep x.typ)
  unfolding struct_cell
  struct_cell_kept e c x h is = struct_kept_in k.keep c (before.shape e) x (a.keeps_shapes e h) is

  pub instance_layout_moved : (e : TypeExpr) (c : Cell) → IsTrue (keeps_expr k.keep e) → IsTrue (keeps_cell k.keep c)
      → layout_of (move_cell k.rho c) (after.cells (move_expr k.rho e)) ≡ option_map (move_layout k.rho) (layout_of c (before.cells e))
  instance_layout_moved e c h g =
      ap (layout_of (move_cell k.rho c)) (a.cells e h) ∙ layout_moved k c (keep (mask k.keep (before.cells e)) (before.cells e)) ∙ ap (option_map (move_layout k.rho)) (layout_stays k.keep c g (before.cells e))

  pub instance_layout_kept : (e : TypeExpr) (c : Cell) (l : Layout) → IsTrue (keeps_expr k.keep e) → IsTrue (keeps_cell k.keep c) → layout_of c (before.cells e) ≡ Some l → IsTrue (keeps_expr k.keep l.typ)
  instance_layout_kept e c l h g is =
      layout_typ k.keep l (layout_kept k.keep c (keep (mask k.keep (before.cells e)) (before.cells e)) l (a.keeps_cells e h) (layout_stays k.keep c g (before.cells e) ∙ is))
