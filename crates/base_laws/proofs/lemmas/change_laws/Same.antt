-- Uses and places are led back, and what is the same stays the same.
use Rattle.std.proofs.Common.{◌≡◌, ℕ, Bool, nat_eq, ◌&&◌, refl, sym, ap, ◌∙◌}
use Rattle.std.specs.Bool.{Decides}
use Rattle.std.specs.Cmp.Lexicographic.{pointwise}
use Rattle.std.proofs.lemmas.Bool.Decides.{same_from_decides, Decides-eqb}
use Rattle.il_base.specs.declared.ids.FieldId.{FieldId}
use Rattle.il_base.specs.declared.ids.MethodId.{MethodId}
use Rattle.il_base.specs.declared.world_model.expr.TypeExpr.{TypeExpr}
use Rattle.il_base.specs.declared.world_model.expr.MethodUse.{MethodUse}
use Rattle.il_base.specs.declared.world_model.expr.FieldUse.{FieldUse}
use Rattle.il_base.specs.world_model.Exprs.{same_expr}
use Rattle.il_base.proofs.lemmas.world_model.SameExpr.{same_decides}
use Rattle.il_base.specs.declared.cil_values.path.Path.{Path}
use Rattle.il_base.specs.declared.cil_values.path.Root.{Root}
use Rattle.il_base.specs.declared.cil_values.path.Root.TheVariants as root
use Rattle.il_base.specs.declared.cil_values.state.Global.{Global}
use Rattle.rules.specs.step_rules.Comparisons.{same_root, same_place}
use Rattle.rules.specs.step_rules.Places.{is_global}
use Rattle.rules.specs.change_rules.Change.{Rho, Undone}
use Rattle.rules.specs.change_rules.Moves.{move_field_id, move_method_id, move_expr, move_use, move_field_use, move_root, move_path}
use Rattle.rules.specs.change_rules.States.{move_global}
use Rattle.base_laws.proofs.lemmas.change_laws.Exprs.{expr_back, exprs_back}

module _ (back rho : Rho) (u : Undone back rho) where
  -- ---- led back

  field_back : (f : FieldId) → move_field_id back (move_field_id rho f) ≡ f
  field_back f = ap (λ (n : ℕ). record { 0 = n }) (u.field f.0)

  method_back : (m : MethodId) → move_method_id back (move_method_id rho m) ≡ m
  method_back m = ap (λ (n : ℕ). record { 0 = n }) (u.method m.0)

  pub use_back : (m : MethodUse) → move_use back (move_use rho m) ≡ m
  use_back m = λ i. record { method = method_back m.method i; owner = expr_back back rho u m.owner i; args = exprs_back back rho u m.args i }

  pub field_use_back : (f : FieldUse) → move_field_use back (move_field_use rho f) ≡ f
  field_use_back f = λ i. record { field = field_back f.field i; owner = expr_back back rho u f.owner i }

  root_back : (r : Root) → move_root back (move_root rho r) ≡ r
  root_back (root.Arg n k) = refl
  root_back (root.Local n k) = refl
  root_back (root.Boxed a) = refl
  root_back (root.Element a k) = refl
  root_back (root.Field a f) = ap (root.Field a) (field_back f)
  root_back (root.Static f e) = λ i. root.Static (field_back f i) (expr_back back rho u e i)

  pub path_back : (p : Path) → move_path back (move_path rho p) ≡ p
  path_back p = λ i. record { root = root_back p.root i; steps = p.steps; of = expr_back back rho u p.of i }

  -- ---- the same

  -- a function that is led back keeps what is different apart
  apart : {A : Type 0} (f g : A → A) → ((x : A) → g (f x) ≡ x) → (same : A → A → Bool) → ((x y : A) → Decides (same x y) (x ≡ y)) → (a b : A) → same (f a) (f b) ≡ same a b
  apart f g back_to same decides a b =
      let d : Decides (same (f a) (f b)) (f a ≡ f b) = decides (f a) (f b) in
      same_from_decides (same (f a) (f b)) (same a b) (λ h. sym (back_to a) ∙ ap g (d.0 h) ∙ back_to b, λ e. d.1 (ap f e)) (decides a b)

  pub same_exprs_moved : (a b : TypeExpr) → same_expr (move_expr rho a) (move_expr rho b) ≡ same_expr a b
  same_exprs_moved = apart (move_expr rho) (move_expr back) (expr_back back rho u) same_expr same_decides

  pub same_types_moved : (t s : ℕ) → nat_eq (rho.typ t) (rho.typ s) ≡ nat_eq t s
  same_types_moved = apart rho.typ back.typ u.typ nat_eq Decides-eqb

  pub same_methods_moved : (m n : ℕ) → nat_eq (rho.method m) (rho.method n) ≡ nat_eq m n
  same_methods_moved = apart rho.method back.method u.method nat_eq Decides-eqb

  pub same_fields_moved : (f g : ℕ) → nat_eq (rho.field f) (rho.field g) ≡ nat_eq f g
  same_fields_moved = apart rho.field back.field u.field nat_eq Decides-eqb

  same_roots_moved : (r s : Root) → same_root (move_root rho r) (move_root rho s) ≡ same_root r s
  same_roots_moved (root.Field a f) (root.Field b g) = ap (λ (x : Bool). nat_eq a b && x) (same_fields_moved f.0 g.0)
  same_roots_moved (root.Static f e) (root.Static g d) = λ i. same_fields_moved f.0 g.0 i && same_exprs_moved e d i
  same_roots_moved (root.Arg n k) (root.Arg m l) = refl
  same_roots_moved (root.Local n k) (root.Local m l) = refl
  same_roots_moved (root.Boxed a) (root.Boxed b) = refl
  same_roots_moved (root.Element a k) (root.Element b l) = refl
  same_roots_moved _ _ = refl

  pub same_places_moved : (p o : Path) → same_place (move_path rho p) (move_path rho o) ≡ same_place p o
  unfolding same_place
  same_places_moved p o = ap (λ (x : Bool). x && pointwise nat_eq p.steps o.steps) (same_roots_moved p.root o.root)

  pub same_globals_moved : (f : ℕ) (owner : TypeExpr) (g : Global) → is_global (rho.field f) (move_expr rho owner) (move_global rho g) ≡ is_global f owner g
  same_globals_moved f owner g = λ i. same_fields_moved g.field f i && same_exprs_moved g.owner owner i
