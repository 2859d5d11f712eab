-- A value that moved beside the value itself, by the outermost construct of both.
use Rattle.std.proofs.Common.{◌≡◌, ℕ, ℤ, ◌&&◌, List, refl, sym, subst, ◌∙◌}
use Rattle.std.specs.Prelude.{IsTrue}
use Rattle.std.specs.Cmp.{first_so, second_so}
use Rattle.il_base.specs.declared.ids.FieldId.{FieldId}
use Rattle.il_base.specs.declared.world_model.expr.TypeExpr.{TypeExpr}
use Rattle.il_base.specs.declared.cil_values.path.Path.{Path}
use Rattle.il_base.specs.declared.cil_values.value.Value.{Value, out-Value, roll-Value, roll-out-Value}
use Rattle.il_base.specs.declared.cil_values.value.Value.TheOpen.{Value-F}
use Rattle.il_base.specs.declared.cil_values.value.Value.TheVariants as value
use Rattle.rules.specs.change_rules.Change.{Rho, Change}
use Rattle.rules.specs.change_rules.Moves.{move_field_id, move_expr, move_path, move_value, move_values}
use Rattle.rules.specs.change_rules.Keeps.{keeps_expr, shows_expr, keeps_path, keeps_value, keeps_values}
use Rattle.base_laws.proofs.lemmas.change_laws.Values.{moved_in, move_rolled, keeps_rolled, keeps_pointer, keeps_handle, keeps_field_handle}

-- a relation of a moved value and the value, from one case for each construct
module _ (r : Rho) (R : Value → Value → Type 0)
    (null : R value.Null value.Null)
    (i4 : (n : ℤ) → R (value.I4 n) (value.I4 n))
    (i8 : (n : ℤ) → R (value.I8 n) (value.I8 n))
    (native : (n : ℤ) → R (value.Native n) (value.Native n))
    (object : (a : ℕ) → R (value.Object a) (value.Object a))
    (pointer : (p : Path) → R (value.Pointer (move_path r p)) (value.Pointer p))
    (struct : (e : TypeExpr) (cells : List Value) → R (roll-Value (Value-F.Struct (move_expr r e) (move_values r cells))) (roll-Value (Value-F.Struct e cells)))
    (handle : (e : TypeExpr) → R (value.Handle (move_expr r e)) (value.Handle e))
    (field_handle : (f : FieldId) → R (value.FieldHandle (move_field_id r f)) (value.FieldHandle f)) where
  abbrev At : Value × Value → Type 0
  At p = R p.0 p.1

  by_layer : (x : Value-F Value) → R (roll-Value (moved_in r x)) (roll-Value x)
  by_layer Value-F.Null = subst At (λ i. (sym (value.rolls-Null) i, sym (value.rolls-Null) i)) null
  by_layer (Value-F.I4 n) = subst At (λ i. (sym (value.rolls-I4 n) i, sym (value.rolls-I4 n) i)) (i4 n)
  by_layer (Value-F.I8 n) = subst At (λ i. (sym (value.rolls-I8 n) i, sym (value.rolls-I8 n) i)) (i8 n)
  by_layer (Value-F.Native n) = subst At (λ i. (sym (value.rolls-Native n) i, sym (value.rolls-Native n) i)) (native n)
  by_layer (Value-F.Object a) = subst At (λ i. (sym (value.rolls-Object a) i, sym (value.rolls-Object a) i)) (object a)
  by_layer (Value-F.Pointer p) = subst At (λ i. (sym (value.rolls-Pointer (move_path r p)) i, sym (value.rolls-Pointer p) i)) (pointer p)
  by_layer (Value-F.Struct e cells) = struct e cells
  by_layer (Value-F.Handle e) = subst At (λ i. (sym (value.rolls-Handle (move_expr r e)) i, sym (value.rolls-Handle e) i)) (handle e)
  by_layer (Value-F.FieldHandle f) = subst At (λ i. (sym (value.rolls-FieldHandle (move_field_id r f)) i, sym (value.rolls-FieldHandle f) i)) (field_handle f)

  pub moved_cases : (v : Value) → R (move_value r v) v
  moved_cases v =
      subst (λ (w : Value). R (move_value r w) w) (roll-out-Value v)
      (subst (λ (w : Value). R w (roll-Value (out-Value v))) (sym (move_rolled r (out-Value v))) (by_layer (out-Value v)))

-- the same of a value that is kept, with what that says in each case
pub kept_cases : (k : Change) (R : Value → Value → Type 0)
    → R value.Null value.Null
    → ((n : ℤ) → R (value.I4 n) (value.I4 n))
    → ((n : ℤ) → R (value.I8 n) (value.I8 n))
    → ((n : ℤ) → R (value.Native n) (value.Native n))
    → ((a : ℕ) → R (value.Object a) (value.Object a))
    → ((p : Path) → IsTrue (keeps_path k.keep p) → R (value.Pointer (move_path k.rho p)) (value.Pointer p))
    → ((e : TypeExpr) (cells : List Value) → IsTrue (keeps_expr k.keep e) → IsTrue (keeps_values k.keep cells)
    → R (roll-Value (Value-F.Struct (move_expr k.rho e) (move_values k.rho cells))) (roll-Value (Value-F.Struct e cells)))
    → ((e : TypeExpr) → IsTrue (shows_expr k.keep e) → R (value.Handle (move_expr k.rho e)) (value.Handle e))
    → ((f : FieldId) → IsTrue (k.keep.field f.0) → R (value.FieldHandle (move_field_id k.rho f)) (value.FieldHandle f))
    → (v : Value) → IsTrue (keeps_value k.keep v) → R (move_value k.rho v) v
kept_cases k R null i4 i8 native object pointer struct handle field_handle =
    moved_cases k.rho (λ w v. IsTrue (keeps_value k.keep v) → R w v) (λ h. null) (λ n h. i4 n) (λ n h. i8 n) (λ n h. native n) (λ a h. object a)
    (λ p h. pointer p (sym (keeps_pointer k.keep p) ∙ h))
    (λ e cells h. let g : IsTrue (keeps_expr k.keep e && keeps_values k.keep cells) = sym (keeps_rolled k.keep (Value-F.Struct e cells)) ∙ h in
    struct e cells (first_so (keeps_expr k.keep e) (keeps_values k.keep cells) g) (second_so (keeps_expr k.keep e) (keeps_values k.keep cells) g))
    (λ e h. handle e (sym (keeps_handle k.keep e) ∙ h)) (λ f h. field_handle f (sym (keeps_field_handle k.keep f) ∙ h))

-- a function of values that sees nothing of what moves
pub alike : {A : Type 0} (r : Rho) (f : Value → A)
    → ((p : Path) → f (value.Pointer (move_path r p)) ≡ f (value.Pointer p))
    → ((e : TypeExpr) (cells : List Value) → f (roll-Value (Value-F.Struct (move_expr r e) (move_values r cells))) ≡ f (roll-Value (Value-F.Struct e cells)))
    → ((e : TypeExpr) → f (value.Handle (move_expr r e)) ≡ f (value.Handle e))
    → ((g : FieldId) → f (value.FieldHandle (move_field_id r g)) ≡ f (value.FieldHandle g))
    → (v : Value) → f (move_value r v) ≡ f v
alike r f pointer struct handle field_handle =
    moved_cases r (λ w v. f w ≡ f v) refl (λ n. refl) (λ n. refl) (λ n. refl) (λ a. refl) pointer struct handle field_handle
