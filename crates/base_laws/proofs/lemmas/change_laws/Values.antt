-- Values under new numbers, and whether they are kept, by their outermost construct.
use Rattle.std.proofs.Common.{◌≡◌, ℕ, ℤ, Bool, true, ◌&&◌, List, [], ◌∷◌, map, refl, sym, ap, ◌∙◌}
use Rattle.std.specs.List.{list_all}
use Rattle.std.specs.Option.{option_map}
use Rattle.il_base.specs.declared.ids.FieldId.{FieldId}
use Rattle.il_base.specs.declared.world_model.expr.TypeExpr.{TypeExpr}
use Rattle.il_base.specs.declared.cil_values.path.Path.{Path}
use Rattle.il_base.specs.declared.cil_values.value.Value.{Value, fold-roll-Value, out-Value, roll-Value, roll-out-Value, out-roll-Value}
use Rattle.il_base.specs.declared.cil_values.value.Value.TheOpen.{Value-F}
use Rattle.il_base.specs.declared.cil_values.value.Value.TheVariants as value
use Rattle.rules.specs.step_rules.Stores.{parts_in, parts_of}
use Rattle.rules.specs.change_rules.Change.{Rho, Keep}
use Rattle.rules.specs.change_rules.Moves.{move_field_id, move_expr, move_path, move_value_layer, move_value, move_values}
use Rattle.rules.specs.change_rules.Answers.{move_parts}
use Rattle.rules.specs.change_rules.Keeps.{keeps_expr, shows_expr, keeps_path, itself, keeps_value_layer, keeps_value, keeps_values}

-- ---- the move

-- the outermost construct of a moved value
abbrev pub moved_in : Rho → Value-F Value → Value-F Value
moved_in r Value-F.Null = Value-F.Null
moved_in r (Value-F.I4 n) = Value-F.I4 n
moved_in r (Value-F.I8 n) = Value-F.I8 n
moved_in r (Value-F.Native n) = Value-F.Native n
moved_in r (Value-F.Object a) = Value-F.Object a
moved_in r (Value-F.Pointer p) = Value-F.Pointer (move_path r p)
moved_in r (Value-F.Struct of cells) = Value-F.Struct (move_expr r of) (move_values r cells)
moved_in r (Value-F.Handle e) = Value-F.Handle (move_expr r e)
moved_in r (Value-F.FieldHandle f) = Value-F.FieldHandle (move_field_id r f)

module _ (r : Rho) where
  pub move_rolled : (x : Value-F Value) → move_value r (roll-Value x) ≡ roll-Value (moved_in r x)
  unfolding move_value
  move_rolled Value-F.Null = fold-roll-Value Value (move_value_layer r) Value-F.Null ∙ sym value.rolls-Null
  move_rolled (Value-F.I4 n) = fold-roll-Value Value (move_value_layer r) (Value-F.I4 n) ∙ sym (value.rolls-I4 n)
  move_rolled (Value-F.I8 n) = fold-roll-Value Value (move_value_layer r) (Value-F.I8 n) ∙ sym (value.rolls-I8 n)
  move_rolled (Value-F.Native n) = fold-roll-Value Value (move_value_layer r) (Value-F.Native n) ∙ sym (value.rolls-Native n)
  move_rolled (Value-F.Object a) = fold-roll-Value Value (move_value_layer r) (Value-F.Object a) ∙ sym (value.rolls-Object a)
  move_rolled (Value-F.Pointer p) = fold-roll-Value Value (move_value_layer r) (Value-F.Pointer p) ∙ sym (value.rolls-Pointer (move_path r p))
  move_rolled (Value-F.Struct of cells) = fold-roll-Value Value (move_value_layer r) (Value-F.Struct of cells) ∙ sym (value.rolls-Struct (move_expr r of) (move_values r cells))
  move_rolled (Value-F.Handle e) = fold-roll-Value Value (move_value_layer r) (Value-F.Handle e) ∙ sym (value.rolls-Handle (move_expr r e))
  move_rolled (Value-F.FieldHandle f) = fold-roll-Value Value (move_value_layer r) (Value-F.FieldHandle f) ∙ sym (value.rolls-FieldHandle (move_field_id r f))

  -- with the outermost construct in sight
  pub move_opened : (v : Value) → move_value r v ≡ roll-Value (moved_in r (out-Value v))
  move_opened v = ap (move_value r) (sym (roll-out-Value v)) ∙ move_rolled (out-Value v)

  pub out_moved : (v : Value) → out-Value (move_value r v) ≡ moved_in r (out-Value v)
  out_moved v = ap (λ (x : Value). out-Value (move_value r x)) (sym (roll-out-Value v)) ∙ ap out-Value (move_rolled (out-Value v)) ∙ out-roll-Value (moved_in r (out-Value v))

  pub move_null : move_value r value.Null ≡ value.Null
  move_null = ap (move_value r) (sym value.rolls-Null) ∙ move_rolled Value-F.Null ∙ value.rolls-Null

  pub move_i4 : (n : ℤ) → move_value r (value.I4 n) ≡ value.I4 n
  move_i4 n = ap (move_value r) (sym (value.rolls-I4 n)) ∙ move_rolled (Value-F.I4 n) ∙ (value.rolls-I4 n)

  pub move_i8 : (n : ℤ) → move_value r (value.I8 n) ≡ value.I8 n
  move_i8 n = ap (move_value r) (sym (value.rolls-I8 n)) ∙ move_rolled (Value-F.I8 n) ∙ (value.rolls-I8 n)

  pub move_native : (n : ℤ) → move_value r (value.Native n) ≡ value.Native n
  move_native n = ap (move_value r) (sym (value.rolls-Native n)) ∙ move_rolled (Value-F.Native n) ∙ (value.rolls-Native n)

  pub move_object : (a : ℕ) → move_value r (value.Object a) ≡ value.Object a
  move_object a = ap (move_value r) (sym (value.rolls-Object a)) ∙ move_rolled (Value-F.Object a) ∙ (value.rolls-Object a)

  pub move_pointer : (p : Path) → move_value r (value.Pointer p) ≡ value.Pointer (move_path r p)
  move_pointer p = ap (move_value r) (sym (value.rolls-Pointer p)) ∙ move_rolled (Value-F.Pointer p) ∙ (value.rolls-Pointer (move_path r p))

  pub move_struct : (of : TypeExpr) (cells : List Value) → move_value r (value.Struct of cells) ≡ value.Struct (move_expr r of) (move_values r cells)
  move_struct of cells = ap (move_value r) (sym (value.rolls-Struct of cells)) ∙ move_rolled (Value-F.Struct of cells) ∙ (value.rolls-Struct (move_expr r of) (move_values r cells))

  pub move_handle : (e : TypeExpr) → move_value r (value.Handle e) ≡ value.Handle (move_expr r e)
  move_handle e = ap (move_value r) (sym (value.rolls-Handle e)) ∙ move_rolled (Value-F.Handle e) ∙ (value.rolls-Handle (move_expr r e))

  pub move_field_handle : (f : FieldId) → move_value r (value.FieldHandle f) ≡ value.FieldHandle (move_field_id r f)
  move_field_handle f = ap (move_value r) (sym (value.rolls-FieldHandle f)) ∙ move_rolled (Value-F.FieldHandle f) ∙ (value.rolls-FieldHandle (move_field_id r f))

-- a move, one level of a value at a time
pub ruleset moving_values = (move_null, move_i4, move_i8, move_native, move_object, move_pointer, move_struct, move_handle, move_field_handle)

-- ---- what is kept

all_itself : (k : Keep) (cells : List Value) → list_all itself (map (keeps_value k) cells) ≡ keeps_values k cells
all_itself k [] = refl
all_itself k (v ∷ vs) = ap (λ (b : Bool). keeps_value k v && b) (all_itself k vs)

abbrev pub keeps_in : Keep → Value-F Value → Bool
keeps_in k (Value-F.Pointer p) = keeps_path k p
keeps_in k (Value-F.Struct of cells) = keeps_expr k of && keeps_values k cells
keeps_in k (Value-F.Handle e) = shows_expr k e
keeps_in k (Value-F.FieldHandle f) = k.field f.0
keeps_in k _ = true

module _ (k : Keep) where
  pub keeps_rolled : (x : Value-F Value) → keeps_value k (roll-Value x) ≡ keeps_in k x
  unfolding keeps_value
  keeps_rolled Value-F.Null = fold-roll-Value Bool (keeps_value_layer k) Value-F.Null
  keeps_rolled (Value-F.I4 n) = fold-roll-Value Bool (keeps_value_layer k) (Value-F.I4 n)
  keeps_rolled (Value-F.I8 n) = fold-roll-Value Bool (keeps_value_layer k) (Value-F.I8 n)
  keeps_rolled (Value-F.Native n) = fold-roll-Value Bool (keeps_value_layer k) (Value-F.Native n)
  keeps_rolled (Value-F.Object a) = fold-roll-Value Bool (keeps_value_layer k) (Value-F.Object a)
  keeps_rolled (Value-F.Pointer p) = fold-roll-Value Bool (keeps_value_layer k) (Value-F.Pointer p)
  keeps_rolled (Value-F.Struct of cells) = fold-roll-Value Bool (keeps_value_layer k) (Value-F.Struct of cells) ∙ ap (λ (b : Bool). keeps_expr k of && b) (all_itself k cells)
  keeps_rolled (Value-F.Handle e) = fold-roll-Value Bool (keeps_value_layer k) (Value-F.Handle e)
  keeps_rolled (Value-F.FieldHandle f) = fold-roll-Value Bool (keeps_value_layer k) (Value-F.FieldHandle f)

  pub keeps_out : (v : Value) → keeps_value k v ≡ keeps_in k (out-Value v)
  keeps_out v = ap (keeps_value k) (sym (roll-out-Value v)) ∙ keeps_rolled (out-Value v)

  pub keeps_null : keeps_value k value.Null ≡ true
  keeps_null = ap (keeps_value k) (sym value.rolls-Null) ∙ keeps_rolled Value-F.Null

  pub keeps_i4 : (n : ℤ) → keeps_value k (value.I4 n) ≡ true
  keeps_i4 n = ap (keeps_value k) (sym (value.rolls-I4 n)) ∙ keeps_rolled (Value-F.I4 n)

  pub keeps_i8 : (n : ℤ) → keeps_value k (value.I8 n) ≡ true
  keeps_i8 n = ap (keeps_value k) (sym (value.rolls-I8 n)) ∙ keeps_rolled (Value-F.I8 n)

  pub keeps_native : (n : ℤ) → keeps_value k (value.Native n) ≡ true
  keeps_native n = ap (keeps_value k) (sym (value.rolls-Native n)) ∙ keeps_rolled (Value-F.Native n)

  pub keeps_object : (a : ℕ) → keeps_value k (value.Object a) ≡ true
  keeps_object a = ap (keeps_value k) (sym (value.rolls-Object a)) ∙ keeps_rolled (Value-F.Object a)

  pub keeps_pointer : (p : Path) → keeps_value k (value.Pointer p) ≡ keeps_path k p
  keeps_pointer p = ap (keeps_value k) (sym (value.rolls-Pointer p)) ∙ keeps_rolled (Value-F.Pointer p)

  pub keeps_struct : (of : TypeExpr) (cells : List Value) → keeps_value k (value.Struct of cells) ≡ (keeps_expr k of && keeps_values k cells)
  keeps_struct of cells = ap (keeps_value k) (sym (value.rolls-Struct of cells)) ∙ keeps_rolled (Value-F.Struct of cells)

  pub keeps_handle : (e : TypeExpr) → keeps_value k (value.Handle e) ≡ shows_expr k e
  keeps_handle e = ap (keeps_value k) (sym (value.rolls-Handle e)) ∙ keeps_rolled (Value-F.Handle e)

  pub keeps_field_handle : (f : FieldId) → keeps_value k (value.FieldHandle f) ≡ k.field f.0
  keeps_field_handle f = ap (keeps_value k) (sym (value.rolls-FieldHandle f)) ∙ keeps_rolled (Value-F.FieldHandle f)

-- whether a value is kept, one level at a time
pub ruleset keeping_values = (keeps_null, keeps_i4, keeps_i8, keeps_native, keeps_object, keeps_pointer, keeps_struct, keeps_handle, keeps_field_handle)

-- ---- structs

parts_in_moved : (r : Rho) (x : Value-F Value) → parts_in (moved_in r x) ≡ option_map (move_parts r) (parts_in x)
parts_in_moved r Value-F.Null = refl
parts_in_moved r (Value-F.I4 n) = refl
parts_in_moved r (Value-F.I8 n) = refl
parts_in_moved r (Value-F.Native n) = refl
parts_in_moved r (Value-F.Object a) = refl
parts_in_moved r (Value-F.Pointer p) = refl
parts_in_moved r (Value-F.Struct of cells) = refl
parts_in_moved r (Value-F.Handle e) = refl
parts_in_moved r (Value-F.FieldHandle f) = refl

-- a struct's type and cells
pub parts_moved : (r : Rho) (v : Value) → parts_of (move_value r v) ≡ option_map (move_parts r) (parts_of v)
unfolding parts_of
parts_moved r v = ap parts_in (out_moved r v) ∙ parts_in_moved r (out-Value v)
