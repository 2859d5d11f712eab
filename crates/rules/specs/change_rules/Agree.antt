-- When a world has what a run of kept methods asks of another: `after` is the world with new numbers, `before` the one that it
-- was made from. Nothing is asked of what isn't kept.
use Rattle.std.specs.Prelude.{◌≡◌, ℕ, map, Bool, true, false, ◌&&◌, Some, IsTrue}
use Rattle.std.specs.List.{list_all}
use Rattle.std.specs.Option.{option_map}
use Rattle.il_base.specs.declared.world_model.expr.TypeExpr.{TypeExpr}
use Rattle.il_base.specs.declared.world_model.expr.MethodUse.{MethodUse}
use Rattle.il_base.specs.declared.core_table.names.CoreName.{CoreName}
use Rattle.il_base.specs.declared.core_table.names.CoreName.TheVariants as name
use Rattle.il_base.specs.declared.cil_values.core_call.CoreCall.{CoreCall}
use Rattle.il_base.specs.declared.cil_values.definition.Method.{Method}
use Rattle.il_base.specs.declared.cil_values.definition.FieldDef.{FieldDef}
use Rattle.rules.specs.step_rules.Queries.{Queries}
use Rattle.rules.specs.step_rules.Stores.{is_value}
use Rattle.rules.specs.step_rules.CoreSearches.{searches}
use Rattle.rules.specs.change_rules.Keeping.{keep}
use Rattle.rules.specs.change_rules.Change.{Keep, Change}
use Rattle.rules.specs.change_rules.Moves.{move_expr, move_use}
use Rattle.rules.specs.change_rules.Answers.{move_method, move_field, move_layout, move_shape}
use Rattle.rules.specs.change_rules.States.{mask}
use Rattle.rules.specs.change_rules.Keeps.{keeps_expr, keeps_defined, shows_expr, makes_expr, keeps_made, can_call, keeps_use, is_of_owner, keeps_method, keeps_field, keeps_layout, keeps_shape}

-- the types of the core library that a step asks for by name: those of the exceptions that it raises, and of objects of reflection
unfoldable pub is_asked : CoreName → Bool
is_asked name.Exception = true
is_asked name.NullReferenceException = true
is_asked name.InvalidCastException = true
is_asked name.IndexOutOfRangeException = true
is_asked name.ArrayTypeMismatchException = true
is_asked name.ArithmeticException = true
is_asked name.DivideByZeroException = true
is_asked name.OverflowException = true
is_asked name.TypeInitializationException = true
is_asked name.TargetInvocationException = true
is_asked name.ArgumentException = true
is_asked name.ArgumentNullException = true
is_asked name.ArgumentOutOfRangeException = true
is_asked name.FormatException = true
is_asked name.Type = true
is_asked name.MemberInfo = true
is_asked name.MethodInfo = true
is_asked name.FieldInfo = true
is_asked name.PropertyInfo = true
is_asked name.ValueType = true
is_asked name.Enum = true
is_asked _ = false

-- a type of the core library of which there are objects
abbrev pub keeps_core : Keep → ℕ → Bool
keeps_core k t = k.typ t && k.made t && k.shown t

pub record Agree (k : Change) (after before : Queries) : Type 0 where
  -- ---- the same answers, with new numbers
  pub core : (m : ℕ) → IsTrue (k.keep.method m) → after.core (k.rho.method m) ≡ before.core m
  -- no method that can be called is a member that searches: what such a member gives depends on what isn't kept, too
  pub searches_nothing : (m : ℕ) (c : CoreCall) → IsTrue (k.keep.called m) → before.core m ≡ Some c → searches c ≡ false
  pub known : (n : CoreName) → IsTrue (is_asked n) → after.known n ≡ k.rho.typ (before.known n)
  pub method : (m : ℕ) → IsTrue (k.keep.method m) → after.method (k.rho.method m) ≡ option_map (move_method k.rho) (before.method m)
  pub field : (f : ℕ) → IsTrue (k.keep.field f) → after.field (k.rho.field f) ≡ option_map (move_field k.rho) (before.field f)
  pub head : (t : ℕ) → IsTrue (k.keep.typ t) → after.head (k.rho.typ t) ≡ before.head t
  pub shape : (e : TypeExpr) → IsTrue (keeps_expr k.keep e) → after.shape (move_expr k.rho e) ≡ move_shape k.rho (before.shape e)
  -- the same cells, but those of fields that aren't kept
  pub cells : (e : TypeExpr) → IsTrue (keeps_expr k.keep e)
      → after.cells (move_expr k.rho e) ≡ map (move_layout k.rho) (keep (mask k.keep (before.cells e)) (before.cells e))
  pub starts : (t : ℕ) → IsTrue (k.keep.begun t) → after.starts (k.rho.typ t) ≡ option_map k.rho.method (before.starts t)
  pub below : (a b : TypeExpr) → IsTrue (keeps_expr k.keep a) → IsTrue (keeps_defined k.keep b)
      → after.below (move_expr k.rho a) (move_expr k.rho b) ≡ before.below a b
  -- virtual calls of a method on a type of its owner's definition
  pub answers : (e owner : TypeExpr) (m : ℕ) → IsTrue (keeps_made k.keep e) → IsTrue (keeps_expr k.keep owner) → IsTrue (k.keep.method m) → IsTrue (is_of_owner (before.method m) owner)
      → after.answers (move_expr k.rho e) (move_expr k.rho owner) (k.rho.method m) ≡ option_map (move_use k.rho) (before.answers e owner m)
  pub text : (e : TypeExpr) → IsTrue (shows_expr k.keep e) → after.text (move_expr k.rho e) ≡ before.text e
  pub label : (e : TypeExpr) → IsTrue (shows_expr k.keep e) → after.label (move_expr k.rho e) ≡ before.label e
  pub space : (e : TypeExpr) → IsTrue (shows_expr k.keep e) → after.space (move_expr k.rho e) ≡ before.space e
  pub encloser : (t : ℕ) → IsTrue (k.keep.shown t) → after.encloser (k.rho.typ t) ≡ option_map k.rho.typ (before.encloser t)
  pub kin : (e : TypeExpr) → IsTrue (keeps_expr k.keep e) → after.kin (move_expr k.rho e) ≡ before.kin e
  pub to_string : after.to_string ≡ k.rho.method before.to_string
  pub equals : after.equals ≡ k.rho.method before.equals
  -- ---- what the answers name is kept
  pub keeps_known : (n : CoreName) → IsTrue (is_asked n) → IsTrue (keeps_core k.keep (before.known n))
  pub keeps_methods : (m : ℕ) (f : Method) → IsTrue (k.keep.method m) → before.method m ≡ Some f → IsTrue (keeps_method k.keep before f)
  pub keeps_fields : (m : ℕ) (f : FieldDef) → IsTrue (k.keep.field m) → before.field m ≡ Some f → IsTrue (keeps_field k.keep f)
  -- the type of each instance field of a value type that is kept
  pub keeps_shapes : (e : TypeExpr) → IsTrue (keeps_expr k.keep e) → IsTrue (keeps_shape k.keep (before.shape e))
  pub keeps_cells : (e : TypeExpr) → IsTrue (keeps_expr k.keep e)
      → IsTrue (list_all (keeps_layout k.keep) (keep (mask k.keep (before.cells e)) (before.cells e)))
  pub keeps_starts : (t m : ℕ) → IsTrue (k.keep.begun t) → before.starts t ≡ Some m → IsTrue (can_call k.keep m)
  pub keeps_answers : (e owner : TypeExpr) (m : ℕ) (u : MethodUse) → IsTrue (keeps_made k.keep e) → IsTrue (keeps_expr k.keep owner)
      → IsTrue (k.keep.method m) → IsTrue (is_of_owner (before.method m) owner) → before.answers e owner m ≡ Some u → IsTrue (keeps_use k.keep u)
  -- a type around one that is shown
  pub keeps_encloser : (t u : ℕ) → IsTrue (k.keep.shown t) → before.encloser t ≡ Some u → IsTrue (k.keep.typ u && k.keep.shown u)
  pub keeps_to_string : IsTrue (can_call k.keep before.to_string)
  pub keeps_equals : IsTrue (can_call k.keep before.equals)
  -- there can be objects of each value type that is kept
  pub makes_values : (e : TypeExpr) → IsTrue (keeps_expr k.keep e) → is_value before e ≡ true → IsTrue (makes_expr k.keep e)
