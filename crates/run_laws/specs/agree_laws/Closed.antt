-- What kept rows lead to is kept: all that a step of a kept method can reach. The rules of marking are to give it.
use Rattle.std.specs.Prelude.{◌≡◌, ℕ, Some, Bool, true, false, List, IsTrue}
use Rattle.std.specs.Option.{option_and_then}
use Rattle.il_base.specs.declared.world_model.expr.TypeExpr.{TypeExpr}
use Rattle.il_base.specs.declared.world_model.members.MethodDefRow.{MethodDefRow}
use Rattle.il_base.specs.declared.world_model.record.AsmRec.{AsmRec}
use Rattle.il_base.specs.declared.core_table.names.CoreName.{CoreName}
use Rattle.il_base.specs.declared.core_table.names.CoreName.TheVariants as core
use Rattle.rules.specs.declared.link_rules.row_at.RowAt.{RowAt}
use Rattle.rules.specs.type_rules.Slots.{is_virtual, method_row_at}
use Rattle.rules.specs.type_rules.Dispatch.{in_interface, interface_method, dispatch_slot}
use Rattle.rules.specs.type_rules.Initializers.{initializer}
use Rattle.il_base.specs.declared.cil_values.core_call.CoreCall.{CoreCall}
use Rattle.il_base.specs.declared.cil_values.definition.Method.{Method}
use Rattle.rules.specs.step_rules.CoreSearches.{searches}
use Rattle.rules.specs.step_rules.Stores.{is_value}
use Rattle.rules.specs.view_rules.Members.{core_call}
use Rattle.rules.specs.view_rules.Methods.{method_query}
use Rattle.rules.specs.view_rules.Answers.{core_type_id, core_method_id, queries_of}
use Rattle.rules.specs.change_rules.Change.{Keep}
use Rattle.rules.specs.change_rules.Keeps.{keeps_expr, makes_expr, keeps_made, can_call, is_of_owner, keeps_method}
use Rattle.rules.specs.change_rules.Agree.{is_asked, keeps_core}
use Rattle.rules.specs.world_change_rules.Places.{method_number, keeps_method_row}
use Rattle.rules.specs.world_change_rules.Kept.{KeepsRows}
use Rattle.run_laws.specs.dispatch_laws.Kept.{KeepsImpls, slot_numbered}
use Rattle.run_laws.specs.subtype_laws.Gone.{KeepsImplied}

pub record Closed (k : Keep) (kept : RowAt → Bool) (recs : List AsmRec) : Type 0 where
  -- what rows name
  pub rows : KeepsRows k kept recs
  pub implied : KeepsImplied k kept recs
  pub impls : KeepsImpls k recs
  -- what a method's signature and body name
  pub methods : (m : ℕ) (f : Method) → IsTrue (k.method m) → method_query recs m ≡ Some f → IsTrue (keeps_method k (queries_of recs) f)
  -- no method that can be called is a member that searches; a virtual method and an initializer can be called
  pub searches_nothing : (m : ℕ) (c : CoreCall) → IsTrue (k.called m) → core_call recs m ≡ Some c → searches c ≡ false
  pub slots_called : (at : RowAt) (m : MethodDefRow) → method_row_at recs at ≡ Some m → is_virtual m ≡ true → IsTrue (k.called (method_number recs at))
  pub starts_called : (at m : RowAt) → initializer recs at ≡ Some m → IsTrue (k.called (method_number recs m))
  -- what a virtual call of a kept method runs for an object of a type that is made, and what the search for an interface slot finds first
  pub runs : (e owner : TypeExpr) (m : ℕ) (f : RowAt) → IsTrue (keeps_made k e) → IsTrue (keeps_expr k owner) → IsTrue (k.method m) → IsTrue (is_of_owner (method_query recs m) owner)
      → option_and_then (dispatch_slot recs e owner) (slot_numbered recs m) ≡ Some f → IsTrue (keeps_method_row k recs f)
  pub finds : (e owner : TypeExpr) (m : ℕ) (s f : RowAt) → IsTrue (keeps_made k e) → IsTrue (keeps_expr k owner) → IsTrue (k.method m) → IsTrue (is_of_owner (method_query recs m) owner)
      → slot_numbered recs m ≡ Some s → IsTrue (in_interface recs s) → interface_method recs e owner s ≡ Some f → IsTrue (keeps_method_row k recs f)
  -- a value type of which there can be values
  pub values : (e : TypeExpr) → IsTrue (keeps_expr k e) → is_value (queries_of recs) e ≡ true → IsTrue (makes_expr k e)
  -- what a step asks of the core library
  pub known : (n : CoreName) → IsTrue (is_asked n) → IsTrue (keeps_core k (core_type_id recs n))
  pub to_string : IsTrue (can_call k (core_method_id recs core.ToString))
  pub equals : IsTrue (can_call k (core_method_id recs core.Equals))
