-- Which rows go with kept ones where a virtual call looks for a method, and that kept rows stand apart.
use Rattle.std.specs.Prelude.{◌≡◌, ℕ, List, Option, Some, IsTrue}
use Rattle.std.specs.List.{Contains}
use Rattle.std.specs.Option.{option_map, option_and_then}
use Rattle.il_base.specs.declared.world_model.expr.TypeExpr.{TypeExpr}
use Rattle.il_base.specs.declared.world_model.types.TypeDefRow.{TypeDefRow}
use Rattle.il_base.specs.declared.world_model.members.MethodDefRow.{MethodDefRow}
use Rattle.il_base.specs.declared.world_model.record.AsmRec.{AsmRec}
use Rattle.rules.specs.declared.link_rules.row_at.RowAt.{RowAt}
use Rattle.rules.specs.link_rules.Members.{home_from, methods_in, with_bases}
use Rattle.rules.specs.link_rules.Cycles.{same_row}
use Rattle.rules.specs.type_rules.Rows.{type_row_at}
use Rattle.rules.specs.type_rules.Slots.{method_row_at, nearest, slot_of}
use Rattle.rules.specs.type_rules.Dispatch.{Choice, choice_in, in_interface, interface_method, dispatch_slot}
use Rattle.rules.specs.change_rules.Change.{Rho, Keep, Change}
use Rattle.rules.specs.change_rules.Moves.{move_expr}
use Rattle.rules.specs.world_change_rules.Places.{Places, keeps_type_row, keeps_method_row}
use Rattle.rules.specs.world_change_rules.Rows.{Impl, impls_at, keeps_impl}

-- two kept rows that are there stand at one place exactly where they are one
pub record Apart (k : Keep) (p : Places) (recs : List AsmRec) : Type 0 where
  pub types : (a b : RowAt) (x y : TypeDefRow) → IsTrue (keeps_type_row k recs a) → IsTrue (keeps_type_row k recs b) → type_row_at recs a ≡ Some x → type_row_at recs b ≡ Some y
      → same_row (p.typ a) (p.typ b) ≡ same_row a b
  pub methods : (a b : RowAt) (m n : MethodDefRow) → IsTrue (keeps_method_row k recs a) → IsTrue (keeps_method_row k recs b) → method_row_at recs a ≡ Some m → method_row_at recs b ≡ Some n
      → same_row (p.method a) (p.method b) ≡ same_row a b

-- the declaration of a MethodImpl row whose body is kept (II.22.27)
pub record KeepsImpls (k : Keep) (recs : List AsmRec) : Type 0 where
  pub declared : (at : RowAt) (i : Impl) → IsTrue (keeps_type_row k recs at) → Contains (impls_at recs at) i → IsTrue (keeps_impl k i) → IsTrue (k.method i.declaration.method.0)

-- a type with the interface instance that it chooses
abbrev pub move_choice : Rho → Choice → Choice
move_choice r c = record { of = move_expr r c.of; instance = move_expr r c.instance }

-- the slot of the method with a number
abbrev pub slot_numbered : List AsmRec → ℕ → Option RowAt
slot_numbered recs m = option_and_then (slot_of recs) (home_from methods_in 0 recs m)

-- What a call of method m finds for an object of type e is kept, and what the search for an interface slot finds first; the type
-- chooses the same interface instance in both worlds.
pub record KeepsRuns (k : Change) (after before : List AsmRec) (e owner : TypeExpr) (m : ℕ) : Type 0 where
  pub runs : (f : RowAt) → option_and_then (dispatch_slot before e owner) (slot_numbered before m) ≡ Some f → IsTrue (keeps_method_row k.keep before f)
  pub finds : (s f : RowAt) → slot_numbered before m ≡ Some s → IsTrue (in_interface before s) → interface_method before e owner s ≡ Some f → IsTrue (keeps_method_row k.keep before f)
  pub chooses : (s : RowAt) → slot_numbered before m ≡ Some s → IsTrue (in_interface before s)
      → nearest (choice_in after (move_expr k.rho owner)) (with_bases after (move_expr k.rho e)) ≡ option_map (move_choice k.rho) (nearest (choice_in before owner) (with_bases before e))
