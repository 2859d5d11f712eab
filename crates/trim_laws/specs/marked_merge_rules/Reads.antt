-- What is so of the output of a merge that keeps exactly what is marked: all that it refers to is there, and its tokens name what
-- they named in the inputs, moved.
use Rattle.std.specs.Prelude.{◌≡◌, ◌<◌, ℕ, suc, List, [], ◌∷◌, length, Some, slice_get, Contains, ◌||◌, IsTrue}
use Rattle.il_base.specs.declared.ids.TypeId.{TypeId}
use Rattle.il_base.specs.declared.ids.Item.{Item}
use Rattle.il_base.specs.declared.ids.Item.TheVariants as item
use Rattle.il_base.specs.declared.world_model.known.Known.TheVariants.{Good}
use Rattle.il_base.specs.declared.world_model.expr.MethodUse.{MethodUse}
use Rattle.il_base.specs.declared.world_model.expr.FieldUse.{FieldUse}
use Rattle.il_base.specs.declared.world_model.record.AsmRec.{AsmRec}
use Rattle.rules.specs.declared.link_rules.row_at.RowAt.{RowAt}
use Rattle.rules.specs.link_rules.Members.{type_home}
use Rattle.rules.specs.mark_rules.Places.{is_core}
use Rattle.rules.specs.mark_rules.Naming.{method_named, field_named}
use Rattle.rules.specs.merge_rules.Keys.{MethodKey, own_method, found_method, absent_method, FieldKey, own_field, found_field}
use Rattle.rules.specs.merge_rules.Order.{Met, met_type, met_sig, met_method, met_field, met_instance, met_locals, met_callee, met_field_token}
use Rattle.rules.specs.merge_rules.Refs.{types_of_met}
use Rattle.rules.specs.merge_rules.Moved.{moved_callee, moved_field}
use Rattle.rules.specs.change_rules.Moves.{move_use, move_field_use}
use Rattle.rules.specs.merged_world_rules.Merge.{Merge, before, after, output}
use Rattle.rules.specs.merged_world_rules.NewNumbers.{type_core, rho_of}
use Rattle.merge_laws.specs.merged_references.Written.{KeepsMet}
use Rattle.merge_laws.specs.merged_signatures.Laws.{IsThere}

-- ---- what is met is there

-- types of inputs in what is met are kept
abbrev pub KeepsAllMet : Merge → Type 0
KeepsAllMet m = (x : Met) → Contains (output m).mets x → KeepsMet m x

-- types of the core library in what is met are in that of the output's world, also names that only modifiers use (II.7.1.1)
abbrev pub CoreStays : Merge → Type 0
CoreStays m =
    (x : Met) (t : TypeId) (at : RowAt) → Contains (output m).mets x → Contains (types_of_met (before m) x) t → type_home (before m) t ≡ Some at → suc at.asm ≡ length (before m)
    → (s : ℕ) × ((type_core m).to at.row ≡ Some s)

-- so each type in what is met that is a row of the world has a token that names it
abbrev pub AllThere : Merge → Type 0
AllThere m =
    (x : Met) (t : TypeId) (at : RowAt) → Contains (output m).mets x → Contains (types_of_met (before m) x) t → type_home (before m) t ≡ Some at → IsThere m t

-- ---- members that are met are kept

abbrev pub method_of_key : MethodKey → List Item
method_of_key (own_method i) = item.Method i ∷ []
method_of_key (found_method i e) = item.Method i ∷ []
method_of_key (absent_method p name s) = []

abbrev pub field_of_key : FieldKey → List Item
field_of_key (own_field i) = item.Field i ∷ []
field_of_key (found_field i e) = item.Field i ∷ []

-- the member itself
abbrev pub members_met : Met → List Item
members_met (met_type k) = []
members_met (met_sig s) = []
members_met (met_method k) = method_of_key k
members_met (met_field k) = field_of_key k
members_met (met_instance i) = method_of_key i.method
members_met (met_locals ss) = []

abbrev pub KeepsMembers : Merge → Type 0
KeepsMembers m = (x : Met) (i : Item) → Contains (output m).mets x → Contains (members_met x) i → IsTrue (m.kept i || is_core (before m) i)

-- ---- what tokens of members name, where the output refers to it

abbrev pub AreMet : Merge → List Met → Type 0
AreMet m xs = (x : Met) → Contains xs x → Contains (output m).mets x

-- MethodDef, MemberRef and MethodSpec tokens
abbrev pub ReadsCallees : Merge → Type 0
ReadsCallees m =
    (a : ℕ) (rec : AsmRec) (token : ℕ) (u : MethodUse) → slice_get (before m) a ≡ Some rec → suc a < length (before m) → AreMet m (met_callee (before m) a rec token)
    → method_named (before m) a rec token ≡ Good u → method_named (after m) 0 m.left (moved_callee (output m) a rec token) ≡ Good (move_use (rho_of m) u)

-- Field and MemberRef tokens
abbrev pub ReadsFieldTokens : Merge → Type 0
ReadsFieldTokens m =
    (a : ℕ) (rec : AsmRec) (token : ℕ) (u : FieldUse) → slice_get (before m) a ≡ Some rec → suc a < length (before m) → AreMet m (met_field_token (before m) a rec token)
    → field_named (before m) a rec token ≡ Good u → field_named (after m) 0 m.left (moved_field (output m) a rec token) ≡ Good (move_field_use (rho_of m) u)
