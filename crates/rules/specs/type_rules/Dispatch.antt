-- Which method a virtual call runs (II.10.3.4, II.12.2): the search for a class slot, and for a slot of an interface instance.
use Rattle.std.specs.Prelude.{ℕ, suc, ◌+◌, ◌-◌, List, [], ◌∷◌, length, Option, Some, None, find, ◌==◌, ◌&&◌, Bool, false, not, if◌then◌else◌}
use Rattle.std.specs.List.{list_any, flat_map, range_with_len}
use Rattle.std.specs.Option.{option_map, option_and_then}
use Rattle.il_base.specs.declared.ids.MethodId.{MethodId}
use Rattle.il_base.specs.declared.table.TheConstants.{TYPE_DEF}
use Rattle.il_base.specs.declared.world_model.known.Known.{Known}
use Rattle.il_base.specs.declared.world_model.known.Known.TheVariants.{Good, Bad}
use Rattle.il_base.specs.declared.world_model.expr.TypeExpr.{TypeExpr}
use Rattle.il_base.specs.declared.world_model.expr.MethodUse.{MethodUse}
use Rattle.il_base.specs.declared.world_model.types.TypeDefRow.{TypeDefRow}
use Rattle.il_base.specs.declared.world_model.members.MethodDefRow.{MethodDefRow}
use Rattle.il_base.specs.declared.world_model.members.MethodImplRow.{MethodImplRow}
use Rattle.il_base.specs.declared.world_model.record.AsmRec.{AsmRec}
use Rattle.il_base.specs.world_model.Tokens.{token_of}
use Rattle.il_base.specs.world_model.Exprs.{subst, same_expr}
use Rattle.il_base.specs.world_model.Worlds.{rows_before}
use Rattle.rules.specs.declared.link_rules.row_at.RowAt.{RowAt}
use Rattle.rules.specs.declared.link_rules.member_type.MethodType.{MethodType}
use Rattle.rules.specs.link_rules.Types.{at_row, or_else}
use Rattle.rules.specs.link_rules.Signatures.{subst_method}
use Rattle.rules.specs.link_rules.Members.{args_of, with_bases, type_count, methods_in, run_of, in_definition, open_parent, generic_method}
use Rattle.rules.specs.link_rules.Cycles.{listed, led_to, same_row, home_of, is_interface_at}
use Rattle.rules.specs.type_rules.Subtypes.{interfaces_of}
use Rattle.rules.specs.type_rules.Slots.{is_static, is_virtual, is_public, method_row_at, method_home, type_of_method, type_of_row, match_in, nearest, slot_of, has_slot}

-- ---- MethodImpl rows (II.22.27)

abbrev pub good_use : Known MethodUse → Option MethodUse
good_use (Good u) = Some u
good_use (Bad why) = None

-- whether one of these types has a method
abbrev pub have_method : List AsmRec → List TypeExpr → RowAt → Bool
have_method recs es at = list_any (λ e. list_any (λ x. list_any (same_row x) (listed (type_of_method recs at))) (listed (home_of recs e))) es

abbrev pub is_instance_virtual : Option MethodDefRow → Bool
is_instance_virtual None = false
is_instance_virtual (Some m) = is_virtual m && not (is_static m)

-- whether a method can be the body of a MethodImpl row: it is virtual, not static, and of the class or of one of its bases
abbrev pub is_body : List AsmRec → TypeExpr → RowAt → Bool
is_body recs e at = is_instance_virtual (method_row_at recs at) && have_method recs (with_bases recs (open_parent recs e)) at

abbrev pub body_at : List AsmRec → TypeExpr → RowAt → Option RowAt
body_at recs e at = if is_body recs e at then Some at else None

-- the method that a row's body names, where the row's declaration passes a test
abbrev pub impl_body : List AsmRec → TypeExpr → (MethodUse → Bool) → MethodUse → MethodUse → Option RowAt
impl_body recs e declares declaration body =
    if declares declaration then option_and_then (body_at recs e) (method_home recs body.method) else None

abbrev pub impl_of_row : List AsmRec → TypeExpr → (MethodUse → Bool) → RowAt → AsmRec → MethodImplRow → Option RowAt
impl_of_row recs e declares at rec row =
    if row.class == token_of TYPE_DEF (suc at.row)
    then option_and_then (λ (d : MethodUse). option_and_then (impl_body recs e declares d) (good_use (generic_method recs at.asm rec row.body))) (good_use (generic_method recs at.asm rec row.declaration))
    else None

abbrev pub first_impl : (MethodImplRow → Option RowAt) → List MethodImplRow → Option RowAt
first_impl look [] = None
first_impl look (row ∷ rows) = or_else (look row) (first_impl look rows)

abbrev pub impl_in_row : List AsmRec → TypeExpr → (MethodUse → Bool) → RowAt → AsmRec → TypeDefRow → Option RowAt
impl_in_row recs e declares at rec t = first_impl (impl_of_row recs e declares at rec) rec.method_impl

-- the body of the first row of a type whose declaration passes a test
unfoldable pub impl_in : List AsmRec → (MethodUse → Bool) → TypeExpr → Option RowAt
impl_in recs declares e = in_definition recs (impl_in_row recs e declares) e

-- ---- class slots

abbrev pub declares_slot : List AsmRec → RowAt → MethodUse → Bool
declares_slot recs slot d = list_any (has_slot recs slot) (listed (method_home recs d.method))

-- the first place of a run, which begins and ends at rows from 1, that passes a test
abbrev pub place_that : (ℕ → Bool) → List ℕ → Option ℕ
place_that test [] = None
place_that test (k ∷ ks) = if test k then Some k else place_that test ks

abbrev pub find_row_in_run : {A : Type 0} → (ℕ → Bool) → ℕ → ℕ → List A → Option ℕ
find_row_in_run test first end rows = place_that test (range_with_len (first - 1) (length (run_of first end rows)))

abbrev pub slot_in_run : List AsmRec → RowAt → RowAt → AsmRec → TypeDefRow → Option RowAt
slot_in_run recs slot at rec t =
    option_map (at_row at.asm) (find_row_in_run (λ k. has_slot recs slot (at_row at.asm k)) t.method_list_first t.method_list_end rec.method_def)

-- the first method of a type with this slot
unfoldable pub slot_in : List AsmRec → RowAt → TypeExpr → Option RowAt
slot_in recs slot e = in_definition recs (slot_in_run recs slot) e

-- in one type a MethodImpl row comes before a method
abbrev pub class_method_in : List AsmRec → RowAt → TypeExpr → Option RowAt
class_method_in recs slot e = or_else (impl_in recs (declares_slot recs slot) e) (slot_in recs slot e)

-- the method of a class slot, searched from a type upwards
unfoldable pub class_dispatch : List AsmRec → TypeExpr → RowAt → Option RowAt
class_dispatch recs t slot = nearest (class_method_in recs slot) (with_bases recs t)

-- ---- interface slots

-- an interface instance and all that its rows imply, the nearest first; no chain of rows is longer than there are types
unfoldable pub implied : List AsmRec → TypeExpr → List TypeExpr
implied recs e = led_to same_expr (interfaces_of recs) (type_count recs) (e ∷ [])

-- the interface instances that a type's rows imply, its own parameters left open
abbrev pub implied_by : List AsmRec → TypeExpr → List TypeExpr
implied_by recs e = flat_map (implied recs) (interfaces_of recs (open_parent recs e))

abbrev pub is_closed_to : List TypeExpr → TypeExpr → TypeExpr → Bool
is_closed_to args wanted e = same_expr (subst args [] e) wanted

-- the instance that the first row of a type for an interface instance implies, the type's own parameters left open
unfoldable pub chosen : List AsmRec → TypeExpr → TypeExpr → Option TypeExpr
chosen recs wanted e = find (is_closed_to (args_of e) wanted) (implied_by recs e)

-- a type, and the instance that it chooses
pub record Choice : Type 0 where
  pub of : TypeExpr
  pub instance : TypeExpr

abbrev pub choice_in : List AsmRec → TypeExpr → TypeExpr → Option Choice
choice_in recs wanted e = option_map (λ i. record { of = e; instance = i }) (chosen recs wanted e)

-- a declaration with this slot, in the instance, where the type has these arguments
abbrev pub declares_in : List AsmRec → RowAt → TypeExpr → List TypeExpr → MethodUse → Bool
declares_in recs slot instance targs d = declares_slot recs slot d && same_expr (subst targs [] d.owner) instance

abbrev pub is_public_virtual : MethodDefRow → Bool
is_public_virtual m = is_public m && is_virtual m

-- a public virtual method of a name and a signature; of a bad signature there is none
abbrev pub public_match_in : List AsmRec → List ℕ → Option MethodType → TypeExpr → Option RowAt
public_match_in recs name None e = None
public_match_in recs name (Some wanted) e = match_in recs is_public_virtual name wanted e

-- the method that a type has for a slot of this name and signature in an interface instance
abbrev pub interface_method_in : List AsmRec → RowAt → TypeExpr → List ℕ → Option MethodType → TypeExpr → Option RowAt
interface_method_in recs slot instance name wanted e =
    or_else (impl_in recs (declares_in recs slot instance (args_of e)) e) (public_match_in recs name wanted e)

abbrev pub good_signature : Option (Known MethodType) → Option MethodType
good_signature None = None
good_signature (Some (Bad why)) = None
good_signature (Some (Good signature)) = Some signature

-- the method of an interface slot, searched from the type that chooses upwards, its own parameters left open
abbrev pub from_choice : List AsmRec → RowAt → MethodDefRow → Option (Known MethodType) → Choice → Option RowAt
from_choice recs slot m signature c =
    nearest (interface_method_in recs slot c.instance m.name (option_map (subst_method (args_of c.instance)) (good_signature signature))) (with_bases recs (open_parent recs c.of))

abbrev pub interface_method_by : List AsmRec → TypeExpr → TypeExpr → RowAt → MethodDefRow → Option RowAt
interface_method_by recs t instance slot m =
    option_and_then (from_choice recs slot m (type_of_row recs slot)) (nearest (choice_in recs instance) (with_bases recs t))

-- the method that the search for an interface slot finds first
unfoldable pub interface_method : List AsmRec → TypeExpr → TypeExpr → RowAt → Option RowAt
interface_method recs t instance slot = option_and_then (interface_method_by recs t instance slot) (method_row_at recs slot)

-- the method that an interface slot dispatches to: the first one found, dispatched as a class slot
unfoldable pub interface_dispatch : List AsmRec → TypeExpr → TypeExpr → RowAt → Option RowAt
interface_dispatch recs t instance slot =
    option_and_then (class_dispatch recs t) (option_and_then (slot_of recs) (interface_method recs t instance slot))

-- ---- both

-- whether a method is one of an interface
abbrev pub in_interface : List AsmRec → RowAt → Bool
in_interface recs slot = list_any (is_interface_at recs) (listed (type_of_method recs slot))

-- the method of a slot; for an interface slot `owner` is the interface instance, for a class slot it doesn't count
abbrev pub dispatch_slot : List AsmRec → TypeExpr → TypeExpr → RowAt → Option RowAt
dispatch_slot recs t owner slot =
    if in_interface recs slot then interface_dispatch recs t owner slot else class_dispatch recs t slot

abbrev pub method_id : List AsmRec → RowAt → MethodId
method_id recs at = record { 0 = rows_before methods_in recs at.asm + at.row }

-- the method that a virtual call runs in a type, by the slot of the called method; None where this isn't virtual or isn't there
unfoldable pub dispatch : List AsmRec → TypeExpr → TypeExpr → MethodId → Option MethodId
dispatch recs t owner m =
    option_map (method_id recs) (option_and_then (dispatch_slot recs t owner) (option_and_then (slot_of recs) (method_home recs m)))
