-- The first demand on several assemblies that fails: duplicate names of assemblies, types on a cycle, enclosers on a cycle,
-- duplicate members, each kind over all assemblies in order.
use Rattle.std.specs.Prelude.{ℕ, suc, List, [], ◌∷◌, length, Option, Some, None, nat_eq, ◌&&◌, ◌||◌, Bool, false, if◌then◌else◌}
use Rattle.il_base.specs.declared.table.TheConstants.{TYPE_DEF, FIELD, METHOD_DEF, NESTED_CLASS}
use Rattle.il_base.specs.declared.reason.TheConstants.{DUPLICATE_ASSEMBLY, CYCLIC_TYPES, CYCLIC_NESTING, DUPLICATE_MEMBER}
use Rattle.std.specs.List.{list_any, position_from}
use Rattle.std.specs.Option.{option_map}
use Rattle.il_base.specs.declared.world_model.known.Known.{Known}
use Rattle.il_base.specs.declared.world_model.known.Known.TheVariants.{Good, Bad}
use Rattle.il_base.specs.declared.world_model.expr.TypeExpr.{TypeExpr}
use Rattle.il_base.specs.declared.world_model.types.TypeDefRow.{TypeDefRow}
use Rattle.il_base.specs.declared.world_model.types.NestedClassRow.{NestedClassRow}
use Rattle.il_base.specs.declared.world_model.members.MethodDefRow.{MethodDefRow}
use Rattle.il_base.specs.declared.world_model.members.FieldRow.{FieldRow}
use Rattle.il_base.specs.declared.world_model.assemblies.AssemblyRow.{AssemblyRow}
use Rattle.il_base.specs.declared.world_model.record.AsmRec.{AsmRec}
use Rattle.il_base.specs.world_model.Tokens.{token_of, index_in}
use Rattle.il_base.specs.world_model.Core.{same_name, is_core_name}
use Rattle.il_base.specs.world_model.Exprs.{same_expr}
use Rattle.il_base.specs.world_model.Worlds.{known_then, sig_expr}
use Rattle.rules.specs.declared.link_rules.row_at.RowAt.{RowAt}
use Rattle.rules.specs.declared.link_rules.link_error.LinkError.{LinkError}
use Rattle.rules.specs.declared.link_rules.link_error.LinkError.TheVariants as fault
use Rattle.rules.specs.declared.link_rules.member_type.MethodType.{MethodType}
use Rattle.rules.specs.link_rules.Types.{or_else, at_row, encloser, same_place}
use Rattle.rules.specs.link_rules.Signatures.{names_at, method_type, same_method_type}
use Rattle.rules.specs.link_rules.Members.{type_count, is_compiler_controlled, owns_method, owns_field}
use Rattle.rules.specs.link_rules.Cycles.{is_on_cycle, same_row, base_rows, interface_rows, field_values, around}

-- the fault of the first of these items that has one; the items are numbered from i
abbrev pub first_of : {A B : Type 0} → (ℕ → A → Option B) → ℕ → List A → Option B
first_of look i [] = None
first_of look i (x ∷ xs) = or_else (look i x) (first_of look (suc i) xs)

-- ---- names of assemblies

abbrev pub name_in : List AssemblyRow → List ℕ
name_in [] = []
name_in (row ∷ rows) = row.name

abbrev pub own_name : AsmRec → List ℕ
own_name rec = name_in rec.assembly

abbrev pub is_taken : List (List ℕ) → List ℕ → Bool
is_taken earlier name = is_core_name name || list_any (same_name name) earlier

-- the first assembly whose name an earlier one or the core library has
abbrev pub taken_from : List (List ℕ) → ℕ → List AsmRec → Option LinkError
taken_from earlier i [] = None
taken_from earlier i (rec ∷ recs) =
    if is_taken earlier (own_name rec) then Some (fault.Bad i DUPLICATE_ASSEMBLY 0) else taken_from (own_name rec ∷ earlier) (suc i) recs

unfoldable pub duplicate_assembly : List AsmRec → Option LinkError
duplicate_assembly recs = taken_from [] 0 recs

-- ---- cycles of types

-- whether a type is on a cycle of bases, of interface rows, or of value types in instance fields
unfoldable pub is_cyclic_type : List AsmRec → RowAt → Bool
is_cyclic_type all at =
    is_on_cycle same_row (base_rows all) (type_count all) at
    || is_on_cycle same_row (interface_rows all) (type_count all) at
    || is_on_cycle same_row (field_values all) (type_count all) at

abbrev pub cyclic_type : List AsmRec → ℕ → ℕ → TypeDefRow → Option LinkError
cyclic_type all i k t = if is_cyclic_type all (at_row i k) then Some (fault.Bad i CYCLIC_TYPES (token_of TYPE_DEF (suc k))) else None

-- the first type of these assemblies that is on a cycle in the world of all
unfoldable pub cyclic_types : List AsmRec → List AsmRec → Option LinkError
cyclic_types all recs = first_of (λ i (rec : AsmRec). first_of (cyclic_type all i) 0 rec.type_def) 0 recs

-- ---- cycles of enclosers

abbrev pub is_cyclic_around : AsmRec → Option ℕ → Bool
is_cyclic_around rec None = false
is_cyclic_around rec (Some k) = is_on_cycle nat_eq (around rec) (length rec.type_def) k

abbrev pub cyclic_nesting_row : AsmRec → ℕ → ℕ → NestedClassRow → Option LinkError
cyclic_nesting_row rec i r row = if is_cyclic_around rec (index_in TYPE_DEF row.nested_class) then Some (fault.Bad i CYCLIC_NESTING (token_of NESTED_CLASS (suc r))) else None

unfoldable pub cyclic_nesting : List AsmRec → Option LinkError
cyclic_nesting recs = first_of (λ i (rec : AsmRec). first_of (cyclic_nesting_row rec i) 0 rec.nested_class) 0 recs

-- ---- members that are there twice

-- whether two keys are the same; None is the same as nothing
abbrev pub same_key : {A : Type 0} → (A → A → Bool) → Option A → Option A → Bool
same_key same None y = false
same_key same (Some x) None = false
same_key same (Some x) (Some y) = same x y

abbrev pub repeat_from : {A : Type 0} → (A → A → Bool) → List (Option A) → ℕ → List (Option A) → Option ℕ
repeat_from same earlier i [] = None
repeat_from same earlier i (x ∷ xs) =
    if list_any (same_key same x) earlier then Some i else repeat_from same (x ∷ earlier) (suc i) xs

unfoldable pub first_repeat : {A : Type 0} → (A → A → Bool) → List (Option A) → Option ℕ
first_repeat same xs = repeat_from same [] 0 xs

abbrev pub numbered : {A B : Type 0} → (ℕ → A → B) → ℕ → List A → List B
numbered f i [] = []
numbered f i (x ∷ xs) = f i x ∷ numbered f (suc i) xs

-- the key of a type among those of its assembly: namespace, name and encloser
pub record TypeKey : Type 0 where
  pub namespace : List ℕ
  pub name : List ℕ
  pub encloser : Option ℕ

abbrev pub same_type_key : TypeKey → TypeKey → Bool
same_type_key x y = same_name x.name y.name && same_name x.namespace y.namespace && same_place x.encloser y.encloser

abbrev pub type_key : AsmRec → ℕ → TypeDefRow → Option TypeKey
type_key rec k t = Some (record { namespace = t.namespace; name = t.name; encloser = encloser rec k })

-- the key of a member: its type, its name and its signature
pub record MemberKey (A : Type 0) : Type 0 where
  pub owner : ℕ
  pub name : List ℕ
  pub signature : A

abbrev pub same_member_key : {A : Type 0} → (A → A → Bool) → MemberKey A → MemberKey A → Bool
same_member_key same x y = nat_eq x.owner y.owner && same_name x.name y.name && same x.signature y.signature

abbrev pub member_key : {A : Type 0} → List ℕ → Option ℕ → Known A → Option (MemberKey A)
member_key name None signature = None
member_key name (Some owner) (Bad why) = None
member_key name (Some owner) (Good signature) = Some (record { owner = owner; name = name; signature = signature })

-- the key of a field that is compared: one in a type, that isn't compiler-controlled and has a good signature
abbrev pub field_key : List AsmRec → ℕ → AsmRec → ℕ → FieldRow → Option (MemberKey TypeExpr)
field_key all i rec k f =
    if is_compiler_controlled f.flags then None
    else member_key f.name (position_from (owns_field (suc k)) 0 rec.type_def) (known_then (sig_expr (names_at all i rec)) f.signature)

abbrev pub method_key : List AsmRec → ℕ → AsmRec → ℕ → MethodDefRow → Option (MemberKey MethodType)
method_key all i rec k m =
    if is_compiler_controlled m.flags then None
    else member_key m.name (position_from (owns_method (suc k)) 0 rec.type_def) (known_then (method_type (names_at all i rec)) m.signature)

abbrev pub repeated_row : ℕ → ℕ → Option ℕ → Option LinkError
repeated_row i table at = option_map (λ k. fault.Bad i DUPLICATE_MEMBER (token_of table (suc k))) at

unfoldable pub repeated_type : ℕ → AsmRec → Option LinkError
repeated_type i rec = repeated_row i TYPE_DEF (first_repeat same_type_key (numbered (type_key rec) 0 rec.type_def))

unfoldable pub repeated_field : List AsmRec → ℕ → AsmRec → Option LinkError
repeated_field all i rec =
    repeated_row i FIELD (first_repeat (same_member_key same_expr) (numbered (field_key all i rec) 0 rec.field))

unfoldable pub repeated_method : List AsmRec → ℕ → AsmRec → Option LinkError
repeated_method all i rec =
    repeated_row i METHOD_DEF (first_repeat (same_member_key same_method_type) (numbered (method_key all i rec) 0 rec.method_def))

abbrev pub repeated_in : List AsmRec → ℕ → AsmRec → Option LinkError
repeated_in all i rec = or_else (repeated_type i rec) (or_else (repeated_field all i rec) (repeated_method all i rec))

unfoldable pub duplicate_member : List AsmRec → List AsmRec → Option LinkError
duplicate_member all recs = first_of (repeated_in all) 0 recs

-- ---- the first fault of these assemblies, in the world of all

unfoldable pub link_fault : List AsmRec → List AsmRec → Option LinkError
link_fault all recs =
    or_else (duplicate_assembly recs) (or_else (cyclic_types all recs) (or_else (cyclic_nesting recs) (duplicate_member all recs)))
