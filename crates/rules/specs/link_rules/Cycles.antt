-- The types that a type leads to, and those on a cycle (II.10.3, II.22.32, II.22.37).
use Rattle.std.specs.Prelude.{ℕ, zero, suc, List, [], ◌∷◌, ◌++◌, length, Option, Some, None, slice_get, nat_eq, ◌==◌, ◌&&◌, ◌||◌, Bool, not, if◌then◌else◌}
use Rattle.il_base.specs.declared.table.TheConstants.{TYPE_DEF}
use Rattle.il_base.specs.declared.field_flags.TheConstants.{STATIC}
use Rattle.il_base.specs.Flags.{has_flag}
use Rattle.std.specs.List.{list_any, flat_map}
use Rattle.std.specs.Option.{option_and_then}
use Rattle.il_base.specs.declared.world_model.expr.TypeExpr.{TypeExpr, fold-TypeExpr}
use Rattle.il_base.specs.declared.world_model.expr.TypeExpr.TheOpen.{TypeExpr-F}
use Rattle.il_base.specs.declared.world_model.types.TypeDefRow.{TypeDefRow}
use Rattle.il_base.specs.declared.world_model.types.InterfaceImplRow.{InterfaceImplRow}
use Rattle.il_base.specs.declared.world_model.members.FieldRow.{FieldRow}
use Rattle.il_base.specs.declared.world_model.record.AsmRec.{AsmRec}
use Rattle.il_base.specs.world_model.Tokens.{token_of}
use Rattle.il_base.specs.world_model.Worlds.{known_then, sig_expr}
use Rattle.il_base.specs.declared.core_table.tokens.TheConstants.{VALUE_TYPE, ENUM}
use Rattle.rules.specs.declared.link_rules.row_at.RowAt.{RowAt}
use Rattle.rules.specs.link_rules.Types.{encloser}
use Rattle.rules.specs.link_rules.Signatures.{names_at, token_type}
use Rattle.rules.specs.link_rules.Members.{type_home, owner_of, good_type, is_interface_row, base_at, run_of}

-- ---- cycles of any kind

abbrev pub add_new : {A : Type 0} → (A → A → Bool) → List A → A → List A
add_new same xs x = if list_any (same x) xs then xs else xs ++ x ∷ []

abbrev pub add_all : {A : Type 0} → (A → A → Bool) → List A → List A → List A
add_all same xs [] = xs
add_all same xs (y ∷ ys) = add_all same (add_new same xs y) ys

-- all items reachable from these in at most n steps, these included
unfoldable pub led_to : {A : Type 0} → (A → A → Bool) → (A → List A) → ℕ → List A → List A
led_to same next zero xs = xs
led_to same next (suc n) xs = led_to same next n (add_all same xs (flat_map next xs))

-- whether one of at most n items leads to itself
unfoldable pub is_on_cycle : {A : Type 0} → (A → A → Bool) → (A → List A) → ℕ → A → Bool
is_on_cycle same next n x = list_any (same x) (led_to same next n (next x))

abbrev pub same_row : RowAt → RowAt → Bool
same_row x y = nat_eq x.asm y.asm && nat_eq x.row y.row

-- ---- bases and interfaces

abbrev pub listed : {A : Type 0} → Option A → List A
listed None = []
listed (Some x) = x ∷ []

-- the definition of a type
abbrev pub home_of : List AsmRec → TypeExpr → Option RowAt
home_of recs e = option_and_then (type_home recs) (owner_of recs e)

abbrev pub is_row_of : ℕ → InterfaceImplRow → Bool
is_row_of token row = row.class == token

-- whether a row is an interface's
abbrev pub is_interface_at : List AsmRec → RowAt → Bool
is_interface_at recs at =
    list_any (λ (rec : AsmRec). list_any is_interface_row (listed (slice_get rec.type_def at.row))) (listed (slice_get recs at.asm))

-- an interface, alone or with arguments
unfoldable pub is_interface : List AsmRec → TypeExpr → Bool
is_interface recs e = list_any (is_interface_at recs) (listed (home_of recs e))

abbrev pub only_interface : List AsmRec → Option TypeExpr → List TypeExpr
only_interface recs None = []
only_interface recs (Some e) = if is_interface recs e then e ∷ [] else []

-- the interfaces that the interface rows of a type name, in order (II.22.23); a row that names something else gives none
abbrev pub interface_of : List AsmRec → ℕ → AsmRec → ℕ → InterfaceImplRow → List TypeExpr
interface_of recs a rec token row = if is_row_of token row then only_interface recs (good_type (token_type recs a rec row.interface)) else []

abbrev pub interfaces_in : List AsmRec → RowAt → AsmRec → List TypeExpr
interfaces_in recs at rec = flat_map (interface_of recs at.asm rec (token_of TYPE_DEF (suc at.row))) rec.interface_impl

unfoldable pub interfaces_at : List AsmRec → RowAt → List TypeExpr
interfaces_at recs at = flat_map (interfaces_in recs at) (listed (slice_get recs at.asm))

-- the definition of a type's base
unfoldable pub base_rows : List AsmRec → RowAt → List RowAt
base_rows recs at = flat_map (λ e. listed (home_of recs e)) (listed (base_at recs at))

-- the definitions of the interfaces that a type's rows name
unfoldable pub interface_rows : List AsmRec → RowAt → List RowAt
interface_rows recs at = flat_map (λ e. listed (home_of recs e)) (interfaces_at recs at)

-- ---- value types in instance fields

abbrev pub is_core_row_at : List AsmRec → ℕ → RowAt → Bool
is_core_row_at recs token at = suc at.asm == length recs && token_of TYPE_DEF (suc at.row) == token

-- whether the base of a type is this type of the core library
abbrev pub extends_core : List AsmRec → ℕ → RowAt → Bool
extends_core recs token at = list_any (is_core_row_at recs token) (listed (option_and_then (home_of recs) (base_at recs at)))

-- a type whose base is System.ValueType, but System.Enum, or whose base is System.Enum (II.13)
unfoldable pub is_value_type : List AsmRec → RowAt → Bool
is_value_type recs at = (extends_core recs VALUE_TYPE at && not (is_core_row_at recs ENUM at)) || extends_core recs ENUM at

abbrev pub value_row : List AsmRec → RowAt → List RowAt
value_row recs at = if is_value_type recs at then at ∷ [] else []

abbrev pub value_rows : List AsmRec → Option RowAt → List RowAt
value_rows recs None = []
value_rows recs (Some at) = value_row recs at

abbrev pub instance_rows : List RowAt → List RowAt → List RowAt
instance_rows [] parts = []
instance_rows (x ∷ xs) parts = x ∷ xs ++ parts

-- the value types in a type: it is one, or an argument of one; elements of arrays and arguments of classes don't count
abbrev pub values_layer : List AsmRec → TypeExpr-F (List RowAt) → List RowAt
values_layer recs (TypeExpr-F.Def t) = value_rows recs (type_home recs t)
values_layer recs (TypeExpr-F.Inst t args) = instance_rows (value_rows recs (type_home recs t)) (flat_map (λ xs. xs) args)
values_layer recs (TypeExpr-F.Mod required by x) = x
values_layer recs _ = []

unfoldable pub values_in : List AsmRec → TypeExpr → List RowAt
values_in recs = fold-TypeExpr (List RowAt) (values_layer recs)

-- whether a field is static, by its flags (II.23.1.5)
abbrev pub is_static_field : FieldRow → Bool
is_static_field f = has_flag f.flags STATIC

abbrev pub values_in_field : List AsmRec → ℕ → AsmRec → FieldRow → List RowAt
values_in_field recs a rec f =
    if is_static_field f then []
    else flat_map (values_in recs) (listed (good_type (known_then (sig_expr (names_at recs a rec)) f.signature)))

abbrev pub values_in_row : List AsmRec → RowAt → AsmRec → TypeDefRow → List RowAt
values_in_row recs at rec t = flat_map (values_in_field recs at.asm rec) (run_of t.field_list_first t.field_list_end rec.field)

-- the value types in the instance fields of a value type
unfoldable pub field_values : List AsmRec → RowAt → List RowAt
field_values recs at =
    if is_value_type recs at
    then flat_map (λ (rec : AsmRec). flat_map (values_in_row recs at rec) (listed (slice_get rec.type_def at.row))) (listed (slice_get recs at.asm))
    else []

-- ---- enclosers

-- the type around a type of an assembly
abbrev pub around : AsmRec → ℕ → List ℕ
around rec k = listed (encloser rec k)
