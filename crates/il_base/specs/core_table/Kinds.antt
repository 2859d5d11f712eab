-- The members of the core library by their MethodDef rows in the core record.
use Rattle.std.specs.Prelude.{ℕ, ◌+◌, ◌-◌, ◌==◌, nat_lt, Bool, true, false, List, [], ◌∷◌, length, slice_get, Option, Some, None, if◌then◌else◌}
use Rattle.il_base.specs.declared.table.TheConstants.{METHOD_DEF}
use Rattle.il_base.specs.declared.ids.MethodId.{MethodId}
use Rattle.il_base.specs.declared.world_model.record.AsmRec.{AsmRec}
use Rattle.il_base.specs.declared.world_model.world.World.{World}
use Rattle.il_base.specs.world_model.Tokens.{index_in}
use Rattle.il_base.specs.declared.core_table.kinds.CoreKind.{CoreKind}
use Rattle.il_base.specs.declared.core_table.kinds.OwnedMethod.{OwnedMethod}
use Rattle.il_base.specs.declared.core_table.names.CoreName.{CoreName}
use Rattle.il_base.specs.declared.core_table.names.CoreName.TheVariants as core
use Rattle.il_base.specs.declared.core_table.shape.CoreMethod.{CoreMethod}
use Rattle.il_base.specs.declared.core_table.shape.CoreType.{CoreType}
use Rattle.il_base.specs.declared.core_table.types.TheConstants.{TYPES, METHOD_COUNT}
use Rattle.il_base.specs.core_table.Members.{methods_of}

abbrev pub kind_at : Option ℕ → Option CoreKind
kind_at None = None
kind_at (Some at) = if nat_lt at METHOD_COUNT then Some (record { 0 = at + 1 }) else None

-- the method that a token names
unfoldable pub kind_of : ℕ → Option CoreKind
kind_of token = kind_at (index_in METHOD_DEF token)

-- the place of a method of a world among those of its last assembly, the core library
unfoldable pub core_row : List AsmRec → ℕ → Option ℕ
core_row [] n = None
core_row (rec ∷ []) n = Some n
core_row (rec ∷ next ∷ recs) n =
    if nat_lt n (length rec.method_def) then None else core_row (next ∷ recs) (n - length rec.method_def)

-- the member that a method of a world is; None for a method of an input
unfoldable pub core_kind : World → MethodId → Option CoreKind
core_kind w m = kind_at (core_row w.recs m.0)

abbrev pub owned : CoreName → Option CoreMethod → Option OwnedMethod
owned name None = None
owned name (Some m) = Some (record { owner = name; method = m })

-- the method at a place, from 0, among those of the types
unfoldable pub member_in : List CoreType → ℕ → Option OwnedMethod
member_in [] at = None
member_in (t ∷ ts) at =
    if nat_lt at (length (methods_of t.members))
    then owned t.name (slice_get (methods_of t.members) at)
    else member_in ts (at - length (methods_of t.members))

unfoldable pub member_of : CoreKind → Option OwnedMethod
member_of kind = if kind.0 == 0 then None else member_in TYPES (kind.0 - 1)

-- ---- reflection

abbrev pub is_get_type : CoreName → Bool
is_get_type core.GetType = true
is_get_type _ = false

-- of Type's members those that ask something of a type, and neither for a type by its name nor for members
abbrev pub asks_of_type : CoreName → Bool
asks_of_type core.GetTypeFromHandle = true
asks_of_type core.GetNamespace = true
asks_of_type core.GetFullName = true
asks_of_type core.ToString = true
asks_of_type core.OpEquality = true
asks_of_type core.OpInequality = true
asks_of_type core.Equals = true
asks_of_type core.IsAssignableFrom = true
asks_of_type core.IsInstanceOfType = true
asks_of_type core.GetIsValueType = true
asks_of_type core.GetIsInterface = true
asks_of_type core.GetIsArray = true
asks_of_type _ = false

abbrev pub reflects : CoreName → CoreName → Bool
reflects core.Object name = is_get_type name
reflects core.Type name = true
reflects core.MemberInfo name = true
reflects core.MethodBase name = true
reflects core.MethodInfo name = true
reflects core.FieldInfo name = true
reflects core.PropertyInfo name = true
reflects core.Activator name = true
reflects _ name = false

abbrev pub looks : CoreName → CoreName → Bool
looks core.Object name = is_get_type name
looks core.Type name = asks_of_type name
looks core.MemberInfo name = true
looks _ name = false

-- whether a method is a member of one of the seven types of reflection, or Object.GetType
unfoldable pub is_reflective : OwnedMethod → Bool
is_reflective m = reflects m.owner m.method.name

-- whether a method of reflection only looks at types: Object.GetType, all of MemberInfo, and what asks something of a Type
unfoldable pub looks_at_types : OwnedMethod → Bool
looks_at_types m = looks m.owner m.method.name
