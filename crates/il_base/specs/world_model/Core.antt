-- The names under which the core library is referred to.
use Rattle.std.specs.Prelude.{ℕ, List, Bool, false, Option, Some, None, codes, slice_get, nat_eq, ◌||◌, ◌==◌}
use Rattle.std.specs.Cmp.Lexicographic.{pointwise}
use Rattle.il_base.specs.declared.table.TheConstants.{ASSEMBLY_REF}
use Rattle.il_base.specs.declared.world_model.assemblies.AssemblyRefRow.{AssemblyRefRow}
use Rattle.il_base.specs.declared.world_model.record.AsmRec.{AsmRec}
use Rattle.il_base.specs.world_model.Tokens.{index_in}

-- names are compared byte by byte
abbrev pub same_name : List ℕ → List ℕ → Bool
same_name a b = pointwise nat_eq a b

-- whether an assembly's name is one under which the core library is referred to
unfoldable pub is_core_name : List ℕ → Bool
is_core_name name =
    same_name name (codes "System.Runtime") || same_name name (codes "System.Console")
    || same_name name (codes "System.Private.CoreLib") || same_name name (codes "mscorlib") || same_name name (codes "netstandard")

abbrev pub is_core_row : Option AssemblyRefRow → Bool
is_core_row None = false
is_core_row (Some row) = is_core_name row.name

-- whether a scope token names a reference to the core library
abbrev pub is_core_at : AsmRec → Option ℕ → Bool
is_core_at rec None = false
is_core_at rec (Some k) = is_core_row (slice_get rec.assembly_ref k)

abbrev pub is_core_scope : AsmRec → ℕ → Bool
is_core_scope rec token = is_core_at rec (index_in ASSEMBLY_REF token)

-- whether an element type was found, and is this one
abbrev pub is_code : ℕ → Option ℕ → Bool
is_code k None = false
is_code k (Some n) = n == k
