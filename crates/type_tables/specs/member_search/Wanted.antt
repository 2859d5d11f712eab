-- Members that are sought in the definition of a type, methods and fields alike.
use Rattle.std.specs.Prelude.{ℕ, ◌==◌, ◌&&◌, not, List, Bool, false, Option, Some, None, slice_get}
use Rattle.std.specs.Option.{option_map, option_and_then}
use Rattle.il_base.specs.declared.method_flags.TheConstants.{PUBLIC, VIRTUAL}
use Rattle.il_base.specs.Flags.{has_flag, access_of}
use Rattle.il_base.specs.declared.world_model.expr.TypeExpr.{TypeExpr}
use Rattle.il_base.specs.declared.world_model.members.FieldRow.{FieldRow}
use Rattle.il_base.specs.declared.world_model.members.MethodDefRow.{MethodDefRow}
use Rattle.il_base.specs.declared.world_model.types.TypeDefRow.{TypeDefRow}
use Rattle.il_base.specs.declared.world_model.record.AsmRec.{AsmRec}
use Rattle.il_base.specs.world_model.Core.{same_name}
use Rattle.il_base.specs.world_model.Worlds.{known_then, sig_expr}
use Rattle.rules.specs.declared.link_rules.row_at.RowAt.{RowAt}
use Rattle.rules.specs.link_rules.Types.{at_row}
use Rattle.rules.specs.declared.link_rules.member_type.MethodType.{MethodType}
use Rattle.rules.specs.link_rules.Signatures.{names_at, method_type}
use Rattle.rules.specs.link_rules.Members.{type_home, owner_of, args_of, is_compiler_controlled, is_method_type, is_field_type, is_field, find_in_run}
use Rattle.type_tables.specs.declared.member_search.members.Wanted.{Wanted}
use Rattle.type_tables.specs.declared.member_search.members.Wanted.TheVariants.{Method, Field}
use Rattle.type_tables.specs.declared.member_search.members.Among.{Among}
use Rattle.type_tables.specs.declared.member_search.members.Among.TheVariants.{Named, Virtual, PublicVirtual}
use Rattle.type_tables.specs.declared.member_search.names.Names.{Names}
use Rattle.type_tables.specs.declared.member_search.owners.Run.{Run}
use Rattle.type_tables.specs.member_search.Names.{rows_at}
use Rattle.type_tables.specs.member_search.Owners.{method_run, field_run}

-- which methods count, by their flags (II.23.1.10)
abbrev pub allows : Among → MethodDefRow → Bool
allows Named m = not (is_compiler_controlled m.flags)
allows Virtual m = has_flag m.flags VIRTUAL
allows PublicVirtual m = access_of m.flags == PUBLIC && has_flag m.flags VIRTUAL

-- the run of such members of a type
abbrev pub run_in : Wanted → TypeDefRow → Run
run_in (Method among wanted) t = method_run t
run_in (Field wanted) t = field_run t

-- the rows of such members with a name
abbrev pub rows_named : Wanted → Names → List ℕ → List ℕ
rows_named (Method among wanted) names name = rows_at names.methods name
rows_named (Field wanted) names name = rows_at names.fields name

abbrev pub fits_at : {A : Type 0} → (A → Bool) → Option A → Bool
fits_at test None = false
fits_at test (Some x) = test x

-- whether the member in a row counts and has the signature
unfoldable pub fits : List AsmRec → ℕ → AsmRec → List TypeExpr → Wanted → ℕ → Bool
fits recs a rec targs (Method among wanted) k =
    fits_at (λ (m : MethodDefRow). allows among m && is_method_type targs wanted (known_then (method_type (names_at recs a rec)) m.signature)) (slice_get rec.method_def k)
fits recs a rec targs (Field wanted) k =
    fits_at (λ (f : FieldRow). not (is_compiler_controlled f.flags) && is_field_type targs wanted (known_then (sig_expr (names_at recs a rec)) f.signature)) (slice_get rec.field k)

-- a method of this name and signature that counts, where the type has these arguments
abbrev pub is_allowed : List AsmRec → ℕ → AsmRec → List TypeExpr → List ℕ → Among → MethodType → MethodDefRow → Bool
is_allowed recs a rec targs name among wanted m =
    same_name m.name name && (allows among m && is_method_type targs wanted (known_then (method_type (names_at recs a rec)) m.signature))

-- the first of such members in the run of a type
unfoldable pub member_in : List AsmRec → ℕ → AsmRec → List TypeExpr → List ℕ → Wanted → TypeDefRow → Option ℕ
member_in recs a rec targs name (Method among wanted) t = find_in_run (is_allowed recs a rec targs name among wanted) t.method_list_first t.method_list_end rec.method_def
member_in recs a rec targs name (Field wanted) t = find_in_run (is_field recs a rec targs name wanted) t.field_list_first t.field_list_end rec.field

-- such a member of the type in a row
abbrev pub member_at : List AsmRec → List TypeExpr → List ℕ → Wanted → RowAt → Option RowAt
member_at recs targs name wanted at =
    option_and_then
    (λ (rec : AsmRec). option_and_then (λ (t : TypeDefRow). option_map (at_row at.asm) (member_in recs at.asm rec targs name wanted t)) (slice_get rec.type_def at.row))
    (slice_get recs at.asm)

-- `method_of_type` or `field_of_type`
unfoldable pub look_for : List AsmRec → List ℕ → Wanted → TypeExpr → Option RowAt
look_for recs name wanted e = option_and_then (member_at recs (args_of e) name wanted) (option_and_then (type_home recs) (owner_of recs e))
