-- Virtual methods and their slots (II.10.3, II.12.2, II.23.1.10): a method that is newslot, or that finds none of its name
-- and signature in the bases, is its own slot; any other has that of the nearest one.
use Rattle.std.specs.Prelude.{ℕ, zero, suc, List, [], ◌∷◌, Option, Some, None, slice_get, ◌==◌, ◌&&◌, Bool, false, not, if◌then◌else◌}
use Rattle.std.specs.List.{position_from}
use Rattle.std.specs.Option.{option_map, option_and_then}
use Rattle.il_base.specs.declared.ids.MethodId.{MethodId}
use Rattle.il_base.specs.declared.method_flags.TheConstants.{PUBLIC, STATIC, VIRTUAL, NEW_SLOT}
use Rattle.il_base.specs.Flags.{has_flag, access_of}
use Rattle.il_base.specs.declared.world_model.known.Known.{Known}
use Rattle.il_base.specs.declared.world_model.known.Known.TheVariants.{Good, Bad}
use Rattle.il_base.specs.declared.world_model.expr.TypeExpr.{TypeExpr}
use Rattle.il_base.specs.declared.world_model.expr.TypeExpr as expr
use Rattle.il_base.specs.declared.world_model.types.TypeDefRow.{TypeDefRow}
use Rattle.il_base.specs.declared.world_model.members.MethodDefRow.{MethodDefRow}
use Rattle.il_base.specs.declared.world_model.record.AsmRec.{AsmRec}
use Rattle.il_base.specs.world_model.Core.{same_name}
use Rattle.il_base.specs.world_model.Worlds.{known_then, type_id}
use Rattle.rules.specs.declared.link_rules.row_at.RowAt.{RowAt}
use Rattle.rules.specs.declared.link_rules.member_type.MethodType.{MethodType}
use Rattle.rules.specs.link_rules.Types.{at_row, or_else}
use Rattle.rules.specs.link_rules.Signatures.{names_at, method_type}
use Rattle.rules.specs.link_rules.Members.{home_from, args_of, bases_from, base_at, type_count, methods_in, find_in_run, is_method_type, in_definition, owns_method}
use Rattle.rules.specs.link_rules.Cycles.{same_row}

-- ---- flags (II.23.1.10)

abbrev pub is_static : MethodDefRow → Bool
is_static m = has_flag m.flags STATIC

abbrev pub is_virtual : MethodDefRow → Bool
is_virtual m = has_flag m.flags VIRTUAL

abbrev pub is_new_slot : MethodDefRow → Bool
is_new_slot m = has_flag m.flags NEW_SLOT

abbrev pub is_public : MethodDefRow → Bool
is_public m = access_of m.flags == PUBLIC

-- ---- methods by their rows

abbrev pub method_row_at : List AsmRec → RowAt → Option MethodDefRow
method_row_at recs at = option_and_then (λ (rec : AsmRec). slice_get rec.method_def at.row) (slice_get recs at.asm)

abbrev pub method_home : List AsmRec → MethodId → Option RowAt
method_home recs m = home_from methods_in 0 recs m.0

abbrev pub owner_from : (ℕ → TypeDefRow → Bool) → ℕ → List TypeDefRow → Option ℕ
owner_from owns k ts = position_from (owns (suc k)) 0 ts

-- the type that has a method
abbrev pub type_of_method : List AsmRec → RowAt → Option RowAt
type_of_method recs at =
    option_and_then (λ (rec : AsmRec). option_map (at_row at.asm) (owner_from owns_method at.row rec.type_def)) (slice_get recs at.asm)

-- a definition with its own parameters left open
abbrev pub open_type : List AsmRec → RowAt → TypeExpr
open_type recs at = expr.Def (type_id recs at.asm at.row)

-- the signature of a method, its types in the parameters of its own type
abbrev pub type_of_row : List AsmRec → RowAt → Option (Known MethodType)
type_of_row recs at =
    option_and_then (λ (rec : AsmRec). option_map (λ (m : MethodDefRow). known_then (method_type (names_at recs at.asm rec)) m.signature) (slice_get rec.method_def at.row)) (slice_get recs at.asm)

-- ---- a virtual method by name and signature

-- whether a method passes a test and has this name and signature, where its type has these arguments
abbrev pub is_match : List AsmRec → (MethodDefRow → Bool) → ℕ → AsmRec → List TypeExpr → List ℕ → MethodType → MethodDefRow → Bool
is_match recs test a rec targs name wanted m =
    same_name m.name name && (test m && is_method_type targs wanted (known_then (method_type (names_at recs a rec)) m.signature))

abbrev pub match_in_row : List AsmRec → (MethodDefRow → Bool) → List TypeExpr → List ℕ → MethodType → RowAt → AsmRec → TypeDefRow → Option RowAt
match_in_row recs test targs name wanted at rec row =
    option_map (at_row at.asm) (find_in_run (is_match recs test at.asm rec targs name wanted) row.method_list_first row.method_list_end rec.method_def)

-- the first method of a type that passes a test and has this name and signature
unfoldable pub match_in : List AsmRec → (MethodDefRow → Bool) → List ℕ → MethodType → TypeExpr → Option RowAt
match_in recs test name wanted e = in_definition recs (match_in_row recs test (args_of e) name wanted) e

-- the result of a look-up in the first of these types that has one
unfoldable pub nearest : {A : Type 0} → (TypeExpr → Option A) → List TypeExpr → Option A
nearest look [] = None
nearest look (e ∷ es) = or_else (look e) (nearest look es)

-- ---- slots

-- the bases of a definition, its own parameters left open
abbrev pub bases_above : List AsmRec → RowAt → List TypeExpr
bases_above recs at = elim (base_at recs at) [ None ↦ [] | Some b ↦ bases_from recs (type_count recs) b ]

-- the nearest inherited virtual method of the name and signature of a method; one with a bad signature has none
abbrev pub inherited_by : List AsmRec → RowAt → MethodDefRow → Option (Known MethodType) → Option RowAt
inherited_by recs owner m None = None
inherited_by recs owner m (Some (Bad why)) = None
inherited_by recs owner m (Some (Good wanted)) = nearest (match_in recs is_virtual m.name wanted) (bases_above recs owner)

unfoldable pub inherited : List AsmRec → RowAt → MethodDefRow → Option RowAt
inherited recs at m = option_and_then (λ (owner : RowAt). inherited_by recs owner m (type_of_row recs at)) (type_of_method recs at)

abbrev pub slot_by : (RowAt → Option RowAt) → RowAt → Option RowAt → Option RowAt
slot_by above at None = Some at
slot_by above at (Some b) = above b

-- the slot of a method, over at most n overridden methods; no chain of overrides is longer than there are types
abbrev pub slot_of_row : List AsmRec → (RowAt → Option RowAt) → RowAt → MethodDefRow → Option RowAt
slot_of_row recs above at m =
    if not (is_virtual m) then None
    else if is_new_slot m then Some at
    else slot_by above at (inherited recs at m)

unfoldable pub slot_within : List AsmRec → ℕ → RowAt → Option RowAt
slot_within recs zero at = None
slot_within recs (suc n) at = option_and_then (slot_of_row recs (slot_within recs n) at) (method_row_at recs at)

-- the slot of a virtual method; None for a method that isn't virtual
unfoldable pub slot_of : List AsmRec → RowAt → Option RowAt
slot_of recs at = slot_within recs (suc (type_count recs)) at

abbrev pub is_slot : Option RowAt → RowAt → Bool
is_slot None slot = false
is_slot (Some s) slot = same_row s slot

-- whether a method has this slot
abbrev pub has_slot : List AsmRec → RowAt → RowAt → Bool
has_slot recs slot at = is_slot (slot_of recs at) slot
