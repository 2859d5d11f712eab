-- The flaws of rows, in pieces.
use Rattle.std.specs.Prelude.{ℕ, suc, List, [], ◌∷◌, ◌++◌, map, codes, ◌==◌, ◌||◌, Bool, if◌then◌else◌}
use Rattle.std.specs.List.{list_any}
use Rattle.il_base.specs.Flags.{has_flag}
use Rattle.il_base.specs.declared.generic_flags.TheConstants.{COVARIANT, CONTRAVARIANT}
use Rattle.il_base.specs.declared.outside.TheConstants as outside
use Rattle.il_base.specs.declared.table.TheConstants.{METHOD_DEF, GENERIC_PARAM, FIELD_RVA}
use Rattle.il_base.specs.declared.world_model.known.Known.{Known}
use Rattle.il_base.specs.declared.world_model.known.Known.TheVariants.{Good, Bad}
use Rattle.il_base.specs.declared.world_model.types.GenericParamRow.{GenericParamRow}
use Rattle.il_base.specs.declared.world_model.members.MethodDefRow.{MethodDefRow}
use Rattle.il_base.specs.declared.world_model.extras.FieldRvaRow.{FieldRvaRow}
use Rattle.il_base.specs.declared.world_model.record.AsmRec.{AsmRec}
use Rattle.il_base.specs.world_model.Tokens.{token_of}
use Rattle.il_base.specs.world_model.Core.{same_name}
use Rattle.rules.specs.declared.link_rules.row_at.RowAt.{RowAt}
use Rattle.rules.specs.link_rules.Cycles.{listed}
use Rattle.rules.specs.type_rules.Rows.{each_row, is_module_type, type_row_at}
use Rattle.rules.specs.mark_rules.Members.{has_method_row}
use Rattle.rules.specs.mark_rules.BadItems.{Flaw, flaw, flaw_if, body_flaws, is_platform, is_interface_body}

abbrev pub is_variant : GenericParamRow → Bool
is_variant row = has_flag row.flags COVARIANT || has_flag row.flags CONTRAVARIANT

abbrev pub variant_at : RowAt → ℕ → GenericParamRow → List Flaw
variant_at at k row = flaw_if (is_variant row) at (token_of GENERIC_PARAM (suc k)) outside.VARIANCE

abbrev pub is_module_at : List AsmRec → RowAt → Bool
is_module_at recs t = list_any (is_module_type t.row) (listed (type_row_at recs t))

abbrev pub is_initializer_name : List AsmRec → RowAt → Bool
is_initializer_name recs at = has_method_row recs (λ (m : MethodDefRow). same_name m.name (codes ".cctor")) at

abbrev pub form_flaws : List AsmRec → RowAt → MethodDefRow → List Flaw
form_flaws recs at m =
    body_flaws at m m.body ++ flaw_if (is_platform m) at (token_of METHOD_DEF (suc at.row)) outside.PLATFORM
    ++ flaw_if (is_interface_body recs at m) at (token_of METHOD_DEF (suc at.row)) outside.INTERFACE_BODY

-- the Field of each row of FieldRVA
abbrev pub rva_fields : AsmRec → List ℕ
rva_fields rec = map (λ (r : FieldRvaRow). r.field) rec.field_rva

abbrev pub bytes_flaw : {A : Type 0} → RowAt → ℕ → Known A → List Flaw
bytes_flaw at k (Good x) = []
bytes_flaw at k (Bad why) = flaw at (token_of FIELD_RVA (suc k)) 0 why ∷ []

abbrev pub data_at : RowAt → ℕ → FieldRvaRow → List Flaw
data_at at k row = bytes_flaw at k row.bytes

abbrev pub data_of : RowAt → ℕ → ℕ → FieldRvaRow → List Flaw
data_of at token k row = if row.field == token then data_at at k row else []

-- of a field, by its token
abbrev pub data_flaws : RowAt → AsmRec → ℕ → List Flaw
data_flaws at rec token = each_row (data_of at token) rec.field_rva
