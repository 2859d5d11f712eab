-- The text of a collision: the places of two types and the name that both have.
use Rattle.std.specs.Prelude.{ℕ, suc, List, [], ◌++◌, codes, slice_get, Option, Some, None}
use Rattle.std.specs.List.{flat_map}
use Rattle.il_base.specs.declared.ids.TypeId.{TypeId}
use Rattle.il_base.specs.declared.table.TheConstants.{TYPE_DEF}
use Rattle.il_base.specs.declared.world_model.types.TypeDefRow.{TypeDefRow}
use Rattle.il_base.specs.declared.world_model.record.AsmRec.{AsmRec}
use Rattle.il_base.specs.world_model.Tokens.{token_of}
use Rattle.rules.specs.declared.link_rules.row_at.RowAt.{RowAt}
use Rattle.rules.specs.link_rules.Members.{type_home}
use Rattle.rules.specs.link_rules.Cycles.{listed}
use Rattle.rules.specs.link_rules.Linked.{world_of}
use Rattle.rules.specs.mark_rules.KeepList.{hex_8}
use Rattle.rules.specs.merge_rules.Names.{assembly_name, old_name}
use Rattle.inputs.specs.declared.error.InputError.{InputError}
use Rattle.inputs.specs.Files.{input_fault, records}

abbrev pub row_in : AsmRec → ℕ → Option TypeDefRow
row_in rec k = slice_get rec.type_def k

-- the assembly and the TypeDef token of a row
abbrev pub place_text : List AsmRec → RowAt → List ℕ
place_text recs at = assembly_name recs at ++ codes ":" ++ hex_8 (token_of TYPE_DEF (suc at.row))

abbrev pub type_place : List AsmRec → TypeId → List ℕ
type_place recs t = flat_map (place_text recs) (listed (type_home recs t))

-- the namespace and the name of a type that isn't nested
abbrev pub type_name : List AsmRec → TypeId → List ℕ
type_name recs t = flat_map (old_name recs) (listed (type_home recs t))

abbrev pub collision_in : List AsmRec → TypeId → TypeId → List ℕ
collision_in recs first second = type_place recs first ++ codes " " ++ type_place recs second ++ codes " " ++ type_name recs second

-- the text of a collision, where the files make a world; else none
abbrev pub collision_by : Option InputError → List AsmRec → TypeId → TypeId → List ℕ
collision_by None recs first second = collision_in recs first second
collision_by (Some e) recs first second = []

abbrev pub collision_text : List (List ℕ) → TypeId → TypeId → List ℕ
collision_text files first second = collision_by (input_fault files) (world_of (records files)).recs first second
