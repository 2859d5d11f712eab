-- The links of one assembly's type tokens, table by table.
use Rattle.std.specs.Prelude.{ℕ, List, length, map, None}
use Rattle.std.specs.List.{range_with_len}
use Rattle.il_base.specs.declared.world_model.known.Known.TheVariants.{Good}
use Rattle.il_base.specs.declared.world_model.types.TypeSpecRow.{TypeSpecRow}
use Rattle.il_base.specs.declared.world_model.record.AsmRec.{AsmRec}
use Rattle.il_base.specs.declared.world_model.world.TypeLink.{TypeLink}
use Rattle.il_base.specs.declared.table.TheConstants.{TYPE_REF, TYPE_DEF, TYPE_SPEC}
use Rattle.rules.specs.link_rules.Types.{at_row, ref_definition, added_type}
use Rattle.rules.specs.link_rules.Signatures.{definition_expr, known_expr, spec_type}
use Rattle.rules.specs.link_rules.Faults.{numbered}
use Rattle.rules.specs.link_rules.Linked.{type_link}

abbrev pub ref_link : List AsmRec → ℕ → AsmRec → ℕ → TypeLink
ref_link all a rec k = type_link a TYPE_REF k (known_expr all (ref_definition all a rec k)) (added_type all a rec k)

abbrev pub def_link : List AsmRec → ℕ → ℕ → TypeLink
def_link all a k = type_link a TYPE_DEF k (Good (definition_expr all (at_row a k))) None

abbrev pub spec_link : List AsmRec → ℕ → AsmRec → ℕ → TypeSpecRow → TypeLink
spec_link all a rec k row = type_link a TYPE_SPEC k (spec_type all a rec row) None

abbrev pub refs_of : List AsmRec → ℕ → AsmRec → List TypeLink
refs_of all a rec = map (ref_link all a rec) (range_with_len 0 (length rec.type_ref))

abbrev pub defs_of : List AsmRec → ℕ → AsmRec → List TypeLink
defs_of all a rec = map (def_link all a) (range_with_len 0 (length rec.type_def))

abbrev pub specs_of : List AsmRec → ℕ → AsmRec → List TypeLink
specs_of all a rec = numbered (spec_link all a rec) 0 rec.type_spec
