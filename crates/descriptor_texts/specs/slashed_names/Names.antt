-- The names of all types of a world.
use Rattle.std.specs.Prelude.{◌≡◌, ℕ, List, [], length, map, slice_get, unwrap_or}
use Rattle.std.specs.List.{flat_map, range_with_len}
use Rattle.il_base.specs.declared.world_model.record.AsmRec.{AsmRec}
use Rattle.rules.specs.declared.link_rules.row_at.RowAt.{RowAt}
use Rattle.rules.specs.link_rules.Cycles.{listed}
use Rattle.rules.specs.mark_rules.Roots.{slashed_name}
use Rattle.descriptor_texts.specs.declared.slashed_names.names.SlashedNames.{SlashedNames}

abbrev pub names_in : AsmRec → List (List ℕ)
names_in rec = map (slashed_name rec) (range_with_len 0 (length rec.type_def))

-- those of an assembly, by its place from 0
abbrev pub names_at : List AsmRec → ℕ → List (List ℕ)
names_at recs a = flat_map names_in (listed (slice_get recs a))

abbrev pub AreNames : List AsmRec → SlashedNames → Type 0
AreNames recs s = s.names ≡ map (names_at recs) (range_with_len 0 (length recs))

-- the name in a row
abbrev pub text_in : SlashedNames → RowAt → List ℕ
text_in s at = unwrap_or (slice_get (unwrap_or (slice_get s.names at.asm) []) at.row) []

-- the name of the type in a row
abbrev pub text_at : List AsmRec → RowAt → List ℕ
text_at recs at = flat_map (λ (rec : AsmRec). slashed_name rec at.row) (listed (slice_get recs at.asm))
