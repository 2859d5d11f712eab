-- What a shown type and the code of a method show.
use Rattle.std.specs.Prelude.{ℕ, List, map, Option, slice_get}
use Rattle.std.specs.List.{flat_map}
use Rattle.il_base.specs.declared.ids.TypeId.{TypeId}
use Rattle.il_base.specs.declared.world_model.record.AsmRec.{AsmRec}
use Rattle.il_base.specs.world_model.Worlds.{type_id}
use Rattle.rules.specs.declared.link_rules.row_at.RowAt.{RowAt}
use Rattle.rules.specs.link_rules.Types.{encloser}
use Rattle.rules.specs.link_rules.Cycles.{listed}
use Rattle.rules.specs.type_rules.Rows.{rec_at}
use Rattle.rules.specs.mark_rules.Facts.{Fact}
use Rattle.rules.specs.mark_rules.Facts.Fact.{shown}
use Rattle.rules.specs.mark_rules.Shown.{shown_code}

abbrev pub shown_encloser : List AsmRec → ℕ → Option ℕ → List Fact
shown_encloser recs asm around = map (λ k. shown (type_id recs asm k)) (listed around)

abbrev pub encloser_facts : List AsmRec → RowAt → List Fact
encloser_facts recs at = flat_map (λ (rec : AsmRec). map (λ k. shown (type_id recs at.asm k)) (listed (encloser rec at.row))) (listed (rec_at recs at))

abbrev pub shown_by_method : List AsmRec → RowAt → List TypeId
shown_by_method recs at = flat_map (λ (rec : AsmRec). flat_map (shown_code recs at.asm rec) (listed (slice_get rec.method_def at.row))) (listed (rec_at recs at))
