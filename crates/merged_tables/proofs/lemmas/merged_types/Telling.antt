-- TypeDef rows with the output's tokens and names are those of the definition.
use Rattle.std.proofs.Common.{◌≡◌, List, [], ◌∷◌, ◌++◌, map, Option, Some, None, refl, ap, ◌∙◌}
use Rattle.std.proofs.lemmas.List.{append-nil}
use Rattle.std.specs.Prelude.{slice_get}
use Rattle.std.specs.List.{flat_map}
use Rattle.il_base.specs.declared.world_model.types.TypeDefRow.{TypeDefRow}
use Rattle.il_base.specs.declared.world_model.record.AsmRec.{AsmRec}
use Rattle.il_base.specs.world_model.Worlds.{type_id}
use Rattle.rules.specs.declared.link_rules.row_at.RowAt.{RowAt}
use Rattle.rules.specs.link_rules.Cycles.{listed}
use Rattle.base_laws.proofs.lemmas.type_laws.Places.{place_within}
use Rattle.rules.specs.type_rules.Rows.{rec_at}
use Rattle.rules.specs.merge_rules.Numbers.{kept_types}
use Rattle.rules.specs.merge_rules.Refs.{Output}
use Rattle.rules.specs.merge_rules.Rows.{run_at}
use Rattle.rules.specs.merge_rules.Moved.{moved_type_row}
use Rattle.rules.specs.merge_rules.Restricted.{each_at}
use Rattle.merge_plan.specs.declared.outcome.NewName as plan_name
use Rattle.merge_plan.specs.declared.outcome.Plan.{Plan}
use Rattle.merge_plan.specs.declared.moved_parts.tokens.NewTokens.{NewTokens}
use Rattle.merge_plan.specs.moved_parts.Laws.{AreNewTokens}
use Rattle.merged_tables.specs.merged_members.Laws.{HasTokens, HaveTokens}
use Rattle.merge_plan.specs.declared.kept_tables.tables.ItemTables.{ItemTables}
use Rattle.merge_plan.specs.kept_tables.Kept.{AreKeptItems}
use Rattle.merged_tables.specs.merged_types.Types.{name_by, type_by, type_of, type_defs_by}
use Rattle.merged_tables.specs.merged_types.Laws.{IsPlanOf}
use Rattle.merged_tables.proofs.lemmas.merged_types.Naming.{names_are}

module _ (o : Output) (tokens : List NewTokens) (plan : Plan) (k : ItemTables) (have : HaveTokens o tokens) (is : IsPlanOf o plan) (are : AreKeptItems o.recs o.kept k) where
  one_type : (at : RowAt) (rec : AsmRec) (t : NewTokens) (row : TypeDefRow) → slice_get o.recs at.asm ≡ Some rec → slice_get rec.type_def at.row ≡ Some row → AreNewTokens o at.asm rec t
      → type_by o.recs plan k t at row ≡ moved_type_row plan.internal o at rec row
  one_type at rec t row here there new =
      let name = ap (λ (ns : List plan_name.NewName). name_by ns (type_id o.recs at.asm at.row) row.name) is
      ∙ names_are o.recs o.kept at (record { rec = rec; here = here; below = place_within rec.type_def at.row row there }) row.name in
      λ i. record (moved_type_row plan.internal o at rec row) {
        name = name i;
        extends = new.types row.extends i;
        field_list_first = run_at (are.fields i) at.asm row.field_list_first;
        field_list_end = run_at (are.fields i) at.asm row.field_list_end;
        method_list_first = run_at (are.methods i) at.asm row.method_list_first;
        method_list_end = run_at (are.methods i) at.asm row.method_list_end;
      }

  rows_same : (at : RowAt) (rec : AsmRec) (t : NewTokens) → slice_get o.recs at.asm ≡ Some rec → AreNewTokens o at.asm rec t → (row : Option TypeDefRow) → slice_get rec.type_def at.row ≡ row
      → map (type_by o.recs plan k t at) (listed row) ≡ map (moved_type_row plan.internal o at rec) (listed row)
  rows_same at rec t here new None e = refl
  rows_same at rec t here new (Some row) e = ap (λ (x : TypeDefRow). x ∷ []) (one_type at rec t row here e new)

  with_tokens : (at : RowAt) (rec : AsmRec) → slice_get o.recs at.asm ≡ Some rec → HasTokens o tokens at.asm rec
      → flat_map (λ (t : NewTokens). map (type_by o.recs plan k t at) (listed (slice_get rec.type_def at.row))) (listed (slice_get tokens at.asm))
      ≡ map (moved_type_row plan.internal o at rec) (listed (slice_get rec.type_def at.row))
  with_tokens at rec here has =
      ap (λ (t : Option NewTokens). flat_map (λ (t : NewTokens). map (type_by o.recs plan k t at) (listed (slice_get rec.type_def at.row))) (listed t)) has.there
      ∙ append-nil (map (type_by o.recs plan k has.new at) (listed (slice_get rec.type_def at.row)))
      ∙ rows_same at rec has.new here has.are (slice_get rec.type_def at.row) refl

  one_same : (at : RowAt) (r : Option AsmRec) → slice_get o.recs at.asm ≡ r
      → flat_map (λ (rec : AsmRec). flat_map (λ (t : NewTokens). map (type_by o.recs plan k t at) (listed (slice_get rec.type_def at.row))) (listed (slice_get tokens at.asm))) (listed r)
      ≡ flat_map (λ (rec : AsmRec). map (moved_type_row plan.internal o at rec) (listed (slice_get rec.type_def at.row))) (listed r)
  one_same at None e = refl
  one_same at (Some rec) e = ap (λ (xs : List TypeDefRow). xs ++ []) (with_tokens at rec e (have at.asm rec e))

  all_same : (places : List RowAt) → flat_map (type_of o.recs plan k tokens) places ≡ each_at o.recs (λ rec. rec.type_def) (moved_type_row plan.internal o) places
  all_same [] = refl
  all_same (at ∷ places) = λ i. one_same at (rec_at o.recs at) refl i ++ all_same places i

  pub all_tell : type_defs_by o.recs plan k tokens ≡ each_at o.recs (λ rec. rec.type_def) (moved_type_row plan.internal o) (kept_types o.recs o.kept)
  all_tell = all_same k.types ∙ ap (each_at o.recs (λ rec. rec.type_def) (moved_type_row plan.internal o)) are.types
