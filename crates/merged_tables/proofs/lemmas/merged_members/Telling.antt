-- What is made of rows with the output's tokens is what the definition makes of them.
use Rattle.std.proofs.Common.{◌≡◌, List, [], ◌∷◌, ◌++◌, map, Option, Some, None, refl, ap, ◌∙◌}
use Rattle.std.proofs.lemmas.List.{append-nil}
use Rattle.std.specs.Prelude.{slice_get}
use Rattle.std.specs.List.{flat_map}
use Rattle.il_base.specs.declared.world_model.record.AsmRec.{AsmRec}
use Rattle.rules.specs.declared.link_rules.row_at.RowAt.{RowAt}
use Rattle.rules.specs.link_rules.Cycles.{listed}
use Rattle.rules.specs.type_rules.Rows.{rec_at}
use Rattle.rules.specs.merge_rules.Numbers.{kept_methods}
use Rattle.rules.specs.merge_rules.Rows.{kept_params}
use Rattle.rules.specs.merge_rules.Refs.{Output}
use Rattle.rules.specs.merge_rules.Moved.{moved_field_row, moved_method_row, moved_property_row, moved_event_row}
use Rattle.rules.specs.merge_rules.Restricted.{each_at}
use Rattle.merge_plan.specs.declared.moved_parts.tokens.NewTokens.{NewTokens}
use Rattle.merge_plan.specs.moved_parts.Moves.{field_by, property_by, event_by}
use Rattle.merge_plan.specs.moved_parts.Laws.{AreNewTokens}
use Rattle.merge_plan.proofs.lemmas.moved_parts.Telling as parts
use Rattle.merged_tables.specs.merged_members.Members.{made_of, method_row_by}
use Rattle.merged_tables.specs.merged_members.Laws.{HasTokens, HaveTokens, AreMembers}

module _ (o : Output) (tokens : List NewTokens) (have : HaveTokens o tokens) where
  module _ {R B : Type 0} (rows : AsmRec → List R) (f : RowAt → NewTokens → AsmRec → R → B) (g : RowAt → AsmRec → R → B)
      (same : (at : RowAt) (rec : AsmRec) (t : NewTokens) → AreNewTokens o at.asm rec t → (row : R) → f at t rec row ≡ g at rec row) where
    rows_same : (at : RowAt) (rec : AsmRec) (t : NewTokens) → AreNewTokens o at.asm rec t → (row : Option R) → map (f at t rec) (listed row) ≡ map (g at rec) (listed row)
    rows_same at rec t are None = refl
    rows_same at rec t are (Some row) = ap (λ (x : B). x ∷ []) (same at rec t are row)

    with_tokens : (at : RowAt) (rec : AsmRec) → HasTokens o tokens at.asm rec
        → flat_map (λ (t : NewTokens). map (f at t rec) (listed (slice_get (rows rec) at.row))) (listed (slice_get tokens at.asm)) ≡ map (g at rec) (listed (slice_get (rows rec) at.row))
    with_tokens at rec has =
        ap (λ (t : Option NewTokens). flat_map (λ (t : NewTokens). map (f at t rec) (listed (slice_get (rows rec) at.row))) (listed t)) has.there
        ∙ append-nil (map (f at has.new rec) (listed (slice_get (rows rec) at.row)))
        ∙ rows_same at rec has.new has.are (slice_get (rows rec) at.row)

    one_same : (at : RowAt) (r : Option AsmRec) → slice_get o.recs at.asm ≡ r
        → flat_map (λ (rec : AsmRec). flat_map (λ (t : NewTokens). map (f at t rec) (listed (slice_get (rows rec) at.row))) (listed (slice_get tokens at.asm))) (listed r)
        ≡ flat_map (λ (rec : AsmRec). map (g at rec) (listed (slice_get (rows rec) at.row))) (listed r)
    one_same at None e = refl
    one_same at (Some rec) e = ap (λ (xs : List B). xs ++ []) (with_tokens at rec (have at.asm rec e))

    all_same : (places : List RowAt) → flat_map (λ (at : RowAt). made_of rows (f at) o.recs tokens at) places ≡ each_at o.recs rows g places
    all_same [] = refl
    all_same (at ∷ places) = λ i. one_same at (rec_at o.recs at) refl i ++ all_same places i

  pub all_tell : AreMembers o tokens
  all_tell = record {
    fields = λ places. all_same (λ rec. rec.field) (λ at t rec row. field_by t row) (moved_field_row o) (λ at rec t are row. (parts.all_tell o at.asm rec t are).field_rows at.row row) places;
    methods = all_same (λ rec. rec.method_def) (λ at. method_row_by (kept_params o.recs o.kept) at.asm) (moved_method_row o) (λ at rec t are row. (parts.all_tell o at.asm rec t are).method_rows at.row row)
        (kept_methods o.recs o.kept);
    params = λ places. refl;
    properties = λ places. all_same (λ rec. rec.property) (λ at t rec row. property_by t row) (moved_property_row o) (λ at rec t are row. (parts.all_tell o at.asm rec t are).property_rows at.row row) places;
    events = λ places. all_same (λ rec. rec.event) (λ at t rec row. event_by t row) (moved_event_row o) (λ at rec t are row. (parts.all_tell o at.asm rec t are).event_rows at.row row) places;
  }
