-- What is told of a kept type by its row: flags that a step looks at, and how many generic parameters it has.
use Rattle.std.proofs.Common.{◌≡◌, ℕ, suc, Bool, true, false, List, length, Option, Some, None, inl, inr, refl, sym, ap, ◌∙◌, arith}
use Rattle.std.specs.Prelude.{slice_get, bit_and, ◌==◌, ◌||◌}
use Rattle.std.specs.List.{list_any, count_by}
use Rattle.std.specs.Option.{option_map, option_and_then}
use Rattle.il_base.specs.declared.table.TheConstants.{TYPE_DEF}
use Rattle.il_base.specs.declared.world_model.expr.TypeExpr.{TypeExpr}
use Rattle.il_base.specs.declared.world_model.types.TypeDefRow.{TypeDefRow}
use Rattle.il_base.specs.declared.world_model.record.AsmRec.{AsmRec}
use Rattle.il_base.specs.world_model.Tokens.{token_of}
use Rattle.il_base.specs.world_model.Worlds.{types_in}
use Rattle.il_base.specs.core_table.Record.{core_record, record_with}
use Rattle.rules.specs.declared.link_rules.row_at.RowAt.{RowAt}
use Rattle.rules.specs.link_rules.Types.{at_row}
use Rattle.rules.specs.link_rules.Members.{param_count, is_param_of}
use Rattle.rules.specs.link_rules.Cycles.{listed}
use Rattle.il_base.specs.declared.cil_values.definition.Head.{Head}
use Rattle.rules.specs.declared.view_rules.seen_flags.TheConstants as seen
use Rattle.rules.specs.view_rules.Methods.{head_at}
use Rattle.rules.specs.view_rules.Layouts.{fits_params}
use Rattle.rules.specs.merged_world_rules.Merge.{Merge, before, after, output, IsMerge}
use Rattle.rules.specs.merged_world_rules.Numbering.{number_at}
use Rattle.merge_laws.proofs.lemmas.merged_places.Ranks.{rank}
use Rattle.merge_laws.proofs.lemmas.merged_places.Rows.{IsThere, place_has, place_past}
use Rattle.merge_laws.proofs.lemmas.merged_places.Kept.{keeps}
use Rattle.merge_laws.proofs.lemmas.merged_places.Worlds.{core_of, left_core, after_left, after_core, core_rec, core_at, before_params, left_params}
use Rattle.merge_laws.proofs.lemmas.merged_places.CoreTables.{type_same}
use Rattle.merge_laws.proofs.lemmas.merged_places.Situations.{place, situation, Input, Core, HasNone}
use Rattle.merge_laws.proofs.lemmas.merged_places.Tables.{number_type, type_kind, type_left}
use Rattle.merge_laws.proofs.lemmas.merged_rows_move.RowsOf.{type_like, TypeStays}
use Rattle.merge_laws.proofs.lemmas.merged_rows_move.Params.{params_move}

abbrev head_with : ℕ → ℕ → Head
head_with flags params = record { flags = flags; params = params }

abbrev head_by : RowAt → AsmRec → TypeDefRow → Head
head_by at rec t = record { flags = bit_and t.flags seen.TYPE; params = param_count rec at.row }

module _ (recs : List AsmRec) (at : RowAt) where
  head_of : (rec : AsmRec) → slice_get recs at.asm ≡ Some rec → head_at recs at ≡ option_map (head_by at rec) (slice_get rec.type_def at.row)
  head_of rec e = ap (option_and_then (λ (rec : AsmRec). option_map (head_by at rec) (slice_get rec.type_def at.row))) e

  none_by : HasNone types_in recs at → (o : Option AsmRec) → slice_get recs at.asm ≡ o → option_and_then (λ (rec : AsmRec). option_map (head_by at rec) (slice_get rec.type_def at.row)) o ≡ None
  none_by none None e = refl
  none_by none (Some rec) e = ap (option_map (head_by at rec)) (place_past rec.type_def at.row (none rec e))

  no_head : HasNone types_in recs at → head_at recs at ≡ None
  no_head none = none_by none (slice_get recs at.asm) refl

  fits_of : (rec : AsmRec) (args : List TypeExpr) → slice_get recs at.asm ≡ Some rec → fits_params recs at args ≡ (param_count rec at.row == length args)
  fits_of rec args e = ap (λ (o : Option AsmRec). list_any (λ (rec : AsmRec). param_count rec at.row == length args) (listed o)) e ∙ or_none (param_count rec at.row == length args)
    where
      or_none : (b : Bool) → (b || false) ≡ b
      or_none true = refl
      or_none false = refl

module _ (m : Merge) (is : IsMerge m) where
  abbrev typ : RowAt → RowAt
  typ at = place m types_in number_type (type_kind m is) at

  abbrev new : RowAt → ℕ
  new at = rank (keeps types_in (before m) number_type m.kept) (number_at types_in (before m) at)

  input_head : (at : RowAt) → Input m types_in number_type (type_kind m is) at → head_at (after m) (typ at) ≡ head_at (before m) at
  input_head at h =
      let row = place_has h.there.rec.type_def at.row h.there.below in
      let left = type_left m is at h.there.rec row.0 h.there h.earlier h.keeps_it h.there.here row.1 in
      let like = type_like m.internal (output m) at h.there.rec row.0 in
      let params = params_move m is at h in
      ap (head_at (after m)) h.moved ∙ head_of (after m) (at_row 0 (new at)) m.left (after_left m)
      ∙ ap (option_map (head_by (at_row 0 (new at)) m.left)) left
      ∙ (λ i. Some (head_with (like.seen i) (params i)))
      ∙ sym (head_of (before m) at h.there.rec h.there.here ∙ ap (option_map (head_by at h.there.rec)) row.1)

  -- no type of the core library has generic parameters
  core_params : (r s : ℕ) → param_count (left_core m) s ≡ param_count (core_of m) r
  unfolding param_count core_record record_with
  core_params r s =
      ap (count_by (is_param_of (token_of TYPE_DEF (suc s)))) (left_params m) ∙ sym (ap (count_by (is_param_of (token_of TYPE_DEF (suc r)))) (before_params m))

  core_head : (at : RowAt) → Core m types_in number_type (type_kind m is) at → head_at (after m) (typ at) ≡ head_at (before m) at
  core_head at h =
      let row = place_has h.there.rec.type_def at.row h.there.below in
      let e : slice_get (core_of m).type_def at.row ≡ Some row.0 = ap (λ (rec : AsmRec). slice_get rec.type_def at.row) (sym (core_rec m at h.there.rec h.there.here h.last)) ∙ row.1 in
      ap (head_at (after m)) h.moved ∙ head_of (after m) (at_row 1 h.row) (left_core m) (after_core m)
      ∙ ap (option_map (head_by (at_row 1 h.row) (left_core m))) (type_same m at.row h.row h.goes ∙ e)
      ∙ ap (λ (n : ℕ). Some (head_with (bit_and row.0.flags seen.TYPE) n)) (core_params at.row h.row)
      ∙ sym (head_of (before m) at (core_of m) (core_at m at h.last) ∙ ap (option_map (head_by at (core_of m))) e)

  pub head_moved : (at : RowAt) → TypeStays m is at → head_at (after m) (typ at) ≡ head_at (before m) at
  head_moved at stays = elim (situation m types_in number_type (type_kind m is) at stays) [
    | inl h ↦ input_head at h
    | inr other ↦ elim other [ inl h ↦ core_head at h | inr h ↦ no_head (after m) (typ at) h.none_after ∙ sym (no_head (before m) at h.none_before) ]
  ]

  input_fits : (at : RowAt) (args : List TypeExpr) → Input m types_in number_type (type_kind m is) at → fits_params (after m) (typ at) args ≡ fits_params (before m) at args
  input_fits at args h =
      ap (λ (x : RowAt). fits_params (after m) x args) h.moved ∙ fits_of (after m) (at_row 0 (new at)) m.left args (after_left m)
      ∙ ap (λ (n : ℕ). n == length args) (params_move m is at h) ∙ sym (fits_of (before m) at h.there.rec args h.there.here)

  core_fits : (at : RowAt) (args : List TypeExpr) → Core m types_in number_type (type_kind m is) at → fits_params (after m) (typ at) args ≡ fits_params (before m) at args
  core_fits at args h =
      ap (λ (x : RowAt). fits_params (after m) x args) h.moved ∙ fits_of (after m) (at_row 1 h.row) (left_core m) args (after_core m)
      ∙ ap (λ (n : ℕ). n == length args) (core_params at.row h.row) ∙ sym (fits_of (before m) at (core_of m) args (core_at m at h.last))

  pub fits_moved : (at : RowAt) → TypeStays m is at → IsThere types_in (before m) at → (args : List TypeExpr) → fits_params (after m) (typ at) args ≡ fits_params (before m) at args
  fits_moved at stays there args = elim (situation m types_in number_type (type_kind m is) at stays) [
    | inl h ↦ input_fits at args h
    | inr other ↦ elim other [
      | inl h ↦ core_fits at args h
      | inr h ↦ let past = h.none_before there.rec there.here in let lt = there.below in absurd (omega (arith, past, lt))
    ]
  ]
