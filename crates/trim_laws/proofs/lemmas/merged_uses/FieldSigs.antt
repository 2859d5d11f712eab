-- The type of a kept field moves with it; the one field of the core library has a primitive.
use Rattle.std.proofs.Common.{◌≡◌, ℕ, zero, suc, Bool, true, false, List, [], ◌∷◌, ◌++◌, Option, Some, None, inl, inr, refl, sym, ap, ◌∙◌}
use Rattle.std.specs.Prelude.{IsTrue, slice_get}
use Rattle.std.specs.List.{list_all}
use Rattle.std.specs.Option.{option_map, option_and_then}
use Rattle.std.proofs.lemmas.Bool.{and_parts}
use Rattle.il_base.specs.declared.sig.Sig.{Sig, fold-roll-Sig}
use Rattle.il_base.specs.declared.sig.Sig.TheOpen.{Sig-F}
use Rattle.il_base.specs.declared.sig.Sig.TheVariants as sig
use Rattle.il_base.specs.declared.world_model.known.Known.{Known}
use Rattle.il_base.specs.declared.world_model.known.Known.TheVariants.{Good}
use Rattle.il_base.specs.declared.world_model.expr.TypeExpr.{TypeExpr}
use Rattle.il_base.specs.declared.world_model.expr.TypeExpr.TheVariants as expr
use Rattle.il_base.specs.declared.world_model.members.FieldRow.{FieldRow}
use Rattle.il_base.specs.declared.world_model.record.AsmRec.{AsmRec}
use Rattle.il_base.specs.world_model.Worlds.{Names, known_map, known_then, sig_layer, sig_expr}
use Rattle.il_base.specs.declared.core_table.shape.CoreField.{CoreField}
use Rattle.il_base.specs.declared.core_table.shape.CoreSig.{CoreSig}
use Rattle.il_base.specs.declared.core_table.shape.CoreSig.TheVariants as core
use Rattle.il_base.specs.declared.core_table.shape.CoreType.{CoreType}
use Rattle.il_base.specs.declared.core_table.types.TheConstants.{TYPES}
use Rattle.il_base.specs.core_table.Members.{fields_of}
use Rattle.il_base.specs.core_table.Record.{core_record, record_with, sig_of, field_row, field_rows, all_fields}
use Rattle.rules.specs.declared.link_rules.row_at.RowAt.{RowAt}
use Rattle.rules.specs.link_rules.Types.{at_row}
use Rattle.rules.specs.link_rules.Signatures.{names_at}
use Rattle.rules.specs.link_rules.Members.{fields_in}
use Rattle.rules.specs.merge_rules.Numbers.{kept_fields}
use Rattle.rules.specs.merge_rules.Moved.{moved_field_row}
use Rattle.rules.specs.change_rules.Change.{Keep}
use Rattle.rules.specs.change_rules.Moves.{move_expr}
use Rattle.base_laws.proofs.lemmas.change_laws.Exprs.{move_prim}
use Rattle.rules.specs.world_change_rules.Places.{keeps_field_row}
use Rattle.rules.specs.merged_world_rules.Merge.{Merge, IsMerge, before, after, output}
use Rattle.rules.specs.merged_world_rules.Numbering.{number_at}
use Rattle.rules.specs.merged_world_rules.NewNumbers.{rho_of, places_of}
use Rattle.merge_laws.proofs.lemmas.merged_places.Ranks.{rank}
use Rattle.merge_laws.proofs.lemmas.merged_places.Rows.{place_has, place_past}
use Rattle.merge_laws.proofs.lemmas.merged_places.Kept.{keeps}
use Rattle.merge_laws.proofs.lemmas.merged_places.Worlds.{core_of, left_core, after_left, after_core, core_rec, core_at, before_fields}
use Rattle.merge_laws.proofs.lemmas.merged_places.CoreTables.{field_same}
use Rattle.merge_laws.proofs.lemmas.merged_places.Tables.{number_field, field_kind, field_left}
use Rattle.merge_laws.proofs.lemmas.merged_places.Situations.{place, situation, Input, Core, HasNone}
use Rattle.merge_laws.proofs.lemmas.merged_places.Whole.{field_stays}
use Rattle.trim_laws.specs.merged_uses.Laws.{Reads}
use Rattle.trim_laws.proofs.lemmas.merged_uses.FieldMatches.{type_of_field}

-- ---- fields of the core library

abbrev is_prim : CoreSig → Bool
is_prim (core.Prim code) = true
is_prim (core.Class token) = false
is_prim (core.Value token) = false
is_prim (core.Prims code) = false
is_prim (core.Classes token) = false
is_prim (core.MVar n) = false

abbrev is_prim_field : CoreField → Bool
is_prim_field f = is_prim f.signature

abbrev is_prim_type : CoreType → Bool
is_prim_type t = list_all is_prim_field (fields_of t.members)

all_prim : list_all is_prim_type TYPES ≡ true
unfolding fields_of
all_prim = refl

-- a row with such a signature
pub record PrimRow (row : FieldRow) : Type 0 where
  pub code : ℕ
  pub signature : row.signature ≡ Good (sig.Prim code)

prim_row : (c : CoreSig) (row : FieldRow) → is_prim c ≡ true → row.signature ≡ Good (sig_of c) → PrimRow row
prim_row (core.Prim code) row h e = record { code = code; signature = e }
prim_row (core.Class token) row h e = absurd (cc)
prim_row (core.Value token) row h e = absurd (cc)
prim_row (core.Prims code) row h e = absurd (cc)
prim_row (core.Classes token) row h e = absurd (cc)
prim_row (core.MVar n) row h e = absurd (cc)

in_fields : (fs : List CoreField) (rest : List FieldRow) → list_all is_prim_field fs ≡ true → ((k : ℕ) (row : FieldRow) → slice_get rest k ≡ Some row → PrimRow row)
    → (k : ℕ) (row : FieldRow) → slice_get (field_rows fs ++ rest) k ≡ Some row → PrimRow row
unfolding field_row
in_fields [] rest h more k row e = more k row e
in_fields (f ∷ fs) rest h more zero row e =
    let same : field_row f ≡ row = cc in
    prim_row f.signature row (and_parts (is_prim_field f) (list_all is_prim_field fs) h).0 (ap (λ (x : FieldRow). x.signature) (sym same))
in_fields (f ∷ fs) rest h more (suc k) row e = in_fields fs rest (and_parts (is_prim_field f) (list_all is_prim_field fs) h).1 more k row e

in_types : (ts : List CoreType) → list_all is_prim_type ts ≡ true → (k : ℕ) (row : FieldRow) → slice_get (all_fields ts) k ≡ Some row → PrimRow row
unfolding all_fields
in_types [] h k row e = absurd (cc)
in_types (t ∷ ts) h k row e =
    let p = and_parts (is_prim_type t) (list_all is_prim_type ts) h in
    in_fields (fields_of t.members) (all_fields ts) p.0 (in_types ts p.1) k row e

pub core_prim : (k : ℕ) (row : FieldRow) → slice_get core_record.field k ≡ Some row → PrimRow row
unfolding core_record record_with
core_prim k row e = in_types TYPES all_prim k row e

pub prim_sig : (names : Names) (n : ℕ) → sig_expr names (sig.Prim n) ≡ Good (expr.Prim n)
unfolding sig_expr
prim_sig names n = ap (sig_expr names) (sym (sig.rolls-Prim n)) ∙ fold-roll-Sig (Known TypeExpr) (sig_layer names) (Sig-F.Prim n)

-- ---- in a merge

row_type : (recs : List AsmRec) (at : RowAt) (rec : AsmRec) (row : FieldRow) → slice_get recs at.asm ≡ Some rec → slice_get rec.field at.row ≡ Some row → type_of_field recs at ≡ Some (known_then (sig_expr (names_at recs at.asm rec)) row.signature)
row_type recs at rec row e f =
    ap (option_and_then (λ (rec : AsmRec). option_map (λ (x : FieldRow). known_then (sig_expr (names_at recs at.asm rec)) x.signature) (slice_get rec.field at.row))) e
    ∙ ap (option_map (λ (x : FieldRow). known_then (sig_expr (names_at recs at.asm rec)) x.signature)) f

module _ (m : Merge) (k : Keep) (kept : RowAt → Bool) (r : Reads m k kept) where
  abbrev is : IsMerge m
  is = r.merge

  abbrev mv : TypeExpr → TypeExpr
  mv = move_expr (rho_of m)

  abbrev field : RowAt → RowAt
  field at = place m fields_in number_field (field_kind m is) at

  input_type : (at : RowAt) → Input m fields_in number_field (field_kind m is) at → type_of_field (after m) (field at) ≡ option_map (known_map (move_expr (rho_of m))) (type_of_field (before m) at)
  input_type at h =
      let row = place_has h.there.rec.field at.row h.there.below in
      let left = field_left m is at h.there.rec row.0 h.there h.earlier h.keeps_it h.there.here row.1 in
      ap (type_of_field (after m)) h.moved
      ∙ row_type (after m) (at_row 0 (rank (keeps fields_in (before m) number_field m.kept) (number_at fields_in (before m) at))) m.left (moved_field_row (output m) at h.there.rec row.0) (after_left m) left
      ∙ ap Some (r.fields at h.there.rec row.0 h.there.here row.1 h.earlier h.keeps_it)
      ∙ sym (ap (option_map (known_map (move_expr (rho_of m)))) (row_type (before m) at h.there.rec row.0 h.there.here row.1))

  core_type : (at : RowAt) → Core m fields_in number_field (field_kind m is) at → type_of_field (after m) (field at) ≡ option_map (known_map (move_expr (rho_of m))) (type_of_field (before m) at)
  core_type at h =
      let row = place_has h.there.rec.field at.row h.there.below in
      let e : slice_get (core_of m).field at.row ≡ Some row.0 = ap (λ (rec : AsmRec). slice_get rec.field at.row) (sym (core_rec m at h.there.rec h.there.here h.last)) ∙ row.1 in
      let p = core_prim at.row row.0 (ap (λ (fs : List FieldRow). slice_get fs at.row) (sym (before_fields m)) ∙ e) in
      ap (type_of_field (after m)) h.moved ∙ row_type (after m) (at_row 1 h.row) (left_core m) row.0 (after_core m) (field_same m at.row h.row h.goes ∙ e)
      ∙ ap (λ (s : Known Sig). Some (known_then (sig_expr (names_at (after m) 1 (left_core m))) s)) p.signature
      ∙ ap Some (prim_sig (names_at (after m) 1 (left_core m)) p.code ∙ ap Good (sym (move_prim (rho_of m) p.code)) ∙ ap (known_map (move_expr (rho_of m))) (sym (prim_sig (names_at (before m) at.asm (core_of m)) p.code)))
      ∙ sym (ap (λ (s : Known Sig). Some (known_map (move_expr (rho_of m)) (known_then (sig_expr (names_at (before m) at.asm (core_of m))) s))) p.signature)
      ∙ sym (ap (option_map (known_map (move_expr (rho_of m)))) (row_type (before m) at (core_of m) row.0 (core_at m at h.last) e))

  gone_by : (recs : List AsmRec) (at : RowAt) → HasNone fields_in recs at → (o : Option AsmRec) → slice_get recs at.asm ≡ o
      → option_and_then (λ (rec : AsmRec). option_map (λ (x : FieldRow). known_then (sig_expr (names_at recs at.asm rec)) x.signature) (slice_get rec.field at.row)) o ≡ None
  gone_by recs at none None e = refl
  gone_by recs at none (Some rec) e = ap (option_map (λ (x : FieldRow). known_then (sig_expr (names_at recs at.asm rec)) x.signature)) (place_past rec.field at.row (none rec e))

  type_by : (at : RowAt) → IsTrue (keeps_field_row k (before m) at) → type_of_field (after m) (field at) ≡ option_map (known_map (move_expr (rho_of m))) (type_of_field (before m) at)
  type_by at keeps_it = elim (situation m fields_in number_field (field_kind m is) at (λ h. field_stays m is k kept r.flags at keeps_it h)) [
    | inl h ↦ input_type at h
    | inr other ↦ elim other [
      | inl h ↦ core_type at h
      | inr h ↦ gone_by (after m) (field at) h.none_after (slice_get (after m) (field at).asm) refl
          ∙ sym (ap (option_map (known_map (move_expr (rho_of m)))) (gone_by (before m) at h.none_before (slice_get (before m) at.asm) refl))
    ]
  ]

  pub type_moved : (at : RowAt) → IsTrue (keeps_field_row k (before m) at) → type_of_field (after m) ((places_of m).field at) ≡ option_map (known_map (move_expr (rho_of m))) (type_of_field (before m) at)
  unfolding kept_fields
  type_moved at keeps_it = type_by at keeps_it
