-- All of a kept field.
use Rattle.std.proofs.Common.{◌≡◌, ◌<◌, ◌≤◌, ℕ, suc, Bool, true, false, nat_le, nat_lt, List, [], ◌∷◌, length, map, Option, Some, None, inl, inr, refl, sym, ap, subst, ◌∙◌, arith}
use Rattle.std.specs.Prelude.{IsTrue, slice_get, bit_and, not, ◌==◌, ◌&&◌, if◌then◌else◌}
use Rattle.std.specs.List.{Contains, flat_map}
use Rattle.std.specs.Option.{option_map, option_and_then}
use Rattle.std.proofs.lemmas.Bool.{ne_eqb, le-leb, lt-ltb, and_from}
use Rattle.il_base.specs.declared.outside.TheConstants.{GLOBAL_MEMBER, LAYOUT}
use Rattle.il_base.specs.declared.element.TheConstants.{STRING}
use Rattle.il_base.specs.declared.table.TheConstants.{FIELD}
use Rattle.descriptor_file.specs.declared.root.Root.{Root}
use Rattle.il_base.specs.declared.world_model.known.Known.{Known}
use Rattle.il_base.specs.declared.world_model.known.Known.TheVariants.{Good, Bad}
use Rattle.il_base.specs.declared.world_model.known.BadKind.TheVariants.{Outside}
use Rattle.il_base.specs.declared.world_model.expr.TypeExpr.{TypeExpr}
use Rattle.il_base.specs.declared.world_model.members.FieldRow.{FieldRow}
use Rattle.il_base.specs.declared.world_model.types.TypeDefRow.{TypeDefRow}
use Rattle.il_base.specs.declared.world_model.record.AsmRec.{AsmRec}
use Rattle.il_base.specs.world_model.Records.{IsRecord}
use Rattle.il_base.specs.world_model.Tokens.{token_of}
use Rattle.il_base.specs.world_model.Worlds.{types_in, known_map, known_then, sig_expr}
use Rattle.il_base.specs.core_table.Record.{core_record}
use Rattle.rules.specs.declared.link_rules.row_at.RowAt.{RowAt}
use Rattle.rules.specs.link_rules.CoreNames.{added_row}
use Rattle.rules.specs.link_rules.Types.{at_row}
use Rattle.rules.specs.link_rules.Signatures.{names_at}
use Rattle.rules.specs.link_rules.Members.{fields_in, owns_field}
use Rattle.rules.specs.link_rules.Cycles.{is_static_field}
use Rattle.rules.specs.type_rules.Rows.{rec_at, type_row_at, owner_of_field}
use Rattle.rules.specs.mark_rules.Places.{type_item, field_item}
use Rattle.rules.specs.mark_rules.BadItems.{is_global}
use Rattle.il_base.specs.declared.cil_values.definition.FieldDef.{FieldDef}
use Rattle.il_base.specs.declared.cil_values.definition.First.{First}
use Rattle.il_base.specs.declared.cil_values.definition.First.TheVariants.{EmptyText as empty_text, Bytes as bytes}
use Rattle.rules.specs.declared.view_rules.seen_flags.TheConstants as seen
use Rattle.rules.specs.view_rules.Methods.{has_explicit_layout, bytes_by, first_bytes, field_owner, field_by, field_at}
use Rattle.rules.specs.merge_rules.Numbers.{kept_types, kept_fields}
use Rattle.rules.specs.merge_rules.Moved.{moved_sig, moved_field_row}
use Rattle.rules.specs.change_rules.Change.{Keep}
use Rattle.rules.specs.change_rules.Moves.{move_expr}
use Rattle.rules.specs.change_rules.Answers.{move_field}
use Rattle.base_laws.proofs.lemmas.change_laws.Exprs.{move_prim}
use Rattle.rules.specs.world_change_rules.Places.{keeps_type_row, keeps_field_row}
use Rattle.merge_laws.specs.merged_record.Laws.{InputsAreRecords}
use Rattle.merge_laws.proofs.lemmas.merged_record.Owned.{to_kept}
use Rattle.merge_laws.specs.merged_owners.Laws.{OwnersStay}
use Rattle.merge_laws.proofs.lemmas.merged_loads.Whole.{an_input}
use Rattle.rules.specs.merged_world_rules.Merge.{Merge, IsMerge, before, after, names_before, names_after, output}
use Rattle.rules.specs.merged_world_rules.Numbering.{number_at}
use Rattle.rules.specs.merged_world_rules.NewNumbers.{rho_of, places_of}
use Rattle.rules.specs.merged_world_rules.Kept.{HasFlags}
use Rattle.merge_laws.proofs.lemmas.merged_places.Ranks.{rank}
use Rattle.merge_laws.proofs.lemmas.merged_places.Rows.{IsThere, place_has, place_past}
use Rattle.merge_laws.proofs.lemmas.merged_places.Kept.{keeps}
use Rattle.merge_laws.proofs.lemmas.merged_places.Worlds.{core_of, left_core, after_is, after_left, after_core, core_rec, core_at, before_input, before_types, left_types, before_fields, left_fields}
use Rattle.merge_laws.proofs.lemmas.merged_places.CoreRows.{same_is}
use Rattle.merge_laws.proofs.lemmas.merged_places.CoreTables.{field_same}
use Rattle.merge_laws.proofs.lemmas.merged_places.Situations.{place, place_there, situation, Input, Core, Gone}
use Rattle.merge_laws.proofs.lemmas.merged_places.Tables.{number_type, number_field, type_kind, field_kind, field_left}
use Rattle.merge_laws.proofs.lemmas.merged_places.Moving.{place_kept}
use Rattle.merge_laws.proofs.lemmas.merged_places.Whole.{field_stays, there_row}
use Rattle.merge_laws.proofs.lemmas.merged_rows_move.RowsOf.{LikeField, field_like}
use Rattle.merge_laws.proofs.lemmas.merged_rows_move.Whole.{marks}
use Rattle.trim_laws.specs.marked_merge_rules.Merges.{IsMarkedMerge}
use Rattle.trim_laws.proofs.lemmas.merged_modules.Modules.{stay}
use Rattle.trim_laws.specs.merged_fields.Laws.{ReadsFieldSignatures, MovesFields}
use Rattle.trim_laws.proofs.lemmas.merged_fields.Bytes.{bytes_move}
use Rattle.trim_laws.proofs.lemmas.merged_fields.Owners.{owner_before, owner_there, owner_after, type_there, moved}
use Rattle.trim_laws.proofs.lemmas.merged_fields.Global.{not_global}
use Rattle.trim_laws.proofs.lemmas.merged_fields.Core.{core_field, core_definition}

-- ---- a definition by what it is made of

abbrev typ_by : Bool → Bool → Known TypeExpr → Known TypeExpr
typ_by global laid t = if global then Bad (Outside GLOBAL_MEMBER) else if laid then Bad (Outside LAYOUT) else t

abbrev first_by : Bool → Bool → List (Known (List ℕ)) → First
first_by core global xs = if core then empty_text else if global then bytes (Bad (Outside GLOBAL_MEMBER)) else first_bytes xs

abbrev definition_by : ℕ → Bool → Bool → Bool → Known TypeExpr → List (Known (List ℕ)) → FieldDef
definition_by flags core global laid t xs = record { flags = flags; typ = typ_by global laid t; first = first_by core global xs }

moved_by : (move : TypeExpr → TypeExpr) (laid : Bool) (t : Known TypeExpr) → typ_by false laid (known_map move t) ≡ known_map move (typ_by false laid t)
moved_by move true t = refl
moved_by move false t = refl

module _ (m : Merge) (entry : Option RowAt) (roots : List Root) (k : Keep) (kept : RowAt → Bool) (merge : IsMarkedMerge m entry roots) (flags : HasFlags m k kept) (left : IsRecord m.left) (reads : ReadsFieldSignatures m) (owners_stay : OwnersStay) where
  abbrev is : IsMerge m
  is = merge.merge

  abbrev field_place : RowAt → RowAt
  field_place at = place m fields_in number_field (field_kind m is) at

  at_by : (recs : List AsmRec) (at : RowAt) (rec : AsmRec) (f : FieldRow) → slice_get recs at.asm ≡ Some rec → slice_get rec.field at.row ≡ Some f → field_at recs at ≡ Some (field_by recs at rec f)
  at_by recs at rec f here row = ap (option_and_then (λ (rec : AsmRec). option_map (field_by recs at rec) (slice_get rec.field at.row))) here ∙ ap (option_map (field_by recs at rec)) row

  -- ---- of an input

  -- the type that has it
  record HasType (at : RowAt) (rec : AsmRec) : Type 0 where
    place_of : ℕ
    row : TypeDefRow
    here : slice_get rec.type_def place_of ≡ Some row
    owns : owns_field (suc at.row) row ≡ true
    keeps_it : m.kept (type_item (before m) (at_row at.asm place_of)) ≡ true

  records : InputsAreRecords (before m)
  records a rec lt e = is.records a rec (an_input m.inputs merge.files a rec lt e)

  has_type : (at : RowAt) (h : Input m fields_in number_field (field_kind m is) at) → HasType at h.there.rec
  unfolding kept_fields
  has_type at h =
      let c = to_kept fields_in (field_item (before m)) (before m) m.kept at h.there.rec (record { there = h.there.here; within = h.earlier }) h.there.below h.keeps_it in
      let o = (owners_stay (before m) entry roots m.kept records merge.marked merge.all).fields at c in
      let same : o.rec ≡ h.there.rec = same_rec o.rec h.there.rec (sym o.there ∙ h.there.here) in
      let begins = o.begins in
      let ends = o.ends in
      record {
        place_of = o.place;
        row = o.row;
        here = ap (λ (r : AsmRec). slice_get r.type_def o.place) (sym same) ∙ o.is;
        owns = and_from (nat_le o.row.field_list_first (suc at.row)) (nat_lt (suc at.row) o.row.field_list_end) (le-leb o.row.field_list_first (suc at.row) begins) (lt-ltb (suc at.row) o.row.field_list_end ends);
        keeps_it = o.kept;
      }
    where
      same_rec : (x y : AsmRec) → Some x ≡ Some y → x ≡ y
      same_rec x y e = cc

  module _ (at : RowAt) (h : Input m fields_in number_field (field_kind m is) at) (f : FieldRow) (row : slice_get h.there.rec.field at.row ≡ Some f) (t : HasType at h.there.rec) where
    abbrev x : RowAt
    x = at_row at.asm t.place_of

    abbrev new : ℕ
    new = rank (keeps fields_in (before m) number_field m.kept) (number_at fields_in (before m) at)

    abbrev new_type : ℕ
    new_type = rank (keeps types_in (before m) number_type m.kept) (number_at types_in (before m) (at_row at.asm t.place_of))

    abbrev there : IsThere types_in (before m) (at_row at.asm t.place_of)
    there = type_there m is at h t.place_of t.row t.here t.owns t.keeps_it

    abbrev f' : FieldRow
    f' = moved_field_row (output m) at h.there.rec f

    row_left : slice_get m.left.field new ≡ Some f'
    row_left = field_left m is at h.there.rec f h.there h.earlier h.keeps_it h.there.here row

    like : LikeField f' f
    like = field_like (output m) at h.there.rec f

    own_before : field_owner at h.there.rec ≡ Some (at_row at.asm t.place_of)
    own_before = ap (option_map (at_row at.asm)) (owner_before m is at h t.place_of t.row t.here t.owns t.keeps_it)

    own_after : field_owner (at_row 0 new) m.left ≡ Some (at_row 0 new_type)
    own_after = ap (option_map (at_row 0)) (owner_after m is at h t.place_of t.row t.here t.owns t.keeps_it left)

    no_global : is_global (before m) (Some (at_row at.asm t.place_of)) ≡ false
    no_global = not_global m entry roots merge at h.there h.earlier h.keeps_it t.place_of (owner_before m is at h t.place_of t.row t.here t.owns t.keeps_it)

    no_global_left : is_global (after m) (Some (at_row 0 new_type)) ≡ false
    no_global_left = stay m entry roots merge (at_row at.asm t.place_of) there h.earlier t.keeps_it no_global

    type_keeps : IsTrue (keeps_type_row k (before m) (at_row at.asm t.place_of))
    type_keeps =
        let r = there_row (λ rec. rec.type_def) (before m) (at_row at.asm t.place_of) there in
        flags.types (at_row at.asm t.place_of) r.0 h.earlier r.1 ∙ t.keeps_it

    type_moved : (places_of m).typ (at_row at.asm t.place_of) ≡ at_row 0 new_type
    unfolding kept_types
    type_moved =
        place_there m types_in number_type (type_kind m is) (at_row at.asm t.place_of) there
        ∙ place_kept m types_in number_type (type_kind m is) (at_row at.asm t.place_of) there h.earlier t.keeps_it

    same_layout : has_explicit_layout (after m) (Some (at_row 0 new_type)) ≡ has_explicit_layout (before m) (Some (at_row at.asm t.place_of))
    same_layout =
        ap (λ (y : RowAt). has_explicit_layout (after m) (Some y)) (sym type_moved) ∙ ((marks m k kept is flags).types (at_row at.asm t.place_of) type_keeps).explicit

    same_laid : (not (is_static_field f') && has_explicit_layout (after m) (Some (at_row 0 new_type))) ≡ (not (is_static_field f) && has_explicit_layout (before m) (Some (at_row at.asm t.place_of)))
    same_laid = λ i. not (like.static i) && same_layout i

    signature : known_then (sig_expr (names_at (after m) 0 m.left)) f'.signature ≡ known_map (move_expr (rho_of m)) (known_then (sig_expr (names_at (before m) at.asm h.there.rec)) f.signature)
    signature = reads at h.there.rec f h.there.here row h.earlier h.keeps_it

    input_core : (suc at.asm == length (before m)) ≡ false
    input_core = let lt = h.earlier in ne_eqb (suc at.asm) (length (before m)) (λ e. absurd (omega (arith, lt, e)))

    left_core_no : (1 == length (after m)) ≡ false
    left_core_no = let two : length (after m) ≡ 2 = ap length (after_is m) in ne_eqb 1 (length (after m)) (λ e. absurd (omega (arith, two, e)))

    abbrev of_field : List AsmRec → RowAt → AsmRec → FieldRow → Option RowAt → FieldDef
    of_field recs at rec f owner =
        definition_by (bit_and f.flags seen.FIELD) (suc at.asm == length recs) (is_global recs owner) (not (is_static_field f) && has_explicit_layout recs owner) (known_then (sig_expr (names_at recs at.asm rec)) f.signature)
        (flat_map (bytes_by (token_of FIELD (suc at.row))) rec.field_rva)

    before_is : field_by (before m) at h.there.rec f
        ≡ definition_by (bit_and f.flags seen.FIELD) false false (not (is_static_field f) && has_explicit_layout (before m) (Some (at_row at.asm t.place_of))) (known_then (sig_expr (names_at (before m) at.asm h.there.rec)) f.signature)
        (flat_map (bytes_by (token_of FIELD (suc at.row))) h.there.rec.field_rva)
    before_is =
        ap (of_field (before m) at h.there.rec f) own_before
        ∙ (λ i. definition_by (bit_and f.flags seen.FIELD) (input_core i) (no_global i) (not (is_static_field f) && has_explicit_layout (before m) (Some (at_row at.asm t.place_of))) (known_then (sig_expr (names_at (before m) at.asm h.there.rec)) f.signature)
        (flat_map (bytes_by (token_of FIELD (suc at.row))) h.there.rec.field_rva))

    after_is_by : field_by (after m) (at_row 0 new) m.left f'
        ≡ definition_by (bit_and f'.flags seen.FIELD) false false (not (is_static_field f') && has_explicit_layout (after m) (Some (at_row 0 new_type))) (known_then (sig_expr (names_at (after m) 0 m.left)) f'.signature)
        (flat_map (bytes_by (token_of FIELD (suc new))) m.left.field_rva)
    after_is_by =
        ap (of_field (after m) (at_row 0 new) m.left f') own_after
        ∙ (λ i. definition_by (bit_and f'.flags seen.FIELD) (left_core_no i) (no_global_left i) (not (is_static_field f') && has_explicit_layout (after m) (Some (at_row 0 new_type))) (known_then (sig_expr (names_at (after m) 0 m.left)) f'.signature)
        (flat_map (bytes_by (token_of FIELD (suc new))) m.left.field_rva))

    definition_moved : field_by (after m) (at_row 0 new) m.left f' ≡ move_field (rho_of m) (field_by (before m) at h.there.rec f)
    definition_moved =
        after_is_by
        ∙ (λ i. definition_by (like.seen i) false false (same_laid i) (signature i) (bytes_move m is at h i))
        ∙ (λ i. record {
          flags = bit_and f.flags seen.FIELD;
          typ =
              moved_by (move_expr (rho_of m)) (not (is_static_field f) && has_explicit_layout (before m) (Some (at_row at.asm t.place_of))) (known_then (sig_expr (names_at (before m) at.asm h.there.rec)) f.signature) i;
          first = first_by false false (flat_map (bytes_by (token_of FIELD (suc at.row))) h.there.rec.field_rva);
        })
        ∙ sym (ap (move_field (rho_of m)) before_is)

  input_field : (at : RowAt) → Input m fields_in number_field (field_kind m is) at → field_at (after m) (field_place at) ≡ option_map (move_field (rho_of m)) (field_at (before m) at)
  input_field at h =
      let r = place_has h.there.rec.field at.row h.there.below in
      let t = has_type at h in
      ap (field_at (after m)) h.moved
      ∙ at_by (after m) (at_row 0 (rank (keeps fields_in (before m) number_field m.kept) (number_at fields_in (before m) at))) m.left (moved_field_row (output m) at h.there.rec r.0) (after_left m) (row_left at h r.0 r.1 t)
      ∙ ap Some (definition_moved at h r.0 r.1 t) ∙ sym (ap (option_map (move_field (rho_of m))) (at_by (before m) at h.there.rec r.0 h.there.here r.1))

  -- ---- of the core library

  two : length (after m) ≡ 2
  two = ap length (after_is m)

  core_at_zero : (at : RowAt) (h : Core m fields_in number_field (field_kind m is) at) (f : FieldRow) → slice_get (core_of m).field at.row ≡ Some f → field_at (after m) (field_place at) ≡ option_map (move_field (rho_of m)) (field_at (before m) at)
  core_at_zero at h f e =
      let same : at.row ≡ h.row = (same_is (length core_record.field) at.row h.row h.goes).1 in
      let c = core_field at.row f (ap (λ (fs : List FieldRow). slice_get fs at.row) (sym (before_fields m)) ∙ e) in
      let row : slice_get (core_of m).field 0 ≡ Some f = ap (slice_get (core_of m).field) (sym c.0) ∙ e in
      let new_row : slice_get (left_core m).field 0 ≡ Some f = ap (λ (fs : List FieldRow). slice_get fs 0) (left_fields m ∙ sym (before_fields m)) ∙ row in
      let t = two in
      let place_is : field_place at ≡ at_row 1 0 = h.moved ∙ ap (at_row 1) (sym same ∙ c.0) in
      let at_is : at_row at.asm 0 ≡ at = ap (at_row at.asm) (sym c.0) in
      ap (field_at (after m)) place_is
      ∙ core_definition (after m) 1 (left_core m) (omega (arith, t)) (after_core m) (map (added_row core_record) (names_after m)) (left_types m) f new_row c.1
      ∙ ap (λ (e : TypeExpr). Some (record { flags = bit_and f.flags seen.FIELD; typ = Good e; first = empty_text })) (sym (move_prim (rho_of m) STRING))
      ∙ ap (option_map (move_field (rho_of m))) (sym (core_definition (before m) at.asm (core_of m) h.last (core_at m at h.last) (map (added_row core_record) (names_before m)) (before_types m) f row c.1) ∙ ap (field_at (before m)) at_is)

  core_fields : (at : RowAt) → Core m fields_in number_field (field_kind m is) at → field_at (after m) (field_place at) ≡ option_map (move_field (rho_of m)) (field_at (before m) at)
  core_fields at h =
      let r = place_has h.there.rec.field at.row h.there.below in
      let same : h.there.rec ≡ core_of m = core_rec m at h.there.rec h.there.here h.last in
      core_at_zero at h r.0 (ap (λ (rec : AsmRec). slice_get rec.field at.row) (sym same) ∙ r.1)

  -- ---- of no row

  none_by : (recs : List AsmRec) (at : RowAt) (o : Option AsmRec) → slice_get recs at.asm ≡ o → ((rec : AsmRec) → o ≡ Some rec → fields_in rec ≤ at.row) → option_and_then (λ (rec : AsmRec). option_map (field_by recs at rec) (slice_get rec.field at.row)) o ≡ None
  none_by recs at None e past = refl
  none_by recs at (Some rec) e past = ap (option_map (field_by recs at rec)) (place_past rec.field at.row (past rec refl))

  gone_field : (at : RowAt) → Gone m fields_in number_field (field_kind m is) at → field_at (after m) (field_place at) ≡ option_map (move_field (rho_of m)) (field_at (before m) at)
  gone_field at h =
      none_by (after m) (field_place at) (slice_get (after m) (field_place at).asm) refl (λ rec e. h.none_after rec e)
      ∙ sym (ap (option_map (move_field (rho_of m))) (none_by (before m) at (slice_get (before m) at.asm) refl (λ rec e. h.none_before rec e)))

  pub field_moved : (at : RowAt) → IsTrue (keeps_field_row k (before m) at) → field_at (after m) ((places_of m).field at) ≡ option_map (move_field (rho_of m)) (field_at (before m) at)
  unfolding kept_fields
  field_moved at keeps = elim (situation m fields_in number_field (field_kind m is) at (λ h. field_stays m is k kept flags at keeps h)) [
    | inl h ↦ input_field at h
    | inr other ↦ elim other [ inl h ↦ core_fields at h | inr h ↦ gone_field at h ]
  ]

pub fields_move : OwnersStay → MovesFields
fields_move owners_stay m entry roots k kept merge flags left reads at keeps = field_moved m entry roots k kept merge flags left reads owners_stay at keeps
