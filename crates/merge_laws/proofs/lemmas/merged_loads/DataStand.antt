-- The bytes of fields of what is left are as many as their types have.
use Rattle.std.proofs.Common.{◌≡◌, ◌<◌, ℕ, suc, ◌+◌, ◌%◌, List, [], ◌∷◌, length, Bool, true, inl, inr, Option, Some, None, refl, sym, ap, subst, ◌∙◌, arith, eq-eqb}
use Rattle.std.specs.Prelude.{slice_get, if◌then◌else◌}
use Rattle.std.specs.List.{Contains}
use Rattle.std.specs.Option.{option_map, option_and_then}
use Rattle.il_base.specs.declared.sig.Sig.{Sig}
use Rattle.il_base.specs.declared.sig.Sig.TheVariants as sig
use Rattle.il_base.specs.declared.table.TheConstants as table
use Rattle.il_base.specs.declared.world_model.known.Known.{Known}
use Rattle.il_base.specs.declared.world_model.known.Known.TheVariants.{Good, Bad}
use Rattle.il_base.specs.declared.world_model.types.ClassLayoutRow.{ClassLayoutRow}
use Rattle.il_base.specs.declared.world_model.members.FieldRow.{FieldRow}
use Rattle.il_base.specs.declared.world_model.extras.FieldRvaRow.{FieldRvaRow}
use Rattle.il_base.specs.declared.world_model.record.AsmRec.{AsmRec}
use Rattle.il_base.specs.world_model.Tokens.{table_of, row_of, row_index, index_from, index_in}
use Rattle.il_base.specs.world_model.Records.{Each, IsRecord}
use Rattle.il_base.specs.world_model.Worlds.{types_in}
use Rattle.rules.specs.record_format.Parts.{size_of_type, size_of_field, size_by, layout_size}
use Rattle.rules.specs.file_layout.Bytes.{aligned}
use Rattle.rules.specs.file_layout.Image.{code_rva}
use Rattle.rules.specs.declared.link_rules.row_at.RowAt.{RowAt}
use Rattle.rules.specs.link_rules.Types.{at_row}
use Rattle.rules.specs.link_rules.Cycles.{listed, same_row}
use Rattle.rules.specs.mark_rules.Places.{type_item}
use Rattle.rules.specs.merge_rules.Numbers.{kept_types, kept_fields, new_row}
use Rattle.rules.specs.merge_rules.Keys.{class_number, world_sig}
use Rattle.rules.specs.merge_rules.Refs.{Output, row_token, number_token, new_sig}
use Rattle.rules.specs.merge_rules.Rows.{all_rows, token_32, place_token, output_rows, kept_row_token}
use Rattle.rules.specs.merge_rules.Moved.{moved_sig, moved_field_row}
use Rattle.rules.specs.merge_rules.Restricted.{class_layouts, new_field_rva, bytes_length, placed_bytes}
use Rattle.file_laws.specs.layout_laws.Parts.{IsGood, DataFits}
use Rattle.file_laws.specs.layout_laws.OfFile.{IsKnown}
use Rattle.merge_laws.proofs.lemmas.merged_record.Lists.{none_in, first_in, later_in, head_or, place_in, from_map, from_all, map_some, and_then_some, OfInput}
use Rattle.merge_laws.proofs.lemmas.merged_record.Sorting.{sorted_in}
use Rattle.merge_laws.proofs.lemmas.merged_record.Tokens.{position_is, row_is, index_row}
use Rattle.merge_laws.proofs.lemmas.merged_record.Sizes.{left, fields_there}
use Rattle.merge_laws.proofs.lemmas.merged_record.Owned.{to_kept}
use Rattle.merge_laws.specs.merged_loads.Laws.{FieldTypesAreKept}
use Rattle.merge_laws.proofs.lemmas.merged_loads.Lists.{Every, to_place}
use Rattle.merge_laws.proofs.lemmas.merged_loads.TextsStand.{any_in}
use Rattle.merge_laws.proofs.lemmas.merged_loads.FileData.{IsSized}
use Rattle.merge_laws.proofs.lemmas.merged_loads.FieldData.{has_place, same_self, row_placed, prim_moved, named_moved, class_moved, row_named, defined, layout_stays, Sized, by_prim, by_class, type_sized, layout_named}

-- ---- a row with its address

pub record OfBytes (rows : List FieldRvaRow) (f : FieldRvaRow) : Type 0 where
  pub old : FieldRvaRow
  pub there : Contains rows old
  pub field : f.field ≡ old.field
  pub bytes : f.bytes ≡ old.bytes

pub of_bytes : (n : ℕ) (rows : List FieldRvaRow) (f : FieldRvaRow) → Contains (placed_bytes n rows) f → OfBytes rows f
unfolding placed_bytes
of_bytes n [] f c = absurd (none_in f c)
of_bytes n (row ∷ rows) f c =
    elim (head_or (record row { rva = (code_rva + aligned 8 n) % 4294967296 }) (placed_bytes (aligned 8 n + bytes_length row.bytes) rows) f c) [
      | inl e ↦ record { old = row; there = first_in row rows; field = sym (ap (λ (x : FieldRvaRow). x.field) e); bytes = sym (ap (λ (x : FieldRvaRow). x.bytes) e) }
      | inr t ↦ (let o = of_bytes (aligned 8 n + bytes_length row.bytes) rows f t in record { old = o.old; there = later_in row rows o.old o.there; field = o.field; bytes = o.bytes })
    ]

-- ---- tokens

index_written : (t n : ℕ) → token_32 table.FIELD n ≡ t → suc n < 16777216 → index_in table.FIELD t ≡ Some n
index_written t n e lt =
    let table_is : table_of t ≡ table.FIELD = omega arith in
    let row_is_next : row_of t ≡ suc n = omega arith in
    ap (λ (b : Bool). if b then row_index t else None) (eq-eqb (table_of t) table.FIELD table_is) ∙ ap index_from row_is_next

pub field_row_moved : (o : Output) (a k token : ℕ) → index_in table.FIELD token ≡ Some k → kept_row_token o.recs o.kept a token ≡ place_token table.FIELD (kept_fields o.recs o.kept) (at_row a k)
unfolding kept_row_token
field_row_moved o a k token e =
    let t = (index_row table.FIELD token k e).0 in
    ap (λ (n : ℕ). option_and_then (λ k. place_token n (output_rows o.recs o.kept n) (at_row a k)) (index_in n token)) t
    ∙ ap (option_and_then (λ k. place_token table.FIELD (kept_fields o.recs o.kept) (at_row a k))) e

-- ---- sizes

good_sized : (layouts : List ClassLayoutRow) (s : Known Sig) (n : ℕ) → elim s as (λ x. Option ℕ) [ Good x ↦ size_of_type layouts x | Bad why ↦ None ] ≡ Some n → (x : Sig) × (s ≡ Good x) × (size_of_type layouts x ≡ Some n)
good_sized layouts (Good x) n e = (x, refl, e)
good_sized layouts (Bad why) n e = absurd (cc)

known_good : (k : Known (List ℕ)) → IsKnown k → (bytes : List ℕ) × (k ≡ Good bytes)
known_good (Good bytes) h = (bytes, refl)
known_good (Bad why) h = absurd h

module _ (o : Output) (few : length (kept_types o.recs o.kept) < 16777216) (few_fields : length (kept_fields o.recs o.kept) < 16777216) (records : (a : ℕ) (rec : AsmRec) → OfInput o.recs a rec → IsRecord rec)
    (sized : (a : ℕ) (rec : AsmRec) → OfInput o.recs a rec → Every (IsSized rec) rec.field_rva) (types : FieldTypesAreKept o.recs o.kept) where
  -- the new token of a kept type
  record NewType (at : RowAt) : Type 0 where
    token : ℕ
    is : place_token table.TYPE_DEF (kept_types o.recs o.kept) at ≡ Some token
    row : row_token table.TYPE_DEF (new_row (kept_types o.recs o.kept) at) ≡ token

  new_type : (at : RowAt) (rec : AsmRec) → OfInput o.recs at.asm rec → at.row < length rec.type_def → o.kept (type_item o.recs at) ≡ true → NewType at
  unfolding kept_types
  new_type at rec input lt kept =
      let c = to_kept types_in (type_item o.recs) o.recs o.kept at rec input lt kept in
      let p = has_place (same_row at) (kept_types o.recs o.kept) (any_in (same_row at) (kept_types o.recs o.kept) at c (same_self at)) in
      record { token = token_32 table.TYPE_DEF p.0; is = ap (option_map (token_32 table.TYPE_DEF)) p.1; row = ap (row_token table.TYPE_DEF) p.1 }

  module _ (a : ℕ) (rec : AsmRec) (input : OfInput o.recs a rec) where
    class_stays : (value : Bool) (token n j : ℕ) → layout_size rec.class_layout token ≡ Some n → index_in table.TYPE_DEF token ≡ Some j → j < length rec.type_def → o.kept (type_item o.recs (at_row a j)) ≡ true
        → size_of_type (class_layouts o) (new_sig o (world_sig o.recs a rec (sig.Named value token))) ≡ Some n
    class_stays value token n j e named lt kept =
        let new = new_type (at_row a j) rec input lt kept in
        let number : number_token o (class_number o.recs a rec token) ≡ new.token = class_moved o a j rec input lt token named ∙ new.row in
        ap (size_of_type (class_layouts o)) (named_moved o a rec value token) ∙ ap (layout_size (class_layouts o)) number ∙ layout_stays o few records a rec input token j new.token named lt new.is ∙ e

    -- a field's type keeps its size
    type_stays : (k : ℕ) (f : FieldRow) (s : Sig) (n : ℕ) → Contains (kept_fields o.recs o.kept) (at_row a k) → slice_get rec.field k ≡ Some f → f.signature ≡ Good s → size_of_type rec.class_layout s ≡ Some n → Sized rec.class_layout s n
        → size_of_type (class_layouts o) (new_sig o (world_sig o.recs a rec s)) ≡ Some n
    type_stays k f s n c is good e (by_prim p same h) =
        subst (λ (x : Sig). size_of_type (class_layouts o) (new_sig o (world_sig o.recs a rec x)) ≡ Some n) (sym same) (ap (size_of_type (class_layouts o)) (prim_moved o a rec p) ∙ h)
    type_stays k f s n c is good e (by_class value token same h) =
        let row = layout_named rec.class_layout token n h in
        let own = layout_of row.0 row.1 in
        let named : index_in table.TYPE_DEF token ≡ Some own.0 = subst (λ (t : ℕ). index_in table.TYPE_DEF t ≡ Some own.0) row.2 own.1 in
        let kept = types (at_row a k) rec f value token own.0 c input.there is (good ∙ ap (λ (x : Sig). Good x) same) named in
        subst (λ (x : Sig). size_of_type (class_layouts o) (new_sig o (world_sig o.recs a rec x)) ≡ Some n) (sym same) (class_stays value token n own.0 h named own.2 kept)
      where
        layout_of : (row : ClassLayoutRow) → Contains rec.class_layout row → (j : ℕ) × (index_in table.TYPE_DEF row.parent ≡ Some j) × (j < length rec.type_def)
        layout_of row d = let p = to_place rec.class_layout row d in defined rec row.parent ((records a rec input).tokens.class_layouts p.0 row p.1)

    -- the row of a kept field with bytes
    field_stays : (k : ℕ) (f : FieldRow) (n : ℕ) → Contains (kept_fields o.recs o.kept) (at_row a k) → slice_get rec.field k ≡ Some f → size_of_field rec.class_layout f ≡ Some n
        → size_of_field (class_layouts o) (moved_field_row o (at_row a k) rec f) ≡ Some n
    field_stays k f n c is e =
        let g = good_sized rec.class_layout f.signature n e in
        ap (λ (x : Known Sig). elim (moved_sig o a rec x) as (λ x. Option ℕ) [ Good s ↦ size_of_type (class_layouts o) s | Bad why ↦ None ]) g.1
        ∙ type_stays k f g.0 n c is g.1 g.2 (type_sized rec.class_layout g.0 n g.2)

  module _ (internal : Bool) (primary : AsmRec) where
    abbrev out : AsmRec
    out = left internal o primary

    size_stays : (a : ℕ) (rec : AsmRec) → OfInput o.recs a rec → (token t n : ℕ) → (k : ℕ) → index_in table.FIELD token ≡ Some k → kept_row_token o.recs o.kept a token ≡ Some t → size_by rec.class_layout rec.field token ≡ Some n
        → size_by out.class_layout out.field t ≡ Some n
    size_stays a rec input token t n k named moved e =
        let f = and_then_some (size_of_field rec.class_layout) (option_and_then (slice_get rec.field) (index_in table.FIELD token)) n e in
        let is : slice_get rec.field k ≡ Some f.0 = sym (ap (option_and_then (slice_get rec.field)) named) ∙ f.1 in
        let m = map_some (token_32 table.FIELD) (new_row (kept_fields o.recs o.kept) (at_row a k)) t (sym (field_row_moved o a k token named) ∙ moved) in
        let p = position_is (same_row (at_row a k)) (kept_fields o.recs o.kept) m.0 m.1 in
        let same : at_row a k ≡ p.item = row_is (at_row a k) p.item p.passes in
        let at : slice_get (kept_fields o.recs o.kept) m.0 ≡ Some (at_row a k) = p.there ∙ ap (λ (x : RowAt). Some x) (sym same) in
        let w = p.within in
        let row : slice_get out.field m.0 ≡ Some (moved_field_row o (at_row a k) rec f.0) =
        row_placed o.recs (λ r. r.field) (moved_field_row o) (kept_fields o.recs o.kept) (fields_there o.recs o.kept) m.0 (at_row a k) rec f.0 at input.there is in
        let index : index_in table.FIELD t ≡ Some m.0 = index_written t m.0 m.2 (omega arith) in
        ap (λ (x : Option ℕ). option_and_then (size_of_field out.class_layout) (option_and_then (slice_get out.field) x)) index
        ∙ ap (option_and_then (size_of_field out.class_layout)) row
        ∙ field_stays a rec input k f.0 n (place_in (kept_fields o.recs o.kept) m.0 (at_row a k) at) is f.2

    pub data_stands : Each (λ (row : FieldRvaRow). IsKnown row.bytes) out.field_rva → Each (DataFits out) out.field_rva
    data_stands known k row e =
        let b = of_bytes _ _ row (place_in out.field_rva k row e) in
        let r = from_all (λ rec. rec.field_rva) (new_field_rva o) o.recs b.old (sorted_in (λ (x : FieldRvaRow). x.field) (all_rows (λ rec. rec.field_rva) (new_field_rva o) o.recs) b.old b.there) in
        let m = from_map (λ field. record r.row { field = field }) (listed (kept_row_token o.recs o.kept r.asm r.row.field)) b.old r.inside in
        let g = known_good row.bytes (known k row e) in
        let bytes : r.row.bytes ≡ Good g.0 = ap (λ (x : FieldRvaRow). x.bytes) m.2 ∙ sym b.bytes ∙ g.1 in
        let named = row_named r.rec table.FIELD r.row.field ((records r.asm r.rec r.input).tokens.field_rvas r.place r.row r.there) in
        let size = sized r.asm r.rec r.input r.row (place_in r.rec.field_rva r.place r.row r.there) g.0 bytes in
        let moved : kept_row_token o.recs o.kept r.asm r.row.field ≡ Some m.0 = from_one (kept_row_token o.recs o.kept r.asm r.row.field) m.0 m.1 in
        let stays = size_stays r.asm r.rec r.input r.row.field m.0 (length g.0) named.0 named.1 moved size in
        let field : row.field ≡ m.0 = b.field ∙ sym (ap (λ (x : FieldRvaRow). x.field) m.2) in
        subst (λ (x : Known (List ℕ)). IsGood (λ bytes. size_by out.class_layout out.field row.field ≡ Some (length bytes)) x) (sym g.1)
        (ap (size_by out.class_layout out.field) field ∙ stays)
      where
        from_one : (x : Option ℕ) (t : ℕ) → Contains (listed x) t → x ≡ Some t
        from_one None t c = absurd (none_in t c)
        from_one (Some u) t c = elim (head_or u [] t c) [ inl s ↦ ap (λ (n : ℕ). Some n) s | inr d ↦ absurd (none_in t d) ]
