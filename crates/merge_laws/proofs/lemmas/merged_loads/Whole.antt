-- What is left of files' records can be laid out.
use Rattle.std.proofs.Common.{◌≡◌, ℕ, suc, ◌<◌, ◌≤◌, ◌^◌, List, [], ◌∷◌, ◌++◌, length, map, Bool, true, false, ◌⊎◌, inl, inr, Option, Some, None, refl, sym, ap, subst, ◌∙◌, arith, length-append}
use Rattle.std.specs.Prelude.{slice_get, ◌==◌, if◌then◌else◌}
use Rattle.std.specs.List.{Contains}
use Rattle.std.proofs.lemmas.List.{length-map}
use Rattle.std.proofs.lemmas.Option.{none-some}
use Rattle.il_base.specs.declared.table.TheConstants as table
use Rattle.il_base.specs.declared.world_model.types.GenericParamRow.{GenericParamRow}
use Rattle.il_base.specs.declared.world_model.extras.FieldRvaRow.{FieldRvaRow}
use Rattle.il_base.specs.declared.world_model.record.UserText.{UserText}
use Rattle.il_base.specs.declared.world_model.record.AsmRec.{AsmRec}
use Rattle.il_base.specs.world_model.Tokens.{table_of}
use Rattle.il_base.specs.world_model.Records.{Each, IsRecord}
use Rattle.il_base.specs.cli_format.Columns.{columns_of, schema}
use Rattle.il_base.specs.core_table.Record.{core_record, record_with}
use Rattle.rules.specs.record_format.Record.{HasRecord}
use Rattle.rules.specs.file_layout.Heaps.{users_heap}
use Rattle.rules.specs.link_rules.CoreNames.{missing_names, core_with}
use Rattle.rules.specs.link_rules.Linked.{assemblies}
use Rattle.rules.specs.record_layout.Limits.{limit_of}
use Rattle.record_writer.specs.CanWrite.{CanWrite}
use Rattle.file_laws.specs.layout_laws.Parts.{DataFits}
use Rattle.file_laws.specs.layout_laws.OfFile.{IsKnown}
use Rattle.file_laws.specs.layout_laws.CanBeLaid.{HeaderFits, CanBeLaid}
use Rattle.file_laws.proofs.lemmas.layout_laws.FileDemands.{at_end}
use Rattle.rules.specs.merge_rules.Numbers.{Kept, kept_types, kept_fields}
use Rattle.rules.specs.merge_rules.Keys.{MethodKey, own_method, found_method, absent_method, InstanceKey, method_key, instance_key}
use Rattle.rules.specs.merge_rules.Refs.{Output, row_token, method_token, instance_token}
use Rattle.rules.specs.merge_rules.Moved.{kept_texts, token_or_none, moved_callee}
use Rattle.rules.specs.merge_rules.Restricted.{placed_methods, moved_methods, moved_assembly, new_text, restricted_by, output_of, restricted}
use Rattle.merge_laws.specs.merged_record.Laws.{InputsAreRecords, NumbersFit, RowsFit}
use Rattle.merge_laws.proofs.lemmas.merged_record.Lists.{map_some, OfInput}
use Rattle.merge_laws.proofs.lemmas.merged_record.Sizes.{left, types, fields}
use Rattle.merge_laws.specs.merged_loads.Laws.{AreOfFiles, PartsStand, IsLeft, LeftCanBeLaid, FieldDataStays}
use Rattle.merge_laws.proofs.lemmas.merged_loads.Header.{bits_small, bits_il_only, bits_not_native}
use Rattle.merge_laws.proofs.lemmas.merged_loads.Lists.{Every, to_place, option_holds, each_row_of}
use Rattle.merge_laws.proofs.lemmas.merged_loads.FileRows.{FileFits, file_fits}
use Rattle.merge_laws.proofs.lemmas.merged_loads.Names.{Named, world_named}
use Rattle.merge_laws.proofs.lemmas.merged_loads.MetNames.{MetNamed, all_named}
use Rattle.merge_laws.proofs.lemmas.merged_loads.Limits.{rows_few, users_few}
use Rattle.merge_laws.proofs.lemmas.merged_loads.TextsStand.{texts_stand}
use Rattle.merge_laws.proofs.lemmas.merged_loads.Parts.{Values, signatures_fit, methods_fit}
use Rattle.merge_laws.proofs.lemmas.merged_loads.Tables.{tables_fit, body_rvas, data_rvas}
use Rattle.merge_laws.proofs.lemmas.merged_loads.FileData.{file_sized}
use Rattle.merge_laws.proofs.lemmas.merged_loads.DataStand.{data_stands}

-- ---- tokens have 32 bits

abbrev Small : ℕ → Type 0
Small n = n < 2 ^ 32

row_small : (t : ℕ) (k : Option ℕ) → Small (row_token t k)
row_small t None = omega arith
row_small t (Some k) = omega arith

method_small : (o : Output) (m : MethodKey) → Small (method_token o m)
unfolding method_token
method_small o (own_method m) = row_small table.METHOD_DEF _
method_small o (found_method m e) = row_small table.MEMBER_REF _
method_small o (absent_method p name s) = row_small table.MEMBER_REF _

instance_small : (o : Output) (i : InstanceKey) → Small (instance_token o i)
unfolding instance_token
instance_small o i = row_small table.METHOD_SPEC _

either_small : (b : Bool) (m n : ℕ) → Small m → Small n → Small (if b then m else n)
either_small true m n g h = g
either_small false m n g h = h

callee_small : (o : Output) (a : ℕ) (rec : AsmRec) (token : ℕ) → Small (moved_callee o a rec token)
unfolding moved_callee
callee_small o a rec token =
    either_small (table_of token == table.METHOD_SPEC) (token_or_none (instance_token o) (instance_key o.recs a rec token)) (token_or_none (method_token o) (method_key o.recs a rec token))
    (option_holds Small (instance_token o) (instance_key o.recs a rec token) (omega arith) (instance_small o)) (option_holds Small (method_token o) (method_key o.recs a rec token) (omega arith) (method_small o))

-- ---- the record that is left

module _ (internal : Bool) (o : Output) (primary : AsmRec) (first : FileFits primary) (fits : (a : ℕ) (rec : AsmRec) → OfInput o.recs a rec → FileFits rec) (named : Every Named o.recs) (mets : Every MetNamed o.mets) where
  abbrev out : AsmRec
  out = left internal o primary

  header : HeaderFits out
  header = record {
    bits = bits_small primary.bits;
    il_only = bits_il_only primary.bits;
    not_native = bits_not_native primary.bits;
    entry = callee_small o 0 primary primary.entry;
    subsystem = first.subsystem;
    descriptor = refl;
  }

  same_users : (xs : List (List ℕ)) → map (λ (t : UserText). t.text) (map (new_text o) xs) ≡ xs
  same_users [] = refl
  same_users (x ∷ xs) = ap (λ (ys : List (List ℕ)). x ∷ ys) (same_users xs)

  short : limit_of out ≡ None → length (users_heap (kept_texts o)) ≤ 16777216
  short limit = subst (λ (xs : List (List ℕ)). length (users_heap xs) ≤ 16777216) (same_users (kept_texts o)) (users_few out limit)

  few : limit_of out ≡ None → length (kept_types o.recs o.kept) ≤ 16777216
  few limit = let lt = rows_few out limit table.TYPE_DEF in let n = types internal o primary in omega arith

  pub can_be : Values → 1 ≤ length out.type_def → PartsStand out → CanWrite out → limit_of out ≡ None → IsRecord out → CanBeLaid out
  can_be v some parts can limit is = record {
    header = header;
    one_module = first.one_module;
    one_assembly = length-map primary.assembly moved_assembly ∙ first.one_assembly;
    some_type = some;
    is_record = is;
    tables = tables_fit internal o primary first fits named mets (few limit);
    signatures = signatures_fit internal o primary v parts can;
    methods = methods_fit internal o primary v parts can;
    field_data = parts.field_data;
    body_rvas = body_rvas internal o primary first fits named mets (few limit);
    data_rvas = data_rvas internal o primary first fits named mets (few limit);
    texts = texts_stand o (λ a rec input. (fits a rec input).users) (short limit) internal primary;
  }

-- ---- the inputs

module _ (inputs : List AsmRec) (files : AreOfFiles inputs) where
  long : length (assemblies inputs) ≡ suc (length inputs)
  unfolding assemblies
  long = length-append inputs (core_with core_record (missing_names (inputs ++ core_record ∷ [])) ∷ []) ∙ omega arith

  input_or_core : (a : ℕ) (rec : AsmRec) → slice_get (assemblies inputs) a ≡ Some rec → (slice_get inputs a ≡ Some rec) ⊎ ((a ≡ length inputs) × (core_with core_record (missing_names (inputs ++ core_record ∷ [])) ≡ rec))
  unfolding assemblies
  input_or_core a rec e = at_end inputs (core_with core_record (missing_names (inputs ++ core_record ∷ []))) rec a e

  pub an_input : (a : ℕ) (rec : AsmRec) → suc a < length (assemblies inputs) → slice_get (assemblies inputs) a ≡ Some rec → slice_get inputs a ≡ Some rec
  an_input a rec lt e = elim (input_or_core a rec e) [ inl f ↦ f | inr f ↦ (let n = f.0 in let m = long in absurd (omega arith)) ]

  input_fits : (a : ℕ) (rec : AsmRec) → OfInput (assemblies inputs) a rec → FileFits rec
  input_fits a rec i = file_fits rec (files a rec (an_input a rec i.within i.there))

  each_fits : (rec : AsmRec) → Contains inputs rec → FileFits rec
  each_fits rec c = let p = to_place inputs rec c in file_fits rec (files p.0 rec p.1)

  -- numbers of generic parameters have 16 bits
  number_fits : (rec : AsmRec) → FileFits rec → Each (λ (row : GenericParamRow). row.number < 65536) rec.generic_param
  unfolding columns_of schema
  number_fits rec h = each_row_of (λ (row : GenericParamRow). row.number < 65536) rec.generic_param (λ row c. (h.generic_params row c).0)

  core_numbers : Each (λ (row : GenericParamRow). row.number < 65536) (core_with core_record (missing_names (inputs ++ core_record ∷ []))).generic_param
  unfolding core_with core_record record_with
  core_numbers k row e = absurd (none-some row e)

  pub numbers_fit : NumbersFit (assemblies inputs)
  numbers_fit a rec e = elim (input_or_core a rec e) [
    | inl f ↦ number_fits rec (file_fits rec (files a rec f))
    | inr f ↦ subst (λ (r : AsmRec). Each (λ (row : GenericParamRow). row.number < 65536) r.generic_param) f.1 core_numbers
  ]

  pub records : ((bs : List ℕ) (rec : AsmRec) → HasRecord bs rec → IsRecord rec) → InputsAreRecords (assemblies inputs)
  records law a rec lt e = let f = files a rec (an_input a rec lt e) in law f.file rec f.has

  module _ (internal : Bool) (kept : Kept) (rec : AsmRec) (l : IsLeft internal inputs kept rec) (v : Values) (is : IsRecord rec) where
    pub laid_out : CanBeLaid rec
    unfolding restricted output_of
    laid_out =
        let recs : List AsmRec = assemblies inputs in
        let o : Output = output_of recs kept in
        let named : Every Named recs = world_named inputs each_fits in
        let m = map_some (restricted_by internal o (placed_methods (moved_methods o))) (slice_get recs 0) rec l.is in
        let some = l.some_input in
        let n = long in
        let start : OfInput recs 0 m.0 = record { there = m.1; within = omega arith } in
        subst CanBeLaid m.2
        (can_be internal o m.0 (input_fits 0 m.0 start) input_fits named (all_named recs named kept) v (subst (λ (r : AsmRec). 1 ≤ length r.type_def) (sym m.2) l.some_type) (subst PartsStand (sym m.2) l.parts)
        (subst CanWrite (sym m.2) l.can) (subst (λ (r : AsmRec). limit_of r ≡ None) (sym m.2) l.within) (subst IsRecord (sym m.2) is))

pub rows_fit : (rec : AsmRec) → limit_of rec ≡ None → RowsFit rec
rows_fit rec limit t = rows_few rec limit t

pub left_can : Values → LeftCanBeLaid
left_can v internal inputs kept rec l is = laid_out inputs l.files internal kept rec l v is

-- ---- bytes of fields

few_types : (internal : Bool) (o : Output) (primary : AsmRec) → limit_of (left internal o primary) ≡ None → length (kept_types o.recs o.kept) < 16777216
few_types internal o primary limit = let lt = rows_few (left internal o primary) limit table.TYPE_DEF in let n = types internal o primary in omega arith

few_fields : (internal : Bool) (o : Output) (primary : AsmRec) → limit_of (left internal o primary) ≡ None → length (kept_fields o.recs o.kept) < 16777216
few_fields internal o primary limit = let lt = rows_few (left internal o primary) limit table.FIELD in let n = fields internal o primary in omega arith

pub data_law : ((bs : List ℕ) (rec : AsmRec) → HasRecord bs rec → IsRecord rec) → FieldDataStays
unfolding restricted output_of
data_law law internal inputs kept rec e files limit kept_field_types known =
    let recs : List AsmRec = assemblies inputs in
    let o : Output = output_of recs kept in
    let m = map_some (restricted_by internal o (placed_methods (moved_methods o))) (slice_get recs 0) rec e in
    let within : limit_of (left internal o m.0) ≡ None = subst (λ (r : AsmRec). limit_of r ≡ None) (sym m.2) limit in
    subst (λ (r : AsmRec). Each (DataFits r) r.field_rva) m.2
    (data_stands o (few_types internal o m.0 within) (few_fields internal o m.0 within) (λ a r i. records inputs files law a r i.within i.there) (λ a r i. file_sized r (files a r (an_input inputs files a r i.within i.there))) kept_field_types internal m.0
    (subst (λ (r : AsmRec). Each (λ (row : FieldRvaRow). IsKnown row.bytes) r.field_rva) (sym m.2) known))
