-- The laws, over the flags of a change.
use Rattle.std.proofs.Common.{◌≡◌, ◌≤◌, ℕ, zero, suc, ◌+◌, ◌/◌, ◌%◌, Bool, true, false, List, length, map, Some, None, inl, inr, refl, sym, ap, ◌∙◌, arith}
use Rattle.std.specs.Prelude.{IsTrue, slice_get, nat_eq, nat_lt, ◌==◌, ◌&&◌, ◌||◌, if◌then◌else◌}
use Rattle.std.specs.List.{list_any, filter}
use Rattle.std.specs.Option.{option_map}
use Rattle.std.proofs.lemmas.Bool.{eq-eqb, ne_eqb, eqb-true, ltb-true}
use Rattle.il_base.specs.declared.table.TheConstants.{TYPE_DEF}
use Rattle.il_base.specs.declared.core_table.names.CoreName.{CoreName}
use Rattle.il_base.specs.declared.core_table.shape.CoreType.{CoreType}
use Rattle.il_base.specs.declared.core_table.types.TheConstants.{TYPES}
use Rattle.il_base.specs.declared.world_model.members.MethodDefRow.{MethodDefRow}
use Rattle.il_base.specs.declared.world_model.record.AsmRec.{AsmRec}
use Rattle.il_base.specs.core_table.Record.{core_record}
use Rattle.il_base.specs.world_model.Tokens.{token_of, table_of, row_index, index_from}
use Rattle.il_base.specs.world_model.Worlds.{types_in, known_map}
use Rattle.rules.specs.declared.link_rules.row_at.RowAt.{RowAt}
use Rattle.rules.specs.link_rules.Members.{methods_in, fields_in, base_at}
use Rattle.rules.specs.link_rules.Cycles.{listed, interfaces_at}
use Rattle.rules.specs.type_rules.Rows.{is_instance_field}
use Rattle.rules.specs.type_rules.Slots.{type_of_row}
use Rattle.rules.specs.view_rules.Members.{core_type_row}
use Rattle.rules.specs.merge_rules.Numbers.{kept_types, kept_methods, kept_fields}
use Rattle.rules.specs.change_rules.Change.{Keep, Undone}
use Rattle.rules.specs.change_rules.Moves.{move_expr}
use Rattle.rules.specs.world_change_rules.Places.{type_number, keeps_type_row, keeps_method_row, keeps_field_row}
use Rattle.rules.specs.world_change_rules.Rows.{move_method_type, move_impl, impls_at, keeps_impl, kept_interfaces_at, is_table_type, SameMethod, TypeMoves}
use Rattle.rules.specs.merged_world_rules.Merge.{Merge, IsMerge, before, after, names_before, names_after}
use Rattle.rules.specs.merged_world_rules.Numbering.{number_at}
use Rattle.rules.specs.merged_world_rules.NewNumbers.{type_core, rho_of, back_of, change_of, places_of}
use Rattle.rules.specs.merged_world_rules.Kept.{HasFlags}
use Rattle.merge_laws.proofs.lemmas.merged_places.Rows.{IsThere, place_past}
use Rattle.merge_laws.proofs.lemmas.merged_places.Worlds.{core_of, after_is, core_at}
use Rattle.merge_laws.proofs.lemmas.merged_places.CoreRows.{row_either}
use Rattle.merge_laws.proofs.lemmas.merged_places.Situations.{place, situation, Input, Core, Gone}
use Rattle.merge_laws.proofs.lemmas.merged_places.Tables.{number_type, number_method, number_field, type_kind}
use Rattle.merge_laws.proofs.lemmas.merged_places.Whole.{row_there, there_row, type_stays, method_stays, field_stays}
use Rattle.merge_laws.specs.merged_rows_move.Premises.{ReadsTokens, HasGoodBases, HasGoodInterfaces, ReadsImpls, ReadsSignatures, KeepsNames}
use Rattle.merge_laws.specs.merged_rows_move.Laws.{ReadsRows, MembersMove, TypeMarks, MethodMarks, MarksMove, NamesMove}
use Rattle.merge_laws.proofs.lemmas.merged_rows_move.Members.{methods_move, fields_move}
use Rattle.merge_laws.proofs.lemmas.merged_rows_move.Owners.{owner_moved}
use Rattle.merge_laws.proofs.lemmas.merged_rows_move.Bases.{base_moved}
use Rattle.merge_laws.proofs.lemmas.merged_rows_move.Interfaces.{interfaces_moved}
use Rattle.merge_laws.proofs.lemmas.merged_rows_move.Impls.{impls_moved}
use Rattle.merge_laws.proofs.lemmas.merged_rows_move.Names.{name_moved, space_moved, label_moved, around_moved}
use Rattle.merge_laws.proofs.lemmas.merged_rows_move.Signatures.{signature_moved}
use Rattle.merge_laws.proofs.lemmas.merged_rows_move.Core.{type_count, type_row_below, types_more}
use Rattle.merge_laws.proofs.lemmas.merged_rows_move.Heads.{head_moved, fits_moved}
use Rattle.merge_laws.proofs.lemmas.merged_rows_move.RowsOf.{LikeMethod, interface_moved, explicit_moved, method_row_moved, method_row_absent, instance_moved}

-- ---- rows after the core library's table

table_by : (token r : ℕ) → token / 16777216 ≡ 2 → token % 16777216 ≡ r → list_any (λ n. nat_lt n (length TYPES)) (listed (index_from r)) ≡ true → token ≤ 33554432 + length TYPES
table_by token zero t e h = absurd (cc)
table_by token (suc k) t e h = let lt = ltb-true k (length TYPES) (sym (or_none (nat_lt k (length TYPES))) ∙ h) in omega (arith, t, e, lt)
  where
    or_none : (b : Bool) → (b || false) ≡ b
    or_none true = refl
    or_none false = refl

table_case : (token : ℕ) (c : Bool) → (table_of token == TYPE_DEF) ≡ c → list_any (λ n. nat_lt n (length TYPES)) (listed (if c then row_index token else None)) ≡ true → token ≤ 33554432 + length TYPES
table_case token true e h = table_by token (token % 16777216) (eqb-true (table_of token) TYPE_DEF e) refl h
table_case token false e h = absurd (cc)

far_token : (token : ℕ) → IsTrue (is_table_type token) → (r : ℕ) → length core_record.type_def ≤ r → nat_eq (token_of TYPE_DEF (suc r)) token ≡ false
far_token token table r past =
    let low = table_case token (table_of token == TYPE_DEF) refl table in
    let count = type_count in
    ne_eqb (token_of TYPE_DEF (suc r)) token (λ e. absurd (omega (arith, e, low, past, count)))

far_type : (name : CoreName) (r : ℕ) → length core_record.type_def ≤ r → nat_eq r (core_type_row name) ≡ false
far_type name r past = let lt = type_row_below name in ne_eqb r (core_type_row name) (λ e. absurd (omega (arith, e, lt, past)))

far_name : (r : ℕ) → length core_record.type_def ≤ r → option_map (λ (t : CoreType). t.name) (slice_get TYPES r) ≡ None
far_name r past = let count = type_count in ap (option_map (λ (t : CoreType). t.name)) (place_past TYPES r (omega (arith, past, count)))

module _ (m : Merge) (k : Keep) (kept : RowAt → Bool) (is : IsMerge m) (flags : HasFlags m k kept) where
  method_flagged : (at : RowAt) → IsThere methods_in (before m) at → keeps_method_row k (before m) at ≡ m.kept (number_method (number_at methods_in (before m) at))
  method_flagged at h = let row = there_row (λ rec. rec.method_def) (before m) at h in flags.methods at row.0 row.1

  field_flagged : (at : RowAt) → IsThere fields_in (before m) at → keeps_field_row k (before m) at ≡ m.kept (number_field (number_at fields_in (before m) at))
  field_flagged at h = let row = there_row (λ rec. rec.field) (before m) at h in flags.fields at row.0 row.1

  method_core : (at : RowAt) → IsThere methods_in (before m) at → suc at.asm ≡ length (before m) → keeps_method_row k (before m) at ≡ true
  method_core at h last = let row = there_row (λ rec. rec.method_def) (before m) at h in flags.core_methods at row.0 last row.1

  field_core : (at : RowAt) → IsThere fields_in (before m) at → suc at.asm ≡ length (before m) → keeps_field_row k (before m) at ≡ true
  field_core at h last = let row = there_row (λ rec. rec.field) (before m) at h in flags.core_fields at row.0 last row.1

  -- ---- members

  pub members : (at : RowAt) → IsTrue (keeps_type_row k (before m) at) → MembersMove m k at
  unfolding kept_types kept_methods kept_fields
  members at keeps = record {
    methods = methods_move m is (keeps_method_row k (before m)) method_flagged method_core at (λ h. type_stays m is k kept flags at keeps h);
    fields = fields_move m is (keeps_field_row k (before m)) field_flagged field_core at (λ h. type_stays m is k kept flags at keeps h);
  }

  -- ---- which type of the core library it is

  abbrev typ : RowAt → RowAt
  typ at = place m types_in number_type (type_kind m is) at

  -- what is told of a row of the core library's table, and of no other
  module _ {A : Type 0} (look : ℕ → A) (none : A) (far : (r : ℕ) → length core_record.type_def ≤ r → look r ≡ none) where
    abbrev told : List AsmRec → RowAt → A
    told recs at = if nat_eq (suc at.asm) (length recs) then look at.row else none

    two : length (after m) ≡ 2
    two = ap length (after_is m)

    told_not : (recs : List AsmRec) (at : RowAt) → (suc at.asm ≡ length recs → ⊥) → told recs at ≡ none
    told_not recs at differ = ap (λ (b : Bool). if b then look at.row else none) (ne_eqb (suc at.asm) (length recs) differ)

    told_last : (recs : List AsmRec) (at : RowAt) → suc at.asm ≡ length recs → told recs at ≡ look at.row
    told_last recs at last = ap (λ (b : Bool). if b then look at.row else none) (eq-eqb (suc at.asm) (length recs) last)

    input_told : (at : RowAt) → Input m types_in number_type (type_kind m is) at → told (after m) (typ at) ≡ told (before m) at
    input_told at h =
        let lt = h.earlier in
        let first : (typ at).asm ≡ 0 = ap (λ (x : RowAt). x.asm) h.moved in
        told_not (after m) (typ at) (λ e. let t = two in absurd (omega (arith, e, t, first))) ∙ sym (told_not (before m) at (λ e. absurd (omega (arith, e, lt))))

    row_told : (r s : ℕ) → (type_core m).to r ≡ Some s → look s ≡ look r
    row_told r s goes = elim (row_either (length core_record.type_def) (names_before m) (names_after m) r s goes) [
      | inl h ↦ ap look (sym h.1)
      | inr h ↦ let is = h.is in far s (omega (arith, is)) ∙ sym (far r h.past)
    ]

    core_told : (at : RowAt) → Core m types_in number_type (type_kind m is) at → told (after m) (typ at) ≡ told (before m) at
    core_told at h =
        let second : (typ at).asm ≡ 1 = ap (λ (x : RowAt). x.asm) h.moved in
        let row : (typ at).row ≡ h.row = ap (λ (x : RowAt). x.row) h.moved in
        let t = two in
        told_last (after m) (typ at) (omega (arith, second, t)) ∙ ap look row ∙ row_told at.row h.row h.goes ∙ sym (told_last (before m) at h.last)

    gone_by : (at : RowAt) → Gone m types_in number_type (type_kind m is) at → (b : Bool) → nat_eq (suc at.asm) (length (before m)) ≡ b → (if b then look at.row else none) ≡ none
    gone_by at h true e =
        let last = eqb-true (suc at.asm) (length (before m)) e in
        let past = h.none_before (core_of m) (core_at m at last) in
        let more = types_more m is in
        far at.row (omega (arith, past, more))
    gone_by at h false e = refl

    gone_told : (at : RowAt) → Gone m types_in number_type (type_kind m is) at → told (after m) (typ at) ≡ told (before m) at
    gone_told at h =
        let past = h.past in
        told_not (after m) (typ at) (λ e. let t = two in absurd (omega (arith, e, t, past))) ∙ sym (gone_by at h (nat_eq (suc at.asm) (length (before m))) refl)

    pub told_moved : (at : RowAt) → IsTrue (keeps_type_row k (before m) at) → told (after m) (typ at) ≡ told (before m) at
    told_moved at keeps = elim (situation m types_in number_type (type_kind m is) at (λ h. type_stays m is k kept flags at keeps h)) [
      | inl h ↦ input_told at h
      | inr other ↦ elim other [ inl h ↦ core_told at h | inr h ↦ gone_told at h ]
    ]

  and_is : (b c : Bool) → (b && c) ≡ (if b then c else false)
  and_is true c = refl
  and_is false c = refl

  core_test : (at : RowAt) → IsTrue (keeps_type_row k (before m) at) → (test : ℕ → Bool) → ((r : ℕ) → length core_record.type_def ≤ r → test r ≡ false)
      → (nat_eq (suc (typ at).asm) (length (after m)) && test (typ at).row) ≡ (nat_eq (suc at.asm) (length (before m)) && test at.row)
  core_test at keeps test far =
      and_is (nat_eq (suc (typ at).asm) (length (after m))) (test (typ at).row) ∙ told_moved test false far at keeps ∙ sym (and_is (nat_eq (suc at.asm) (length (before m))) (test at.row))

  type_marks : (at : RowAt) → IsTrue (keeps_type_row k (before m) at) → TypeMarks m at
  unfolding kept_types
  type_marks at keeps = record {
    head = head_moved m is at (λ h. type_stays m is k kept flags at keeps h);
    params = λ t e args. fits_moved m is at (λ h. type_stays m is k kept flags at keeps h) (row_there (λ rec. rec.type_def) (before m) at t e) args;
    interface = interface_moved m is at (λ h. type_stays m is k kept flags at keeps h);
    explicit = ap (λ (b : Bool). b || false) (explicit_moved m is at (λ h. type_stays m is k kept flags at keeps h));
    core_row = λ token table. core_test at keeps (λ r. nat_eq (token_of TYPE_DEF (suc r)) token) (far_token token table);
    core_name = told_moved (λ r. option_map (λ (t : CoreType). t.name) (slice_get TYPES r)) None far_name at keeps;
    core_type = λ name. core_test at keeps (λ r. nat_eq r (core_type_row name)) (far_type name);
  }

  -- ---- bases

  pub bases : ReadsTokens m → HasGoodBases m → (at : RowAt) → IsTrue (keeps_type_row k (before m) at)
      → base_at (after m) ((places_of m).typ at) ≡ option_map (move_expr (rho_of m)) (base_at (before m) at)
  unfolding kept_types
  bases reads good at keeps = base_moved m is reads good at (λ h. type_stays m is k kept flags at keeps h)

  -- ---- interfaces

  pub interfaces : ReadsTokens m → HasGoodInterfaces m k → (at : RowAt) → IsTrue (keeps_type_row k (before m) at)
      → interfaces_at (after m) ((places_of m).typ at) ≡ map (move_expr (rho_of m)) (kept_interfaces_at (before m) kept at)
  unfolding kept_types
  interfaces reads good at keeps = interfaces_moved m is k kept flags reads good at keeps

  -- ---- MethodImpl rows

  pub impls : ReadsImpls m k → (at : RowAt) → IsTrue (keeps_type_row k (before m) at)
      → impls_at (after m) ((places_of m).typ at) ≡ map (move_impl (rho_of m)) (filter (keeps_impl k) (impls_at (before m) at))
  unfolding kept_types
  impls reads at keeps = impls_moved m is k reads at (λ h. type_stays m is k kept flags at keeps h)

  -- ---- names

  pub names : KeepsNames m k → (at : RowAt) → IsTrue (keeps_type_row k (before m) at) → IsTrue (k.shown (type_number (before m) at)) → NamesMove m at
  unfolding kept_types
  names stays at keeps shown = record {
    name = name_moved m is k stays at (λ h. type_stays m is k kept flags at keeps h) shown;
    label = label_moved m is k stays at (λ h. type_stays m is k kept flags at keeps h) shown;
    space = space_moved m is k stays at (λ h. type_stays m is k kept flags at keeps h) shown;
    encloser = around_moved m is k stays at (λ h. type_stays m is k kept flags at keeps h);
  }

  -- ---- all of a type's row

  pub types : (undone : Undone (back_of m) (rho_of m)) → ReadsRows m k → (at : RowAt) → IsTrue (keeps_type_row k (before m) at) → TypeMoves (change_of m undone k) kept (places_of m) (after m) (before m) at
  types undone reads at keeps =
      let marks = type_marks at keeps in
      let own = members at keeps in
      record {
        interface = marks.interface;
        head = marks.head;
        explicit = marks.explicit;
        name = λ shown. (names reads.names at keeps shown).name;
        label = λ shown. (names reads.names at keeps shown).label;
        space = λ shown. (names reads.names at keeps shown).space;
        encloser = λ shown. (names reads.names at keeps shown).encloser;
        base = bases reads.tokens reads.bases at keeps;
        interfaces = interfaces reads.tokens reads.interfaces at keeps;
        methods = own.methods;
        fields = own.fields;
        impls = impls reads.impls at keeps;
        core_row = marks.core_row;
        core_name = marks.core_name;
        params = marks.params;
        core_type = marks.core_type;
      }

  -- ---- methods and fields

  same_method : (r s : MethodDefRow) → LikeMethod r s → SameMethod r s
  same_method r s l = record { name = l.name; virtual = l.virtual; static = l.static; new_slot = l.new_slot; public = l.public }

  method_marks : (at : RowAt) → IsTrue (keeps_method_row k (before m) at) → MethodMarks m at
  unfolding kept_types kept_methods
  method_marks at keeps = record {
    there = λ r e. let got = method_row_moved m is at r (λ h. method_stays m is k kept flags at keeps h) e in (got.0, got.1, same_method got.0 r got.2);
    absent = λ e. method_row_absent m is at (λ h. method_stays m is k kept flags at keeps h) e;
    owner = owner_moved m is at (λ h. method_stays m is k kept flags at keeps h) (λ x e h. type_stays m is k kept flags x (flags.keeps.owners at x keeps e) h);
  }

  field_instance : (at : RowAt) → IsTrue (keeps_field_row k (before m) at) → is_instance_field (after m) ((places_of m).field at) ≡ is_instance_field (before m) at
  unfolding kept_fields
  field_instance at keeps = instance_moved m is at (λ h. field_stays m is k kept flags at keeps h)

  pub marks : MarksMove m k
  marks = record { types = type_marks; methods = method_marks; instance = field_instance }

  -- ---- signatures

  pub signatures : ReadsSignatures m → (at : RowAt) → IsTrue (keeps_method_row k (before m) at)
      → type_of_row (after m) ((places_of m).method at) ≡ option_map (known_map (move_method_type (rho_of m))) (type_of_row (before m) at)
  unfolding kept_methods
  signatures reads at keeps = signature_moved m is reads at (λ h. method_stays m is k kept flags at keeps h)
