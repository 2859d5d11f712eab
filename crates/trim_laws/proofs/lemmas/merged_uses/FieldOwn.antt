-- A field of an input that is named by its own row is named so in the output.
use Rattle.std.proofs.Common.{◌≡◌, ◌<◌, ℕ, zero, suc, Bool, true, false, nat_lt, nat_le, length, Option, Some, None, sym, ap, ◌∙◌, arith}
use Rattle.std.specs.Prelude.{IsTrue, slice_get, ◌==◌, if◌then◌else◌}
use Rattle.std.specs.List.{position_from}
use Rattle.std.specs.Option.{option_map, option_and_then}
use Rattle.std.proofs.lemmas.Bool.{ne_eqb, lt-ltb, le-leb, and_from}
use Rattle.il_base.specs.declared.table.TheConstants.{FIELD, MEMBER_REF}
use Rattle.il_base.specs.declared.world_model.known.Known.TheVariants.{Good}
use Rattle.il_base.specs.declared.world_model.expr.TypeExpr.{TypeExpr}
use Rattle.il_base.specs.declared.world_model.expr.TypeExpr.TheVariants as expr
use Rattle.il_base.specs.declared.world_model.types.TypeDefRow.{TypeDefRow}
use Rattle.il_base.specs.declared.world_model.members.FieldRow.{FieldRow}
use Rattle.il_base.specs.declared.world_model.record.AsmRec.{AsmRec}
use Rattle.il_base.specs.world_model.Records.{table_sizes}
use Rattle.il_base.specs.world_model.Tokens.{index_in}
use Rattle.il_base.specs.world_model.Exprs.{levels}
use Rattle.il_base.specs.world_model.Worlds.{types_in, row_below, type_id}
use Rattle.rules.specs.declared.link_rules.row_at.RowAt.{RowAt}
use Rattle.rules.specs.link_rules.Types.{at_row}
use Rattle.rules.specs.link_rules.Signatures.{definition_expr}
use Rattle.rules.specs.link_rules.Members.{fields_in, own_args, most_levels, field_use, param_count, with_own_args, own_type, owns_field, own_member, field_def_use}
use Rattle.rules.specs.type_rules.Rows.{field_row_at}
use Rattle.rules.specs.mark_rules.Naming.{field_def_at, field_ref_at, field_named}
use Rattle.rules.specs.merge_rules.Numbers.{kept_types, kept_fields, new_row}
use Rattle.rules.specs.merge_rules.Keys.{own_field}
use Rattle.rules.specs.merge_rules.Refs.{row_token, kept_token, field_token}
use Rattle.rules.specs.merge_rules.Restricted.{output_of}
use Rattle.rules.specs.change_rules.Change.{Keep}
use Rattle.rules.specs.change_rules.Moves.{move_expr}
use Rattle.base_laws.proofs.lemmas.change_laws.Exprs.{move_def, move_inst}
use Rattle.base_laws.proofs.lemmas.type_laws.Within.{In}
use Rattle.rules.specs.view_rules.Layouts.{field_number}
use Rattle.rules.specs.world_change_rules.Places.{type_number, keeps_type_row, keeps_field_row}
use Rattle.merge_laws.specs.merged_record.Laws.{HasOwner}
use Rattle.rules.specs.merged_world_rules.Merge.{Merge, IsMerge, before, after, output}
use Rattle.rules.specs.merged_world_rules.Numbering.{number_at}
use Rattle.rules.specs.merged_world_rules.NewNumbers.{rho_of, places_of}
use Rattle.merge_laws.proofs.lemmas.merged_references.Lists.{contains}
use Rattle.merge_laws.proofs.lemmas.merged_references.Tokens.{token_table, token_index}
use Rattle.merge_laws.proofs.lemmas.merged_places.Ranks.{rank}
use Rattle.merge_laws.proofs.lemmas.merged_places.Rows.{IsThere, place_within, place_has, there_home, input_below}
use Rattle.merge_laws.proofs.lemmas.merged_places.Kept.{keeps, new_row_is}
use Rattle.merge_laws.proofs.lemmas.merged_places.Worlds.{after_is}
use Rattle.merge_laws.proofs.lemmas.merged_places.Moving.{place_kept}
use Rattle.merge_laws.proofs.lemmas.merged_places.Situations.{place, place_there, Input}
use Rattle.merge_laws.proofs.lemmas.merged_places.Tables.{number_type, number_field, type_kind, field_kind, field_left, those_at}
use Rattle.merge_laws.proofs.lemmas.merged_places.Whole.{undone_of, places_move}
use Rattle.merge_laws.proofs.lemmas.merged_rows_move.Params.{params_move}
use Rattle.trim_laws.specs.merged_uses.Laws.{Reads}
use Rattle.trim_laws.proofs.lemmas.merged_uses.Signed.{levels_moved}
use Rattle.trim_laws.proofs.lemmas.merged_uses.Own.{own_moved, plain_def}
use Rattle.trim_laws.proofs.lemmas.merged_uses.Impls.{at_in}
use Rattle.trim_laws.proofs.lemmas.merged_uses.FieldOwners.{owner_before, owner_after}
use Rattle.trim_laws.proofs.lemmas.merged_uses.FieldSearches.{use_of}

module _ (m : Merge) (k : Keep) (kept : RowAt → Bool) (r : Reads m k kept) (at : RowAt) (rec : AsmRec) (there : slice_get (before m) at.asm ≡ Some rec) (input : suc at.asm < length (before m)) (below : at.row < fields_in rec)
    (keeps_at : IsTrue (keeps_field_row k (before m) at)) (place_of : ℕ) (has : position_from (owns_field (suc at.row)) 0 rec.type_def ≡ Some place_of) where
  abbrev is : IsMerge m
  is = r.merge

  abbrev mv : TypeExpr → TypeExpr
  mv = move_expr (rho_of m)

  -- ---- the row

  row : (x : FieldRow) × (slice_get rec.field at.row ≡ Some x)
  row = place_has rec.field at.row below

  row_there : field_row_at (before m) at ≡ Some row.0
  row_there = ap (option_and_then (λ (x : AsmRec). slice_get x.field at.row)) there ∙ row.1

  abbrev at_there : IsThere fields_in (before m) at
  at_there = record { rec = rec; here = there; below = below }

  keeps_item : m.kept (number_field (number_at fields_in (before m) at)) ≡ true
  keeps_item = sym (r.flags.fields at row.0 row_there) ∙ keeps_at

  abbrev j : ℕ
  j = rank (keeps fields_in (before m) number_field m.kept) (number_at fields_in (before m) at)

  moved : place m fields_in number_field (field_kind m is) at ≡ at_row 0 (rank (keeps fields_in (before m) number_field m.kept) (number_at fields_in (before m) at))
  moved = place_there m fields_in number_field (field_kind m is) at at_there ∙ place_kept m fields_in number_field (field_kind m is) at at_there input keeps_item

  placed : (places_of m).field at ≡ at_row 0 j
  unfolding kept_fields
  placed = moved

  abbrev at_is : Input m fields_in number_field (field_kind m is) at
  at_is = record { there = at_there; earlier = input; keeps_it = keeps_item; moved = moved }

  new_is : new_row (kept_fields (before m) m.kept) at ≡ Some j
  unfolding kept_fields
  new_is = new_row_is fields_in (before m) number_field m.kept at at_there (input_below fields_in (before m) at at_there input) keeps_item

  new_below : j < length m.left.field
  new_below = place_within m.left.field j _ (field_left m is at rec row.0 at_there input keeps_item there row.1)

  new_few : suc j < 16777216
  unfolding table_sizes
  new_few = let few : length m.left.field < 16777216 = is.few 0x04 in let lt = new_below in omega (arith, few, lt)

  -- ---- its token

  abbrev token : ℕ
  token = row_token FIELD (Some j)

  token_is : field_token (output m) (own_field (record { 0 = number_at fields_in (before m) at })) ≡ row_token FIELD (Some (rank (keeps fields_in (before m) number_field m.kept) (number_at fields_in (before m) at)))
  unfolding field_token output_of
  token_is = ap (kept_token FIELD (kept_fields (before m) m.kept)) (there_home fields_in (before m) at at_there) ∙ ap (row_token FIELD) new_is

  below_is : (count n : ℕ) → n < count → row_below count (Some n) ≡ Some n
  below_is count n lt = ap (λ (b : Bool). if b then Some n else None) (lt-ltb n count lt)

  named_is : field_named (after m) 0 m.left token ≡ field_def_use (after m) 0 m.left j
  unfolding field_named
  named_is =
      ap (λ (n : ℕ). if n == FIELD then field_def_at (after m) 0 m.left (row_below (fields_in m.left) (index_in FIELD token)) else field_ref_at (after m) 0 m.left (option_and_then (slice_get m.left.member_ref) (index_in MEMBER_REF token)))
      (token_table FIELD j (omega arith) new_few)
      ∙ ap (λ (o : Option ℕ). field_def_at (after m) 0 m.left (row_below (fields_in m.left) o)) (token_index FIELD j (omega arith) new_few)
      ∙ ap (field_def_at (after m) 0 m.left) (below_is (fields_in m.left) j new_below)

  -- ---- the type that has it

  kept_in : In at (kept_fields (before m) m.kept)
  unfolding kept_fields
  kept_in = at_in _ _ at (those_at fields_in (before m) number_field m.kept at at_there input keeps_item)

  owner : HasOwner (before m) (λ rec. rec.type_def) (λ (t : TypeDefRow). t.field_list_first) (λ (t : TypeDefRow). t.field_list_end) (λ a n t. m.kept (number_type (number_at types_in (before m) (at_row a n)))) at
  owner = r.owners.fields at (contains (kept_fields (before m) m.kept) at kept_in)

  same_rec : owner.rec ≡ rec
  same_rec = let f : Some owner.rec ≡ Some rec = sym owner.there ∙ there in cc

  owner_row : slice_get rec.type_def owner.place ≡ Some owner.row
  owner_row = ap (λ (x : AsmRec). slice_get x.type_def owner.place) (sym same_rec) ∙ owner.is

  owner_owns : owns_field (suc at.row) owner.row ≡ true
  owner_owns =
      and_from (nat_le owner.row.field_list_first (suc at.row)) (nat_lt (suc at.row) owner.row.field_list_end) (le-leb owner.row.field_list_first (suc at.row) owner.begins) (lt-ltb (suc at.row) owner.row.field_list_end owner.ends)

  abbrev home : RowAt
  home = at_row at.asm owner.place

  same_place : place_of ≡ owner.place
  same_place =
      let f : Some place_of ≡ Some owner.place = sym has ∙ owner_before m is at at_is owner.place owner.row owner_row owner_owns owner.kept in
      cc

  abbrev home_there : IsThere types_in (before m) home
  home_there = record { rec = rec; here = there; below = place_within rec.type_def owner.place owner.row owner_row }

  abbrev i : ℕ
  i = rank (keeps types_in (before m) number_type m.kept) (number_at types_in (before m) home)

  home_moved : place m types_in number_type (type_kind m is) home ≡ at_row 0 (rank (keeps types_in (before m) number_type m.kept) (number_at types_in (before m) home))
  home_moved = place_there m types_in number_type (type_kind m is) home home_there ∙ place_kept m types_in number_type (type_kind m is) home home_there input owner.kept

  home_placed : (places_of m).typ home ≡ at_row 0 i
  unfolding kept_types
  home_placed = home_moved

  abbrev home_is : Input m types_in number_type (type_kind m is) home
  home_is = record { there = home_there; earlier = input; keeps_it = owner.kept; moved = home_moved }

  position_is : position_from (owns_field (suc j)) 0 m.left.type_def ≡ Some i
  position_is = owner_after m is at at_is owner.place owner.row owner_row owner_owns owner.kept r.left

  -- ---- that type in itself

  home_row : (option_and_then (λ (x : AsmRec). slice_get x.type_def owner.place) (slice_get (before m) at.asm)) ≡ Some owner.row
  home_row = ap (option_and_then (λ (x : AsmRec). slice_get x.type_def owner.place)) there ∙ owner_row

  keeps_home : IsTrue (keeps_type_row k (before m) home)
  keeps_home = r.flags.types home owner.row input home_row ∙ owner.kept

  two : length (after m) ≡ 2
  two = ap length (after_is m)

  new_plain : definition_expr (after m) (at_row 0 i) ≡ expr.Def (type_id (after m) 0 i)
  new_plain = plain_def (after m) (at_row 0 i) (ne_eqb 1 (length (after m)) (λ e. let t = two in absurd (omega (arith, e, t))))

  old_plain : definition_expr (before m) home ≡ expr.Def (type_id (before m) home.asm home.row)
  old_plain = plain_def (before m) home (ne_eqb (suc home.asm) (length (before m)) (λ e. absurd (omega (arith, e, input))))

  number_moved : (type_id (after m) 0 i).0 ≡ (rho_of m).typ (type_id (before m) home.asm home.row).0
  number_moved = ap (type_number (after m)) (sym home_placed) ∙ (places_move m (undone_of m) k kept is r.flags).types home owner.row home_row keeps_home

  with_args : (n : ℕ) → with_own_args (after m) (at_row 0 i) n ≡ mv (with_own_args (before m) home n)
  with_args zero =
      new_plain ∙ ap (λ (n : ℕ). expr.Def (record { 0 = n })) number_moved ∙ sym (ap mv old_plain ∙ move_def (rho_of m) (type_id (before m) home.asm home.row))
  with_args (suc n) =
      ap (λ (t : ℕ). expr.Inst (record { 0 = t }) (own_args (suc n))) number_moved
      ∙ sym (move_inst (rho_of m) (type_id (before m) home.asm home.row) (own_args (suc n)) ∙ ap (expr.Inst (record { 0 = (rho_of m).typ (type_id (before m) home.asm home.row).0 })) (own_moved m 0 (suc n)))

  own_again : own_type (after m) m.left (at_row 0 i) ≡ mv (own_type (before m) rec home)
  unfolding own_type
  own_again = ap (with_own_args (after m) (at_row 0 i)) (params_move m is home home_is) ∙ with_args (param_count rec home.row)

  -- ---- what the token names

  found_is : own_member (after m) 0 m.left owns_field j ≡ Some (record { at = (places_of m).field at; owner = mv (own_type (before m) rec home) })
  found_is =
      ap (option_map (λ t. record { at = at_row 0 j; owner = own_type (after m) m.left (at_row 0 t) })) position_is
      ∙ (λ q. Some (record { at = sym placed q; owner = own_again q }))

  own_by : nat_lt most_levels (levels (own_type (before m) rec home)) ≡ false
      → field_named (after m) 0 m.left (field_token (output m) (own_field (record { 0 = number_at fields_in (before m) at })))
      ≡ Good (record { field = record { 0 = (rho_of m).field (field_number (before m) at) }; owner = move_expr (rho_of m) (own_type (before m) rec home) })
  unfolding field_def_use
  own_by low =
      ap (field_named (after m) 0 m.left) token_is ∙ named_is ∙ ap (field_use (after m)) found_is
      ∙ use_of (after m) (record { at = (places_of m).field at; owner = mv (own_type (before m) rec home) }) (ap (nat_lt most_levels) (levels_moved (rho_of m) (own_type (before m) rec home)) ∙ low)
      ∙ ap (λ (n : ℕ). Good (record { field = record { 0 = n }; owner = mv (own_type (before m) rec home) })) ((places_move m (undone_of m) k kept is r.flags).fields at row.0 row_there keeps_at)

  pub own_reads : nat_lt most_levels (levels (own_type (before m) rec (at_row at.asm place_of))) ≡ false
      → field_named (after m) 0 m.left (field_token (output m) (own_field (record { 0 = number_at fields_in (before m) at })))
      ≡ Good (record { field = record { 0 = (rho_of m).field (field_number (before m) at) }; owner = move_expr (rho_of m) (own_type (before m) rec (at_row at.asm place_of)) })
  own_reads low =
      let back : own_type (before m) rec home ≡ own_type (before m) rec (at_row at.asm place_of) = ap (λ (n : ℕ). own_type (before m) rec (at_row at.asm n)) (sym same_place) in
      own_by (ap (λ (x : TypeExpr). nat_lt most_levels (levels x)) back ∙ low)
      ∙ ap (λ (x : TypeExpr). Good (record { field = record { 0 = (rho_of m).field (field_number (before m) at) }; owner = move_expr (rho_of m) x })) back
