-- A reference to a kept field finds it in the output, in the type that the parent names.
use Rattle.std.proofs.Common.{◌≡◌, ◌<◌, ℕ, suc, ◌+◌, Bool, true, false, nat_lt, nat_eq, List, [], length, Option, Some, None, refl, sym, ap, subst, ◌∙◌}
use Rattle.std.specs.Prelude.{IsTrue, slice_get, if◌then◌else◌}
use Rattle.std.specs.Option.{option_map, option_and_then}
use Rattle.il_base.specs.declared.ids.TypeId.{TypeId}
use Rattle.il_base.specs.declared.world_model.known.Known.{Known}
use Rattle.il_base.specs.declared.world_model.known.Known.TheVariants.{Good, Bad}
use Rattle.il_base.specs.declared.world_model.known.BadKind.TheVariants.{Outside}
use Rattle.il_base.specs.declared.world_model.expr.TypeExpr.{TypeExpr}
use Rattle.il_base.specs.declared.world_model.members.FieldRow.{FieldRow}
use Rattle.il_base.specs.declared.world_model.record.AsmRec.{AsmRec}
use Rattle.il_base.specs.world_model.Exprs.{levels}
use Rattle.il_base.specs.world_model.Worlds.{known_map, rows_before}
use Rattle.rules.specs.declared.link_rules.row_at.RowAt.{RowAt}
use Rattle.rules.specs.link_rules.Members.{type_home, owner_of, args_of, type_count, open_parent, is_compiler_controlled, fields_in, Found, closed, field_of_type, find_field, most_levels, field_use}
use Rattle.rules.specs.link_rules.Cycles.{home_of}
use Rattle.rules.specs.type_rules.Rows.{field_row_at, fields_of_type}
use Rattle.rules.specs.merge_rules.Numbers.{kept_fields}
use Rattle.rules.specs.merge_rules.Moved.{moved_field_row}
use Rattle.rules.specs.change_rules.Change.{Keep}
use Rattle.rules.specs.change_rules.Moves.{move_type, move_expr}
use Rattle.rules.specs.view_rules.Layouts.{field_number}
use Rattle.rules.specs.world_change_rules.Places.{keeps_type_row, keeps_field_row}
use Rattle.run_laws.specs.query_laws.Laws.{first_at}
use Rattle.run_laws.proofs.lemmas.query_laws.Runs.{first_moved}
use Rattle.run_laws.proofs.lemmas.marked_call_laws.Opened.{Stands, parent_open, parent_home, put_same}
use Rattle.rules.specs.merged_world_rules.Merge.{Merge, IsMerge, before, after, output}
use Rattle.rules.specs.merged_world_rules.Numbering.{number_at}
use Rattle.rules.specs.merged_world_rules.NewNumbers.{rho_of, back_of, places_of}
use Rattle.merge_laws.proofs.lemmas.merged_places.Ranks.{rank}
use Rattle.merge_laws.proofs.lemmas.merged_places.Rows.{IsThere}
use Rattle.merge_laws.proofs.lemmas.merged_places.Kept.{keeps}
use Rattle.merge_laws.proofs.lemmas.merged_places.CoreTables.{field_same}
use Rattle.merge_laws.proofs.lemmas.merged_places.Tables.{number_field, field_kind, field_left}
use Rattle.merge_laws.proofs.lemmas.merged_places.Whole.{undone_of, field_stays, places_move}
use Rattle.merge_laws.proofs.lemmas.merged_rows_move.Flags.{access_stays}
use Rattle.merge_laws.proofs.lemmas.merged_rows_move.RowsOf.{row_moved, row_absent}
use Rattle.merge_laws.proofs.lemmas.merged_rows_move.Whole.{members}
use Rattle.trim_laws.specs.merged_uses.Laws.{Reads}
use Rattle.trim_laws.proofs.lemmas.merged_uses.Owners.{Shape, closed_again}
use Rattle.trim_laws.proofs.lemmas.merged_uses.Signed.{expr_apart, none_stands, levels_moved}
use Rattle.trim_laws.proofs.lemmas.merged_uses.Matches.{same_tests}
use Rattle.trim_laws.proofs.lemmas.merged_uses.Searches.{some_bases, some_types, shape_moved, owner_moved, home_moved}
use Rattle.trim_laws.proofs.lemmas.merged_uses.FieldMatches.{type_of_field, fits, field_is, Fits, fits_from, to_fits}
use Rattle.trim_laws.proofs.lemmas.merged_uses.FieldSigs.{type_moved}

module _ (recs : List AsmRec) where
  pub find_first : (name : List ℕ) (wanted e : TypeExpr) (at : RowAt) → Shape e → 0 < type_count recs → field_of_type recs name wanted (open_parent recs e) ≡ Some at
      → find_field recs e name wanted ≡ Some (record { at = at; owner = e })
  unfolding find_field
  find_first name wanted e at shape lt h =
      ap (option_map (closed e)) (some_bases recs (field_of_type recs name wanted) (type_count recs) (open_parent recs e) at lt h)
      ∙ ap (λ (x : TypeExpr). Some (record { at = at; owner = x })) (closed_again recs e shape)

  pub use_of : (x : Found) → nat_lt most_levels (levels x.owner) ≡ false → field_use recs (Some x) ≡ Good (record { field = record { 0 = rows_before fields_in recs x.at.asm + x.at.row }; owner = x.owner })
  use_of x h = ap (λ (b : Bool). if b then Bad (Outside 5) else Good (record { field = record { 0 = rows_before fields_in recs x.at.asm + x.at.row }; owner = x.owner })) h

-- ---- in a merge

record Like (r s : FieldRow) : Type 0 where
  name : r.name ≡ s.name
  seen : is_compiler_controlled r.flags ≡ is_compiler_controlled s.flags

like_itself : (r : FieldRow) → Like r r
like_itself r = record { name = refl; seen = refl }

module _ (m : Merge) (k : Keep) (kept : RowAt → Bool) (r : Reads m k kept) where
  abbrev is : IsMerge m
  is = r.merge

  abbrev mv : TypeExpr → TypeExpr
  mv = move_expr (rho_of m)

  left_like : (at : RowAt) (rec : AsmRec) (row : FieldRow) → IsThere fields_in (before m) at → suc at.asm < length (before m) → m.kept (number_field (number_at fields_in (before m) at)) ≡ true
      → slice_get (before m) at.asm ≡ Some rec → slice_get rec.field at.row ≡ Some row
      → (x : FieldRow) × (slice_get m.left.field (rank (keeps fields_in (before m) number_field m.kept) (number_at fields_in (before m) at)) ≡ Some x) × Like x row
  left_like at rec row h lt q here e =
      (moved_field_row (output m) at rec row, field_left m is at rec row h lt q here e, record { name = refl; seen = ap (λ (n : ℕ). nat_eq n 0) (access_stays 0x1000 row.flags refl) })

  there_moved : (at : RowAt) (row : FieldRow) → IsTrue (keeps_field_row k (before m) at) → field_row_at (before m) at ≡ Some row
      → (x : FieldRow) × (field_row_at (after m) ((places_of m).field at) ≡ Some x) × Like x row
  unfolding kept_fields
  there_moved at row keeps_it e =
      row_moved m (λ rec. rec.field) number_field (field_kind m is) (field_same m) Like like_itself left_like at row (λ h. field_stays m is k kept r.flags at keeps_it h) e

  none_moved : (at : RowAt) → IsTrue (keeps_field_row k (before m) at) → field_row_at (before m) at ≡ None → field_row_at (after m) ((places_of m).field at) ≡ None
  unfolding kept_fields
  none_moved at keeps_it e =
      row_absent m (λ rec. rec.field) number_field (field_kind m is) (field_same m) Like like_itself left_like at (λ h. field_stays m is k kept r.flags at keeps_it h) e

  -- ---- the test

  one_row : (x y : FieldRow) (o : Option FieldRow) → o ≡ Some x → o ≡ Some y → x ≡ y
  one_row x y o e f = let g : Some x ≡ Some y = sym e ∙ f in cc

  moved_type : (o : Option (Known TypeExpr)) (t : TypeExpr) → option_map (known_map (move_expr (rho_of m))) o ≡ Some (Good t) → (s : TypeExpr) × (o ≡ Some (Good s)) × (move_expr (rho_of m) s ≡ t)
  moved_type None t e = absurd (cc)
  moved_type (Some (Bad why)) t e = absurd (cc)
  moved_type (Some (Good s)) t e = (s, refl, cc)

  module _ (targs : List TypeExpr) (stands : Stands targs) (name : List ℕ) (wanted : TypeExpr) (x : RowAt) (keeps_it : IsTrue (keeps_field_row k (before m) x)) where
    abbrev px : RowAt
    px = (places_of m).field x

    typed_moved : type_of_field (after m) px ≡ option_map (known_map (move_expr (rho_of m))) (type_of_field (before m) x)
    typed_moved = type_moved m k kept r x keeps_it

    forth : Fits (before m) [] name wanted x → Fits (after m) targs name (mv wanted) px
    forth f =
        let t = there_moved x f.row keeps_it f.there in
        let own : f.type ≡ wanted = sym (put_same [] none_stands f.type) ∙ f.same in
        record {
          row = t.0;
          there = t.1;
          named = t.2.name ∙ f.named;
          seen = t.2.seen ∙ f.seen;
          type = mv f.type;
          reads = typed_moved ∙ ap (option_map (known_map (move_expr (rho_of m)))) f.reads;
          same = put_same targs stands (mv f.type) ∙ ap mv own;
        }

    back_by : Fits (after m) targs name (mv wanted) px → (o : Option FieldRow) → field_row_at (before m) x ≡ o → Fits (before m) [] name wanted x
    back_by f None e = let bad : None ≡ Some f.row = sym (none_moved x keeps_it e) ∙ f.there in absurd (cc)
    back_by f (Some row) e =
        let t = there_moved x row keeps_it e in
        let one : t.0 ≡ f.row = one_row t.0 f.row (field_row_at (after m) px) t.1 f.there in
        let s = moved_type (type_of_field (before m) x) f.type (sym typed_moved ∙ f.reads) in
        let own : mv s.0 ≡ mv wanted = s.2 ∙ sym (put_same targs stands f.type) ∙ f.same in
        record {
          row = row;
          there = e;
          named = sym t.2.name ∙ ap (λ (y : FieldRow). y.name) one ∙ f.named;
          seen = sym t.2.seen ∙ ap (λ (y : FieldRow). is_compiler_controlled y.flags) one ∙ f.seen;
          type = s.0;
          reads = s.1;
          same = put_same [] none_stands s.0 ∙ expr_apart (back_of m) (rho_of m) (undone_of m) s.0 wanted own;
        }

    fits_moved : fits (after m) targs name (mv wanted) px ≡ fits (before m) [] name wanted x
    fits_moved =
        same_tests (fits (after m) targs name (mv wanted) px) (fits (before m) [] name wanted x)
        (λ h. to_fits (before m) [] name wanted x (back_by (fits_from (after m) targs name (mv wanted) px h) (field_row_at (before m) x) refl))
        (λ h. to_fits (after m) targs name (mv wanted) px (forth (fits_from (before m) [] name wanted x h)))

  -- ---- in a kept type

  abbrev KeepsType : RowAt → Type 0
  KeepsType at = IsTrue (keeps_type_row k (before m) at)

  module _ (name : List ℕ) (wanted : TypeExpr) (home at : RowAt) (keeps_home : KeepsType home) (keeps_at : IsTrue (keeps_field_row k (before m) at))
      (first : first_at (fits (before m) [] name wanted) (fields_of_type (before m) home) ≡ Some at) where
    same_found : (x : RowAt) → first_at (fits (before m) [] name wanted) (fields_of_type (before m) home) ≡ Some x → IsTrue (keeps_field_row k (before m) x)
    same_found x e = let same : Some at ≡ Some x = sym first ∙ e in let one : at ≡ x = cc in subst (λ (y : RowAt). IsTrue (keeps_field_row k (before m) y)) one keeps_at

    in_type : (e : TypeExpr) → Stands (args_of e) → home_of (after m) e ≡ Some ((places_of m).typ home) → field_of_type (after m) name (mv wanted) e ≡ Some ((places_of m).field at)
    in_type e stands is_home =
        field_is (after m) name (mv wanted) e
        ∙ ap (option_and_then (λ (y : RowAt). first_at (fits (after m) (args_of e) name (mv wanted)) (fields_of_type (after m) y))) is_home
        ∙ ap (first_at (fits (after m) (args_of e) name (mv wanted))) (members m k kept is r.flags home keeps_home).fields
        ∙ first_moved (places_of m).field (keeps_field_row k (before m)) (fits (before m) [] name wanted) (fits (after m) (args_of e) name (mv wanted))
        (λ x q. fits_moved (args_of e) stands name wanted x q) (fields_of_type (before m) home) same_found
        ∙ ap (option_map (places_of m).field) first

  -- ---- a reference

  module _ (e : TypeExpr) (t : TypeId) (home at : RowAt) (name : List ℕ) (wanted : TypeExpr) (shape : Shape e) (owner : owner_of (before m) e ≡ Some t) (is_home : type_home (before m) t ≡ Some home)
      (keeps_type : IsTrue (k.typ t.0)) (keeps_home : KeepsType home) (keeps_at : IsTrue (keeps_field_row k (before m) at))
      (first : first_at (fits (before m) [] name wanted) (fields_of_type (before m) home) ≡ Some at) where
    found_again : find_field (after m) (mv e) name (mv wanted) ≡ Some (record { at = (places_of m).field at; owner = mv e })
    found_again =
        let new_home = home_moved m k kept r e t home shape owner is_home keeps_type in
        find_first (after m) name (mv wanted) (mv e) ((places_of m).field at) (shape_moved m k kept r e shape)
        (some_types m k kept r (mv e) (move_type (rho_of m) t) ((places_of m).typ home) (owner_moved m k kept r e t shape owner) new_home)
        (in_type name wanted home at keeps_home keeps_at first (open_parent (after m) (mv e)) (parent_open (after m) (mv e)) (parent_home (after m) (mv e) ∙ new_home))

    pub used_again : (row : FieldRow) → field_row_at (before m) at ≡ Some row → nat_lt most_levels (levels e) ≡ false
        → field_use (after m) (find_field (after m) (mv e) name (mv wanted)) ≡ Good (record { field = record { 0 = (rho_of m).field (field_number (before m) at) }; owner = mv e })
    used_again row there low =
        ap (field_use (after m)) found_again
        ∙ use_of (after m) (record { at = (places_of m).field at; owner = mv e }) (ap (nat_lt most_levels) (levels_moved (rho_of m) e) ∙ low)
        ∙ ap (λ (n : ℕ). Good (record { field = record { 0 = n }; owner = mv e })) ((places_move m (undone_of m) k kept is r.flags).fields at row there keeps_at)
