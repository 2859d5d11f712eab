-- A reference to a kept method finds it in the output, in the type that the parent names.
use Rattle.std.proofs.Common.{◌≡◌, ◌<◌, ℕ, zero, suc, ◌+◌, Bool, true, false, nat_lt, nat_eq, List, [], ◌∷◌, length, map, Option, Some, None, refl, sym, ap, subst, ◌∙◌, arith}
use Rattle.std.specs.Prelude.{IsTrue, slice_get, if◌then◌else◌}
use Rattle.std.specs.Option.{option_map, option_and_then}
use Rattle.il_base.specs.declared.ids.TypeId.{TypeId}
use Rattle.il_base.specs.declared.world_model.known.Known.{Known}
use Rattle.il_base.specs.declared.world_model.known.Known.TheVariants.{Good, Bad}
use Rattle.il_base.specs.declared.world_model.known.BadKind.TheVariants.{Outside}
use Rattle.il_base.specs.declared.world_model.expr.TypeExpr.{TypeExpr}
use Rattle.il_base.specs.declared.world_model.members.MethodDefRow.{MethodDefRow}
use Rattle.il_base.specs.declared.world_model.record.AsmRec.{AsmRec}
use Rattle.il_base.specs.world_model.Exprs.{levels}
use Rattle.il_base.specs.world_model.Worlds.{known_map, types_in, rows_before}
use Rattle.rules.specs.declared.link_rules.row_at.RowAt.{RowAt}
use Rattle.rules.specs.declared.link_rules.member_type.MethodType.{MethodType}
use Rattle.rules.specs.link_rules.Members.{type_home, owner_of, args_of, base_of, bases_from, type_count, open_parent, is_compiler_controlled, methods_in, Found, found_in, or_next, search, closed, method_of_type, find_method, most_levels, method_use}
use Rattle.rules.specs.link_rules.Cycles.{home_of}
use Rattle.rules.specs.type_rules.Rows.{methods_of_type}
use Rattle.rules.specs.type_rules.Slots.{method_row_at, type_of_row}
use Rattle.rules.specs.merge_rules.Numbers.{kept_methods}
use Rattle.rules.specs.merge_rules.Moved.{moved_method_row}
use Rattle.rules.specs.merge_rules.Restricted.{put_rva}
use Rattle.rules.specs.change_rules.Change.{Keep}
use Rattle.rules.specs.change_rules.Moves.{move_type, move_expr}
use Rattle.base_laws.proofs.lemmas.change_laws.Exprs.{move_prim, move_def, move_inst}
use Rattle.rules.specs.world_change_rules.Places.{method_number, keeps_type_row, keeps_method_row}
use Rattle.rules.specs.world_change_rules.Rows.{move_method_type}
use Rattle.run_laws.specs.query_laws.Laws.{first_at}
use Rattle.run_laws.proofs.lemmas.query_laws.Runs.{first_moved}
use Rattle.run_laws.proofs.lemmas.marked_call_laws.Opened.{Stands, parent_open, parent_home}
use Rattle.rules.specs.merged_world_rules.Merge.{Merge, IsMerge, before, after, output}
use Rattle.rules.specs.merged_world_rules.Numbering.{number_at}
use Rattle.rules.specs.merged_world_rules.NewNumbers.{rho_of, back_of, places_of}
use Rattle.merge_laws.proofs.lemmas.merged_places.Ranks.{rank}
use Rattle.merge_laws.proofs.lemmas.merged_places.Rows.{IsThere, home_below}
use Rattle.merge_laws.proofs.lemmas.merged_places.Kept.{keeps}
use Rattle.merge_laws.proofs.lemmas.merged_places.CoreTables.{method_same}
use Rattle.merge_laws.proofs.lemmas.merged_places.Tables.{number_method, method_kind, method_left}
use Rattle.merge_laws.proofs.lemmas.merged_places.Whole.{undone_of, method_stays, places_move}
use Rattle.merge_laws.proofs.lemmas.merged_rows_move.Flags.{access_stays}
use Rattle.merge_laws.proofs.lemmas.merged_rows_move.RowsOf.{row_moved, row_absent}
use Rattle.merge_laws.proofs.lemmas.merged_rows_move.Core.{core_moves}
use Rattle.merge_laws.proofs.lemmas.merged_rows_move.Whole.{members, signatures}
use Rattle.trim_laws.specs.merged_uses.Laws.{Reads}
use Rattle.trim_laws.proofs.lemmas.merged_uses.Owners.{Shape, a_prim, a_definition, an_instance, prim_owner, def_owner, inst_owner, closed_again}
use Rattle.trim_laws.proofs.lemmas.merged_uses.Signed.{method_apart, method_put, none_stands, levels_moved}
use Rattle.trim_laws.proofs.lemmas.merged_uses.Matches.{same_tests, fits, method_is, Fits, fits_from, to_fits}

-- ---- a search whose first type has the method

module _ (recs : List AsmRec) where
  search_first : (look : TypeExpr → Option RowAt) (x : TypeExpr) (es : List TypeExpr) (at : RowAt) → look x ≡ Some at → search look (x ∷ es) ≡ Some (found_in x at)
  unfolding search
  search_first look x es at e = ap (λ (o : Option RowAt). or_next (option_map (found_in x) o) (search look es)) e

  pub some_bases : (look : TypeExpr → Option RowAt) (n : ℕ) (x : TypeExpr) (at : RowAt) → 0 < n → look x ≡ Some at → search look (bases_from recs n x) ≡ Some (found_in x at)
  unfolding bases_from
  some_bases look zero x at lt e = absurd (omega (arith, lt))
  some_bases look (suc n) x at lt e = search_first look x (elim (base_of recs x) [ None ↦ [] | Some b ↦ bases_from recs n b ]) at e

  pub find_first : (name : List ℕ) (wanted : MethodType) (e : TypeExpr) (at : RowAt) → Shape e → 0 < type_count recs → method_of_type recs name wanted (open_parent recs e) ≡ Some at
      → find_method recs e name wanted ≡ Some (record { at = at; owner = e })
  unfolding find_method
  find_first name wanted e at shape lt h =
      ap (option_map (closed e)) (some_bases (method_of_type recs name wanted) (type_count recs) (open_parent recs e) at lt h)
      ∙ ap (λ (x : TypeExpr). Some (record { at = at; owner = x })) (closed_again recs e shape)

  pub use_of : (x : Found) → nat_lt most_levels (levels x.owner) ≡ false → method_use recs (Some x) ≡ Good (record { method = record { 0 = rows_before methods_in recs x.at.asm + x.at.row }; owner = x.owner; args = [] })
  use_of x h = ap (λ (b : Bool). if b then Bad (Outside 5) else Good (record { method = record { 0 = rows_before methods_in recs x.at.asm + x.at.row }; owner = x.owner; args = [] })) h

-- ---- in a merge

record Like (r s : MethodDefRow) : Type 0 where
  name : r.name ≡ s.name
  seen : is_compiler_controlled r.flags ≡ is_compiler_controlled s.flags

like_itself : (r : MethodDefRow) → Like r r
like_itself r = record { name = refl; seen = refl }

module _ (m : Merge) (k : Keep) (kept : RowAt → Bool) (r : Reads m k kept) where
  abbrev is : IsMerge m
  is = r.merge

  abbrev mv : TypeExpr → TypeExpr
  mv = move_expr (rho_of m)

  abbrev mt : MethodType → MethodType
  mt = move_method_type (rho_of m)

  left_like : (at : RowAt) (rec : AsmRec) (row : MethodDefRow) → IsThere methods_in (before m) at → suc at.asm < length (before m) → m.kept (number_method (number_at methods_in (before m) at)) ≡ true
      → slice_get (before m) at.asm ≡ Some rec → slice_get rec.method_def at.row ≡ Some row
      → (x : MethodDefRow) × (slice_get m.left.method_def (rank (keeps methods_in (before m) number_method m.kept) (number_at methods_in (before m) at)) ≡ Some x) × Like x row
  left_like at rec row h lt q here e =
      let l = method_left m is at rec row h lt q here e in
      (put_rva l.0 (moved_method_row (output m) at rec row), l.1, record { name = refl; seen = ap (λ (n : ℕ). nat_eq n 0) (access_stays 0x4000 row.flags refl) })

  there_moved : (at : RowAt) (row : MethodDefRow) → IsTrue (keeps_method_row k (before m) at) → method_row_at (before m) at ≡ Some row
      → (x : MethodDefRow) × (method_row_at (after m) ((places_of m).method at) ≡ Some x) × Like x row
  unfolding kept_methods
  there_moved at row keeps_it e =
      row_moved m (λ rec. rec.method_def) number_method (method_kind m is) (method_same m) Like like_itself left_like at row (λ h. method_stays m is k kept r.flags at keeps_it h) e

  none_moved : (at : RowAt) → IsTrue (keeps_method_row k (before m) at) → method_row_at (before m) at ≡ None → method_row_at (after m) ((places_of m).method at) ≡ None
  unfolding kept_methods
  none_moved at keeps_it e =
      row_absent m (λ rec. rec.method_def) number_method (method_kind m is) (method_same m) Like like_itself left_like at (λ h. method_stays m is k kept r.flags at keeps_it h) e

  -- ---- the test

  one_row : (x y : MethodDefRow) (o : Option MethodDefRow) → o ≡ Some x → o ≡ Some y → x ≡ y
  one_row x y o e f = let g : Some x ≡ Some y = sym e ∙ f in cc

  moved_type : (o : Option (Known MethodType)) (t : MethodType) → option_map (known_map (move_method_type (rho_of m))) o ≡ Some (Good t) → (s : MethodType) × (o ≡ Some (Good s)) × (move_method_type (rho_of m) s ≡ t)
  moved_type None t e = absurd (cc)
  moved_type (Some (Bad why)) t e = absurd (cc)
  moved_type (Some (Good s)) t e = (s, refl, cc)

  module _ (targs : List TypeExpr) (stands : Stands targs) (name : List ℕ) (wanted : MethodType) (x : RowAt) (keeps_it : IsTrue (keeps_method_row k (before m) x)) where
    abbrev px : RowAt
    px = (places_of m).method x

    typed_moved : type_of_row (after m) px ≡ option_map (known_map (move_method_type (rho_of m))) (type_of_row (before m) x)
    typed_moved = signatures m k kept is r.flags r.methods x keeps_it

    forth : Fits (before m) [] name wanted x → Fits (after m) targs name (mt wanted) px
    forth f =
        let t = there_moved x f.row keeps_it f.there in
        let own : f.type ≡ wanted = sym (method_put [] none_stands f.type) ∙ f.same in
        record {
          row = t.0;
          there = t.1;
          named = t.2.name ∙ f.named;
          seen = t.2.seen ∙ f.seen;
          type = mt f.type;
          reads = typed_moved ∙ ap (option_map (known_map (move_method_type (rho_of m)))) f.reads;
          same = method_put targs stands (mt f.type) ∙ ap mt own;
        }

    back_by : Fits (after m) targs name (mt wanted) px → (o : Option MethodDefRow) → method_row_at (before m) x ≡ o → Fits (before m) [] name wanted x
    back_by f None e = let bad : None ≡ Some f.row = sym (none_moved x keeps_it e) ∙ f.there in absurd (cc)
    back_by f (Some row) e =
        let t = there_moved x row keeps_it e in
        let one : t.0 ≡ f.row = one_row t.0 f.row (method_row_at (after m) px) t.1 f.there in
        let s = moved_type (type_of_row (before m) x) f.type (sym typed_moved ∙ f.reads) in
        let own : mt s.0 ≡ mt wanted = s.2 ∙ sym (method_put targs stands f.type) ∙ f.same in
        record {
          row = row;
          there = e;
          named = sym t.2.name ∙ ap (λ (y : MethodDefRow). y.name) one ∙ f.named;
          seen = sym t.2.seen ∙ ap (λ (y : MethodDefRow). is_compiler_controlled y.flags) one ∙ f.seen;
          type = s.0;
          reads = s.1;
          same = method_put [] none_stands s.0 ∙ method_apart (back_of m) (rho_of m) (undone_of m) s.0 wanted own;
        }

    fits_moved : fits (after m) targs name (mt wanted) px ≡ fits (before m) [] name wanted x
    fits_moved =
        same_tests (fits (after m) targs name (mt wanted) px) (fits (before m) [] name wanted x)
        (λ h. to_fits (before m) [] name wanted x (back_by (fits_from (after m) targs name (mt wanted) px h) (method_row_at (before m) x) refl))
        (λ h. to_fits (after m) targs name (mt wanted) px (forth (fits_from (before m) [] name wanted x h)))

  -- ---- in a kept type

  abbrev KeepsType : RowAt → Type 0
  KeepsType at = IsTrue (keeps_type_row k (before m) at)

  module _ (name : List ℕ) (wanted : MethodType) (home at : RowAt) (keeps_home : KeepsType home) (keeps_at : IsTrue (keeps_method_row k (before m) at))
      (first : first_at (fits (before m) [] name wanted) (methods_of_type (before m) home) ≡ Some at) where
    same_found : (x : RowAt) → first_at (fits (before m) [] name wanted) (methods_of_type (before m) home) ≡ Some x → IsTrue (keeps_method_row k (before m) x)
    same_found x e = let same : Some at ≡ Some x = sym first ∙ e in let one : at ≡ x = cc in subst (λ (y : RowAt). IsTrue (keeps_method_row k (before m) y)) one keeps_at

    in_type : (e : TypeExpr) → Stands (args_of e) → home_of (after m) e ≡ Some ((places_of m).typ home) → method_of_type (after m) name (mt wanted) e ≡ Some ((places_of m).method at)
    in_type e stands is_home =
        method_is (after m) name (mt wanted) e
        ∙ ap (option_and_then (λ (y : RowAt). first_at (fits (after m) (args_of e) name (mt wanted)) (methods_of_type (after m) y))) is_home
        ∙ ap (first_at (fits (after m) (args_of e) name (mt wanted))) (members m k kept is r.flags home keeps_home).methods
        ∙ first_moved (places_of m).method (keeps_method_row k (before m)) (fits (before m) [] name wanted) (fits (after m) (args_of e) name (mt wanted))
        (λ x q. fits_moved (args_of e) stands name wanted x q) (methods_of_type (before m) home) same_found
        ∙ ap (option_map (places_of m).method) first

  -- ---- the definition of a type that is moved

  pub shape_moved : (e : TypeExpr) → Shape e → Shape (move_expr (rho_of m) e)
  shape_moved e (a_prim n same) = a_prim n (ap mv same ∙ move_prim (rho_of m) n)
  shape_moved e (a_definition t same) = a_definition (move_type (rho_of m) t) (ap mv same ∙ move_def (rho_of m) t)
  shape_moved e (an_instance t args same) = an_instance (move_type (rho_of m) t) (map mv args) (ap mv same ∙ move_inst (rho_of m) t args)

  pub owner_moved : (e : TypeExpr) (t : TypeId) → Shape e → owner_of (before m) e ≡ Some t → owner_of (after m) (move_expr (rho_of m) e) ≡ Some (move_type (rho_of m) t)
  owner_moved e t (a_prim n same) h =
      ap (owner_of (after m)) (ap mv same ∙ move_prim (rho_of m) n) ∙ prim_owner (after m) n ∙ (core_moves m is k kept r.flags (undone_of m)).prims n
      ∙ ap (option_map (move_type (rho_of m))) (sym (prim_owner (before m) n) ∙ ap (owner_of (before m)) (sym same) ∙ h)
  owner_moved e t (a_definition u same) h =
      let one : Some u ≡ Some t = sym (def_owner (before m) u) ∙ ap (owner_of (before m)) (sym same) ∙ h in
      ap (owner_of (after m)) (ap mv same ∙ move_def (rho_of m) u) ∙ def_owner (after m) (move_type (rho_of m) u) ∙ ap (option_map (move_type (rho_of m))) one
  owner_moved e t (an_instance u args same) h =
      let one : Some u ≡ Some t = sym (inst_owner (before m) u args) ∙ ap (owner_of (before m)) (sym same) ∙ h in
      ap (owner_of (after m)) (ap mv same ∙ move_inst (rho_of m) u args) ∙ inst_owner (after m) (move_type (rho_of m) u) (map mv args) ∙ ap (option_map (move_type (rho_of m))) one

  pub home_moved : (e : TypeExpr) (t : TypeId) (home : RowAt) → Shape e → owner_of (before m) e ≡ Some t → type_home (before m) t ≡ Some home → IsTrue (k.typ t.0)
      → home_of (after m) (move_expr (rho_of m) e) ≡ Some ((places_of m).typ home)
  home_moved e t home shape owner at keeps_it =
      ap (option_and_then (type_home (after m))) (owner_moved e t shape owner)
      ∙ (places_move m (undone_of m) k kept is r.flags).type_homes t.0 keeps_it ∙ ap (option_map (places_of m).typ) at

  pub some_types : (e : TypeExpr) (t : TypeId) (home : RowAt) → owner_of (after m) e ≡ Some t → home_of (after m) e ≡ Some home → 0 < type_count (after m)
  unfolding type_count
  some_types e t home owner h =
      let at : type_home (after m) t ≡ Some home = sym (ap (option_and_then (type_home (after m))) owner) ∙ h in
      let lt = home_below types_in (after m) t.0 home at in
      omega (arith, lt)

  -- ---- a reference

  module _ (e : TypeExpr) (t : TypeId) (home at : RowAt) (name : List ℕ) (wanted : MethodType) (shape : Shape e) (owner : owner_of (before m) e ≡ Some t) (is_home : type_home (before m) t ≡ Some home)
      (keeps_type : IsTrue (k.typ t.0)) (keeps_home : KeepsType home) (keeps_at : IsTrue (keeps_method_row k (before m) at))
      (first : first_at (fits (before m) [] name wanted) (methods_of_type (before m) home) ≡ Some at) where
    found_again : find_method (after m) (mv e) name (mt wanted) ≡ Some (record { at = (places_of m).method at; owner = mv e })
    found_again =
        let new_home = home_moved e t home shape owner is_home keeps_type in
        find_first (after m) name (mt wanted) (mv e) ((places_of m).method at) (shape_moved e shape)
        (some_types (mv e) (move_type (rho_of m) t) ((places_of m).typ home) (owner_moved e t shape owner) new_home)
        (in_type name wanted home at keeps_home keeps_at first (open_parent (after m) (mv e)) (parent_open (after m) (mv e)) (parent_home (after m) (mv e) ∙ new_home))

    pub used_again : (row : MethodDefRow) → method_row_at (before m) at ≡ Some row → nat_lt most_levels (levels e) ≡ false
        → method_use (after m) (find_method (after m) (mv e) name (mt wanted)) ≡ Good (record { method = record { 0 = (rho_of m).method (method_number (before m) at) }; owner = mv e; args = [] })
    used_again row there low =
        ap (method_use (after m)) found_again
        ∙ use_of (after m) (record { at = (places_of m).method at; owner = mv e }) (ap (nat_lt most_levels) (levels_moved (rho_of m) e) ∙ low)
        ∙ ap (λ (n : ℕ). Good (record { method = record { 0 = n }; owner = mv e; args = [] })) ((places_move m (undone_of m) k kept is r.flags).methods at row there keeps_at)
