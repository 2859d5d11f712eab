-- A field that a token names is a row of the world.
use Rattle.std.proofs.Common.{◌≡◌, ◌<◌, ℕ, suc, ◌+◌, List, [], ◌∷◌, Bool, true, false, nat_lt, Option, Some, None, refl, subst}
use Rattle.std.specs.Prelude.{slice_get, ◌==◌, if◌then◌else◌}
use Rattle.std.specs.List.{position_from}
use Rattle.std.specs.Option.{option_map, option_and_then}
use Rattle.std.proofs.lemmas.Bool.{ltb-true}
use Rattle.il_base.specs.declared.ids.FieldId.{FieldId}
use Rattle.il_base.specs.declared.ids.Item.TheVariants as item
use Rattle.il_base.specs.declared.table.TheConstants as table
use Rattle.il_base.specs.declared.world_model.known.Known.TheVariants.{Good, Bad}
use Rattle.il_base.specs.declared.world_model.known.BadKind.TheVariants.{Unresolved, Outside}
use Rattle.il_base.specs.declared.world_model.expr.TypeExpr.{TypeExpr}
use Rattle.il_base.specs.declared.world_model.expr.FieldUse.{FieldUse}
use Rattle.il_base.specs.declared.world_model.expr.MemberSig.{MemberSig}
use Rattle.il_base.specs.declared.world_model.expr.MemberSig.TheVariants as member
use Rattle.il_base.specs.declared.world_model.types.TypeDefRow.{TypeDefRow}
use Rattle.il_base.specs.declared.world_model.members.MemberRefRow.{MemberRefRow}
use Rattle.il_base.specs.declared.world_model.record.AsmRec.{AsmRec}
use Rattle.il_base.specs.world_model.Tokens.{table_of, index_in}
use Rattle.il_base.specs.world_model.Exprs.{levels}
use Rattle.il_base.specs.world_model.Worlds.{known_then, rows_before, row_below, sig_expr}
use Rattle.rules.specs.declared.link_rules.row_at.RowAt.{RowAt}
use Rattle.rules.specs.link_rules.Types.{at_row}
use Rattle.rules.specs.link_rules.Signatures.{names_at}
use Rattle.rules.specs.link_rules.Members.{args_of, find_in_run, Found, found_in, or_next, search, closed, with_bases, open_parent, is_field, field_of_type, find_field, fields_in, most_levels, field_use, own_member, owns_field, own_type, field_def_use, is_method_sig, parent_of, field_in_parent, field_ref_use}
use Rattle.base_laws.proofs.lemmas.type_laws.Places.{place_within}
use Rattle.base_laws.proofs.lemmas.walk_laws.Finds as finds
use Rattle.base_laws.proofs.lemmas.known_laws.Lists.{map_some}
use Rattle.rules.specs.mark_rules.Places.{row_of}
use Rattle.rules.specs.mark_rules.Naming.{field_def_at, field_ref_at, field_named}
use Rattle.merge_laws.proofs.lemmas.merged_owners.Homes.{own_home}
use Rattle.merge_laws.proofs.lemmas.merged_signatures.Reading.{good_then}
use Rattle.merge_laws.proofs.lemmas.merged_standing.Found.{run_has}

row_by : (count k n : ℕ) (b : Bool) → nat_lt k count ≡ b → (if b then Some k else None) ≡ Some n → n < count
row_by count k n true e h = let same : k ≡ n = cc in subst (λ (m : ℕ). m < count) same (ltb-true k count e)
row_by count k n false e h = absurd (cc)

row_is : (count : ℕ) (o : Option ℕ) (n : ℕ) → row_below count o ≡ Some n → n < count
row_is count None n h = absurd (cc)
row_is count (Some k) n h = row_by count k n (nat_lt k count) refl h

module _ (recs : List AsmRec) where
  record Row (at : RowAt) : Type 0 where
    rec : AsmRec
    there : slice_get recs at.asm ≡ Some rec
    below : at.row < fields_in rec

  abbrev HasHome : FieldId → Type 0
  HasHome f = (at : RowAt) × (row_of recs (item.Field f) ≡ Some at)

  row_home : (at : RowAt) → Row at → HasHome (record { 0 = rows_before fields_in recs at.asm + at.row })
  unfolding row_of
  row_home at r = (at, own_home fields_in recs at r.rec r.there r.below)

  -- ---- the search from a parent

  looked : (name : List ℕ) (wanted e : TypeExpr) (at : RowAt) → field_of_type recs name wanted e ≡ Some at → Row at
  unfolding field_of_type
  looked name wanted e at h =
      let look : RowAt → AsmRec → TypeDefRow → Option RowAt =
      λ home rec t. option_map (at_row home.asm) (find_in_run (is_field recs home.asm rec (args_of e) name wanted) t.field_list_first t.field_list_end rec.field) in
      let d = finds.defined recs look e at h in
      let k = map_some (at_row d.home.asm) (find_in_run (is_field recs d.home.asm d.rec (args_of e) name wanted) d.row.field_list_first d.row.field_list_end d.rec.field) at d.found in
      let r = run_has (is_field recs d.home.asm d.rec (args_of e) name wanted) d.row.field_list_first d.row.field_list_end d.rec.field k.0 k.1 in
      subst Row k.2 (record { rec = d.rec; there = d.there; below = place_within d.rec.field k.0 r.0 r.1 })

  module _ (name : List ℕ) (wanted : TypeExpr) where
    next_has : (e : TypeExpr) (x : Found) (later : Option Found) (o : Option RowAt) → field_of_type recs name wanted e ≡ o → (later ≡ Some x → Row x.at) → or_next (option_map (found_in e) o) later ≡ Some x → Row x.at
    next_has e x later None f more h = more h
    next_has e x later (Some at) f more h = let same : found_in e at ≡ x = cc in subst (λ (y : Found). Row y.at) same (looked name wanted e at f)

    search_has : (es : List TypeExpr) (x : Found) → search (field_of_type recs name wanted) es ≡ Some x → Row x.at
    unfolding search
    search_has [] x h = absurd (cc)
    search_has (e ∷ es) x h = next_has e x (search (field_of_type recs name wanted) es) (field_of_type recs name wanted e) refl (search_has es x) h

    found_has : (parent : TypeExpr) (x : Found) → find_field recs parent name wanted ≡ Some x → Row x.at
    unfolding find_field
    found_has parent x h =
        let m = map_some (closed parent) (search (field_of_type recs name wanted) (with_bases recs (open_parent recs parent))) x h in
        subst (λ (y : Found). Row y.at) m.2 (search_has (with_bases recs (open_parent recs parent)) m.0 m.1)

  -- ---- uses

  used_by : (x : Found) (u : FieldUse) → Row x.at → (b : Bool)
      → (if b then Bad (Outside 5) else Good (record { field = record { 0 = rows_before fields_in recs x.at.asm + x.at.row }; owner = x.owner })) ≡ Good u → HasHome u.field
  used_by x u h true e = absurd (cc)
  used_by x u h false e =
      let same : record { field = record { 0 = rows_before fields_in recs x.at.asm + x.at.row }; owner = x.owner } ≡ u = cc in
      subst (λ (v : FieldUse). HasHome v.field) same (row_home x.at h)

  used : (o : Option Found) (u : FieldUse) → ((x : Found) → o ≡ Some x → Row x.at) → field_use recs o ≡ Good u → HasHome u.field
  used None u h e = absurd (cc)
  used (Some x) u h e = used_by x u (h x refl) (nat_lt most_levels (levels x.owner)) e

  module _ (a : ℕ) (rec : AsmRec) (there : slice_get recs a ≡ Some rec) where
    own_has : (k : ℕ) (x : Found) → k < fields_in rec → own_member recs a rec owns_field k ≡ Some x → Row x.at
    own_has k x lt h =
        let m = map_some (λ t. record { at = at_row a k; owner = own_type recs rec (at_row a t) }) (position_from (owns_field (suc k)) 0 rec.type_def) x h in
        subst (λ (y : Found). Row y.at) m.2 (record { rec = rec; there = there; below = lt })

    def_home : (o : Option ℕ) (u : FieldUse) → ((k : ℕ) → o ≡ Some k → k < fields_in rec) → field_def_at recs a rec o ≡ Good u → HasHome u.field
    unfolding field_def_use
    def_home None u lt e = absurd (cc)
    def_home (Some k) u lt e = used (own_member recs a rec owns_field k) u (λ x. own_has k x (lt k refl)) e

    ref_in : (row : MemberRefRow) (parent : TypeExpr) (s : MemberSig) (u : FieldUse) → field_in_parent recs a rec row parent s ≡ Good u → HasHome u.field
    ref_in row parent (member.Field s) u h =
        let k = good_then (λ (wanted : TypeExpr). field_use recs (find_field recs parent row.name wanted)) (sig_expr (names_at recs a rec) s) u h in
        used (find_field recs parent row.name k.from) u (found_has row.name k.from parent) k.gives
    ref_in row parent (member.Method s) u h = absurd (cc)

    ref_kind : (row : MemberRefRow) (u : FieldUse) (b : Bool)
        → (if b then Bad Unresolved else known_then (λ (parent : TypeExpr). known_then (field_in_parent recs a rec row parent) row.signature) (parent_of recs a rec row)) ≡ Good u → HasHome u.field
    ref_kind row u true h = absurd (cc)
    ref_kind row u false h =
        let p = good_then (λ (parent : TypeExpr). known_then (field_in_parent recs a rec row parent) row.signature) (parent_of recs a rec row) u h in
        let s = good_then (field_in_parent recs a rec row p.from) row.signature u p.gives in
        ref_in row p.from s.from u s.gives

    ref_home : (o : Option MemberRefRow) (u : FieldUse) → field_ref_at recs a rec o ≡ Good u → HasHome u.field
    unfolding field_ref_use
    ref_home None u h = absurd (cc)
    ref_home (Some row) u h = ref_kind row u (is_method_sig row.signature) h

    home_by : (token : ℕ) (u : FieldUse) (b : Bool)
        → (if b then field_def_at recs a rec (row_below (fields_in rec) (index_in table.FIELD token)) else field_ref_at recs a rec (option_and_then (slice_get rec.member_ref) (index_in table.MEMBER_REF token))) ≡ Good u → HasHome u.field
    home_by token u true h = def_home (row_below (fields_in rec) (index_in table.FIELD token)) u (row_is (fields_in rec) (index_in table.FIELD token)) h
    home_by token u false h = ref_home (option_and_then (slice_get rec.member_ref) (index_in table.MEMBER_REF token)) u h

    pub field_home : (token : ℕ) (u : FieldUse) → field_named recs a rec token ≡ Good u → HasHome u.field
    unfolding field_named
    field_home token u h = home_by token u (table_of token == table.FIELD) h
