-- A method that a token names is a row of the world.
use Rattle.std.proofs.Common.{◌≡◌, ℕ, suc, ◌+◌, ◌-◌, ◌<◌, List, [], ◌∷◌, length, take, drop, Bool, true, false, nat_lt, Option, Some, None, refl, ap, subst, ◌∙◌, arith, zero}
use Rattle.std.specs.Prelude.{slice_get, ◌==◌, if◌then◌else◌}
use Rattle.std.specs.List.{position_from}
use Rattle.std.specs.Option.{is_some, option_and_then, option_map}
use Rattle.std.proofs.lemmas.Bool.{ltb-true, lt-ltb, le-ltb}
use Rattle.il_base.specs.declared.ids.Item.TheVariants as item
use Rattle.il_base.specs.declared.table.TheConstants.{METHOD_DEF, MEMBER_REF}
use Rattle.il_base.specs.declared.world_model.known.Known.{Known}
use Rattle.il_base.specs.declared.world_model.known.Known.TheVariants.{Good, Bad}
use Rattle.il_base.specs.declared.world_model.known.BadKind.TheVariants.{Unresolved, Outside}
use Rattle.il_base.specs.declared.world_model.expr.TypeExpr.{TypeExpr}
use Rattle.il_base.specs.declared.world_model.expr.MethodUse.{MethodUse}
use Rattle.il_base.specs.declared.world_model.expr.MemberSig.{MemberSig}
use Rattle.il_base.specs.declared.world_model.expr.MemberSig.TheVariants as member
use Rattle.il_base.specs.declared.world_model.members.MemberRefRow.{MemberRefRow}
use Rattle.il_base.specs.declared.world_model.record.AsmRec.{AsmRec}
use Rattle.il_base.specs.world_model.Tokens.{table_of, index_in}
use Rattle.il_base.specs.world_model.Exprs.{levels}
use Rattle.il_base.specs.world_model.Worlds.{known_then, rows_before, row_below}
use Rattle.rules.specs.declared.link_rules.row_at.RowAt.{RowAt}
use Rattle.rules.specs.declared.link_rules.member_type.MethodType.{MethodType}
use Rattle.rules.specs.link_rules.Types.{at_row}
use Rattle.rules.specs.link_rules.Signatures.{names_at, method_type}
use Rattle.rules.specs.link_rules.Members.{home_from, run_of, find_in_run, is_method, method_in, args_of, method_of_type, Found, found_in, or_next, search, closed, with_bases, open_parent, find_method, methods_in, most_levels, method_use, owns_method, own_type, own_member, method_def_use, is_field_sig, parent_of, method_in_parent, method_ref_use, ref_use_at, def_use_at, generic_method, type_home, owner_of}
use Rattle.rules.specs.mark_rules.Places.{row_of}
use Rattle.base_laws.proofs.lemmas.walk_laws.Finds as finds
use Rattle.base_laws.proofs.lemmas.known_laws.Lists.{and_then_some, map_some}

-- ---- the number of a row

module _ (count : AsmRec → ℕ) where
  home_at : (recs : List AsmRec) (i a k : ℕ) (rec : AsmRec) → slice_get recs a ≡ Some rec → k < count rec → home_from count i recs (rows_before count recs a + k) ≡ Some (at_row (i + a) k)
  unfolding home_from rows_before
  home_at [] i a k rec e lt = cc
  home_at (r ∷ recs) i zero k rec e lt =
      let same : r ≡ rec = cc in
      let n : 0 + k ≡ k = omega arith in
      let z : i + 0 ≡ i = omega arith in
      let t : nat_lt k (count r) ≡ true = lt-ltb k (count r) (rw same lt) in
      rw (n, t, z) refl
  home_at (r ∷ recs) i (suc a) k rec e lt =
      let m = rows_before count recs a in
      let t : nat_lt (count r + m + k) (count r) ≡ false = le-ltb (count r + m + k) (count r) (omega arith) in
      let n : count r + m + k - count r ≡ m + k = omega arith in
      let z : i + suc a ≡ suc i + a = omega arith in
      rw (t, n, z) (home_at recs (suc i) a k rec e lt)

-- ---- a row of a run

get_take : {A : Type 0} (n : ℕ) (xs : List A) (j : ℕ) (x : A) → slice_get (take n xs) j ≡ Some x → slice_get xs j ≡ Some x
get_take zero xs j x e = cc
get_take (suc n) [] j x e = cc
get_take (suc n) (y ∷ xs) zero x e = e
get_take (suc n) (y ∷ xs) (suc j) x e = get_take n xs j x e

get_drop : {A : Type 0} (d : ℕ) (xs : List A) (j : ℕ) (x : A) → slice_get (drop d xs) j ≡ Some x → slice_get xs (d + j) ≡ Some x
get_drop zero xs j x e = let z : 0 + j ≡ j = omega arith in ap (slice_get xs) z ∙ e
get_drop (suc d) [] j x e = cc
get_drop (suc d) (y ∷ xs) j x e = let z : suc d + j ≡ suc (d + j) = omega arith in ap (slice_get (y ∷ xs)) z ∙ get_drop d xs j x e

inside : {A : Type 0} (xs : List A) (k : ℕ) (x : A) → slice_get xs k ≡ Some x → k < length xs
inside [] k x e = cc
inside (y ∷ xs) zero x e = omega arith
inside (y ∷ xs) (suc k) x e = let l = inside xs k x e in omega arith

in_run : {A : Type 0} (t : A → Bool) (first end : ℕ) (rows : List A) (k : ℕ) → find_in_run t first end rows ≡ Some k → k < length rows
in_run t first end rows k e =
    let f = finds.found t (first - 1) (run_of first end rows) k e in
    inside rows k f.item (ap (slice_get rows) f.is ∙ get_drop (first - 1) rows f.place f.item (get_take (end - first) (drop (first - 1) rows) f.place f.item f.there))

-- ---- methods that are found

known_good : {A B : Type 0} (f : A → Known B) (x : Known A) (y : B) → known_then f x ≡ Good y → (a : A) × (x ≡ Good a) × (f a ≡ Good y)
known_good f (Good a) y e = (a, refl, e)
known_good f (Bad why) y e = absurd (cc)

module _ (recs : List AsmRec) where
  record IsThere (at : RowAt) : Type 0 where
    rec : AsmRec
    here : slice_get recs at.asm ≡ Some rec
    below : at.row < methods_in rec

  abbrev Has : MethodUse → Type 0
  Has u = is_some (row_of recs (item.Method u.method)) ≡ true

  has_row : (at : RowAt) → IsThere at → is_some (home_from methods_in 0 recs (rows_before methods_in recs at.asm + at.row)) ≡ true
  has_row at is = ap is_some (home_at methods_in recs 0 at.asm at.row is.rec is.here is.below)

  by_level : (x : Found) (u : MethodUse) → IsThere x.at → (b : Bool)
      → (if b then Bad (Outside 5) else Good (record { method = record { 0 = rows_before methods_in recs x.at.asm + x.at.row }; owner = x.owner; args = [] })) ≡ Good u → Has u
  unfolding row_of
  by_level x u is true e = absurd (cc)
  by_level x u is false e =
      let same : record { method = record { 0 = rows_before methods_in recs x.at.asm + x.at.row }; owner = x.owner; args = [] } ≡ u = cc in
      subst (λ (v : MethodUse). is_some (home_from methods_in 0 recs v.method.0) ≡ true) same (has_row x.at is)

  use_there : (o : Option Found) (u : MethodUse) → ((x : Found) → o ≡ Some x → IsThere x.at) → method_use recs o ≡ Good u → Has u
  use_there None u is e = absurd (cc)
  use_there (Some x) u is e = by_level x u (is x refl) (nat_lt most_levels (levels x.owner)) e

  -- ---- a definition's own token

  own_there : (a k : ℕ) (rec : AsmRec) → slice_get recs a ≡ Some rec → k < methods_in rec → (x : Found) → own_member recs a rec owns_method k ≡ Some x → IsThere x.at
  own_there a k rec here lt x e =
      let m = map_some (λ t. record { at = at_row a k; owner = own_type recs rec (at_row a t) }) (position_from (owns_method (suc k)) 0 rec.type_def) x e in
      subst (λ (y : Found). IsThere y.at) m.2 (record { rec = rec; here = here; below = lt })

  below_some : (count k n : ℕ) (b : Bool) → nat_lt k count ≡ b → (if b then Some k else None) ≡ Some n → n < count
  below_some count k n true t e = let same : k ≡ n = cc in let l = ltb-true k count t in omega arith
  below_some count k n false t e = absurd (cc)

  row_is_below : (count : ℕ) (o : Option ℕ) (n : ℕ) → row_below count o ≡ Some n → n < count
  row_is_below count None n e = absurd (cc)
  row_is_below count (Some k) n e = below_some count k n (nat_lt k count) refl e

  def_there : (a : ℕ) (rec : AsmRec) → slice_get recs a ≡ Some rec → (o : Option ℕ) → ((k : ℕ) → o ≡ Some k → k < methods_in rec) → (u : MethodUse) → def_use_at recs a rec o ≡ Good u → Has u
  unfolding method_def_use
  def_there a rec here None lt u e = absurd (cc)
  def_there a rec here (Some k) lt u e = use_there (own_member recs a rec owns_method k) u (own_there a k rec here (lt k refl)) e

  -- ---- a reference

  in_type : (name : List ℕ) (wanted : MethodType) (e : TypeExpr) (at : RowAt) → method_of_type recs name wanted e ≡ Some at → IsThere at
  unfolding method_of_type
  in_type name wanted e at h =
      let home = and_then_some (λ (x : RowAt). option_and_then (λ (rec : AsmRec). option_and_then (method_in recs (args_of e) name wanted x rec) (slice_get rec.type_def x.row)) (slice_get recs x.asm))
      (option_and_then (type_home recs) (owner_of recs e)) at h in
      let rec = and_then_some (λ (rec : AsmRec). option_and_then (method_in recs (args_of e) name wanted home.0 rec) (slice_get rec.type_def home.0.row)) (slice_get recs home.0.asm) at home.2 in
      let row = and_then_some (method_in recs (args_of e) name wanted home.0 rec.0) (slice_get rec.0.type_def home.0.row) at rec.2 in
      let k = map_some (at_row home.0.asm) (find_in_run (is_method recs home.0.asm rec.0 (args_of e) name wanted) row.0.method_list_first row.0.method_list_end rec.0.method_def) at row.2 in
      subst IsThere k.2
      (record { rec = rec.0; here = rec.1; below = in_run (is_method recs home.0.asm rec.0 (args_of e) name wanted) row.0.method_list_first row.0.method_list_end rec.0.method_def k.0 k.1 })

  search_next : (look : TypeExpr → Option RowAt) (e : TypeExpr) (x : Found) (later : Option Found) → ((at : RowAt) → look e ≡ Some at → IsThere at) → (later ≡ Some x → IsThere x.at)
      → (o : Option RowAt) → look e ≡ o → or_next (option_map (found_in e) o) later ≡ Some x → IsThere x.at
  search_next look e x later here more None s h = more h
  search_next look e x later here more (Some at) s h =
      let same : found_in e at ≡ x = cc in subst (λ (y : Found). IsThere y.at) same (here at s)

  in_search : (look : TypeExpr → Option RowAt) → ((e : TypeExpr) (at : RowAt) → look e ≡ Some at → IsThere at) → (es : List TypeExpr) (x : Found) → search look es ≡ Some x → IsThere x.at
  unfolding search
  in_search look is [] x h = absurd (cc)
  in_search look is (e ∷ es) x h = search_next look e x (search look es) (is e) (in_search look is es x) (look e) refl h

  found_there : (parent : TypeExpr) (name : List ℕ) (wanted : MethodType) (x : Found) → find_method recs parent name wanted ≡ Some x → IsThere x.at
  unfolding find_method
  found_there parent name wanted x h =
      let m = map_some (closed parent) (search (method_of_type recs name wanted) (with_bases recs (open_parent recs parent))) x h in
      subst (λ (y : Found). IsThere y.at) m.2 (in_search (method_of_type recs name wanted) (in_type name wanted) (with_bases recs (open_parent recs parent)) m.0 m.1)

  module _ (a : ℕ) (rec : AsmRec) where
    in_parent : (row : MemberRefRow) (parent : TypeExpr) (sig : MemberSig) (u : MethodUse) → method_in_parent recs a rec row parent sig ≡ Good u → Has u
    in_parent row parent (member.Method s) u h =
        let k = known_good (λ (wanted : MethodType). method_use recs (find_method recs parent row.name wanted)) (method_type (names_at recs a rec) s) u h in
        use_there (find_method recs parent row.name k.0) u (found_there parent row.name k.0) k.2
    in_parent row parent (member.Field s) u h = absurd (cc)

    by_kind : (row : MemberRefRow) (u : MethodUse) (b : Bool)
        → (if b then Bad Unresolved else known_then (λ (parent : TypeExpr). known_then (method_in_parent recs a rec row parent) row.signature) (parent_of recs a rec row)) ≡ Good u → Has u
    by_kind row u true h = absurd (cc)
    by_kind row u false h =
        let p = known_good (λ (parent : TypeExpr). known_then (method_in_parent recs a rec row parent) row.signature) (parent_of recs a rec row) u h in
        let s = known_good (method_in_parent recs a rec row p.0) row.signature u p.2 in
        in_parent row p.0 s.0 u s.2

    ref_there : (o : Option MemberRefRow) (u : MethodUse) → ref_use_at recs a rec o ≡ Good u → Has u
    unfolding method_ref_use
    ref_there None u h = absurd (cc)
    ref_there (Some row) u h = by_kind row u (is_field_sig row.signature) h

    by_table : slice_get recs a ≡ Some rec → (token : ℕ) (u : MethodUse) (b : Bool)
        → (if b then def_use_at recs a rec (row_below (methods_in rec) (index_in METHOD_DEF token)) else ref_use_at recs a rec (option_and_then (slice_get rec.member_ref) (index_in MEMBER_REF token))) ≡ Good u
        → Has u
    by_table here token u true h = def_there a rec here (row_below (methods_in rec) (index_in METHOD_DEF token)) (λ k e. row_is_below (methods_in rec) (index_in METHOD_DEF token) k e) u h
    by_table here token u false h = ref_there (option_and_then (slice_get rec.member_ref) (index_in MEMBER_REF token)) u h

    pub method_there : slice_get recs a ≡ Some rec → (token : ℕ) (u : MethodUse) → generic_method recs a rec token ≡ Good u → Has u
    unfolding generic_method
    method_there here token u h = by_table here token u (table_of token == METHOD_DEF) h
