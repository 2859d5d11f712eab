-- A method that a token names is a row.
use Rattle.std.proofs.Common.{◌≡◌, ℕ, zero, suc, ◌+◌, ◌-◌, ◌<◌, Bool, true, false, nat_lt, List, [], ◌∷◌, length, take, drop, Option, Some, None, refl, ap, subst, ◌∙◌, arith}
use Rattle.std.specs.Prelude.{slice_get, ◌==◌, if◌then◌else◌}
use Rattle.std.specs.List.{position_from}
use Rattle.std.specs.Option.{option_map, option_and_then}
use Rattle.std.proofs.lemmas.Bool.{ltb-true}
use Rattle.il_base.specs.declared.ids.MethodId.{MethodId}
use Rattle.il_base.specs.declared.table.TheConstants.{METHOD_DEF, MEMBER_REF}
use Rattle.il_base.specs.declared.world_model.known.Known.{Known}
use Rattle.il_base.specs.declared.world_model.known.Known.TheVariants.{Good, Bad}
use Rattle.il_base.specs.declared.world_model.expr.TypeExpr.{TypeExpr}
use Rattle.il_base.specs.declared.world_model.expr.MethodUse.{MethodUse}
use Rattle.il_base.specs.declared.world_model.members.MemberRefRow.{MemberRefRow}
use Rattle.il_base.specs.declared.world_model.record.AsmRec.{AsmRec}
use Rattle.il_base.specs.world_model.Tokens.{table_of, index_in}
use Rattle.il_base.specs.world_model.Exprs.{levels}
use Rattle.il_base.specs.world_model.Worlds.{rows_before, row_below, known_then}
use Rattle.rules.specs.declared.link_rules.row_at.RowAt.{RowAt}
use Rattle.rules.specs.declared.link_rules.member_type.MethodType.{MethodType}
use Rattle.rules.specs.link_rules.Types.{at_row}
use Rattle.rules.specs.link_rules.Signatures.{names_at, method_type}
use Rattle.rules.specs.link_rules.Members.{Found, args_of, run_of, is_method, method_in, method_of_type, found_in, or_next, search, closed, open_parent, with_bases, find_method, most_levels, methods_in, method_use, owns_method, own_member, own_type, method_def_use, parent_of, method_in_parent, is_field_sig, method_ref_use, ref_use_at, def_use_at, generic_method}
use Rattle.il_base.specs.declared.world_model.expr.MemberSig.{MemberSig}
use Rattle.il_base.specs.declared.world_model.expr.MemberSig.TheVariants as member
use Rattle.il_base.specs.declared.world_model.known.BadKind.{BadKind}
use Rattle.il_base.specs.declared.world_model.known.BadKind.TheVariants.{Unresolved, Outside}
use Rattle.rules.specs.type_rules.Slots.{method_home}
use Rattle.base_laws.proofs.lemmas.type_laws.Places.{place_within}
use Rattle.base_laws.proofs.lemmas.walk_laws.Finds.{defined}
use Rattle.base_laws.proofs.lemmas.walk_laws.Finds as finds
use Rattle.run_laws.proofs.lemmas.marked_laws.Places.{number_home}

-- a row of a run is a row of the table
get_take : {A : Type 0} (n : ℕ) (xs : List A) (j : ℕ) (x : A) → slice_get (take n xs) j ≡ Some x → slice_get xs j ≡ Some x
get_take zero xs j x e = cc
get_take (suc n) [] j x e = cc
get_take (suc n) (y ∷ xs) zero x e = e
get_take (suc n) (y ∷ xs) (suc j) x e = get_take n xs j x e

get_drop : {A : Type 0} (d : ℕ) (xs : List A) (j : ℕ) (x : A) → slice_get (drop d xs) j ≡ Some x → slice_get xs (d + j) ≡ Some x
get_drop zero xs j x e = let z : 0 + j ≡ j = omega arith in ap (slice_get xs) z ∙ e
get_drop (suc d) [] j x e = cc
get_drop (suc d) (y ∷ xs) j x e = let z : suc d + j ≡ suc (d + j) = omega arith in ap (slice_get (y ∷ xs)) z ∙ get_drop d xs j x e

run_below : {A : Type 0} (t : A → Bool) (first end : ℕ) (rows : List A) (k : ℕ) → position_from t (first - 1) (run_of first end rows) ≡ Some k → k < length rows
run_below t first end rows k e =
    let f = finds.found t (first - 1) (run_of first end rows) k e in
    let g = get_drop (first - 1) rows f.place f.item (get_take (end - first) (drop (first - 1) rows) f.place f.item f.there) in
    let lt = place_within rows (first - 1 + f.place) f.item g in
    omega (arith, f.is, lt)

module _ (recs : List AsmRec) where
  -- a row of a method, by its place
  pub record MethodRow (at : RowAt) : Type 0 where
    pub rec : AsmRec
    pub there : slice_get recs at.asm ≡ Some rec
    pub below : at.row < length rec.method_def

  pub record MethodThere (m : MethodId) : Type 0 where
    pub at : RowAt
    pub is_row : MethodRow at
    pub home : method_home recs m ≡ Some at

  of_row : (at : RowAt) → MethodRow at → MethodThere (record { 0 = rows_before methods_in recs at.asm + at.row })
  of_row at r =
      let z : 0 + at.asm ≡ at.asm = omega arith in
      record { at = at; is_row = r; home = number_home methods_in recs 0 at.asm at.row r.rec r.there r.below ∙ ap (λ (a : ℕ). Some (at_row a at.row)) z }

  use_levels : (x : Found) (u : MethodUse) (why : BadKind) (b : Bool) → MethodRow x.at
      → (if b then Bad why else Good (record { method = record { 0 = rows_before methods_in recs x.at.asm + x.at.row }; owner = x.owner; args = [] })) ≡ Good u → MethodThere u.method
  use_levels x u why true r h = cc
  use_levels x u why false r h =
      let made : MethodUse = record { method = record { 0 = rows_before methods_in recs x.at.asm + x.at.row }; owner = x.owner; args = [] } in
      let same : made ≡ u = cc in
      subst (λ (v : MethodUse). MethodThere v.method) same (of_row x.at r)

  use_there : (o : Option Found) (u : MethodUse) → ((x : Found) → o ≡ Some x → MethodRow x.at) → method_use recs o ≡ Good u → MethodThere u.method
  use_there None u r h = cc
  use_there (Some x) u r h = use_levels x u (Outside 5) (nat_lt most_levels (levels x.owner)) (r x refl) h

  -- ---- a row's own token

  own_by : (a k : ℕ) (rec : AsmRec) (x : Found) (o : Option ℕ) → slice_get recs a ≡ Some rec → k < length rec.method_def
      → option_map (λ t. record { at = at_row a k; owner = own_type recs rec (at_row a t) }) o ≡ Some x → MethodRow x.at
  own_by a k rec x None s lt h = cc
  own_by a k rec x (Some t) s lt h =
      let made : Found = record { at = at_row a k; owner = own_type recs rec (at_row a t) } in
      let same : made ≡ x = cc in
      subst (λ (y : Found). MethodRow y.at) same (record { rec = rec; there = s; below = lt })

  def_there : (a k : ℕ) (rec : AsmRec) (u : MethodUse) → slice_get recs a ≡ Some rec → k < length rec.method_def → method_def_use recs a rec k ≡ Good u → MethodThere u.method
  unfolding method_def_use
  def_there a k rec u s lt h = use_there (own_member recs a rec owns_method k) u (λ x e. own_by a k rec x (position_from (owns_method (suc k)) 0 rec.type_def) s lt e) h

  if_below : (a k : ℕ) (rec : AsmRec) (u : MethodUse) (b : Bool) → nat_lt k (length rec.method_def) ≡ b → slice_get recs a ≡ Some rec → def_use_at recs a rec (if b then Some k else None) ≡ Good u → MethodThere u.method
  if_below a k rec u true t s h = def_there a k rec u s (ltb-true k (length rec.method_def) t) h
  if_below a k rec u false t s h = cc

  def_at : (a : ℕ) (rec : AsmRec) (u : MethodUse) (o : Option ℕ) → slice_get recs a ≡ Some rec → def_use_at recs a rec (row_below (methods_in rec) o) ≡ Good u → MethodThere u.method
  def_at a rec u None s h = cc
  def_at a rec u (Some k) s h = if_below a k rec u (nat_lt k (length rec.method_def)) refl s h

  -- ---- a reference

  placed : (home : RowAt) (rec : AsmRec) (at : RowAt) (o : Option ℕ) → slice_get recs home.asm ≡ Some rec → ((k : ℕ) → o ≡ Some k → k < length rec.method_def) → option_map (at_row home.asm) o ≡ Some at → MethodRow at
  placed home rec at None s lt h = cc
  placed home rec at (Some k) s lt h = let same : at_row home.asm k ≡ at = cc in subst MethodRow same (record { rec = rec; there = s; below = lt k refl })

  of_type_there : (name : List ℕ) (wanted : MethodType) (e : TypeExpr) (at : RowAt) → method_of_type recs name wanted e ≡ Some at → MethodRow at
  unfolding method_of_type
  of_type_there name wanted e at h =
      let d = defined recs (method_in recs (args_of e) name wanted) e at h in
      placed d.home d.rec at (position_from (is_method recs d.home.asm d.rec (args_of e) name wanted) (d.row.method_list_first - 1) (run_of d.row.method_list_first d.row.method_list_end d.rec.method_def)) d.there
      (λ k e. run_below (is_method recs d.home.asm d.rec _ name wanted) d.row.method_list_first d.row.method_list_end d.rec.method_def k e) d.found

  found_by : (e : TypeExpr) (x : Found) (o : Option RowAt) (later : Option Found) → ((at : RowAt) → o ≡ Some at → MethodRow at) → (later ≡ Some x → MethodRow x.at) → or_next (option_map (found_in e) o) later ≡ Some x → MethodRow x.at
  found_by e x None later r more h = more h
  found_by e x (Some at) later r more h = let same : found_in e at ≡ x = cc in subst (λ (y : Found). MethodRow y.at) same (r at refl)

  search_there : (name : List ℕ) (wanted : MethodType) (es : List TypeExpr) (x : Found) → search (method_of_type recs name wanted) es ≡ Some x → MethodRow x.at
  unfolding search
  search_there name wanted [] x h = cc
  search_there name wanted (e ∷ es) x h =
      found_by e x (method_of_type recs name wanted e) (search (method_of_type recs name wanted) es) (λ at is. of_type_there name wanted e at is) (search_there name wanted es x) h

  closed_by : (parent : TypeExpr) (x : Found) (o : Option Found) → ((y : Found) → o ≡ Some y → MethodRow y.at) → option_map (closed parent) o ≡ Some x → MethodRow x.at
  closed_by parent x None r h = cc
  closed_by parent x (Some y) r h = let same : closed parent y ≡ x = cc in subst (λ (z : Found). MethodRow z.at) same (r y refl)

  find_there : (parent : TypeExpr) (name : List ℕ) (wanted : MethodType) (x : Found) → find_method recs parent name wanted ≡ Some x → MethodRow x.at
  unfolding find_method
  find_there parent name wanted x h =
      closed_by parent x (search (method_of_type recs name wanted) (with_bases recs (open_parent recs parent))) (λ y e. search_there name wanted (with_bases recs (open_parent recs parent)) y e) h

  wanted_by : (parent : TypeExpr) (name : List ℕ) (u : MethodUse) (t : Known MethodType) → known_then (λ (wanted : MethodType). method_use recs (find_method recs parent name wanted)) t ≡ Good u → MethodThere u.method
  wanted_by parent name u (Bad why) h = cc
  wanted_by parent name u (Good wanted) h = use_there (find_method recs parent name wanted) u (λ x e. find_there parent name wanted x e) h

  in_parent : (a : ℕ) (rec : AsmRec) (row : MemberRefRow) (parent : TypeExpr) (u : MethodUse) (s : MemberSig) → method_in_parent recs a rec row parent s ≡ Good u → MethodThere u.method
  in_parent a rec row parent u (member.Method s) h = wanted_by parent row.name u (method_type (names_at recs a rec) s) h
  in_parent a rec row parent u (member.Field s) h = cc

  sig_by : (a : ℕ) (rec : AsmRec) (row : MemberRefRow) (parent : TypeExpr) (u : MethodUse) (s : Known MemberSig) → known_then (method_in_parent recs a rec row parent) s ≡ Good u → MethodThere u.method
  sig_by a rec row parent u (Bad why) h = cc
  sig_by a rec row parent u (Good s) h = in_parent a rec row parent u s h

  parent_by : (a : ℕ) (rec : AsmRec) (row : MemberRefRow) (u : MethodUse) (p : Known TypeExpr) → known_then (λ (parent : TypeExpr). known_then (method_in_parent recs a rec row parent) row.signature) p ≡ Good u → MethodThere u.method
  parent_by a rec row u (Bad why) h = cc
  parent_by a rec row u (Good parent) h = sig_by a rec row parent u row.signature h

  ref_by : (a : ℕ) (rec : AsmRec) (row : MemberRefRow) (u : MethodUse) (b : Bool) (why : BadKind)
      → (if b then Bad why else known_then (λ (parent : TypeExpr). known_then (method_in_parent recs a rec row parent) row.signature) (parent_of recs a rec row)) ≡ Good u → MethodThere u.method
  ref_by a rec row u true why h = cc
  ref_by a rec row u false why h = parent_by a rec row u (parent_of recs a rec row) h

  ref_row : (a : ℕ) (rec : AsmRec) (row : MemberRefRow) (u : MethodUse) → method_ref_use recs a rec row ≡ Good u → MethodThere u.method
  unfolding method_ref_use
  ref_row a rec row u h = ref_by a rec row u (is_field_sig row.signature) Unresolved h

  ref_at : (a : ℕ) (rec : AsmRec) (u : MethodUse) (o : Option MemberRefRow) → ref_use_at recs a rec o ≡ Good u → MethodThere u.method
  ref_at a rec u None h = cc
  ref_at a rec u (Some row) h = ref_row a rec row u h

  -- ---- a MethodDef or MemberRef token

  by_table : (a : ℕ) (rec : AsmRec) (token : ℕ) (u : MethodUse) (b : Bool) → slice_get recs a ≡ Some rec
      → (if b then def_use_at recs a rec (row_below (methods_in rec) (index_in METHOD_DEF token)) else ref_use_at recs a rec (option_and_then (slice_get rec.member_ref) (index_in MEMBER_REF token))) ≡ Good u → MethodThere u.method
  by_table a rec token u true s h = def_at a rec u (index_in METHOD_DEF token) s h
  by_table a rec token u false s h = ref_at a rec u (option_and_then (slice_get rec.member_ref) (index_in MEMBER_REF token)) h

  pub generic_there : (a : ℕ) (rec : AsmRec) (token : ℕ) (u : MethodUse) → slice_get recs a ≡ Some rec → generic_method recs a rec token ≡ Good u → MethodThere u.method
  unfolding generic_method
  generic_there a rec token u s h = by_table a rec token u (table_of token == METHOD_DEF) s h
