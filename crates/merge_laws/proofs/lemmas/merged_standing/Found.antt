-- Members that references name are rows with a good signature.
use Rattle.std.proofs.Common.{◌≡◌, ℕ, zero, suc, ◌+◌, ◌-◌, List, [], ◌∷◌, take, drop, Bool, true, false, nat_lt, not, Option, Some, None, refl, ap, subst, ◌∙◌, arith}
use Rattle.std.specs.Prelude.{slice_get, ⊤, ◌&&◌, ◌==◌, if◌then◌else◌}
use Rattle.std.specs.Option.{option_and_then, option_map}
use Rattle.il_base.specs.declared.ids.MethodId.{MethodId}
use Rattle.il_base.specs.declared.ids.FieldId.{FieldId}
use Rattle.il_base.specs.declared.sig.Sig.{Sig}
use Rattle.il_base.specs.declared.sig.MethodSig.{MethodSig}
use Rattle.il_base.specs.declared.table.TheConstants as table
use Rattle.il_base.specs.declared.world_model.known.Known.{Known}
use Rattle.il_base.specs.declared.world_model.known.Known.TheVariants.{Good, Bad}
use Rattle.il_base.specs.declared.world_model.known.BadKind.TheVariants.{Unresolved, Outside}
use Rattle.il_base.specs.declared.world_model.expr.TypeExpr.{TypeExpr}
use Rattle.il_base.specs.declared.world_model.expr.MethodUse.{MethodUse}
use Rattle.il_base.specs.declared.world_model.expr.FieldUse.{FieldUse}
use Rattle.il_base.specs.declared.world_model.expr.MemberSig.{MemberSig}
use Rattle.il_base.specs.declared.world_model.expr.MemberSig.TheVariants as member
use Rattle.il_base.specs.declared.world_model.types.TypeDefRow.{TypeDefRow}
use Rattle.il_base.specs.declared.world_model.members.FieldRow.{FieldRow}
use Rattle.il_base.specs.declared.world_model.members.MethodDefRow.{MethodDefRow}
use Rattle.il_base.specs.declared.world_model.members.MemberRefRow.{MemberRefRow}
use Rattle.il_base.specs.declared.world_model.record.AsmRec.{AsmRec}
use Rattle.il_base.specs.world_model.Tokens.{table_of, index_in}
use Rattle.il_base.specs.world_model.Core.{same_name}
use Rattle.il_base.specs.world_model.Exprs.{levels}
use Rattle.il_base.specs.world_model.Worlds.{known_then, rows_before, row_below, sig_expr}
use Rattle.rules.specs.declared.link_rules.row_at.RowAt.{RowAt}
use Rattle.rules.specs.declared.link_rules.member_type.MethodType.{MethodType}
use Rattle.rules.specs.link_rules.Types.{at_row}
use Rattle.rules.specs.link_rules.Signatures.{names_at, method_type}
use Rattle.rules.specs.link_rules.Members.{args_of, run_of, find_in_run, is_compiler_controlled, is_method_type, is_field_type, Found, found_in, or_next, search, closed, with_bases, open_parent, is_method, is_field, method_of_type, field_of_type, find_method, find_field, methods_in, fields_in, most_levels, method_use, field_use, is_field_sig, is_method_sig, parent_of, method_in_parent, field_in_parent, method_ref_use, field_ref_use, ref_use_at, def_use_at, generic_method}
use Rattle.base_laws.proofs.lemmas.type_laws.Places.{place_within}
use Rattle.base_laws.proofs.lemmas.walk_laws.Finds as finds
use Rattle.base_laws.proofs.lemmas.known_laws.Lists.{map_some}
use Rattle.rules.specs.mark_rules.Naming.{spec_use_at, method_named, field_def_at, field_ref_at, field_named}
use Rattle.rules.specs.merge_rules.Refs.{method_at, field_at}
use Rattle.rules.specs.merge_rules.Keys.{MethodKey, own_method, found_method, absent_method, FieldKey, own_field, found_field, good, is_plain_owner, method_key_of, field_key_of, method_key, field_key}
use Rattle.merge_laws.proofs.lemmas.merged_owners.Homes.{own_home}

-- ---- rows with a good signature

pub record MethodRow (recs : List AsmRec) (at : RowAt) : Type 0 where
  pub rec : AsmRec
  pub there : slice_get recs at.asm ≡ Some rec
  pub row : MethodDefRow
  pub is : slice_get rec.method_def at.row ≡ Some row
  pub signature : MethodSig
  pub has : row.signature ≡ Good signature

pub record FieldRowAt (recs : List AsmRec) (at : RowAt) : Type 0 where
  pub rec : AsmRec
  pub there : slice_get recs at.asm ≡ Some rec
  pub row : FieldRow
  pub is : slice_get rec.field at.row ≡ Some row
  pub signature : Sig
  pub has : row.signature ≡ Good signature

pub record MethodThere (recs : List AsmRec) (m : MethodId) : Type 0 where
  pub at : RowAt
  pub home : method_at recs m ≡ Some at
  pub row : MethodRow recs at

pub record FieldThere (recs : List AsmRec) (f : FieldId) : Type 0 where
  pub at : RowAt
  pub home : field_at recs f ≡ Some at
  pub row : FieldRowAt recs at

-- ---- a row of a run that passes a test

module _ {A : Type 0} where
  get_take : (n : ℕ) (xs : List A) (j : ℕ) (x : A) → slice_get (take n xs) j ≡ Some x → slice_get xs j ≡ Some x
  get_take zero xs j x e = cc
  get_take (suc n) [] j x e = cc
  get_take (suc n) (y ∷ xs) zero x e = e
  get_take (suc n) (y ∷ xs) (suc j) x e = get_take n xs j x e

  get_drop : (d : ℕ) (xs : List A) (j : ℕ) (x : A) → slice_get (drop d xs) j ≡ Some x → slice_get xs (d + j) ≡ Some x
  get_drop zero xs j x e = let z : 0 + j ≡ j = omega arith in ap (slice_get xs) z ∙ e
  get_drop (suc d) [] j x e = cc
  get_drop (suc d) (y ∷ xs) j x e = let z : suc d + j ≡ suc (d + j) = omega arith in ap (slice_get (y ∷ xs)) z ∙ get_drop d xs j x e

  pub run_has : (t : A → Bool) (first end : ℕ) (rows : List A) (k : ℕ) → find_in_run t first end rows ≡ Some k → (x : A) × (slice_get rows k ≡ Some x) × (t x ≡ true)
  run_has t first end rows k e =
      let f = finds.found t (first - 1) (run_of first end rows) k e in
      let is = f.is in
      (f.item, ap (slice_get rows) is ∙ get_drop (first - 1) rows f.place f.item (get_take (end - first) (drop (first - 1) rows) f.place f.item f.there), f.passes)

last_true : (b c : Bool) → (b && c) ≡ true → c ≡ true
last_true true c h = h
last_true false c h = absurd (cc)

known_good : {A B : Type 0} (f : A → Known B) (x : Known A) (y : B) → known_then f x ≡ Good y → (a : A) × (x ≡ Good a) × (f a ≡ Good y)
known_good f (Good a) y e = (a, refl, e)
known_good f (Bad why) y e = absurd (cc)

method_good : (targs : List TypeExpr) (wanted : MethodType) (f : MethodSig → Known MethodType) (s : Known MethodSig) → is_method_type targs wanted (known_then f s) ≡ true → (x : MethodSig) × (s ≡ Good x)
method_good targs wanted f (Good x) h = (x, refl)
method_good targs wanted f (Bad why) h = absurd (cc)

field_good : (targs : List TypeExpr) (wanted : TypeExpr) (f : Sig → Known TypeExpr) (s : Known Sig) → is_field_type targs wanted (known_then f s) ≡ true → (x : Sig) × (s ≡ Good x)
field_good targs wanted f (Good x) h = (x, refl)
field_good targs wanted f (Bad why) h = absurd (cc)

module _ (recs : List AsmRec) where
  -- ---- the search from a parent

  module _ (P : RowAt → Type 0) (look : TypeExpr → Option RowAt) (looks : (e : TypeExpr) (at : RowAt) → look e ≡ Some at → P at) where
    next_has : (e : TypeExpr) (x : Found) (later : Option Found) (o : Option RowAt) → look e ≡ o → (later ≡ Some x → P x.at) → or_next (option_map (found_in e) o) later ≡ Some x → P x.at
    next_has e x later None f more h = more h
    next_has e x later (Some at) f more h = let same : found_in e at ≡ x = cc in subst (λ (y : Found). P y.at) same (looks e at f)

    search_has : (es : List TypeExpr) (x : Found) → search look es ≡ Some x → P x.at
    unfolding search
    search_has [] x h = absurd (cc)
    search_has (e ∷ es) x h = next_has e x (search look es) (look e) refl (search_has es x) h

    closed_has : (parent : TypeExpr) (es : List TypeExpr) (x : Found) → option_map (closed parent) (search look es) ≡ Some x → P x.at
    closed_has parent es x h =
        let m = map_some (closed parent) (search look es) x h in
        subst (λ (y : Found). P y.at) m.2 (search_has es m.0 m.1)

  -- ---- methods

  method_looked : (name : List ℕ) (wanted : MethodType) (e : TypeExpr) (at : RowAt) → method_of_type recs name wanted e ≡ Some at → MethodRow recs at
  unfolding method_of_type
  method_looked name wanted e at h =
      let look : RowAt → AsmRec → TypeDefRow → Option RowAt =
      λ home rec t. option_map (at_row home.asm) (find_in_run (is_method recs home.asm rec (args_of e) name wanted) t.method_list_first t.method_list_end rec.method_def) in
      let d = finds.defined recs look e at h in
      let k = map_some (at_row d.home.asm) (find_in_run (is_method recs d.home.asm d.rec (args_of e) name wanted) d.row.method_list_first d.row.method_list_end d.rec.method_def) at d.found in
      let r = run_has (is_method recs d.home.asm d.rec (args_of e) name wanted) d.row.method_list_first d.row.method_list_end d.rec.method_def k.0 k.1 in
      let g =
      method_good (args_of e) wanted (method_type (names_at recs d.home.asm d.rec)) r.0.signature
      (last_true (same_name r.0.name name && not (is_compiler_controlled r.0.flags)) (is_method_type (args_of e) wanted (known_then (method_type (names_at recs d.home.asm d.rec)) r.0.signature)) r.2) in
      subst (MethodRow recs) k.2 (record { rec = d.rec; there = d.there; row = r.0; is = r.1; signature = g.0; has = g.1 })

  method_row_there : (at : RowAt) (m : MethodId) → MethodRow recs at → record { 0 = rows_before methods_in recs at.asm + at.row } ≡ m → MethodThere recs m
  method_row_there at m r e =
      subst (MethodThere recs) e
      (record { at = at; home = own_home methods_in recs at r.rec r.there (place_within r.rec.method_def at.row r.row r.is); row = r })

  method_by : (x : Found) (u : MethodUse) → MethodRow recs x.at → (b : Bool)
      → (if b then Bad (Outside 5) else Good (record { method = record { 0 = rows_before methods_in recs x.at.asm + x.at.row }; owner = x.owner; args = [] })) ≡ Good u → MethodThere recs u.method
  method_by x u h true e = absurd (cc)
  method_by x u h false e =
      let same : record { method = record { 0 = rows_before methods_in recs x.at.asm + x.at.row }; owner = x.owner; args = [] } ≡ u = cc in
      method_row_there x.at u.method h (ap (λ (v : MethodUse). v.method) same)

  method_used : (o : Option Found) (u : MethodUse) → ((x : Found) → o ≡ Some x → MethodRow recs x.at) → method_use recs o ≡ Good u → MethodThere recs u.method
  method_used None u h e = absurd (cc)
  method_used (Some x) u h e = method_by x u (h x refl) (nat_lt most_levels (levels x.owner)) e

  method_found : (parent : TypeExpr) (name : List ℕ) (wanted : MethodType) (x : Found) → find_method recs parent name wanted ≡ Some x → MethodRow recs x.at
  unfolding find_method
  method_found parent name wanted x h = closed_has (MethodRow recs) (method_of_type recs name wanted) (method_looked name wanted) parent (with_bases recs (open_parent recs parent)) x h

  module _ (a : ℕ) (rec : AsmRec) where
    method_in : (row : MemberRefRow) (parent : TypeExpr) (s : MemberSig) (u : MethodUse) → method_in_parent recs a rec row parent s ≡ Good u → MethodThere recs u.method
    method_in row parent (member.Method s) u h =
        let k = known_good (λ (wanted : MethodType). method_use recs (find_method recs parent row.name wanted)) (method_type (names_at recs a rec) s) u h in
        method_used (find_method recs parent row.name k.0) u (method_found parent row.name k.0) k.2
    method_in row parent (member.Field s) u h = absurd (cc)

    method_kind : (row : MemberRefRow) (u : MethodUse) (b : Bool)
        → (if b then Bad Unresolved else known_then (λ (parent : TypeExpr). known_then (method_in_parent recs a rec row parent) row.signature) (parent_of recs a rec row)) ≡ Good u → MethodThere recs u.method
    method_kind row u true h = absurd (cc)
    method_kind row u false h =
        let p = known_good (λ (parent : TypeExpr). known_then (method_in_parent recs a rec row parent) row.signature) (parent_of recs a rec row) u h in
        let s = known_good (method_in_parent recs a rec row p.0) row.signature u p.2 in
        method_in row p.0 s.0 u s.2

    ref_method : (o : Option MemberRefRow) (u : MethodUse) → ref_use_at recs a rec o ≡ Good u → MethodThere recs u.method
    unfolding method_ref_use
    ref_method None u h = absurd (cc)
    ref_method (Some row) u h = method_kind row u (is_field_sig row.signature) h

    -- a token that is neither a MethodSpec nor a MethodDef
    named_by : (token : ℕ) (u : MethodUse) (b c : Bool)
        → (if b then spec_use_at recs a rec (option_and_then (slice_get rec.method_spec) (index_in table.METHOD_SPEC token))
        else if c then def_use_at recs a rec (row_below (methods_in rec) (index_in table.METHOD_DEF token))
        else ref_use_at recs a rec (option_and_then (slice_get rec.member_ref) (index_in table.MEMBER_REF token))) ≡ Good u
        → b ≡ false → c ≡ false → MethodThere recs u.method
    named_by token u true c h e f = absurd (cc)
    named_by token u false true h e f = absurd (cc)
    named_by token u false false h e f = ref_method (option_and_then (slice_get rec.member_ref) (index_in table.MEMBER_REF token)) u h

    method_named_there : (token : ℕ) (u : MethodUse) → method_named recs a rec token ≡ Good u → (table_of token == table.METHOD_SPEC) ≡ false → (table_of token == table.METHOD_DEF) ≡ false → MethodThere recs u.method
    unfolding method_named generic_method
    method_named_there token u h = named_by token u (table_of token == table.METHOD_SPEC) (table_of token == table.METHOD_DEF) h

  -- ---- fields

  field_looked : (name : List ℕ) (wanted : TypeExpr) (e : TypeExpr) (at : RowAt) → field_of_type recs name wanted e ≡ Some at → FieldRowAt recs at
  unfolding field_of_type
  field_looked name wanted e at h =
      let look : RowAt → AsmRec → TypeDefRow → Option RowAt =
      λ home rec t. option_map (at_row home.asm) (find_in_run (is_field recs home.asm rec (args_of e) name wanted) t.field_list_first t.field_list_end rec.field) in
      let d = finds.defined recs look e at h in
      let k = map_some (at_row d.home.asm) (find_in_run (is_field recs d.home.asm d.rec (args_of e) name wanted) d.row.field_list_first d.row.field_list_end d.rec.field) at d.found in
      let r = run_has (is_field recs d.home.asm d.rec (args_of e) name wanted) d.row.field_list_first d.row.field_list_end d.rec.field k.0 k.1 in
      let g =
      field_good (args_of e) wanted (sig_expr (names_at recs d.home.asm d.rec)) r.0.signature
      (last_true (same_name r.0.name name && not (is_compiler_controlled r.0.flags)) (is_field_type (args_of e) wanted (known_then (sig_expr (names_at recs d.home.asm d.rec)) r.0.signature)) r.2) in
      subst (FieldRowAt recs) k.2 (record { rec = d.rec; there = d.there; row = r.0; is = r.1; signature = g.0; has = g.1 })

  field_row_there : (at : RowAt) (f : FieldId) → FieldRowAt recs at → record { 0 = rows_before fields_in recs at.asm + at.row } ≡ f → FieldThere recs f
  field_row_there at f r e =
      subst (FieldThere recs) e
      (record { at = at; home = own_home fields_in recs at r.rec r.there (place_within r.rec.field at.row r.row r.is); row = r })

  field_by : (x : Found) (u : FieldUse) → FieldRowAt recs x.at → (b : Bool)
      → (if b then Bad (Outside 5) else Good (record { field = record { 0 = rows_before fields_in recs x.at.asm + x.at.row }; owner = x.owner })) ≡ Good u → FieldThere recs u.field
  field_by x u h true e = absurd (cc)
  field_by x u h false e =
      let same : record { field = record { 0 = rows_before fields_in recs x.at.asm + x.at.row }; owner = x.owner } ≡ u = cc in
      field_row_there x.at u.field h (ap (λ (v : FieldUse). v.field) same)

  field_used : (o : Option Found) (u : FieldUse) → ((x : Found) → o ≡ Some x → FieldRowAt recs x.at) → field_use recs o ≡ Good u → FieldThere recs u.field
  field_used None u h e = absurd (cc)
  field_used (Some x) u h e = field_by x u (h x refl) (nat_lt most_levels (levels x.owner)) e

  field_found : (parent : TypeExpr) (name : List ℕ) (wanted : TypeExpr) (x : Found) → find_field recs parent name wanted ≡ Some x → FieldRowAt recs x.at
  unfolding find_field
  field_found parent name wanted x h = closed_has (FieldRowAt recs) (field_of_type recs name wanted) (field_looked name wanted) parent (with_bases recs (open_parent recs parent)) x h

  module _ (a : ℕ) (rec : AsmRec) where
    field_in : (row : MemberRefRow) (parent : TypeExpr) (s : MemberSig) (u : FieldUse) → field_in_parent recs a rec row parent s ≡ Good u → FieldThere recs u.field
    field_in row parent (member.Field s) u h =
        let k = known_good (λ (wanted : TypeExpr). field_use recs (find_field recs parent row.name wanted)) (sig_expr (names_at recs a rec) s) u h in
        field_used (find_field recs parent row.name k.0) u (field_found parent row.name k.0) k.2
    field_in row parent (member.Method s) u h = absurd (cc)

    field_kind : (row : MemberRefRow) (u : FieldUse) (b : Bool)
        → (if b then Bad Unresolved else known_then (λ (parent : TypeExpr). known_then (field_in_parent recs a rec row parent) row.signature) (parent_of recs a rec row)) ≡ Good u → FieldThere recs u.field
    field_kind row u true h = absurd (cc)
    field_kind row u false h =
        let p = known_good (λ (parent : TypeExpr). known_then (field_in_parent recs a rec row parent) row.signature) (parent_of recs a rec row) u h in
        let s = known_good (field_in_parent recs a rec row p.0) row.signature u p.2 in
        field_in row p.0 s.0 u s.2

    ref_field : (o : Option MemberRefRow) (u : FieldUse) → field_ref_at recs a rec o ≡ Good u → FieldThere recs u.field
    unfolding field_ref_use
    ref_field None u h = absurd (cc)
    ref_field (Some row) u h = field_kind row u (is_method_sig row.signature) h

    field_named_by : (token : ℕ) (u : FieldUse) (b : Bool)
        → (if b then field_def_at recs a rec (row_below (fields_in rec) (index_in table.FIELD token)) else field_ref_at recs a rec (option_and_then (slice_get rec.member_ref) (index_in table.MEMBER_REF token))) ≡ Good u
        → b ≡ false → FieldThere recs u.field
    field_named_by token u true h e = absurd (cc)
    field_named_by token u false h e = ref_field (option_and_then (slice_get rec.member_ref) (index_in table.MEMBER_REF token)) u h

    field_named_there : (token : ℕ) (u : FieldUse) → field_named recs a rec token ≡ Good u → (table_of token == table.FIELD) ≡ false → FieldThere recs u.field
    unfolding field_named
    field_named_there token u h = field_named_by token u (table_of token == table.FIELD) h

  -- ---- keys

  abbrev pub MethodStands : MethodKey → Type 0
  MethodStands (own_method m) = ⊤
  MethodStands (found_method m e) = MethodThere recs m
  MethodStands (absent_method p name s) = ⊤

  abbrev pub FieldStands : FieldKey → Type 0
  FieldStands (own_field f) = ⊤
  FieldStands (found_field f e) = FieldThere recs f

  good_is : {A : Type 0} (x : Known A) (y : A) → good x ≡ Some y → x ≡ Good y
  good_is (Good z) y e = let same : z ≡ y = cc in ap Good same
  good_is (Bad why) y e = absurd (cc)

  method_if : (b : Bool) (u : MethodUse) → MethodThere recs u.method → MethodStands (if b then own_method u.method else found_method u.method u.owner)
  method_if true u h = tt
  method_if false u h = h

  method_key_by : (own : Bool) (u : MethodUse) → (own ≡ false → MethodThere recs u.method) → MethodStands (method_key_of recs own u)
  method_key_by true u h = tt
  method_key_by false u h = method_if (is_plain_owner recs u.owner) u (h refl)

  field_if : (b : Bool) (u : FieldUse) → FieldThere recs u.field → FieldStands (if b then own_field u.field else found_field u.field u.owner)
  field_if true u h = tt
  field_if false u h = h

  field_key_by : (own : Bool) (u : FieldUse) → (own ≡ false → FieldThere recs u.field) → FieldStands (field_key_of recs own u)
  field_key_by true u h = tt
  field_key_by false u h = field_if (is_plain_owner recs u.owner) u (h refl)

  pub method_stands : (a : ℕ) (rec : AsmRec) (token : ℕ) (k : MethodKey) → (table_of token == table.METHOD_SPEC) ≡ false → method_key recs a rec token ≡ Some k → MethodStands k
  unfolding method_key
  method_stands a rec token k s h =
      let m = map_some (method_key_of recs (table_of token == table.METHOD_DEF)) (good (method_named recs a rec token)) k h in
      let n = good_is (method_named recs a rec token) m.0 m.1 in
      subst MethodStands m.2 (method_key_by (table_of token == table.METHOD_DEF) m.0 (method_named_there a rec token m.0 n s))

  pub field_stands : (a : ℕ) (rec : AsmRec) (token : ℕ) (k : FieldKey) → field_key recs a rec token ≡ Some k → FieldStands k
  unfolding field_key
  field_stands a rec token k h =
      let m = map_some (field_key_of recs (table_of token == table.FIELD)) (good (field_named recs a rec token)) k h in
      let n = good_is (field_named recs a rec token) m.0 m.1 in
      subst FieldStands m.2 (field_key_by (table_of token == table.FIELD) m.0 (field_named_there a rec token m.0 n))
