-- A method that a token names by its own row is one of an input.
use Rattle.std.proofs.Common.{◌≡◌, ◌<◌, ℕ, zero, suc, ◌+◌, ◌-◌, List, [], ◌∷◌, length, map, take, drop, Bool, true, false, nat_lt, Option, Some, None, refl, sym, ap, subst, ◌∙◌, arith}
use Rattle.std.specs.Prelude.{slice_get, ◌==◌, ◌&&◌, ◌||◌, if◌then◌else◌}
use Rattle.std.specs.List.{list_any, position_from}
use Rattle.std.specs.Option.{option_and_then, option_map}
use Rattle.std.proofs.lemmas.Bool.{ltb-true}
use Rattle.il_base.specs.declared.ids.TypeId.{TypeId}
use Rattle.il_base.specs.declared.ids.MethodId.{MethodId}
use Rattle.il_base.specs.declared.table.TheConstants as table
use Rattle.il_base.specs.declared.world_model.known.Known.{Known}
use Rattle.il_base.specs.declared.world_model.known.Known.TheVariants.{Good, Bad}
use Rattle.il_base.specs.declared.world_model.known.BadKind.TheVariants.{Unresolved, Outside}
use Rattle.il_base.specs.declared.world_model.expr.TypeExpr.{TypeExpr, out-TypeExpr, roll-TypeExpr, roll-out-TypeExpr}
use Rattle.il_base.specs.declared.world_model.expr.TypeExpr.TheOpen.{TypeExpr-F}
use Rattle.il_base.specs.declared.world_model.expr.TypeExpr.TheVariants as expr
use Rattle.il_base.specs.declared.world_model.expr.MethodUse.{MethodUse}
use Rattle.il_base.specs.declared.world_model.expr.MemberSig.{MemberSig}
use Rattle.il_base.specs.declared.world_model.expr.MemberSig.TheVariants as member
use Rattle.il_base.specs.declared.world_model.types.TypeDefRow.{TypeDefRow}
use Rattle.il_base.specs.declared.world_model.members.MemberRefRow.{MemberRefRow}
use Rattle.il_base.specs.declared.world_model.members.MethodSpecRow.{MethodSpecRow}
use Rattle.il_base.specs.declared.ids.Item.TheVariants as item
use Rattle.rules.specs.mark_rules.Places.{row_of}
use Rattle.merge_laws.proofs.lemmas.merged_owners.Homes.{own_home}
use Rattle.il_base.specs.declared.world_model.record.AsmRec.{AsmRec}
use Rattle.il_base.specs.world_model.Tokens.{table_of, index_in}
use Rattle.il_base.specs.world_model.Exprs.{levels, subst as put}
use Rattle.il_base.specs.world_model.Worlds.{known_map, known_then, rows_before, row_below}
use Rattle.il_base.proofs.lemmas.world_model.ExprLayers.{subst_prim, subst_def, subst_inst, subst_array}
use Rattle.rules.specs.declared.link_rules.row_at.RowAt.{RowAt}
use Rattle.rules.specs.declared.link_rules.member_type.MethodType.{MethodType}
use Rattle.rules.specs.link_rules.Types.{at_row}
use Rattle.rules.specs.link_rules.Signatures.{names_at, method_type}
use Rattle.rules.specs.link_rules.Members.{args_of, run_of, find_in_run, owner_in, owner_of, type_home, param_count, Found, found_in, or_next, search, closed, with_bases, open_parent, is_method, method_of_type, find_method, methods_in, most_levels, method_use, own_member, owns_method, own_type, method_def_use, is_field_sig, parent_of, method_in_parent, method_ref_use, instantiated, arguments_of, method_spec_use, ref_use_at, def_use_at, generic_method}
use Rattle.rules.specs.link_rules.Cycles.{listed, home_of}
use Rattle.rules.specs.type_rules.Rows.{rec_at}
use Rattle.base_laws.proofs.lemmas.type_laws.Places.{place_within}
use Rattle.base_laws.proofs.lemmas.type_laws.Upwards.{owner_as}
use Rattle.base_laws.proofs.lemmas.walk_laws.Finds as finds
use Rattle.base_laws.proofs.lemmas.known_laws.Lists.{map_some}
use Rattle.rules.specs.mark_rules.Naming.{spec_use_at, method_named}
use Rattle.rules.specs.merge_rules.Keys.{MethodKey, own_method, found_method, good, is_bare_in, is_plain_input, is_plain_owner, method_key_of, method_key}
use Rattle.merge_laws.proofs.lemmas.merged_owners.Every.{some_of}
use Rattle.merge_laws.proofs.lemmas.merged_tokens.Keys.{known_good}

-- ---- a row of a run that passes a test

module _ {A : Type 0} where
  get_take : (n : ℕ) (xs : List A) (j : ℕ) (x : A) → slice_get (take n xs) j ≡ Some x → slice_get xs j ≡ Some x
  get_take zero xs j x e = cc
  get_take (suc n) [] j x e = cc
  get_take (suc n) (y ∷ xs) zero x e = e
  get_take (suc n) (y ∷ xs) (suc j) x e = get_take n xs j x e

  get_drop : (d : ℕ) (xs : List A) (j : ℕ) (x : A) → slice_get (drop d xs) j ≡ Some x → slice_get xs (d + j) ≡ Some x
  get_drop zero xs j x e = let z : 0 + j ≡ j = omega arith in ap (slice_get xs) z ∙ e
  get_drop (suc d) [] j x e = cc
  get_drop (suc d) (y ∷ xs) j x e = let z : suc d + j ≡ suc (d + j) = omega arith in ap (slice_get (y ∷ xs)) z ∙ get_drop d xs j x e

  run_has : (t : A → Bool) (first end : ℕ) (rows : List A) (k : ℕ) → find_in_run t first end rows ≡ Some k → (x : A) × (slice_get rows k ≡ Some x)
  run_has t first end rows k e =
      let f = finds.found t (first - 1) (run_of first end rows) k e in
      let is = f.is in
      (f.item, ap (slice_get rows) is ∙ get_drop (first - 1) rows f.place f.item (get_take (end - first) (drop (first - 1) rows) f.place f.item f.there))

first_true : (b c : Bool) → (b && c) ≡ true → b ≡ true
first_true true c h = refl
first_true false c h = absurd (cc)

last_true : (b c : Bool) → (b && c) ≡ true → c ≡ true
last_true true c h = h
last_true false c h = absurd (cc)

is_good : {A : Type 0} (x : Known A) (y : A) → good x ≡ Some y → x ≡ Good y
is_good (Good z) y e = let same : z ≡ y = cc in ap Good same
is_good (Bad why) y e = absurd (cc)

module _ (recs : List AsmRec) where
  -- ---- arguments that are put in leave the definition

  module _ (targs : List TypeExpr) where
    owner_by : (x : TypeExpr-F TypeExpr) (e : TypeExpr) (t : TypeId) → roll-TypeExpr x ≡ e → owner_in recs x ≡ Some t → owner_of recs (put targs [] e) ≡ Some t
    owner_by (TypeExpr-F.Prim n) e t is h =
        let f : expr.Prim n ≡ e = sym (expr.rolls-Prim n) ∙ is in
        subst (λ (y : TypeExpr). owner_of recs (put targs [] y) ≡ Some t) f (ap (owner_of recs) (subst_prim targs [] n) ∙ owner_as recs targs (TypeExpr-F.Prim n) (expr.Prim n) (expr.rolls-Prim n) ∙ h)
    owner_by (TypeExpr-F.Def u) e t is h =
        let f : expr.Def u ≡ e = sym (expr.rolls-Def u) ∙ is in
        subst (λ (y : TypeExpr). owner_of recs (put targs [] y) ≡ Some t) f (ap (owner_of recs) (subst_def targs [] u) ∙ owner_as recs targs (TypeExpr-F.Def u) (expr.Def u) (expr.rolls-Def u) ∙ h)
    owner_by (TypeExpr-F.Inst u args) e t is h =
        let f : expr.Inst u args ≡ e = sym (expr.rolls-Inst u args) ∙ is in
        let args' = map (put targs []) args in
        subst (λ (y : TypeExpr). owner_of recs (put targs [] y) ≡ Some t) f
        (ap (owner_of recs) (subst_inst targs [] u args) ∙ owner_as recs targs (TypeExpr-F.Inst u args') (expr.Inst u args') (expr.rolls-Inst u args') ∙ h)
    owner_by (TypeExpr-F.Array x) e t is h =
        let f : expr.Array x ≡ e = sym (expr.rolls-Array x) ∙ is in
        let x' = put targs [] x in
        subst (λ (y : TypeExpr). owner_of recs (put targs [] y) ≡ Some t) f
        (ap (owner_of recs) (subst_array targs [] x) ∙ owner_as recs targs (TypeExpr-F.Array x') (expr.Array x') (expr.rolls-Array x') ∙ h)
    owner_by (TypeExpr-F.ByRef x) e t is h = absurd (cc)
    owner_by (TypeExpr-F.Var n) e t is h = absurd (cc)
    owner_by (TypeExpr-F.MVar n) e t is h = absurd (cc)
    owner_by (TypeExpr-F.Mod required by x) e t is h = absurd (cc)

    owner_put : (e : TypeExpr) (t : TypeId) → owner_of recs e ≡ Some t → owner_of recs (put targs [] e) ≡ Some t
    unfolding owner_of
    owner_put e t h = owner_by (out-TypeExpr e) e t (roll-out-TypeExpr e) h

    home_by : (e : TypeExpr) (o : Option TypeId) (at : RowAt) → owner_of recs e ≡ o → option_and_then (type_home recs) o ≡ Some at → home_of recs (put targs [] e) ≡ Some at
    home_by e None at is h = absurd (cc)
    home_by e (Some t) at is h = ap (option_and_then (type_home recs)) (owner_put e t is) ∙ h

    home_put : (e : TypeExpr) (at : RowAt) → home_of recs e ≡ Some at → home_of recs (put targs [] e) ≡ Some at
    home_put e at h = home_by e (owner_of recs e) at refl h

  -- ---- a method that is found is in its owner's assembly

  record Member (e : TypeExpr) (at : RowAt) : Type 0 where
    rec : AsmRec
    there : slice_get recs at.asm ≡ Some rec
    below : at.row < methods_in rec
    home : RowAt
    is : home_of recs e ≡ Some home
    asm : at.asm ≡ home.asm

  looked : (name : List ℕ) (wanted : MethodType) (e : TypeExpr) (at : RowAt) → method_of_type recs name wanted e ≡ Some at → Member e at
  unfolding method_of_type
  looked name wanted e at h =
      let look : RowAt → AsmRec → TypeDefRow → Option RowAt =
      λ home rec t. option_map (at_row home.asm) (find_in_run (is_method recs home.asm rec (args_of e) name wanted) t.method_list_first t.method_list_end rec.method_def) in
      let d = finds.defined recs look e at h in
      let k = map_some (at_row d.home.asm) (find_in_run (is_method recs d.home.asm d.rec (args_of e) name wanted) d.row.method_list_first d.row.method_list_end d.rec.method_def) at d.found in
      let r = run_has (is_method recs d.home.asm d.rec (args_of e) name wanted) d.row.method_list_first d.row.method_list_end d.rec.method_def k.0 k.1 in
      subst (Member e) k.2 (record { rec = d.rec; there = d.there; below = place_within d.rec.method_def k.0 r.0 r.1; home = d.home; is = d.is; asm = refl })

  module _ (look : TypeExpr → Option RowAt) (looks : (e : TypeExpr) (at : RowAt) → look e ≡ Some at → Member e at) where
    next_has : (e : TypeExpr) (x : Found) (later : Option Found) (o : Option RowAt) → look e ≡ o → (later ≡ Some x → Member x.owner x.at) → or_next (option_map (found_in e) o) later ≡ Some x → Member x.owner x.at
    next_has e x later None f more h = more h
    next_has e x later (Some at) f more h = let same : found_in e at ≡ x = cc in subst (λ (y : Found). Member y.owner y.at) same (looks e at f)

    search_has : (es : List TypeExpr) (x : Found) → search look es ≡ Some x → Member x.owner x.at
    unfolding search
    search_has [] x h = absurd (cc)
    search_has (e ∷ es) x h = next_has e x (search look es) (look e) refl (search_has es x) h

    closed_has : (parent : TypeExpr) (es : List TypeExpr) (x : Found) → option_map (closed parent) (search look es) ≡ Some x → Member x.owner x.at
    closed_has parent es x h =
        let m = map_some (closed parent) (search look es) x h in
        let s = search_has es m.0 m.1 in
        subst (λ (y : Found). Member y.owner y.at) m.2 (record { rec = s.rec; there = s.there; below = s.below; home = s.home; is = home_put (args_of parent) m.0.owner s.home s.is; asm = s.asm })

  found_has : (parent : TypeExpr) (name : List ℕ) (wanted : MethodType) (x : Found) → find_method recs parent name wanted ≡ Some x → Member x.owner x.at
  unfolding find_method
  found_has parent name wanted x h = closed_has (method_of_type recs name wanted) (looked name wanted) parent (with_bases recs (open_parent recs parent)) x h

  -- ---- uses

  record Used (u : MethodUse) : Type 0 where
    found : Found
    method : u.method ≡ record { 0 = rows_before methods_in recs found.at.asm + found.at.row }
    owner : u.owner ≡ found.owner

  used_by : (x : Found) (u : MethodUse) (b : Bool)
      → (if b then Bad (Outside 5) else Good (record { method = record { 0 = rows_before methods_in recs x.at.asm + x.at.row }; owner = x.owner; args = [] })) ≡ Good u → (u.method ≡ record { 0 = rows_before methods_in recs x.at.asm + x.at.row }) × (u.owner ≡ x.owner)
  used_by x u true e = absurd (cc)
  used_by x u false e =
      let same : record { method = record { 0 = rows_before methods_in recs x.at.asm + x.at.row }; owner = x.owner; args = [] } ≡ u = cc in
      (sym (ap (λ (v : MethodUse). v.method) same), sym (ap (λ (v : MethodUse). v.owner) same))

  used : (o : Option Found) (u : MethodUse) → method_use recs o ≡ Good u → (x : Found) × (o ≡ Some x) × (u.method ≡ record { 0 = rows_before methods_in recs x.at.asm + x.at.row }) × (u.owner ≡ x.owner)
  used None u e = absurd (cc)
  used (Some x) u e = let r = used_by x u (nat_lt most_levels (levels x.owner)) e in (x, refl, r.0, r.1)

  -- ---- methods by their own rows

  pub record OwnThere (m : MethodId) : Type 0 where
    pub at : RowAt
    pub rec : AsmRec
    pub there : slice_get recs at.asm ≡ Some rec
    pub within : suc at.asm < length recs
    pub below : at.row < methods_in rec
    pub is : m ≡ record { 0 = rows_before methods_in recs at.asm + at.row }

  -- any method that a token names
  pub record MethodAt (m : MethodId) : Type 0 where
    pub at : RowAt
    pub rec : AsmRec
    pub there : slice_get recs at.asm ≡ Some rec
    pub below : at.row < methods_in rec
    pub is : m ≡ record { 0 = rows_before methods_in recs at.asm + at.row }

  record ByRef (u : MethodUse) : Type 0 where
    at : RowAt
    member : Member u.owner at
    is : u.method ≡ record { 0 = rows_before methods_in recs at.asm + at.row }

  by_found : (o : Option Found) (u : MethodUse) → ((x : Found) → o ≡ Some x → Member x.owner x.at) → method_use recs o ≡ Good u → ByRef u
  by_found o u has e =
      let r = used o u e in
      record { at = r.0.at; member = subst (λ (y : TypeExpr). Member y r.0.at) (sym r.3) (has r.0 r.1); is = r.2 }

  plain_input : (e : TypeExpr) (home : RowAt) → home_of recs e ≡ Some home → is_plain_owner recs e ≡ true → suc home.asm < length recs
  plain_input e home is h =
      let p : is_plain_input recs (home_of recs e) ≡ true = last_true (is_bare_in (out-TypeExpr e)) (is_plain_input recs (home_of recs e)) h in
      let s = some_of (λ (t : RowAt). nat_lt (suc t.asm) (length recs) && list_any (λ (rec : AsmRec). param_count rec t.row == 0) (listed (rec_at recs t))) (home_of recs e) p in
      let same : s.0 ≡ home = let f = s.1 in cc in
      let t : nat_lt (suc s.0.asm) (length recs) ≡ true = first_true (nat_lt (suc s.0.asm) (length recs)) (list_any (λ (rec : AsmRec). param_count rec s.0.row == 0) (listed (rec_at recs s.0))) s.2 in
      subst (λ (x : RowAt). suc x.asm < length recs) same (ltb-true (suc s.0.asm) (length recs) t)

  own_by_ref : (u : MethodUse) → ByRef u → is_plain_owner recs u.owner ≡ true → OwnThere u.method
  own_by_ref u r h =
      let m = r.member in
      let lt = plain_input u.owner m.home m.is h in
      record { at = r.at; rec = m.rec; there = m.there; within = subst (λ (n : ℕ). suc n < length recs) (sym m.asm) lt; below = m.below; is = r.is }

  module _ (a : ℕ) (rec : AsmRec) (there : slice_get recs a ≡ Some rec) (input : suc a < length recs) where
    -- ---- by its definition

    below_by : (count k n : ℕ) (b : Bool) → nat_lt k count ≡ b → (if b then Some k else None) ≡ Some n → (k ≡ n) × (n < count)
    below_by count k n true e h = let same : k ≡ n = cc in (same, subst (λ (m : ℕ). m < count) same (ltb-true k count e))
    below_by count k n false e h = absurd (cc)

    below_is : (count : ℕ) (o : Option ℕ) (n : ℕ) → row_below count o ≡ Some n → n < count
    below_is count None n h = absurd (cc)
    below_is count (Some k) n h = (below_by count k n (nat_lt k count) refl h).1

    def_there : (k : ℕ) (u : MethodUse) → k < methods_in rec → method_def_use recs a rec k ≡ Good u → OwnThere u.method
    unfolding method_def_use
    def_there k u lt e =
        let r = used (own_member recs a rec owns_method k) u e in
        let m = map_some (λ t. record { at = at_row a k; owner = own_type recs rec (at_row a t) }) (position_from (owns_method (suc k)) 0 rec.type_def) r.0 r.1 in
        let at : at_row a k ≡ r.0.at = ap (λ (x : Found). x.at) m.2 in
        record { at = at_row a k; rec = rec; there = there; within = input; below = lt; is = r.2 ∙ ap (λ (x : RowAt). record { 0 = rows_before methods_in recs x.asm + x.row }) (sym at) }

    def_by : (o : Option ℕ) (u : MethodUse) → ((k : ℕ) → o ≡ Some k → k < methods_in rec) → def_use_at recs a rec o ≡ Good u → OwnThere u.method
    def_by None u h e = absurd (cc)
    def_by (Some k) u h e = def_there k u (h k refl) e

    -- ---- by a reference

    ref_in : (row : MemberRefRow) (parent : TypeExpr) (s : MemberSig) (u : MethodUse) → method_in_parent recs a rec row parent s ≡ Good u → ByRef u
    ref_in row parent (member.Method s) u h =
        let k = known_good (λ (wanted : MethodType). method_use recs (find_method recs parent row.name wanted)) (method_type (names_at recs a rec) s) u h in
        by_found (find_method recs parent row.name k.0) u (found_has parent row.name k.0) k.2
    ref_in row parent (member.Field s) u h = absurd (cc)

    ref_kind : (row : MemberRefRow) (u : MethodUse) (b : Bool)
        → (if b then Bad Unresolved else known_then (λ (parent : TypeExpr). known_then (method_in_parent recs a rec row parent) row.signature) (parent_of recs a rec row)) ≡ Good u → ByRef u
    ref_kind row u true h = absurd (cc)
    ref_kind row u false h =
        let p = known_good (λ (parent : TypeExpr). known_then (method_in_parent recs a rec row parent) row.signature) (parent_of recs a rec row) u h in
        let s = known_good (method_in_parent recs a rec row p.0) row.signature u p.2 in
        ref_in row p.0 s.0 u s.2

    ref_by : (o : Option MemberRefRow) (u : MethodUse) → ref_use_at recs a rec o ≡ Good u → ByRef u
    unfolding method_ref_use
    ref_by None u h = absurd (cc)
    ref_by (Some row) u h = ref_kind row u (is_field_sig row.signature) h

    -- ---- by a token

    own_by : (token : ℕ) (u : MethodUse) (m : MethodId) (b : Bool) → (table_of token == table.METHOD_DEF) ≡ b
        → (if b then def_use_at recs a rec (row_below (methods_in rec) (index_in table.METHOD_DEF token)) else ref_use_at recs a rec (option_and_then (slice_get rec.member_ref) (index_in table.MEMBER_REF token))) ≡ Good u
        → (p : Bool) → is_plain_owner recs u.owner ≡ p → (if b || p then own_method u.method else found_method u.method u.owner) ≡ own_method m → OwnThere m
    own_by token u m true e h p f g =
        let same : u.method ≡ m = cc in
        subst OwnThere same (def_by (row_below (methods_in rec) (index_in table.METHOD_DEF token)) u (below_is (methods_in rec) (index_in table.METHOD_DEF token)) h)
    own_by token u m false e h true f g =
        let same : u.method ≡ m = cc in
        subst OwnThere same (own_by_ref u (ref_by (option_and_then (slice_get rec.member_ref) (index_in table.MEMBER_REF token)) u h) f)
    own_by token u m false e h false f g = absurd (cc)

    own_use : (token : ℕ) (u : MethodUse) (m : MethodId) → generic_method recs a rec token ≡ Good u → method_key_of recs (table_of token == table.METHOD_DEF) u ≡ own_method m → OwnThere m
    unfolding generic_method
    own_use token u m h g = own_by token u m (table_of token == table.METHOD_DEF) refl h (is_plain_owner recs u.owner) refl g

    use_by : (token : ℕ) (u : MethodUse) (b : Bool)
        → (if b then def_use_at recs a rec (row_below (methods_in rec) (index_in table.METHOD_DEF token)) else ref_use_at recs a rec (option_and_then (slice_get rec.member_ref) (index_in table.MEMBER_REF token))) ≡ Good u
        → MethodAt u.method
    use_by token u true h =
        let t = def_by (row_below (methods_in rec) (index_in table.METHOD_DEF token)) u (below_is (methods_in rec) (index_in table.METHOD_DEF token)) h in
        record { at = t.at; rec = t.rec; there = t.there; below = t.below; is = t.is }
    use_by token u false h =
        let r = ref_by (option_and_then (slice_get rec.member_ref) (index_in table.MEMBER_REF token)) u h in
        let m = r.member in
        record { at = r.at; rec = m.rec; there = m.there; below = m.below; is = r.is }

    pub use_there : (token : ℕ) (u : MethodUse) → generic_method recs a rec token ≡ Good u → MethodAt u.method
    unfolding generic_method
    use_there token u h = use_by token u (table_of token == table.METHOD_DEF) h

    spec_by : (o : Option MethodSpecRow) (u : MethodUse) → spec_use_at recs a rec o ≡ Good u → MethodAt u.method
    unfolding method_spec_use
    spec_by None u h = absurd (cc)
    spec_by (Some row) u h =
        let g = known_good (λ (v : MethodUse). known_map (instantiated v) (known_then (arguments_of (names_at recs a rec)) row.instantiation)) (generic_method recs a rec row.method) u h in
        subst MethodAt (use_of g.0 u (known_then (arguments_of (names_at recs a rec)) row.instantiation) g.2) (use_there row.method g.0 g.1)
      where
        use_of : (v w : MethodUse) (x : Known (List TypeExpr)) → known_map (instantiated v) x ≡ Good w → v.method ≡ w.method
        use_of v w (Good args) e = let same : instantiated v args ≡ w = cc in ap (λ (y : MethodUse). y.method) same
        use_of v w (Bad why) e = absurd (cc)

    named_by : (token : ℕ) (u : MethodUse) (b : Bool)
        → (if b then spec_use_at recs a rec (option_and_then (slice_get rec.method_spec) (index_in table.METHOD_SPEC token)) else generic_method recs a rec token) ≡ Good u → MethodAt u.method
    named_by token u true h = spec_by (option_and_then (slice_get rec.method_spec) (index_in table.METHOD_SPEC token)) u h
    named_by token u false h = use_there token u h

    pub home_named : (token : ℕ) (u : MethodUse) → method_named recs a rec token ≡ Good u → (t : RowAt) × (row_of recs (item.Method u.method) ≡ Some t)
    unfolding method_named row_of
    home_named token u h =
        let t = named_by token u (table_of token == table.METHOD_SPEC) h in
        (t.at, ap (λ (n : MethodId). row_of recs (item.Method n)) t.is ∙ own_home methods_in recs t.at t.rec t.there t.below)

    pub generic_of : (token : ℕ) → (table_of token == table.METHOD_SPEC) ≡ false → method_named recs a rec token ≡ generic_method recs a rec token
    unfolding method_named
    generic_of token s = ap (λ (b : Bool). if b then spec_use_at recs a rec (option_and_then (slice_get rec.method_spec) (index_in table.METHOD_SPEC token)) else generic_method recs a rec token) s

    -- what a token names by its key
    pub key_use : (token : ℕ) (k : MethodKey) → (table_of token == table.METHOD_SPEC) ≡ false → method_key recs a rec token ≡ Some k
        → (u : MethodUse) × (generic_method recs a rec token ≡ Good u) × (method_key_of recs (table_of token == table.METHOD_DEF) u ≡ k)
    unfolding method_key
    key_use token k s h =
        let m = map_some (method_key_of recs (table_of token == table.METHOD_DEF)) (good (method_named recs a rec token)) k h in
        (m.0, sym (generic_of token s) ∙ is_good (method_named recs a rec token) m.0 m.1, m.2)

    pub own_there : (token : ℕ) (m : MethodId) → (table_of token == table.METHOD_SPEC) ≡ false → method_key recs a rec token ≡ Some (own_method m) → OwnThere m
    own_there token m s h = let k = key_use token (own_method m) s h in own_use token k.0 m k.1 k.2

    pub key_some : (token : ℕ) (u : MethodUse) → (table_of token == table.METHOD_SPEC) ≡ false → generic_method recs a rec token ≡ Good u
        → method_key recs a rec token ≡ Some (method_key_of recs (table_of token == table.METHOD_DEF) u)
    unfolding method_key
    key_some token u s h = ap (λ (x : Known MethodUse). option_map (method_key_of recs (table_of token == table.METHOD_DEF)) (good x)) (generic_of token s ∙ h)

  own_same_by : (u : MethodUse) (m : MethodId) (b : Bool) → (if b then own_method u.method else found_method u.method u.owner) ≡ own_method m → u.method ≡ m
  own_same_by u m true e = cc
  own_same_by u m false e = absurd (cc)

  pub own_same : (own : Bool) (u : MethodUse) (m : MethodId) → method_key_of recs own u ≡ own_method m → u.method ≡ m
  own_same own u m e = own_same_by u m (own || is_plain_owner recs u.owner) e
