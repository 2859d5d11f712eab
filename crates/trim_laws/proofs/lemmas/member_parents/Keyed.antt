-- The type in which a reference finds a member has a key.
use Rattle.std.proofs.Common.{◌≡◌, ℕ, ◌+◌, List, [], ◌∷◌, map, Bool, true, false, nat_lt, Option, Some, None, refl, sym, ap, subst, ◌∙◌}
use Rattle.std.specs.Prelude.{slice_get, ⊤, ◌==◌, if◌then◌else◌}
use Rattle.std.specs.Option.{option_and_then, option_map}
use Rattle.il_base.specs.declared.ids.TypeId.{TypeId}
use Rattle.il_base.specs.declared.table.TheConstants as table
use Rattle.il_base.specs.declared.world_model.known.Known.{Known}
use Rattle.il_base.specs.declared.world_model.known.Known.TheVariants.{Good, Bad}
use Rattle.il_base.specs.declared.world_model.known.BadKind.TheVariants.{Unresolved, Outside}
use Rattle.il_base.specs.declared.world_model.expr.TypeExpr.{TypeExpr, out-TypeExpr, roll-TypeExpr, roll-out-TypeExpr}
use Rattle.il_base.specs.declared.world_model.expr.TypeExpr.TheOpen.{TypeExpr-F}
use Rattle.il_base.specs.declared.world_model.expr.TypeExpr.TheVariants as expr
use Rattle.il_base.specs.declared.world_model.expr.MethodUse.{MethodUse}
use Rattle.il_base.specs.declared.world_model.expr.FieldUse.{FieldUse}
use Rattle.il_base.specs.declared.world_model.expr.MemberSig.{MemberSig}
use Rattle.il_base.specs.declared.world_model.expr.MemberSig.TheVariants as member
use Rattle.il_base.specs.declared.world_model.types.TypeDefRow.{TypeDefRow}
use Rattle.il_base.specs.declared.world_model.members.MemberRefRow.{MemberRefRow}
use Rattle.il_base.specs.declared.world_model.record.AsmRec.{AsmRec}
use Rattle.il_base.specs.world_model.Tokens.{table_of, index_in}
use Rattle.il_base.specs.world_model.Exprs.{levels, subst as put}
use Rattle.il_base.specs.world_model.Worlds.{known_then, rows_before, row_below, sig_expr}
use Rattle.il_base.proofs.lemmas.world_model.ExprLayers.{subst_prim, subst_def, subst_inst, subst_array}
use Rattle.rules.specs.declared.link_rules.row_at.RowAt.{RowAt}
use Rattle.rules.specs.declared.link_rules.member_type.MethodType.{MethodType}
use Rattle.rules.specs.link_rules.Types.{at_row}
use Rattle.rules.specs.link_rules.Signatures.{names_at, method_type}
use Rattle.rules.specs.link_rules.Members.{args_of, find_in_run, owner_in, owner_of, type_home, Found, found_in, or_next, search, closed, with_bases, open_parent, is_method, is_field, method_of_type, field_of_type, find_method, find_field, methods_in, fields_in, most_levels, method_use, field_use, is_field_sig, is_method_sig, parent_of, method_in_parent, field_in_parent, method_ref_use, field_ref_use, ref_use_at, def_use_at, generic_method}
use Rattle.base_laws.proofs.lemmas.type_laws.Upwards.{out_is}
use Rattle.base_laws.proofs.lemmas.walk_laws.Finds as finds
use Rattle.base_laws.proofs.lemmas.known_laws.Lists.{and_then_some, map_some}
use Rattle.rules.specs.mark_rules.Naming.{spec_use_at, method_named, field_def_at, field_ref_at, field_named}
use Rattle.rules.specs.merge_rules.Keys.{TypeKey, named, spec, made_sig, expr_key_in, expr_key, MethodKey, own_method, found_method, absent_method, FieldKey, own_field, found_field, good, is_plain_owner, method_key_of, field_key_of, method_key, field_key}

known_good : {A B : Type 0} (f : A → Known B) (x : Known A) (y : B) → known_then f x ≡ Good y → (a : A) × (x ≡ Good a) × (f a ≡ Good y)
known_good f (Good a) y e = (a, refl, e)
known_good f (Bad why) y e = absurd (cc)

is_good : {A : Type 0} (x : Known A) (y : A) → good x ≡ Some y → x ≡ Good y
is_good (Good z) y e = let same : z ≡ y = cc in ap Good same
is_good (Bad why) y e = absurd (cc)

module _ (recs : List AsmRec) where
  pub record HasKey (e : TypeExpr) : Type 0 where
    pub key : TypeKey
    pub is : expr_key recs e ≡ Some key

  record HasOwner (e : TypeExpr) : Type 0 where
    owner : TypeId
    is : owner_of recs e ≡ Some owner

  -- ---- a type that is defined, with arguments put in

  key_as : (x : TypeExpr-F TypeExpr) (e : TypeExpr) → roll-TypeExpr x ≡ e → expr_key recs e ≡ expr_key_in recs e x
  unfolding expr_key
  key_as x e is = ap (expr_key_in recs e) (out_is x e is)

  key_by : (targs : List TypeExpr) (x : TypeExpr-F TypeExpr) (e : TypeExpr) (t : TypeId) → roll-TypeExpr x ≡ e → owner_in recs x ≡ Some t → HasKey (put targs [] e)
  key_by targs (TypeExpr-F.Prim n) e t is h =
      let f : expr.Prim n ≡ e = sym (expr.rolls-Prim n) ∙ is in
      subst (λ (y : TypeExpr). HasKey (put targs [] y)) f
      (record {
        key = named t;
        is = ap (expr_key recs) (subst_prim targs [] n) ∙ key_as (TypeExpr-F.Prim n) (expr.Prim n) (expr.rolls-Prim n) ∙ ap (λ (o : Option TypeId). option_map named o) h;
      })
  key_by targs (TypeExpr-F.Def u) e t is h =
      let f : expr.Def u ≡ e = sym (expr.rolls-Def u) ∙ is in
      subst (λ (y : TypeExpr). HasKey (put targs [] y)) f (record { key = named u; is = ap (expr_key recs) (subst_def targs [] u) ∙ key_as (TypeExpr-F.Def u) (expr.Def u) (expr.rolls-Def u) })
  key_by targs (TypeExpr-F.Inst u args) e t is h =
      let f : expr.Inst u args ≡ e = sym (expr.rolls-Inst u args) ∙ is in
      let args' : List TypeExpr = map (put targs []) args in
      subst (λ (y : TypeExpr). HasKey (put targs [] y)) f
      (record {
        key = spec (made_sig recs (expr.Inst u args'));
        is = ap (expr_key recs) (subst_inst targs [] u args) ∙ key_as (TypeExpr-F.Inst u args') (expr.Inst u args') (expr.rolls-Inst u args');
      })
  key_by targs (TypeExpr-F.Array x) e t is h =
      let f : expr.Array x ≡ e = sym (expr.rolls-Array x) ∙ is in
      let x' : TypeExpr = put targs [] x in
      subst (λ (y : TypeExpr). HasKey (put targs [] y)) f
      (record { key = spec (made_sig recs (expr.Array x')); is = ap (expr_key recs) (subst_array targs [] x) ∙ key_as (TypeExpr-F.Array x') (expr.Array x') (expr.rolls-Array x') })
  key_by targs (TypeExpr-F.ByRef x) e t is h = absurd (cc)
  key_by targs (TypeExpr-F.Var n) e t is h = absurd (cc)
  key_by targs (TypeExpr-F.MVar n) e t is h = absurd (cc)
  key_by targs (TypeExpr-F.Mod required by x) e t is h = absurd (cc)

  key_put : (targs : List TypeExpr) (e : TypeExpr) → HasOwner e → HasKey (put targs [] e)
  unfolding owner_of
  key_put targs e h = key_by targs (out-TypeExpr e) e h.owner (roll-out-TypeExpr e) h.is

  -- ---- what is found

  module _ (look : TypeExpr → Option RowAt) (looks : (e : TypeExpr) (at : RowAt) → look e ≡ Some at → HasOwner e) where
    next_has : (e : TypeExpr) (x : Found) (later : Option Found) (o : Option RowAt) → look e ≡ o → (later ≡ Some x → HasOwner x.owner) → or_next (option_map (found_in e) o) later ≡ Some x → HasOwner x.owner
    next_has e x later None f more h = more h
    next_has e x later (Some at) f more h = let same : found_in e at ≡ x = cc in subst (λ (y : Found). HasOwner y.owner) same (looks e at f)

    search_has : (es : List TypeExpr) (x : Found) → search look es ≡ Some x → HasOwner x.owner
    unfolding search
    search_has [] x h = absurd (cc)
    search_has (e ∷ es) x h = next_has e x (search look es) (look e) refl (search_has es x) h

    closed_has : (parent : TypeExpr) (es : List TypeExpr) (x : Found) → option_map (closed parent) (search look es) ≡ Some x → HasKey x.owner
    closed_has parent es x h =
        let m = map_some (closed parent) (search look es) x h in
        subst (λ (y : Found). HasKey y.owner) m.2 (key_put (args_of parent) m.0.owner (search_has es m.0 m.1))

  has_owner : (e : TypeExpr) (home : RowAt) → option_and_then (type_home recs) (owner_of recs e) ≡ Some home → HasOwner e
  has_owner e home h = let t = and_then_some (type_home recs) (owner_of recs e) home h in record { owner = t.0; is = t.1 }

  -- ---- methods

  method_looked : (name : List ℕ) (wanted : MethodType) (e : TypeExpr) (at : RowAt) → method_of_type recs name wanted e ≡ Some at → HasOwner e
  unfolding method_of_type
  method_looked name wanted e at h =
      let look : RowAt → AsmRec → TypeDefRow → Option RowAt =
      λ home rec t. option_map (at_row home.asm) (find_in_run (is_method recs home.asm rec (args_of e) name wanted) t.method_list_first t.method_list_end rec.method_def) in
      let d = finds.defined recs look e at h in
      has_owner e d.home d.is

  method_found : (parent : TypeExpr) (name : List ℕ) (wanted : MethodType) (x : Found) → find_method recs parent name wanted ≡ Some x → HasKey x.owner
  unfolding find_method
  method_found parent name wanted x h = closed_has (method_of_type recs name wanted) (method_looked name wanted) parent (with_bases recs (open_parent recs parent)) x h

  method_by : (x : Found) (u : MethodUse) → HasKey x.owner → (b : Bool)
      → (if b then Bad (Outside 5) else Good (record { method = record { 0 = rows_before methods_in recs x.at.asm + x.at.row }; owner = x.owner; args = [] })) ≡ Good u → HasKey u.owner
  method_by x u h true e = absurd (cc)
  method_by x u h false e =
      let same : record { method = record { 0 = rows_before methods_in recs x.at.asm + x.at.row }; owner = x.owner; args = [] } ≡ u = cc in
      subst (λ (v : MethodUse). HasKey v.owner) same h

  method_used : (o : Option Found) (u : MethodUse) → ((x : Found) → o ≡ Some x → HasKey x.owner) → method_use recs o ≡ Good u → HasKey u.owner
  method_used None u h e = absurd (cc)
  method_used (Some x) u h e = method_by x u (h x refl) (nat_lt most_levels (levels x.owner)) e

  -- ---- fields

  field_looked : (name : List ℕ) (wanted : TypeExpr) (e : TypeExpr) (at : RowAt) → field_of_type recs name wanted e ≡ Some at → HasOwner e
  unfolding field_of_type
  field_looked name wanted e at h =
      let look : RowAt → AsmRec → TypeDefRow → Option RowAt =
      λ home rec t. option_map (at_row home.asm) (find_in_run (is_field recs home.asm rec (args_of e) name wanted) t.field_list_first t.field_list_end rec.field) in
      let d = finds.defined recs look e at h in
      has_owner e d.home d.is

  field_found : (parent : TypeExpr) (name : List ℕ) (wanted : TypeExpr) (x : Found) → find_field recs parent name wanted ≡ Some x → HasKey x.owner
  unfolding find_field
  field_found parent name wanted x h = closed_has (field_of_type recs name wanted) (field_looked name wanted) parent (with_bases recs (open_parent recs parent)) x h

  field_by : (x : Found) (u : FieldUse) → HasKey x.owner → (b : Bool)
      → (if b then Bad (Outside 5) else Good (record { field = record { 0 = rows_before fields_in recs x.at.asm + x.at.row }; owner = x.owner })) ≡ Good u → HasKey u.owner
  field_by x u h true e = absurd (cc)
  field_by x u h false e =
      let same : record { field = record { 0 = rows_before fields_in recs x.at.asm + x.at.row }; owner = x.owner } ≡ u = cc in
      subst (λ (v : FieldUse). HasKey v.owner) same h

  field_used : (o : Option Found) (u : FieldUse) → ((x : Found) → o ≡ Some x → HasKey x.owner) → field_use recs o ≡ Good u → HasKey u.owner
  field_used None u h e = absurd (cc)
  field_used (Some x) u h e = field_by x u (h x refl) (nat_lt most_levels (levels x.owner)) e

  -- ---- references of an assembly

  module _ (a : ℕ) (rec : AsmRec) where
    method_in : (row : MemberRefRow) (parent : TypeExpr) (s : MemberSig) (u : MethodUse) → method_in_parent recs a rec row parent s ≡ Good u → HasKey u.owner
    method_in row parent (member.Method s) u h =
        let k = known_good (λ (wanted : MethodType). method_use recs (find_method recs parent row.name wanted)) (method_type (names_at recs a rec) s) u h in
        method_used (find_method recs parent row.name k.0) u (method_found parent row.name k.0) k.2
    method_in row parent (member.Field s) u h = absurd (cc)

    method_kind : (row : MemberRefRow) (u : MethodUse) (b : Bool)
        → (if b then Bad Unresolved else known_then (λ (parent : TypeExpr). known_then (method_in_parent recs a rec row parent) row.signature) (parent_of recs a rec row)) ≡ Good u → HasKey u.owner
    method_kind row u true h = absurd (cc)
    method_kind row u false h =
        let p = known_good (λ (parent : TypeExpr). known_then (method_in_parent recs a rec row parent) row.signature) (parent_of recs a rec row) u h in
        let s = known_good (method_in_parent recs a rec row p.0) row.signature u p.2 in
        method_in row p.0 s.0 u s.2

    ref_method : (o : Option MemberRefRow) (u : MethodUse) → ref_use_at recs a rec o ≡ Good u → HasKey u.owner
    unfolding method_ref_use
    ref_method None u h = absurd (cc)
    ref_method (Some row) u h = method_kind row u (is_field_sig row.signature) h

    field_in : (row : MemberRefRow) (parent : TypeExpr) (s : MemberSig) (u : FieldUse) → field_in_parent recs a rec row parent s ≡ Good u → HasKey u.owner
    field_in row parent (member.Field s) u h =
        let k = known_good (λ (wanted : TypeExpr). field_use recs (find_field recs parent row.name wanted)) (sig_expr (names_at recs a rec) s) u h in
        field_used (find_field recs parent row.name k.0) u (field_found parent row.name k.0) k.2
    field_in row parent (member.Method s) u h = absurd (cc)

    field_kind : (row : MemberRefRow) (u : FieldUse) (b : Bool)
        → (if b then Bad Unresolved else known_then (λ (parent : TypeExpr). known_then (field_in_parent recs a rec row parent) row.signature) (parent_of recs a rec row)) ≡ Good u → HasKey u.owner
    field_kind row u true h = absurd (cc)
    field_kind row u false h =
        let p = known_good (λ (parent : TypeExpr). known_then (field_in_parent recs a rec row parent) row.signature) (parent_of recs a rec row) u h in
        let s = known_good (field_in_parent recs a rec row p.0) row.signature u p.2 in
        field_in row p.0 s.0 u s.2

    ref_field : (o : Option MemberRefRow) (u : FieldUse) → field_ref_at recs a rec o ≡ Good u → HasKey u.owner
    unfolding field_ref_use
    ref_field None u h = absurd (cc)
    ref_field (Some row) u h = field_kind row u (is_method_sig row.signature) h

    -- ---- keys of tokens

    method_named_by : (token : ℕ) (u : MethodUse) (b c : Bool)
        → (if b then spec_use_at recs a rec (option_and_then (slice_get rec.method_spec) (index_in table.METHOD_SPEC token))
        else if c then def_use_at recs a rec (row_below (methods_in rec) (index_in table.METHOD_DEF token))
        else ref_use_at recs a rec (option_and_then (slice_get rec.member_ref) (index_in table.MEMBER_REF token))) ≡ Good u
        → b ≡ false → c ≡ false → HasKey u.owner
    method_named_by token u true c h e f = absurd (cc)
    method_named_by token u false true h e f = absurd (cc)
    method_named_by token u false false h e f = ref_method (option_and_then (slice_get rec.member_ref) (index_in table.MEMBER_REF token)) u h

    method_owner : (token : ℕ) (u : MethodUse) → method_named recs a rec token ≡ Good u → (table_of token == table.METHOD_SPEC) ≡ false → (table_of token == table.METHOD_DEF) ≡ false → HasKey u.owner
    unfolding method_named generic_method
    method_owner token u h = method_named_by token u (table_of token == table.METHOD_SPEC) (table_of token == table.METHOD_DEF) h

    field_named_by : (token : ℕ) (u : FieldUse) (b : Bool)
        → (if b then field_def_at recs a rec (row_below (fields_in rec) (index_in table.FIELD token)) else field_ref_at recs a rec (option_and_then (slice_get rec.member_ref) (index_in table.MEMBER_REF token))) ≡ Good u
        → b ≡ false → HasKey u.owner
    field_named_by token u true h e = absurd (cc)
    field_named_by token u false h e = ref_field (option_and_then (slice_get rec.member_ref) (index_in table.MEMBER_REF token)) u h

    field_owner : (token : ℕ) (u : FieldUse) → field_named recs a rec token ≡ Good u → (table_of token == table.FIELD) ≡ false → HasKey u.owner
    unfolding field_named
    field_owner token u h = field_named_by token u (table_of token == table.FIELD) h

  -- ---- of each key the owner has one

  abbrev pub MethodKeyed : MethodKey → Type 0
  MethodKeyed (own_method m) = ⊤
  MethodKeyed (found_method m e) = HasKey e
  MethodKeyed (absent_method p name s) = ⊤

  abbrev pub FieldKeyed : FieldKey → Type 0
  FieldKeyed (own_field f) = ⊤
  FieldKeyed (found_field f e) = HasKey e

  method_if : (b : Bool) (u : MethodUse) → HasKey u.owner → MethodKeyed (if b then own_method u.method else found_method u.method u.owner)
  method_if true u h = tt
  method_if false u h = h

  method_by_token : (own : Bool) (u : MethodUse) → (own ≡ false → HasKey u.owner) → MethodKeyed (method_key_of recs own u)
  method_by_token true u h = tt
  method_by_token false u h = method_if (is_plain_owner recs u.owner) u (h refl)

  field_if : (b : Bool) (u : FieldUse) → HasKey u.owner → FieldKeyed (if b then own_field u.field else found_field u.field u.owner)
  field_if true u h = tt
  field_if false u h = h

  field_by_token : (own : Bool) (u : FieldUse) → (own ≡ false → HasKey u.owner) → FieldKeyed (field_key_of recs own u)
  field_by_token true u h = tt
  field_by_token false u h = field_if (is_plain_owner recs u.owner) u (h refl)

  pub method_keyed : (a : ℕ) (rec : AsmRec) (token : ℕ) (k : MethodKey) → (table_of token == table.METHOD_SPEC) ≡ false → method_key recs a rec token ≡ Some k → MethodKeyed k
  unfolding method_key
  method_keyed a rec token k s h =
      let m = map_some (method_key_of recs (table_of token == table.METHOD_DEF)) (good (method_named recs a rec token)) k h in
      let n = is_good (method_named recs a rec token) m.0 m.1 in
      subst MethodKeyed m.2 (method_by_token (table_of token == table.METHOD_DEF) m.0 (method_owner a rec token m.0 n s))

  pub field_keyed : (a : ℕ) (rec : AsmRec) (token : ℕ) (k : FieldKey) → field_key recs a rec token ≡ Some k → FieldKeyed k
  unfolding field_key
  field_keyed a rec token k h =
      let m = map_some (field_key_of recs (table_of token == table.FIELD)) (good (field_named recs a rec token)) k h in
      let n = is_good (field_named recs a rec token) m.0 m.1 in
      subst FieldKeyed m.2 (field_by_token (table_of token == table.FIELD) m.0 (field_owner a rec token m.0 n))
