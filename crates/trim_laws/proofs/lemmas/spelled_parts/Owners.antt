-- The type in which a reference finds a member has numbers that have a form, and at most 64 levels.
use Rattle.std.proofs.Common.{◌≡◌, ℕ, zero, suc, ◌+◌, ◌≤◌, List, [], ◌∷◌, length, Bool, true, false, nat_lt, Option, Some, None, refl, ap, subst, ◌||◌, arith}
use Rattle.std.specs.Prelude.{slice_get, ◌==◌, if◌then◌else◌}
use Rattle.std.specs.List.{Contains, count_by, position_from}
use Rattle.std.specs.Option.{option_map, option_and_then}
use Rattle.std.proofs.lemmas.Bool.{ltb-false}
use Rattle.std.proofs.lemmas.List.Sums.{count_by-le-length}
use Rattle.il_base.specs.declared.ids.TypeId.{TypeId}
use Rattle.il_base.specs.declared.sig.Sig.{Sig}
use Rattle.il_base.specs.declared.table.TheConstants as table
use Rattle.il_base.specs.blob_grammar.Signatures as grammar
use Rattle.il_base.specs.blob_grammar.Values.{FitsNumber}
use Rattle.il_base.specs.declared.world_model.known.Known.{Known}
use Rattle.il_base.specs.declared.world_model.known.Known.TheVariants.{Good, Bad}
use Rattle.il_base.specs.declared.world_model.known.BadKind.TheVariants.{Unresolved, Outside}
use Rattle.il_base.specs.declared.world_model.expr.TypeExpr.{TypeExpr}
use Rattle.il_base.specs.declared.world_model.expr.TypeExpr.TheVariants as expr
use Rattle.il_base.specs.declared.world_model.expr.MethodUse.{MethodUse}
use Rattle.il_base.specs.declared.world_model.expr.FieldUse.{FieldUse}
use Rattle.il_base.specs.declared.world_model.expr.MemberSig.{MemberSig}
use Rattle.il_base.specs.declared.world_model.expr.MemberSig.TheVariants as member
use Rattle.il_base.specs.declared.world_model.types.TypeDefRow.{TypeDefRow}
use Rattle.il_base.specs.declared.world_model.types.TypeSpecRow.{TypeSpecRow}
use Rattle.il_base.specs.declared.world_model.members.MemberRefRow.{MemberRefRow}
use Rattle.il_base.specs.declared.world_model.members.MethodSpecRow.{MethodSpecRow}
use Rattle.il_base.specs.declared.world_model.record.AsmRec.{AsmRec}
use Rattle.il_base.specs.world_model.Tokens.{token_of, table_of, index_in}
use Rattle.il_base.specs.world_model.Exprs as exprs
use Rattle.il_base.specs.world_model.Worlds.{known_map, known_then, rows_before, row_below, sig_expr, type_id}
use Rattle.rules.specs.declared.link_rules.row_at.RowAt.{RowAt}
use Rattle.rules.specs.declared.link_rules.member_type.MethodType.{MethodType}
use Rattle.rules.specs.link_rules.Types.{at_row}
use Rattle.rules.specs.link_rules.Signatures.{names_at, named_type, spec_type_at, token_type, method_type}
use Rattle.rules.specs.link_rules.Members.{type_home, array_type, owner_of, args_of, good_type, is_named, only_named, is_interface_row, base_in, base_at, base_of, bases_from, type_count, with_bases, Found, found_in, or_next, search, open_in, open_parent, closed, method_of_type, field_of_type, find_method, find_field, methods_in, fields_in, most_levels, method_use, field_use, is_field_sig, is_method_sig, parent_of, method_in_parent, field_in_parent, method_ref_use, field_ref_use, ref_use_at, def_use_at, generic_method, instantiated, arguments_of, method_spec_use, is_param_of, param_count, with_own_args, own_type, owns_method, owns_field, own_member, method_def_use, field_def_use}
use Rattle.rules.specs.mark_rules.Naming.{spec_use_at, method_named, field_def_at, field_ref_at, field_named}
use Rattle.merge_laws.proofs.lemmas.merged_record.Lists.{first_in, later_in, and_then_some, map_some}
use Rattle.trim_laws.proofs.lemmas.spelled_parts.Lists.{Every, all_none, all_more}
use Rattle.trim_laws.proofs.lemmas.spelled_parts.Shapes.{Shape}
use Rattle.trim_laws.proofs.lemmas.spelled_parts.Exprs.{Fine, def, put_fine, by_out, args_fine, own_fine, known_good, mapped_good, sig_fine, definition_fine, named_fine, in_fine}
use Rattle.trim_laws.specs.spelled_parts.Laws.{FewParams}

-- a type that a signature can be made of
pub record IsOwner (e : TypeExpr) : Type 0 where
  pub fine : Fine e
  pub low : exprs.levels e ≤ 64

-- signatures of TypeSpec rows have their shape
abbrev pub SpecsHaveShape : List AsmRec → Type 0
SpecsHaveShape recs = (a : ℕ) (rec : AsmRec) (k : ℕ) (row : TypeSpecRow) (s : Sig) → slice_get recs a ≡ Some rec → slice_get rec.type_spec k ≡ Some row → row.signature ≡ Good s → Shape grammar.levels s

module _ (recs : List AsmRec) (specs : SpecsHaveShape recs) (few : FewParams recs) where
  -- ---- tokens of types

  module _ (a : ℕ) (rec : AsmRec) (there : slice_get recs a ≡ Some rec) where
    spec_fine : (o : Option TypeSpecRow) (e : TypeExpr) → ((row : TypeSpecRow) → o ≡ Some row → (k : ℕ) × (slice_get rec.type_spec k ≡ Some row)) → spec_type_at recs a rec o ≡ Good e → Fine e
    spec_fine None e h g = absurd cc
    spec_fine (Some row) e h g =
        let place = h row refl in
        let k = known_good (sig_expr (names_at recs a rec)) row.signature e g in
        sig_fine (names_at recs a rec) (in_fine recs a rec) grammar.levels k.0 (specs a rec place.0 row k.0 there place.1 k.1) e k.2

    row_at : (token : ℕ) (row : TypeSpecRow) → option_and_then (slice_get rec.type_spec) (index_in table.TYPE_SPEC token) ≡ Some row → (k : ℕ) × (slice_get rec.type_spec k ≡ Some row)
    row_at token row e = let m = and_then_some (slice_get rec.type_spec) (index_in table.TYPE_SPEC token) row e in (m.0, m.2)

    type_by : (token : ℕ) (e : TypeExpr) (b : Bool)
        → (if b then spec_type_at recs a rec (option_and_then (slice_get rec.type_spec) (index_in table.TYPE_SPEC token)) else named_type recs a rec token) ≡ Good e → Fine e
    type_by token e true h = spec_fine (option_and_then (slice_get rec.type_spec) (index_in table.TYPE_SPEC token)) e (row_at token) h
    type_by token e false h = named_fine recs a rec token e h

    pub token_fine : (token : ℕ) (e : TypeExpr) → token_type recs a rec token ≡ Good e → Fine e
    unfolding token_type
    token_fine token e h = type_by token e (table_of token == table.TYPE_SPEC) h

  -- ---- bases

  only_by : (e b : TypeExpr) (c : Bool) → (if c then Some e else None) ≡ Some b → e ≡ b
  only_by e b true h = cc
  only_by e b false h = absurd (cc)

  named_base : (k : Known TypeExpr) (b : TypeExpr) → only_named (good_type k) ≡ Some b → k ≡ Good b
  named_base (Good e) b h = ap Good (only_by e b (is_named e) h)
  named_base (Bad why) b h = absurd (cc)

  row_base : (a : ℕ) (rec : AsmRec) (row : TypeDefRow) (b : TypeExpr) (c : Bool) → slice_get recs a ≡ Some rec
      → (if c then None else only_named (good_type (token_type recs a rec row.extends))) ≡ Some b → Fine b
  row_base a rec row b true there h = absurd (cc)
  row_base a rec row b false there h = token_fine a rec there row.extends b (named_base (token_type recs a rec row.extends) b h)

  base_at_fine : (at : RowAt) (b : TypeExpr) → base_at recs at ≡ Some b → Fine b
  base_at_fine at b h =
      let r = and_then_some (λ (rec : AsmRec). option_and_then (base_in recs at.asm rec) (slice_get rec.type_def at.row)) (slice_get recs at.asm) b h in
      let t = and_then_some (base_in recs at.asm r.0) (slice_get r.0.type_def at.row) b r.2 in
      row_base at.asm r.0 t.0 b (t.0.extends == 0 || is_interface_row t.0) r.1 t.2

  put_in : (e b : TypeExpr) → Fine e → Fine b → Fine (exprs.subst (args_of e) [] b)
  put_in e b h g = put_fine (args_of e) (args_fine e h) b g

  base_fine : (e b : TypeExpr) → Fine e → base_of recs e ≡ Some b → Fine b
  unfolding base_of
  base_fine e b fine h =
      let m = map_some (exprs.subst (args_of e) []) (option_and_then (base_at recs) (option_and_then (type_home recs) (owner_of recs e))) b h in
      let at = and_then_some (base_at recs) (option_and_then (type_home recs) (owner_of recs e)) m.0 m.1 in
      subst Fine m.2 (put_in e m.0 fine (base_at_fine at.0 m.0 at.2))

  next_fine : (n : ℕ) (o : Option TypeExpr) → ((b : TypeExpr) → o ≡ Some b → Every Fine (bases_from recs n b)) → Every Fine (elim o [ None ↦ [] | Some b ↦ bases_from recs n b ])
  next_fine n None h = all_none Fine
  next_fine n (Some b) h = h b refl

  bases_fine : (n : ℕ) (e : TypeExpr) → Fine e → Every Fine (bases_from recs n e)
  unfolding bases_from
  bases_fine zero e h = all_none Fine
  bases_fine (suc n) e h =
      all_more Fine e (elim (base_of recs e) [ None ↦ [] | Some b ↦ bases_from recs n b ]) h (next_fine n (base_of recs e) (λ b is. bases_fine n b (base_fine e b h is)))

  -- ---- a parent with its own parameters

  array_by : (e : TypeExpr) (o : Option TypeId) → Fine e → Fine (elim o [ Some t ↦ expr.Def t | None ↦ e ])
  array_by e None h = h
  array_by e (Some t) h = def t

  open_fine : (e : TypeExpr) → Fine e → Fine (open_parent recs e)
  unfolding open_parent
  open_fine e h =
      by_out (λ x. Fine (open_in recs e x)) (λ n. h) (λ t. h) (λ t args few all. own_fine t (length args) few) (λ x. array_by e (array_type recs) h) (λ x. h) (λ n. h) (λ n. h) (λ required by x. h) e h

  -- ---- what is found

  module _ (look : TypeExpr → Option RowAt) where
    next_owner : (e : TypeExpr) (x : Found) (later : Option Found) (o : Option RowAt) → Fine e → (later ≡ Some x → Fine x.owner) → or_next (option_map (found_in e) o) later ≡ Some x → Fine x.owner
    next_owner e x later None fine more h = more h
    next_owner e x later (Some at) fine more h = let same : found_in e at ≡ x = cc in subst (λ (y : Found). Fine y.owner) same fine

    search_owner : (es : List TypeExpr) (x : Found) → ((e : TypeExpr) → Contains es e → Fine e) → search look es ≡ Some x → Fine x.owner
    unfolding search
    search_owner [] x fine h = absurd (cc)
    search_owner (e ∷ es) x fine h = next_owner e x (search look es) (look e) (fine e (first_in e es)) (search_owner es x (λ y c. fine y (later_in e es y c))) h

    closed_owner : (parent : TypeExpr) (x : Found) → Fine parent → option_map (closed parent) (search look (with_bases recs (open_parent recs parent))) ≡ Some x → Fine x.owner
    closed_owner parent x fine h =
        let m = map_some (closed parent) (search look (with_bases recs (open_parent recs parent))) x h in
        let all = bases_fine (type_count recs) (open_parent recs parent) (open_fine parent fine) in
        subst (λ (y : Found). Fine y.owner) m.2 (put_in parent m.0.owner fine (search_owner (with_bases recs (open_parent recs parent)) m.0 all.each m.1))

  -- ---- methods

  method_by : (x : Found) (u : MethodUse) → Fine x.owner → (b : Bool) → nat_lt most_levels (exprs.levels x.owner) ≡ b
      → (if b then Bad (Outside 5) else Good (record { method = record { 0 = rows_before methods_in recs x.at.asm + x.at.row }; owner = x.owner; args = [] })) ≡ Good u → IsOwner u.owner
  method_by x u h true f e = absurd (cc)
  method_by x u h false f e =
      let same : record { method = record { 0 = rows_before methods_in recs x.at.asm + x.at.row }; owner = x.owner; args = [] } ≡ u = cc in
      subst (λ (v : MethodUse). IsOwner v.owner) same (record { fine = h; low = ltb-false 64 (exprs.levels x.owner) f })

  method_used : (o : Option Found) (u : MethodUse) → ((x : Found) → o ≡ Some x → Fine x.owner) → method_use recs o ≡ Good u → IsOwner u.owner
  method_used None u h e = absurd (cc)
  method_used (Some x) u h e = method_by x u (h x refl) (nat_lt most_levels (exprs.levels x.owner)) refl e

  method_found : (parent : TypeExpr) (name : List ℕ) (wanted : MethodType) (x : Found) → Fine parent → find_method recs parent name wanted ≡ Some x → Fine x.owner
  unfolding find_method
  method_found parent name wanted x fine h = closed_owner (method_of_type recs name wanted) parent x fine h

  -- ---- fields

  field_by : (x : Found) (u : FieldUse) → Fine x.owner → (b : Bool) → nat_lt most_levels (exprs.levels x.owner) ≡ b
      → (if b then Bad (Outside 5) else Good (record { field = record { 0 = rows_before fields_in recs x.at.asm + x.at.row }; owner = x.owner })) ≡ Good u → IsOwner u.owner
  field_by x u h true f e = absurd (cc)
  field_by x u h false f e =
      let same : record { field = record { 0 = rows_before fields_in recs x.at.asm + x.at.row }; owner = x.owner } ≡ u = cc in
      subst (λ (v : FieldUse). IsOwner v.owner) same (record { fine = h; low = ltb-false 64 (exprs.levels x.owner) f })

  field_used : (o : Option Found) (u : FieldUse) → ((x : Found) → o ≡ Some x → Fine x.owner) → field_use recs o ≡ Good u → IsOwner u.owner
  field_used None u h e = absurd (cc)
  field_used (Some x) u h e = field_by x u (h x refl) (nat_lt most_levels (exprs.levels x.owner)) refl e

  field_found : (parent : TypeExpr) (name : List ℕ) (wanted : TypeExpr) (x : Found) → Fine parent → find_field recs parent name wanted ≡ Some x → Fine x.owner
  unfolding find_field
  field_found parent name wanted x fine h = closed_owner (field_of_type recs name wanted) parent x fine h

  module _ (a : ℕ) (rec : AsmRec) (there : slice_get recs a ≡ Some rec) where
    method_in : (row : MemberRefRow) (parent : TypeExpr) (s : MemberSig) (u : MethodUse) → Fine parent → method_in_parent recs a rec row parent s ≡ Good u → IsOwner u.owner
    method_in row parent (member.Method s) u fine h =
        let k = known_good (λ (wanted : MethodType). method_use recs (find_method recs parent row.name wanted)) (method_type (names_at recs a rec) s) u h in
        method_used (find_method recs parent row.name k.0) u (λ x. method_found parent row.name k.0 x fine) k.2
    method_in row parent (member.Field s) u fine h = absurd (cc)

    method_kind : (row : MemberRefRow) (u : MethodUse) (b : Bool)
        → (if b then Bad Unresolved else known_then (λ (parent : TypeExpr). known_then (method_in_parent recs a rec row parent) row.signature) (parent_of recs a rec row)) ≡ Good u → IsOwner u.owner
    method_kind row u true h = absurd (cc)
    method_kind row u false h =
        let p = known_good (λ (parent : TypeExpr). known_then (method_in_parent recs a rec row parent) row.signature) (parent_of recs a rec row) u h in
        let s = known_good (method_in_parent recs a rec row p.0) row.signature u p.2 in
        method_in row p.0 s.0 u (token_fine a rec there row.class p.0 p.1) s.2

    ref_method : (o : Option MemberRefRow) (u : MethodUse) → ref_use_at recs a rec o ≡ Good u → IsOwner u.owner
    unfolding method_ref_use
    ref_method None u h = absurd (cc)
    ref_method (Some row) u h = method_kind row u (is_field_sig row.signature) h

    -- a definition in its own type
    own_by : (at : RowAt) (n : ℕ) → FitsNumber n → Fine (with_own_args recs at n)
    own_by at zero fits = definition_fine recs at
    own_by at (suc n) fits = own_fine (type_id recs at.asm at.row) (suc n) fits

    own_type_fine : (at : RowAt) → Fine (own_type recs rec at)
    unfolding own_type param_count
    own_type_fine at =
        let le = count_by-le-length (is_param_of (token_of table.TYPE_DEF (suc at.row))) rec.generic_param in
        let lt = few a rec there in
        own_by at (count_by (is_param_of (token_of table.TYPE_DEF (suc at.row))) rec.generic_param) (omega (arith, le, lt))

    member_by : (k : ℕ) (o : Option ℕ) (x : Found) → option_map (λ t. record { at = at_row a k; owner = own_type recs rec (at_row a t) }) o ≡ Some x → Fine x.owner
    member_by k None x h = absurd cc
    member_by k (Some t) x h =
        let same : record { at = at_row a k; owner = own_type recs rec (at_row a t) } ≡ x = cc in
        subst (λ (y : Found). Fine y.owner) same (own_type_fine (at_row a t))

    def_method : (o : Option ℕ) (u : MethodUse) → def_use_at recs a rec o ≡ Good u → IsOwner u.owner
    unfolding method_def_use
    def_method None u h = absurd cc
    def_method (Some k) u h = method_used (own_member recs a rec owns_method k) u (λ x e. member_by k (position_from (owns_method (suc k)) 0 rec.type_def) x e) h

    generic_by : (token : ℕ) (u : MethodUse) (c : Bool)
        → (if c then def_use_at recs a rec (row_below (methods_in rec) (index_in table.METHOD_DEF token)) else ref_use_at recs a rec (option_and_then (slice_get rec.member_ref) (index_in table.MEMBER_REF token))) ≡ Good u
        → IsOwner u.owner
    generic_by token u true h = def_method (row_below (methods_in rec) (index_in table.METHOD_DEF token)) u h
    generic_by token u false h = ref_method (option_and_then (slice_get rec.member_ref) (index_in table.MEMBER_REF token)) u h

    generic_owner : (token : ℕ) (u : MethodUse) → generic_method recs a rec token ≡ Good u → IsOwner u.owner
    unfolding generic_method
    generic_owner token u h = generic_by token u (table_of token == table.METHOD_DEF) h

    spec_owner : (o : Option MethodSpecRow) (u : MethodUse) → spec_use_at recs a rec o ≡ Good u → IsOwner u.owner
    unfolding method_spec_use
    spec_owner None u h = absurd cc
    spec_owner (Some row) u h =
        let g = known_good (λ (v : MethodUse). known_map (instantiated v) (known_then (arguments_of (names_at recs a rec)) row.instantiation)) (generic_method recs a rec row.method) u h in
        let m = mapped_good (instantiated g.0) (known_then (arguments_of (names_at recs a rec)) row.instantiation) u g.2 in
        subst (λ (v : MethodUse). IsOwner v.owner) m.2 (generic_owner row.method g.0 g.1)

    named_by : (token : ℕ) (u : MethodUse) (b : Bool)
        → (if b then spec_use_at recs a rec (option_and_then (slice_get rec.method_spec) (index_in table.METHOD_SPEC token)) else generic_method recs a rec token) ≡ Good u → IsOwner u.owner
    named_by token u true h = spec_owner (option_and_then (slice_get rec.method_spec) (index_in table.METHOD_SPEC token)) u h
    named_by token u false h = generic_owner token u h

    pub method_owner : (token : ℕ) (u : MethodUse) → method_named recs a rec token ≡ Good u → IsOwner u.owner
    unfolding method_named
    method_owner token u h = named_by token u (table_of token == table.METHOD_SPEC) h

    field_in : (row : MemberRefRow) (parent : TypeExpr) (s : MemberSig) (u : FieldUse) → Fine parent → field_in_parent recs a rec row parent s ≡ Good u → IsOwner u.owner
    field_in row parent (member.Field s) u fine h =
        let k = known_good (λ (wanted : TypeExpr). field_use recs (find_field recs parent row.name wanted)) (sig_expr (names_at recs a rec) s) u h in
        field_used (find_field recs parent row.name k.0) u (λ x. field_found parent row.name k.0 x fine) k.2
    field_in row parent (member.Method s) u fine h = absurd (cc)

    field_kind : (row : MemberRefRow) (u : FieldUse) (b : Bool)
        → (if b then Bad Unresolved else known_then (λ (parent : TypeExpr). known_then (field_in_parent recs a rec row parent) row.signature) (parent_of recs a rec row)) ≡ Good u → IsOwner u.owner
    field_kind row u true h = absurd (cc)
    field_kind row u false h =
        let p = known_good (λ (parent : TypeExpr). known_then (field_in_parent recs a rec row parent) row.signature) (parent_of recs a rec row) u h in
        let s = known_good (field_in_parent recs a rec row p.0) row.signature u p.2 in
        field_in row p.0 s.0 u (token_fine a rec there row.class p.0 p.1) s.2

    ref_field : (o : Option MemberRefRow) (u : FieldUse) → field_ref_at recs a rec o ≡ Good u → IsOwner u.owner
    unfolding field_ref_use
    ref_field None u h = absurd (cc)
    ref_field (Some row) u h = field_kind row u (is_method_sig row.signature) h

    def_field : (o : Option ℕ) (u : FieldUse) → field_def_at recs a rec o ≡ Good u → IsOwner u.owner
    unfolding field_def_use
    def_field None u h = absurd cc
    def_field (Some k) u h = field_used (own_member recs a rec owns_field k) u (λ x e. member_by k (position_from (owns_field (suc k)) 0 rec.type_def) x e) h

    field_named_by : (token : ℕ) (u : FieldUse) (b : Bool)
        → (if b then field_def_at recs a rec (row_below (fields_in rec) (index_in table.FIELD token)) else field_ref_at recs a rec (option_and_then (slice_get rec.member_ref) (index_in table.MEMBER_REF token))) ≡ Good u
        → IsOwner u.owner
    field_named_by token u true h = def_field (row_below (fields_in rec) (index_in table.FIELD token)) u h
    field_named_by token u false h = ref_field (option_and_then (slice_get rec.member_ref) (index_in table.MEMBER_REF token)) u h

    pub field_owner : (token : ℕ) (u : FieldUse) → field_named recs a rec token ≡ Good u → IsOwner u.owner
    unfolding field_named
    field_owner token u h = field_named_by token u (table_of token == table.FIELD) h
