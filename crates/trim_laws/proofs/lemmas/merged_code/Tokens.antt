-- Which table a token is of that names something, and so whether `ldtoken` of it is of a type, a field or a method (III.4.17).
use Rattle.std.proofs.Common.{◌≡◌, ℕ, Bool, true, false, List, Option, Some, None, ◌⊎◌, inl, inr, refl, ap, ◌∙◌, arith, eqb-true}
use Rattle.std.specs.Prelude.{slice_get, ◌==◌, ◌&&◌, ◌||◌, if◌then◌else◌}
use Rattle.std.specs.Option.{option_map, option_and_then}
use Rattle.std.proofs.lemmas.Bool.{ne_eqb}
use Rattle.il_base.specs.declared.table.TheConstants as table
use Rattle.il_base.specs.declared.world_model.known.Known.{Known}
use Rattle.il_base.specs.declared.world_model.known.Known.TheVariants.{Good, Bad}
use Rattle.il_base.specs.declared.world_model.known.BadKind.TheVariants.{Unresolved}
use Rattle.il_base.specs.declared.world_model.expr.TypeExpr.{TypeExpr}
use Rattle.il_base.specs.declared.world_model.expr.MemberSig.{MemberSig}
use Rattle.il_base.specs.declared.world_model.expr.MemberSig.TheVariants as member
use Rattle.il_base.specs.declared.world_model.expr.MethodUse.{MethodUse}
use Rattle.il_base.specs.declared.world_model.expr.FieldUse.{FieldUse}
use Rattle.il_base.specs.declared.world_model.members.MemberRefRow.{MemberRefRow}
use Rattle.il_base.specs.declared.world_model.record.AsmRec.{AsmRec}
use Rattle.il_base.specs.world_model.Tokens.{table_of, row_index, index_in}
use Rattle.il_base.specs.world_model.Worlds.{known_then, row_below, types_in}
use Rattle.rules.specs.declared.link_rules.row_at.RowAt.{RowAt}
use Rattle.rules.specs.link_rules.Types.{at_row, ref_definition, definition_at}
use Rattle.rules.specs.link_rules.Signatures.{named_type, spec_type_at, token_type}
use Rattle.rules.specs.link_rules.Members.{methods_in, fields_in, is_field_sig, is_method_sig, parent_of, method_in_parent, field_in_parent, method_ref_use, field_ref_use, ref_use_at, def_use_at, generic_method}
use Rattle.rules.specs.mark_rules.Naming.{spec_use_at, method_named, field_def_at, field_ref_at, field_named}
use Rattle.rules.specs.mark_rules.Bodies.{is_field_row, is_field_token, is_method_token}
use Rattle.merge_laws.proofs.lemmas.merged_signatures.Reading.{good_then}
use Rattle.merge_laws.proofs.lemmas.merged_signatures.Agreeing.{defines}

index_by : (t token k : ℕ) (b : Bool) → (table_of token == t) ≡ b → (if b then row_index token else None) ≡ Some k → table_of token ≡ t
index_by t token k true e f = eqb-true (table_of token) t e
index_by t token k false e f = cc

index_table : (t token k : ℕ) → index_in t token ≡ Some k → table_of token ≡ t
index_table t token k e = index_by t token k (table_of token == t) refl e

chained : {A : Type 0} (f : ℕ → Option A) (t token : ℕ) (o : Option ℕ) (x : A) → index_in t token ≡ o → option_and_then f o ≡ Some x → table_of token ≡ t
chained f t token None x e g = cc
chained f t token (Some k) x e g = index_table t token k e

module _ (recs : List AsmRec) (a : ℕ) (rec : AsmRec) (token : ℕ) where
  abbrev member_row : Option MemberRefRow
  member_row = option_and_then (slice_get rec.member_ref) (index_in table.MEMBER_REF token)

  -- ---- by the table

  field_is : (t : ℕ) (q : Bool) → table_of token ≡ t → is_field_row member_row ≡ q → is_field_token rec token ≡ (t == table.FIELD || (t == table.MEMBER_REF && q))
  field_is t q e f = λ i. e i == table.FIELD || (e i == table.MEMBER_REF && f i)

  method_is : (t : ℕ) → table_of token ≡ t → is_method_token token ≡ (t == table.METHOD_DEF || t == table.MEMBER_REF || t == table.METHOD_SPEC)
  method_is t e = ap (λ (n : ℕ). n == table.METHOD_DEF || n == table.MEMBER_REF || n == table.METHOD_SPEC) e

  -- ---- types

  pub record NamesType : Type 0 where
    pub field : is_field_token rec token ≡ false
    pub method : is_method_token token ≡ false
    pub some : (token == 0) ≡ false

  type_table : (t : ℕ) → table_of token ≡ t → (t ≡ table.TYPE_SPEC) ⊎ ((t ≡ table.TYPE_DEF) ⊎ (t ≡ table.TYPE_REF)) → NamesType
  type_table t e (inl s) =
      let n : table_of token ≡ table.TYPE_SPEC = e ∙ s in
      record { field = field_is table.TYPE_SPEC (is_field_row member_row) n refl; method = method_is table.TYPE_SPEC n; some = ne_eqb token 0 (λ z. absurd (omega (arith, n, z))) }
  type_table t e (inr (inl s)) =
      let n : table_of token ≡ table.TYPE_DEF = e ∙ s in
      record { field = field_is table.TYPE_DEF (is_field_row member_row) n refl; method = method_is table.TYPE_DEF n; some = ne_eqb token 0 (λ z. absurd (omega (arith, n, z))) }
  type_table t e (inr (inr s)) =
      let n : table_of token ≡ table.TYPE_REF = e ∙ s in
      record { field = field_is table.TYPE_REF (is_field_row member_row) n refl; method = method_is table.TYPE_REF n; some = ne_eqb token 0 (λ z. absurd (omega (arith, n, z))) }

  defined_by : (at : RowAt) (b : Bool) → (table_of token == table.TYPE_DEF) ≡ b
      → (if b then option_map (at_row a) (row_below (types_in rec) (index_in table.TYPE_DEF token)) else option_and_then (ref_definition recs a rec) (index_in table.TYPE_REF token)) ≡ Some at → NamesType
  defined_by at true e f = type_table table.TYPE_DEF (eqb-true (table_of token) table.TYPE_DEF e) (inr (inl refl))
  defined_by at false e f = type_table table.TYPE_REF (chained (ref_definition recs a rec) table.TYPE_REF token (index_in table.TYPE_REF token) at refl f) (inr (inr refl))

  defined : (at : RowAt) → definition_at recs a rec token ≡ Some at → NamesType
  unfolding definition_at
  defined at e = defined_by at (table_of token == table.TYPE_DEF) refl e

  type_by : (e : TypeExpr) (b : Bool) → (table_of token == table.TYPE_SPEC) ≡ b
      → (if b then spec_type_at recs a rec (option_and_then (slice_get rec.type_spec) (index_in table.TYPE_SPEC token)) else named_type recs a rec token) ≡ Good e → NamesType
  type_by e true f g = type_table table.TYPE_SPEC (eqb-true (table_of token) table.TYPE_SPEC f) (inl refl)
  type_by e false f g = let d = defines recs a rec token e g in defined d.at d.is

  pub names_type : (e : TypeExpr) → token_type recs a rec token ≡ Good e → NamesType
  unfolding token_type
  names_type e g = type_by e (table_of token == table.TYPE_SPEC) refl g

  -- ---- methods

  pub record NamesMethod : Type 0 where
    pub field : is_field_token rec token ≡ false
    pub method : is_method_token token ≡ true

  sig_by : (b : Bool) (k : Known MethodUse) (u : MethodUse) → (if b then Bad Unresolved else k) ≡ Good u → b ≡ false
  sig_by true k u e = cc
  sig_by false k u e = refl

  method_row : (row : MemberRefRow) (u : MethodUse) → method_ref_use recs a rec row ≡ Good u → is_field_sig row.signature ≡ false
  unfolding method_ref_use
  method_row row u e = sig_by (is_field_sig row.signature) (known_then (λ (parent : TypeExpr). known_then (method_in_parent recs a rec row parent) row.signature) (parent_of recs a rec row)) u e

  method_ref : (o : Option MemberRefRow) (u : MethodUse) → member_row ≡ o → ref_use_at recs a rec o ≡ Good u → NamesMethod
  method_ref None u e g = cc
  method_ref (Some row) u e g =
      let n = chained (slice_get rec.member_ref) table.MEMBER_REF token (index_in table.MEMBER_REF token) row refl e in
      record { field = field_is table.MEMBER_REF false n (ap is_field_row e ∙ method_row row u g); method = method_is table.MEMBER_REF n }

  generic_by : (u : MethodUse) (b : Bool) → (table_of token == table.METHOD_DEF) ≡ b → (if b then def_use_at recs a rec (row_below (methods_in rec) (index_in table.METHOD_DEF token)) else ref_use_at recs a rec member_row) ≡ Good u → NamesMethod
  generic_by u true f g =
      let n = eqb-true (table_of token) table.METHOD_DEF f in
      record { field = field_is table.METHOD_DEF (is_field_row member_row) n refl; method = method_is table.METHOD_DEF n }
  generic_by u false f g = method_ref member_row u refl g

  generic : (u : MethodUse) → generic_method recs a rec token ≡ Good u → NamesMethod
  unfolding generic_method
  generic u g = generic_by u (table_of token == table.METHOD_DEF) refl g

  method_by : (u : MethodUse) (b : Bool) → (table_of token == table.METHOD_SPEC) ≡ b
      → (if b then spec_use_at recs a rec (option_and_then (slice_get rec.method_spec) (index_in table.METHOD_SPEC token)) else generic_method recs a rec token) ≡ Good u → NamesMethod
  method_by u true f g =
      let n = eqb-true (table_of token) table.METHOD_SPEC f in
      record { field = field_is table.METHOD_SPEC (is_field_row member_row) n refl; method = method_is table.METHOD_SPEC n }
  method_by u false f g = generic u g

  pub names_method : (u : MethodUse) → method_named recs a rec token ≡ Good u → NamesMethod
  unfolding method_named
  names_method u g = method_by u (table_of token == table.METHOD_SPEC) refl g

  -- ---- fields

  field_sig : (parent : TypeExpr) (row : MemberRefRow) (u : FieldUse) (s : MemberSig) → field_in_parent recs a rec row parent s ≡ Good u → is_field_sig (Good s) ≡ true
  field_sig parent row u (member.Field s) e = refl
  field_sig parent row u (member.Method s) e = cc

  use_by : (b : Bool) (k : Known FieldUse) (u : FieldUse) → (if b then Bad Unresolved else k) ≡ Good u → k ≡ Good u
  use_by true k u e = cc
  use_by false k u e = e

  field_row : (row : MemberRefRow) (u : FieldUse) → field_ref_use recs a rec row ≡ Good u → is_field_sig row.signature ≡ true
  unfolding field_ref_use
  field_row row u e =
      let g = good_then (λ (parent : TypeExpr). known_then (field_in_parent recs a rec row parent) row.signature) (parent_of recs a rec row) u
      (use_by (is_method_sig row.signature) (known_then (λ (parent : TypeExpr). known_then (field_in_parent recs a rec row parent) row.signature) (parent_of recs a rec row)) u e) in
      let h = good_then (field_in_parent recs a rec row g.from) row.signature u g.gives in
      ap is_field_sig h.is ∙ field_sig g.from row u h.from h.gives

  field_ref : (o : Option MemberRefRow) (u : FieldUse) → member_row ≡ o → field_ref_at recs a rec o ≡ Good u → is_field_token rec token ≡ true
  field_ref None u e g = cc
  field_ref (Some row) u e g =
      let n = chained (slice_get rec.member_ref) table.MEMBER_REF token (index_in table.MEMBER_REF token) row refl e in
      field_is table.MEMBER_REF true n (ap is_field_row e ∙ field_row row u g)

  field_by : (u : FieldUse) (b : Bool) → (table_of token == table.FIELD) ≡ b → (if b then field_def_at recs a rec (row_below (fields_in rec) (index_in table.FIELD token)) else field_ref_at recs a rec member_row) ≡ Good u
      → is_field_token rec token ≡ true
  field_by u true f g = field_is table.FIELD (is_field_row member_row) (eqb-true (table_of token) table.FIELD f) refl
  field_by u false f g = field_ref member_row u refl g

  pub names_field : (u : FieldUse) → field_named recs a rec token ≡ Good u → is_field_token rec token ≡ true
  unfolding field_named
  names_field u g = field_by u (table_of token == table.FIELD) refl g
