-- What a token of a member meets has each type of the core library that the member's owner and its arguments name.
use Rattle.std.proofs.Common.{◌≡◌, ◌<◌, ℕ, zero, suc, ◌+◌, ◌-◌, Bool, true, false, nat_lt, List, [], ◌∷◌, ◌++◌, length, map, Option, Some, None, refl, sym, ap, subst, ◌∙◌, inl, inr, arith}
use Rattle.std.specs.Prelude.{slice_get, ◌==◌, ◌||◌, if◌then◌else◌}
use Rattle.std.specs.List.{Contains, flat_map, position_from}
use Rattle.std.specs.Option.{option_and_then, option_map}
use Rattle.std.proofs.lemmas.List.Elements.{Contains-append_left, Contains-append_right, Contains-append_cases}
use Rattle.il_base.specs.declared.ids.TypeId.{TypeId}
use Rattle.il_base.specs.declared.ids.Item.TheVariants as item
use Rattle.il_base.specs.declared.sig.Sig.{Sig}
use Rattle.il_base.specs.declared.table.TheConstants as table
use Rattle.il_base.specs.declared.cli_format.column.CodedIndex.TheVariants.{MethodDefOrRef}
use Rattle.il_base.specs.declared.world_model.known.Known.{Known}
use Rattle.il_base.specs.declared.world_model.known.Known.TheVariants.{Good, Bad}
use Rattle.il_base.specs.declared.world_model.known.BadKind.TheVariants.{Unresolved, Outside}
use Rattle.il_base.specs.declared.world_model.expr.TypeExpr.{TypeExpr}
use Rattle.il_base.specs.declared.world_model.expr.MethodUse.{MethodUse}
use Rattle.il_base.specs.declared.world_model.expr.FieldUse.{FieldUse}
use Rattle.il_base.specs.declared.world_model.expr.MemberSig.{MemberSig}
use Rattle.il_base.specs.declared.world_model.expr.MemberSig.TheVariants as member
use Rattle.il_base.specs.declared.world_model.members.MemberRefRow.{MemberRefRow}
use Rattle.il_base.specs.declared.world_model.members.MethodSpecRow.{MethodSpecRow}
use Rattle.il_base.specs.declared.world_model.types.TypeDefRow.{TypeDefRow}
use Rattle.il_base.specs.declared.world_model.record.AsmRec.{AsmRec}
use Rattle.il_base.specs.world_model.Tokens.{table_of, index_in}
use Rattle.il_base.specs.world_model.Exprs.{levels}
use Rattle.il_base.specs.world_model.Worlds.{types_in, known_map, known_then, all_known, rows_before, row_below, sig_expr}
use Rattle.rules.specs.declared.link_rules.row_at.RowAt.{RowAt}
use Rattle.rules.specs.declared.link_rules.member_type.MethodType.{MethodType}
use Rattle.rules.specs.link_rules.Types.{at_row}
use Rattle.rules.specs.link_rules.Cycles.{listed}
use Rattle.rules.specs.link_rules.Signatures.{names_at, method_type}
use Rattle.rules.specs.link_rules.Members.{Found, find_method, methods_in, fields_in, most_levels, method_use, field_use, own_member, owns_method, owns_field, own_type, method_def_use, field_def_use, is_field_sig, parent_of, method_in_parent, method_ref_use, instantiated, arguments_of, method_spec_use, ref_use_at, def_use_at, generic_method}
use Rattle.base_laws.proofs.lemmas.type_laws.Places.{place_within}
use Rattle.base_laws.proofs.lemmas.walk_laws.Finds as finds
use Rattle.base_laws.proofs.lemmas.known_laws.Lists.{none_in, first_in, later_in, one_is, head_or, to_map, to_option, to_listed, to_flat, and_then_some, map_some}
use Rattle.rules.specs.mark_rules.Facts.Fact.{marked}
use Rattle.rules.specs.mark_rules.Naming as naming
use Rattle.rules.specs.mark_rules.Naming.{of_expr, of_exprs, of_method_use, of_field_use, spec_use_at, method_named, field_def_at, field_ref_at, field_named}
use Rattle.rules.specs.merge_rules.Keys.{TypeKey, MethodKey, own_method, found_method, FieldKey, own_field, found_field, InstanceKey, good, world_sig, world_sigs, is_plain_owner, method_key_of, field_key_of, expr_key, method_key, field_key, instance_by, instance_key}
use Rattle.rules.specs.merge_rules.Order.{Met, met_method, met_field, met_instance, met_callee, met_field_token}
use Rattle.rules.specs.merge_rules.Refs.{types_of_key, types_of_sig, types_of_sigs, types_of_method_sig, types_of_owner, types_of_method, types_of_field, types_of_met, own_method_sig, own_field_sig, method_at, field_at}
use Rattle.merge_laws.specs.merged_record.Laws.{InputsAreRecords}
use Rattle.merge_laws.proofs.lemmas.merged_record.Tokens.{of_coded}
use Rattle.merge_laws.proofs.lemmas.merged_signatures.Reading.{good_map, good_then}
use Rattle.merge_laws.proofs.lemmas.merged_tokens.Bodies.{no_spec}
use Rattle.trim_laws.proofs.lemmas.kept_parts.Named.{KeyHas, owner_has, sig_has}
use Rattle.trim_laws.proofs.lemmas.kept_parts.Uses.{type_in, InOne, type_in_one, IsCore, plain_none, own_none}

-- something that is met has the type
pub record Meets (recs : List AsmRec) (ms : List Met) (t : TypeId) : Type 0 where
  pub met : Met
  pub there : Contains ms met
  pub has : Contains (types_of_met recs met) t

module _ (recs : List AsmRec) where
  owner_types : (e : TypeExpr) (rest : List TypeId) (t : TypeId) → Contains (naming.types_in e) t → Contains (types_of_owner recs e ++ rest) t
  owner_types e rest t c =
      let k = owner_has recs e t c in
      Contains-append_left (types_of_owner recs e) rest t (to_option types_of_key (expr_key recs e) k.key t k.is k.has)

  -- ---- uses

  record OfUse (u : MethodUse) (x : Found) : Type 0 where
    owner : u.owner ≡ x.owner
    args : u.args ≡ []

  use_by : (x : Found) (u : MethodUse) (b : Bool)
      → (if b then Bad (Outside 5) else Good (record { method = record { 0 = rows_before methods_in recs x.at.asm + x.at.row }; owner = x.owner; args = [] })) ≡ Good u → OfUse u x
  use_by x u true e = absurd (cc)
  use_by x u false e =
      let same : record { method = record { 0 = rows_before methods_in recs x.at.asm + x.at.row }; owner = x.owner; args = [] } ≡ u = cc in
      record { owner = sym (ap (λ (v : MethodUse). v.owner) same); args = sym (ap (λ (v : MethodUse). v.args) same) }

  use_is : (o : Option Found) (u : MethodUse) → method_use recs o ≡ Good u → (x : Found) × (o ≡ Some x) × OfUse u x
  use_is None u e = absurd (cc)
  use_is (Some x) u e = (x, refl, use_by x u (nat_lt most_levels (levels x.owner)) e)

  field_use_by : (x : Found) (u : FieldUse) (b : Bool)
      → (if b then Bad (Outside 5) else Good (record { field = record { 0 = rows_before fields_in recs x.at.asm + x.at.row }; owner = x.owner })) ≡ Good u → u.owner ≡ x.owner
  field_use_by x u true e = absurd (cc)
  field_use_by x u false e =
      let same : record { field = record { 0 = rows_before fields_in recs x.at.asm + x.at.row }; owner = x.owner } ≡ u = cc in
      sym (ap (λ (v : FieldUse). v.owner) same)

  field_use_is : (o : Option Found) (u : FieldUse) → field_use recs o ≡ Good u → (x : Found) × (o ≡ Some x) × (u.owner ≡ x.owner)
  field_use_is None u e = absurd (cc)
  field_use_is (Some x) u e = (x, refl, field_use_by x u (nat_lt most_levels (levels x.owner)) e)

  module _ (a : ℕ) (rec : AsmRec) (there : slice_get recs a ≡ Some rec) (input : suc a < length recs) where
    -- ---- members by their own rows

    own_owner_none : (owns : ℕ → TypeDefRow → Bool) (k : ℕ) (x : Found) (t : TypeId) → own_member recs a rec owns k ≡ Some x → Contains (naming.types_in x.owner) t → IsCore recs t → ⊥
    own_owner_none owns k x t e c core =
        let m = map_some (λ j. record { at = at_row a k; owner = own_type recs rec (at_row a j) }) (position_from (owns (suc k)) 0 rec.type_def) x e in
        let f = finds.found (owns (suc k)) 0 rec.type_def m.0 m.1 in
        let is = f.is in
        let place : f.place ≡ m.0 = omega (arith, is) in
        let lt : m.0 < types_in rec = subst (λ (j : ℕ). j < types_in rec) place (place_within rec.type_def f.place f.item f.there) in
        own_none recs a m.0 rec there input lt t (subst (λ (y : Found). Contains (naming.types_in y.owner) t) (sym m.2) c) core

    def_by : (o : Option ℕ) (u : MethodUse) → def_use_at recs a rec o ≡ Good u → (x : Found) × OfUse u x × ((t : TypeId) → Contains (naming.types_in x.owner) t → IsCore recs t → ⊥)
    unfolding method_def_use
    def_by None u h = absurd (cc)
    def_by (Some k) u h = let r = use_is (own_member recs a rec owns_method k) u h in (r.0, r.2, λ t c core. own_owner_none owns_method k r.0 t r.1 c core)

    ref_in : (row : MemberRefRow) (parent : TypeExpr) (s : MemberSig) (u : MethodUse) → method_in_parent recs a rec row parent s ≡ Good u → u.args ≡ []
    ref_in row parent (member.Method s) u h =
        let k = good_then (λ (wanted : MethodType). method_use recs (find_method recs parent row.name wanted)) (method_type (names_at recs a rec) s) u h in
        (use_is (find_method recs parent row.name k.from) u k.gives).2.args
    ref_in row parent (member.Field s) u h = absurd (cc)

    ref_kind : (row : MemberRefRow) (u : MethodUse) (b : Bool)
        → (if b then Bad Unresolved else known_then (λ (parent : TypeExpr). known_then (method_in_parent recs a rec row parent) row.signature) (parent_of recs a rec row)) ≡ Good u → u.args ≡ []
    ref_kind row u true h = absurd (cc)
    ref_kind row u false h =
        let p = good_then (λ (parent : TypeExpr). known_then (method_in_parent recs a rec row parent) row.signature) (parent_of recs a rec row) u h in
        let s = good_then (method_in_parent recs a rec row p.from) row.signature u p.gives in
        ref_in row p.from s.from u s.gives

    ref_by : (o : Option MemberRefRow) (u : MethodUse) → ref_use_at recs a rec o ≡ Good u → u.args ≡ []
    unfolding method_ref_use
    ref_by None u h = absurd (cc)
    ref_by (Some row) u h = ref_kind row u (is_field_sig row.signature) h

    -- a MethodDef or MemberRef token: no arguments, and its key has what its owner names
    key_by : (u : MethodUse) (t : TypeId) (own p : Bool) → is_plain_owner recs u.owner ≡ p → (own ≡ true → Contains (naming.types_in u.owner) t → IsCore recs t → ⊥) → Contains (naming.types_in u.owner) t → IsCore recs t
        → Contains (types_of_method recs (if own || p then own_method u.method else found_method u.method u.owner)) t
    key_by u t true p e none c core = absurd (none refl c core)
    key_by u t false true e none c core = absurd (plain_none recs u.owner t e c core)
    key_by u t false false e none c core = owner_types u.owner (flat_map types_of_method_sig (flat_map (own_method_sig recs) (listed (method_at recs u.method)))) t c

    generic_by : (token : ℕ) (u : MethodUse) (b : Bool)
        → (if b then def_use_at recs a rec (row_below (methods_in rec) (index_in table.METHOD_DEF token)) else ref_use_at recs a rec (option_and_then (slice_get rec.member_ref) (index_in table.MEMBER_REF token))) ≡ Good u
        → (u.args ≡ []) × ((t : TypeId) → b ≡ true → Contains (naming.types_in u.owner) t → IsCore recs t → ⊥)
    generic_by token u true h =
        let d = def_by (row_below (methods_in rec) (index_in table.METHOD_DEF token)) u h in
        (d.1.args, λ t e c core. d.2 t (subst (λ (x : TypeExpr). Contains (naming.types_in x) t) d.1.owner c) core)
    generic_by token u false h = (ref_by (option_and_then (slice_get rec.member_ref) (index_in table.MEMBER_REF token)) u h, λ t e c core. let f : false ≡ true = e in absurd (cc))

    generic_is : (token : ℕ) (u : MethodUse) → generic_method recs a rec token ≡ Good u
        → (u.args ≡ []) × ((t : TypeId) → (table_of token == table.METHOD_DEF) ≡ true → Contains (naming.types_in u.owner) t → IsCore recs t → ⊥)
    unfolding generic_method
    generic_is token u h = generic_by token u (table_of token == table.METHOD_DEF) h

    generic_has : (token : ℕ) (u : MethodUse) (t : TypeId) → generic_method recs a rec token ≡ Good u → Contains (naming.types_in u.owner) t → IsCore recs t
        → Contains (types_of_method recs (method_key_of recs (table_of token == table.METHOD_DEF) u)) t
    generic_has token u t h c core = key_by u t (table_of token == table.METHOD_DEF) (is_plain_owner recs u.owner) refl ((generic_is token u h).1 t) c core

    -- ---- what the token meets

    named_plain : (token : ℕ) → (table_of token == table.METHOD_SPEC) ≡ false → method_named recs a rec token ≡ generic_method recs a rec token
    unfolding method_named
    named_plain token s = ap (λ (b : Bool). if b then spec_use_at recs a rec (option_and_then (slice_get rec.method_spec) (index_in table.METHOD_SPEC token)) else generic_method recs a rec token) s

    named_spec : (token : ℕ) → (table_of token == table.METHOD_SPEC) ≡ true → method_named recs a rec token ≡ spec_use_at recs a rec (option_and_then (slice_get rec.method_spec) (index_in table.METHOD_SPEC token))
    unfolding method_named
    named_spec token s = ap (λ (b : Bool). if b then spec_use_at recs a rec (option_and_then (slice_get rec.method_spec) (index_in table.METHOD_SPEC token)) else generic_method recs a rec token) s

    key_is : (token : ℕ) (u : MethodUse) → (table_of token == table.METHOD_SPEC) ≡ false → generic_method recs a rec token ≡ Good u → method_key recs a rec token ≡ Some (method_key_of recs (table_of token == table.METHOD_DEF) u)
    unfolding method_key
    key_is token u s h = ap (λ (x : Known MethodUse). option_map (method_key_of recs (table_of token == table.METHOD_DEF)) (good x)) (named_plain token s ∙ h)

    -- the types that a use names
    owner_or_arg : (u : MethodUse) (t : TypeId) (P : Type 0) → Contains (of_method_use u) (marked (item.Typ t)) → (Contains (naming.types_in u.owner) t → P) → (InOne u.args t → P) → P
    owner_or_arg u t P c f g =
        elim (head_or (marked (item.Method u.method)) (of_expr u.owner ++ of_exprs u.args) (marked (item.Typ t)) c) [
          | inl e ↦ absurd (cc)
          | inr d ↦ elim (Contains-append_cases (of_expr u.owner) (of_exprs u.args) (marked (item.Typ t)) d) [ inl i ↦ f (type_in u.owner t i) | inr i ↦ g (type_in_one u.args t i) ]
        ]

    plain_meets : (token : ℕ) (u : MethodUse) (t : TypeId) → (table_of token == table.METHOD_SPEC) ≡ false → generic_method recs a rec token ≡ Good u → Contains (of_method_use u) (marked (item.Typ t)) → IsCore recs t
        → Meets recs (map met_method (listed (method_key recs a rec token))) t
    plain_meets token u t s h c core =
        let k : MethodKey = method_key_of recs (table_of token == table.METHOD_DEF) u in
        owner_or_arg u t (Meets recs (map met_method (listed (method_key recs a rec token))) t) c
        (λ d. record { met = met_method k; there = to_map met_method (listed (method_key recs a rec token)) k (to_listed (method_key recs a rec token) k (key_is token u s h)); has = generic_has token u t h d core })
        (λ o. absurd (none_in o.expr (subst (λ (es : List TypeExpr). Contains es o.expr) (generic_is token u h).0 o.there)))

    -- arguments
    pub args_have : (ss : List Sig) (es : List TypeExpr) (e : TypeExpr) (t : TypeId) → all_known (map (sig_expr (names_at recs a rec)) ss) ≡ Good es → Contains es e → Contains (naming.types_in e) t → Contains (types_of_sigs (world_sigs recs a rec ss)) t
    args_have [] es e t h c d = let same : [] ≡ es = cc in absurd (none_in e (subst (λ (ys : List TypeExpr). Contains ys e) (sym same) c))
    args_have (s ∷ ss) es e t h c d =
        let k = good_then (λ (y : TypeExpr). known_map (λ ys. y ∷ ys) (all_known (map (sig_expr (names_at recs a rec)) ss))) (sig_expr (names_at recs a rec) s) es h in
        let m = good_map (λ ys. k.from ∷ ys) (all_known (map (sig_expr (names_at recs a rec)) ss)) es k.gives in
        elim (head_or k.from m.from e (subst (λ (ys : List TypeExpr). Contains ys e) (sym m.gives) c)) [
          | inl f ↦
              Contains-append_left (types_of_sig (world_sig recs a rec s)) (types_of_sigs (world_sigs recs a rec ss)) t
              (sig_has recs a rec s k.from t k.is (subst (λ (x : TypeExpr). Contains (naming.types_in x) t) (sym f) d))
          | inr f ↦ Contains-append_right (types_of_sig (world_sig recs a rec s)) (types_of_sigs (world_sigs recs a rec ss)) t (args_have ss m.from e t m.is f d)
        ]

    module _ (records : InputsAreRecords recs) where
      spec_has : (j : ℕ) (row : MethodSpecRow) (u : MethodUse) (t : TypeId) → slice_get rec.method_spec j ≡ Some row → method_spec_use recs a rec row ≡ Good u → Contains (of_method_use u) (marked (item.Typ t)) → IsCore recs t
          → (i : InstanceKey) × (instance_by recs a rec row ≡ Some i) × Contains (types_of_met recs (met_instance i)) t
      unfolding method_spec_use
      spec_has j row u t is h c core =
          let s = no_spec (table_of row.method) (of_coded rec MethodDefOrRef row.method ((records a rec input there).tokens.method_specs j row is)).table in
          let g = good_then (λ (v : MethodUse). known_map (instantiated v) (known_then (arguments_of (names_at recs a rec)) row.instantiation)) (generic_method recs a rec row.method) u h in
          let x = good_map (instantiated g.from) (known_then (arguments_of (names_at recs a rec)) row.instantiation) u g.gives in
          let y = good_then (arguments_of (names_at recs a rec)) row.instantiation x.from x.is in
          let k : MethodKey = method_key_of recs (table_of row.method == table.METHOD_DEF) g.from in
          let i : InstanceKey = record { method = k; args = world_sigs recs a rec y.from } in
          let key : instance_by recs a rec row ≡ Some i =
          ap (λ (o : Option MethodKey). option_and_then (λ m. option_map (λ (args : List Sig). record { method = m; args = world_sigs recs a rec args }) (good row.instantiation)) o) (key_is row.method g.from s g.is)
          ∙ ap (λ (z : Known (List Sig)). option_map (λ (args : List Sig). record { method = k; args = world_sigs recs a rec args }) (good z)) y.is in
          let uses : Contains (of_method_use (instantiated g.from x.from)) (marked (item.Typ t)) = subst (λ (v : MethodUse). Contains (of_method_use v) (marked (item.Typ t))) (sym x.gives) c in (
            i,
            key,
            owner_or_arg (instantiated g.from x.from) t (Contains (types_of_met recs (met_instance i)) t) uses
                (λ d. Contains-append_left (types_of_method recs k) (types_of_sigs (world_sigs recs a rec y.from)) t (generic_has row.method g.from t g.is d core))
                (λ o. Contains-append_right (types_of_method recs k) (types_of_sigs (world_sigs recs a rec y.from)) t (args_have y.from x.from o.expr t y.gives o.there o.inside)),
          )

      spec_by : (token : ℕ) (o : Option MethodSpecRow) (u : MethodUse) (t : TypeId) → option_and_then (slice_get rec.method_spec) (index_in table.METHOD_SPEC token) ≡ o → spec_use_at recs a rec o ≡ Good u
          → Contains (of_method_use u) (marked (item.Typ t)) → IsCore recs t → (i : InstanceKey) × (option_and_then (instance_by recs a rec) o ≡ Some i) × Contains (types_of_met recs (met_instance i)) t
      spec_by token None u t e h c core = absurd (cc)
      spec_by token (Some row) u t e h c core = let k = and_then_some (slice_get rec.method_spec) (index_in table.METHOD_SPEC token) row e in spec_has k.0 row u t k.2 h c core

      instance_meets : (token : ℕ) (u : MethodUse) (t : TypeId) → (table_of token == table.METHOD_SPEC) ≡ true → method_named recs a rec token ≡ Good u → Contains (of_method_use u) (marked (item.Typ t)) → IsCore recs t
          → Meets recs (map met_instance (listed (instance_key recs a rec token))) t
      unfolding instance_key
      instance_meets token u t s h c core =
          let o : Option MethodSpecRow = option_and_then (slice_get rec.method_spec) (index_in table.METHOD_SPEC token) in
          let r = spec_by token o u t refl (sym (named_spec token s) ∙ h) c core in
          record { met = met_instance r.0; there = to_map met_instance (listed (option_and_then (instance_by recs a rec) o)) r.0 (to_listed (option_and_then (instance_by recs a rec) o) r.0 r.1); has = r.2 }

      callee_by : (token : ℕ) (u : MethodUse) (t : TypeId) (b : Bool) → (table_of token == table.METHOD_SPEC) ≡ b → method_named recs a rec token ≡ Good u → Contains (of_method_use u) (marked (item.Typ t)) → IsCore recs t
          → Meets recs (if b then map met_instance (listed (instance_key recs a rec token)) else map met_method (listed (method_key recs a rec token))) t
      callee_by token u t true s h c core = instance_meets token u t s h c core
      callee_by token u t false s h c core = plain_meets token u t s (sym (named_plain token s) ∙ h) c core

      pub callee_meets : (token : ℕ) (u : MethodUse) (t : TypeId) → method_named recs a rec token ≡ Good u → Contains (of_method_use u) (marked (item.Typ t)) → IsCore recs t → Meets recs (met_callee recs a rec token) t
      callee_meets token u t h c core = callee_by token u t (table_of token == table.METHOD_SPEC) refl h c core

    -- ---- fields

    field_key_by : (u : FieldUse) (t : TypeId) (own p : Bool) → is_plain_owner recs u.owner ≡ p → (own ≡ true → ⊥) → Contains (naming.types_in u.owner) t → IsCore recs t
        → Contains (types_of_field recs (if own || p then own_field u.field else found_field u.field u.owner)) t
    field_key_by u t true p e none c core = absurd (none refl)
    field_key_by u t false true e none c core = absurd (plain_none recs u.owner t e c core)
    field_key_by u t false false e none c core = owner_types u.owner (types_of_sigs (flat_map (own_field_sig recs) (listed (field_at recs u.field)))) t c

    field_def_none : (o : Option ℕ) (u : FieldUse) (t : TypeId) → field_def_at recs a rec o ≡ Good u → Contains (naming.types_in u.owner) t → IsCore recs t → ⊥
    unfolding field_def_use
    field_def_none None u t h c core = absurd (cc)
    field_def_none (Some k) u t h c core =
        let r = field_use_is (own_member recs a rec owns_field k) u h in
        own_owner_none owns_field k r.0 t r.1 (subst (λ (x : TypeExpr). Contains (naming.types_in x) t) r.2 c) core

    field_none : (token : ℕ) (u : FieldUse) (t : TypeId) (b : Bool)
        → (if b then field_def_at recs a rec (row_below (fields_in rec) (index_in table.FIELD token)) else field_ref_at recs a rec (option_and_then (slice_get rec.member_ref) (index_in table.MEMBER_REF token))) ≡ Good u
        → Contains (naming.types_in u.owner) t → IsCore recs t → b ≡ true → ⊥
    field_none token u t true h c core e = field_def_none (row_below (fields_in rec) (index_in table.FIELD token)) u t h c core
    field_none token u t false h c core e = absurd (cc)

    field_has : (token : ℕ) (u : FieldUse) (t : TypeId) → field_named recs a rec token ≡ Good u → Contains (naming.types_in u.owner) t → IsCore recs t → Contains (types_of_field recs (field_key_of recs (table_of token == table.FIELD) u)) t
    unfolding field_named
    field_has token u t h c core = field_key_by u t (table_of token == table.FIELD) (is_plain_owner recs u.owner) refl (field_none token u t (table_of token == table.FIELD) h c core) c core

    field_key_is : (token : ℕ) (u : FieldUse) → field_named recs a rec token ≡ Good u → field_key recs a rec token ≡ Some (field_key_of recs (table_of token == table.FIELD) u)
    unfolding field_key
    field_key_is token u h = ap (λ (x : Known FieldUse). option_map (field_key_of recs (table_of token == table.FIELD)) (good x)) h

    pub field_meets : (token : ℕ) (u : FieldUse) (t : TypeId) → field_named recs a rec token ≡ Good u → Contains (of_field_use u) (marked (item.Typ t)) → IsCore recs t → Meets recs (met_field_token recs a rec token) t
    field_meets token u t h c core =
        let k : FieldKey = field_key_of recs (table_of token == table.FIELD) u in
        elim (head_or (marked (item.Field u.field)) (of_expr u.owner) (marked (item.Typ t)) c) [
          | inl e ↦ absurd (cc)
          | inr d ↦ record {
            met = met_field k;
            there = to_map met_field (listed (field_key recs a rec token)) k (to_listed (field_key recs a rec token) k (field_key_is token u h));
            has = field_has token u t h (type_in u.owner t d) core;
          }
        ]
