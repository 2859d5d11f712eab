-- The key of a member's parent, and that what it names is met.
use Rattle.std.proofs.Common.{◌≡◌, List, map, Option, Some, refl, sym, ap, subst, ◌∙◌}
use Rattle.std.specs.Prelude.{⊤}
use Rattle.std.specs.List.{Contains, flat_map}
use Rattle.std.proofs.lemmas.List.Elements.{Contains-append_left}
use Rattle.il_base.specs.declared.ids.TypeId.{TypeId}
use Rattle.il_base.specs.declared.sig.Sig.{Sig}
use Rattle.il_base.specs.declared.sig.MethodSig.{MethodSig}
use Rattle.il_base.specs.declared.world_model.known.Known.TheVariants.{Good}
use Rattle.il_base.specs.declared.world_model.expr.TypeExpr.{TypeExpr}
use Rattle.il_base.specs.declared.world_model.expr.MemberSig.TheVariants as member
use Rattle.il_base.specs.declared.world_model.members.MemberRefRow.{MemberRefRow}
use Rattle.il_base.specs.declared.world_model.record.AsmRec.{AsmRec}
use Rattle.rules.specs.link_rules.Cycles.{listed}
use Rattle.base_laws.proofs.lemmas.known_laws.Lists.{none_in, one_is, from_flat, from_map, from_option, to_option}
use Rattle.rules.specs.merge_rules.Keys.{TypeKey, MethodKey, own_method, found_method, absent_method, FieldKey, own_field, found_field, expr_key}
use Rattle.rules.specs.merge_rules.Order.{Met, met_type, met_sig, met_method, met_field, met_instance, met_locals}
use Rattle.rules.specs.merge_rules.Refs.{Output, types_of_key, types_of_sigs, types_of_method_sig, own_method_sig, own_field_sig, method_at, field_at, types_of_owner, types_of_method, types_of_field, types_of_met, spec_of_key, spec_of_method, spec_of_field, specs_of_met, MemberKey, a_method, a_field, an_absent, same_member, member_of_method, member_of_field, members_of_met, member_refs, key_token, new_sig, new_method_sig, first_or, parent_token, method_name, field_name, member_ref_row, member_ref_rows}
use Rattle.merge_laws.proofs.lemmas.merged_tokens.Once.{from_once}
use Rattle.merge_laws.proofs.lemmas.merged_standing.Mets.{Holds}
use Rattle.trim_laws.proofs.lemmas.member_parents.Keyed.{MethodKeyed, FieldKeyed, method_keyed, field_keyed}

module _ (recs : List AsmRec) where
  -- ---- keys of parents

  abbrev pub parent_key : MemberKey → Option TypeKey
  parent_key (a_method m e) = expr_key recs e
  parent_key (a_field f e) = expr_key recs e
  parent_key (an_absent p name s) = Some p

  -- a member whose parent's key names only these types, and is only of these signatures
  pub record HasParent (ts : List TypeId) (ss : List Sig) (x : MemberKey) : Type 0 where
    pub key : TypeKey
    pub is : parent_key x ≡ Some key
    pub types : (t : TypeId) → Contains (types_of_key key) t → Contains ts t
    pub specs : (s : Sig) → Contains (spec_of_key key) s → Contains ss s

  -- ---- what is met has members with parents

  abbrev pub Keyed : Met → Type 0
  Keyed (met_type k) = ⊤
  Keyed (met_sig s) = ⊤
  Keyed (met_method m) = MethodKeyed recs m
  Keyed (met_field f) = FieldKeyed recs f
  Keyed (met_instance i) = MethodKeyed recs i.method
  Keyed (met_locals ss) = ⊤

  pub all_keyed : Holds recs Keyed
  all_keyed = record {
    types = λ a rec token k there e. tt;
    sigs = λ a rec s there. tt;
    locals = λ a rec ss there. tt;
    methods = λ a rec token m there s e. method_keyed recs a rec token m s e;
    fields = λ a rec token f there e. field_keyed recs a rec token f e;
    instances = λ a rec token m args there s e. method_keyed recs a rec token m s e;
    absents = λ a rec token p name s there e. tt;
  }

  of_method : (k : MethodKey) → MethodKeyed recs k → (x : MemberKey) → Contains (member_of_method k) x → HasParent (types_of_method recs k) (spec_of_method recs k) x
  of_method (own_method m) h x c = absurd (none_in x c)
  of_method (found_method m e) h x c =
      let own : List TypeId = flat_map types_of_method_sig (flat_map (own_method_sig recs) (listed (method_at recs m))) in
      subst (HasParent (types_of_method recs (found_method m e)) (spec_of_method recs (found_method m e))) (one_is (a_method m e) x c)
      (record {
        key = h.key;
        is = h.is;
        types = λ t d. Contains-append_left (types_of_owner recs e) own t (to_option types_of_key (expr_key recs e) h.key t h.is d);
        specs = λ s d. to_option spec_of_key (expr_key recs e) h.key s h.is d;
      })
  of_method (absent_method p name s) h x c =
      subst (HasParent (types_of_method recs (absent_method p name s)) (spec_of_method recs (absent_method p name s))) (one_is (an_absent p name s) x c)
      (record { key = p; is = refl; types = λ t d. Contains-append_left (types_of_key p) (types_of_method_sig s) t d; specs = λ r d. d })

  of_field : (k : FieldKey) → FieldKeyed recs k → (x : MemberKey) → Contains (member_of_field k) x → HasParent (types_of_field recs k) (spec_of_field recs k) x
  of_field (own_field f) h x c = absurd (none_in x c)
  of_field (found_field f e) h x c =
      let own : List TypeId = types_of_sigs (flat_map (own_field_sig recs) (listed (field_at recs f))) in
      subst (HasParent (types_of_field recs (found_field f e)) (spec_of_field recs (found_field f e))) (one_is (a_field f e) x c)
      (record {
        key = h.key;
        is = h.is;
        types = λ t d. Contains-append_left (types_of_owner recs e) own t (to_option types_of_key (expr_key recs e) h.key t h.is d);
        specs = λ s d. to_option spec_of_key (expr_key recs e) h.key s h.is d;
      })

  pub of_met : (y : Met) → Keyed y → (x : MemberKey) → Contains (members_of_met y) x → HasParent (types_of_met recs y) (specs_of_met recs y) x
  of_met (met_type k) h x c = absurd (none_in x c)
  of_met (met_sig s) h x c = absurd (none_in x c)
  of_met (met_method m) h x c = of_method m h x c
  of_met (met_field f) h x c = of_field f h x c
  of_met (met_instance i) h x c =
      let p = of_method i.method h x c in
      record { key = p.key; is = p.is; types = λ t d. Contains-append_left (types_of_method recs i.method) (types_of_sigs i.args) t (p.types t d); specs = p.specs }
  of_met (met_locals ss) h x c = absurd (none_in x c)

  -- a member that is referred to is one of something that is met
  pub record IsMember (mets : List Met) (x : MemberKey) : Type 0 where
    pub met : Met
    pub there : Contains mets met
    pub inside : Contains (members_of_met met) x

  pub member_met : (mets : List Met) (x : MemberKey) → Contains (member_refs mets) x → IsMember mets x
  unfolding member_refs
  member_met mets x c =
      let r = from_flat members_of_met mets x (from_once same_member (flat_map members_of_met mets) x c) in
      record { met = r.item; there = r.there; inside = r.inside }

-- ---- rows

module _ (o : Output) where
  parent_is : (e : TypeExpr) (k : TypeKey) → expr_key o.recs e ≡ Some k → parent_token o e ≡ key_token o k
  parent_is e k h = ap (λ (x : Option TypeKey). first_or (map (key_token o) (listed x)) 0) h

  -- a row names the parent of its member
  pub class_is : (x : MemberKey) (row : MemberRefRow) (k : TypeKey) → Contains (member_ref_row o x) row → parent_key o.recs x ≡ Some k → row.class ≡ key_token o k
  class_is (a_method m e) row k c h =
      let at = from_option
      (λ at. map (λ s. record { class = parent_token o e; name = method_name o.recs at; signature = Good (member.Method (new_method_sig o s)) }) (own_method_sig o.recs at))
      (method_at o.recs m) row c in
      let s = from_map (λ (s : MethodSig). record { class = parent_token o e; name = method_name o.recs at.0; signature = Good (member.Method (new_method_sig o s)) }) (own_method_sig o.recs at.0) row at.2 in
      ap (λ (r : MemberRefRow). r.class) (sym s.2) ∙ parent_is e k h
  class_is (a_field f e) row k c h =
      let at = from_option
      (λ at. map (λ s. record { class = parent_token o e; name = field_name o.recs at; signature = Good (member.Field (new_sig o s)) }) (own_field_sig o.recs at))
      (field_at o.recs f) row c in
      let s = from_map (λ (s : Sig). record { class = parent_token o e; name = field_name o.recs at.0; signature = Good (member.Field (new_sig o s)) }) (own_field_sig o.recs at.0) row at.2 in
      ap (λ (r : MemberRefRow). r.class) (sym s.2) ∙ parent_is e k h
  class_is (an_absent p name s) row k c h =
      let same : p ≡ k = cc in
      ap (λ (r : MemberRefRow). r.class) (sym (one_is (record { class = key_token o p; name = name; signature = Good (member.Method (new_method_sig o s)) }) row c)) ∙ ap (key_token o) same

  pub record OfMember (row : MemberRefRow) : Type 0 where
    pub member : MemberKey
    pub there : Contains (member_refs o.mets) member
    pub inside : Contains (member_ref_row o member) row

  pub row_from : (row : MemberRefRow) → Contains (member_ref_rows o) row → OfMember row
  unfolding member_ref_rows
  row_from row c = let r = from_flat (member_ref_row o) (member_refs o.mets) row c in record { member = r.item; there = r.there; inside = r.inside }
