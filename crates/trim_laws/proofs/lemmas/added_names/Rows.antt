-- The reference rows of the output: a name that only modifiers use (II.7.1.1) and that a reference names is a modifier of its row.
use Rattle.std.proofs.Common.{◌≡◌, ℕ, suc, List, [], ◌∷◌, ◌++◌, map, Bool, true, Option, Some, ◌⊎◌, inl, inr, refl, sym, ap, subst, ◌∙◌}
use Rattle.std.specs.Prelude.{slice_get, Contains}
use Rattle.std.specs.List.{flat_map}
use Rattle.il_base.specs.declared.ids.TypeId.{TypeId}
use Rattle.il_base.specs.declared.ids.MethodId.{MethodId}
use Rattle.il_base.specs.declared.ids.FieldId.{FieldId}
use Rattle.il_base.specs.declared.sig.Sig.{Sig}
use Rattle.il_base.specs.declared.sig.MethodSig.{MethodSig}
use Rattle.il_base.specs.declared.world_model.known.Known.TheVariants.{Good}
use Rattle.il_base.specs.declared.world_model.expr.TypeExpr.{TypeExpr}
use Rattle.il_base.specs.declared.world_model.expr.MemberSig.TheVariants as member
use Rattle.il_base.specs.declared.world_model.types.TypeSpecRow.{TypeSpecRow}
use Rattle.il_base.specs.declared.world_model.members.MemberRefRow.{MemberRefRow}
use Rattle.il_base.specs.declared.world_model.members.MethodSpecRow.{MethodSpecRow}
use Rattle.il_base.specs.declared.world_model.members.StandAloneSigRow.{StandAloneSigRow}
use Rattle.il_base.specs.declared.world_model.record.AsmRec.{AsmRec}
use Rattle.rules.specs.declared.link_rules.row_at.RowAt.{RowAt}
use Rattle.rules.specs.link_rules.CoreNames.{modifiers, modifiers_of, method_modifiers, member_modifiers, in_good, all_modifiers}
use Rattle.rules.specs.link_rules.Cycles.{listed}
use Rattle.rules.specs.link_rules.Linked.{assemblies}
use Rattle.base_laws.proofs.lemmas.type_laws.Within.{In, in_parts, in_listed, in_flat, flat_in}
use Rattle.rules.specs.merge_rules.Numbers.{Kept}
use Rattle.rules.specs.merge_rules.Keys.{TypeKey, named, spec, same_sig, same_sigs, MethodKey, own_method, found_method, absent_method, FieldKey, own_field, found_field, InstanceKey, same_instance, expr_key}
use Rattle.rules.specs.merge_rules.Order.{Met, met_type, met_sig, met_method, met_field, met_instance, met_locals}
use Rattle.rules.specs.merge_rules.Refs.{Output, types_of_sig, types_of_sigs, types_of_key, types_of_method_sig, own_method_sig, own_field_sig, method_at, field_at, types_of_owner, types_of_method, types_of_field, types_of_met, spec_of_key, spec_of_method, spec_of_field, specs_of_met, type_specs, type_spec_rows, MemberKey, a_method, a_field, an_absent, same_member, member_of_method, member_of_field, members_of_met, member_refs, instances_of_met, method_specs, locals_of_met, locals_sigs, type_token, key_token, method_token, new_sig, new_method_sig, parent_token, method_name, field_name, member_ref_row, member_ref_rows, method_spec_rows, locals_rows}
use Rattle.token_keys.proofs.lemmas.key_codes.SameSig.{sig_decides, sigs_decide}
use Rattle.merge_laws.proofs.lemmas.merged_references.Left.{IsLeft, left_specs, left_members, left_instances, left_locals}
use Rattle.trim_laws.proofs.lemmas.added_names.Modifiers.{is_listed, IsFine}
use Rattle.trim_laws.proofs.lemmas.added_names.Plain.{Plain}
use Rattle.trim_laws.proofs.lemmas.added_names.Same.{instances_decide, members_decide, in_once}
use Rattle.trim_laws.proofs.lemmas.added_names.Members.{own_method_fine, own_field_fine}
use Rattle.trim_laws.proofs.lemmas.added_names.Used.{mapped, IsUsed, is_known, is_modifier, more, of_sig, in_sigs, in_method, by_member, by_locals, by_spec, by_instance}
use Rattle.trim_laws.proofs.lemmas.added_names.Writing.{AllFine, FineKey, FineMethod, FineField, FineMet, expr_fine}

module _ (inputs : List AsmRec) (internal : Bool) (kept : Kept) (mets : List Met) (left : AsmRec) where
  abbrev recs : List AsmRec
  recs = assemblies inputs

  abbrev o : Output
  o = record { recs = recs; kept = kept; mets = mets }

  module _ (l : IsLeft internal o left) (t : TypeId) where
    abbrev Used : Type 0
    Used = IsUsed recs o t (all_modifiers left)

    -- ---- rows

    abbrev spec_row : Sig → TypeSpecRow
    spec_row s = record { signature = Good (new_sig o s) }

    spec_there : (s : Sig) → In s (flat_map (specs_of_met recs) mets) → In (spec_row s) left.type_spec
    unfolding type_specs type_spec_rows
    spec_there s h =
        subst (λ (rows : List TypeSpecRow). In (spec_row s) rows) (sym (left_specs internal o left l))
        (mapped spec_row s (type_specs recs mets) (in_once same_sig sig_decides (flat_map (specs_of_met recs) mets) s h))

    spec_used : (s : Sig) → In s (flat_map (specs_of_met recs) mets) → IsFine recs s → In t (types_of_sig s) → Used
    spec_used s h f i =
        more recs o t (modifiers (new_sig o s)) (all_modifiers left) (λ j. by_spec left (type_token o t) (spec_row s) (spec_there s h) j) (of_sig recs o t s f i)

    member_there : (k : MemberKey) (row : MemberRefRow) → In k (flat_map members_of_met mets) → In row (member_ref_row o k) → In row left.member_ref
    unfolding member_refs member_ref_rows
    member_there k row h i =
        subst (λ (rows : List MemberRefRow). In row rows) (sym (left_members internal o left l))
        (flat_in (member_ref_row o) row k (member_refs mets) (in_once same_member members_decide (flat_map members_of_met mets) k h) i)

    -- the row of a method's signature
    method_row_used : (k : MemberKey) (row : MemberRefRow) (g : MethodSig) (s : Sig) → In k (flat_map members_of_met mets) → In row (member_ref_row o k) → row.signature ≡ Good (member.Method (new_method_sig o g))
        → In s (g.ret ∷ g.params) → IsFine recs s → In t (types_of_sig s) → Used
    method_row_used k row g s h r e i f j =
        more recs o t (modifiers (new_sig o s)) (all_modifiers left)
        (λ x. by_member left (type_token o t) row (member_there k row h r) (subst_row row g e (in_method recs o t s g i x))) (of_sig recs o t s f j)
      where
        subst_row : (row : MemberRefRow) (g : MethodSig) → row.signature ≡ Good (member.Method (new_method_sig o g)) → In (type_token o t) (method_modifiers (new_method_sig o g)) → In (type_token o t) (in_good member_modifiers row.signature)
        subst_row row g e x = subst (λ k. In (type_token o t) (in_good member_modifiers k)) (sym e) x

    field_row_used : (k : MemberKey) (row : MemberRefRow) (s : Sig) → In k (flat_map members_of_met mets) → In row (member_ref_row o k) → row.signature ≡ Good (member.Field (new_sig o s)) → IsFine recs s → In t (types_of_sig s) → Used
    field_row_used k row s h r e f j =
        more recs o t (modifiers (new_sig o s)) (all_modifiers left)
        (λ x. by_member left (type_token o t) row (member_there k row h r) (subst (λ k. In (type_token o t) (in_good member_modifiers k)) (sym e) x)) (of_sig recs o t s f j)

    abbrev instance_row : InstanceKey → MethodSpecRow
    instance_row i = record { method = method_token o i.method; instantiation = Good (map (new_sig o) i.args) }

    instance_there : (i : InstanceKey) → In i (flat_map instances_of_met mets) → In (instance_row i) left.method_spec
    unfolding method_specs method_spec_rows
    instance_there i h =
        subst (λ (rows : List MethodSpecRow). In (instance_row i) rows) (sym (left_instances internal o left l))
        (mapped instance_row i (method_specs mets) (in_once same_instance instances_decide (flat_map instances_of_met mets) i h))

    instance_used : (i : InstanceKey) (s : Sig) → In i (flat_map instances_of_met mets) → In s i.args → IsFine recs s → In t (types_of_sig s) → Used
    instance_used i s h a f j =
        more recs o t (modifiers (new_sig o s)) (all_modifiers left)
        (λ x. by_instance left (type_token o t) (instance_row i) (instance_there i h) (in_sigs recs o t s i.args a x)) (of_sig recs o t s f j)

    abbrev locals_row : List Sig → StandAloneSigRow
    locals_row ss = record { signature = Good (map (new_sig o) ss) }

    locals_there : (ss : List Sig) → In ss (flat_map locals_of_met mets) → In (locals_row ss) left.stand_alone_sig
    unfolding locals_sigs locals_rows
    locals_there ss h =
        subst (λ (rows : List StandAloneSigRow). In (locals_row ss) rows) (sym (left_locals internal o left l))
        (mapped locals_row ss (locals_sigs mets) (in_once same_sigs sigs_decide (flat_map locals_of_met mets) ss h))

    locals_used : (ss : List Sig) (s : Sig) → In ss (flat_map locals_of_met mets) → In s ss → IsFine recs s → In t (types_of_sig s) → Used
    locals_used ss s h a f j =
        more recs o t (modifiers (new_sig o s)) (all_modifiers left)
        (λ x. by_locals left (type_token o t) (locals_row ss) (locals_there ss h) (in_sigs recs o t s ss a x)) (of_sig recs o t s f j)

    -- ---- keys

    key_used : (k : TypeKey) → FineKey recs k → ((s : Sig) → In s (spec_of_key k) → In s (flat_map (specs_of_met recs) mets)) → In t (types_of_key k) → Used
    key_used (named u) f specs (inl e) = is_known (subst (λ (x : TypeId). is_listed recs (suc x.0) ≡ true) (sym e) f)
    key_used (named u) f specs (inr h) = absurd h
    key_used (spec s) f specs h = spec_used s (specs s (inl refl)) f h

    owner_used : (e : TypeExpr) → Plain recs e → ((s : Sig) → In s (flat_map spec_of_key (listed (expr_key recs e))) → In s (flat_map (specs_of_met recs) mets)) → In t (types_of_owner recs e) → Used
    owner_used e p specs h =
        let k = in_flat types_of_key t (listed (expr_key recs e)) h in
        key_used k.0 (expr_fine inputs e k.0 p (in_listed k.0 (expr_key recs e) k.1)) (λ s i. specs s (flat_in spec_of_key s k.0 (listed (expr_key recs e)) k.1 i)) k.2

    abbrev found_row : MethodId → TypeExpr → RowAt → MethodSig → MemberRefRow
    found_row m e at g = record { class = parent_token o e; name = method_name recs at; signature = Good (member.Method (new_method_sig o g)) }

    found_used : (m : MethodId) (e : TypeExpr) → In (a_method m e) (flat_map members_of_met mets) → In t (flat_map types_of_method_sig (flat_map (own_method_sig recs) (listed (method_at recs m)))) → Used
    found_used m e h i =
        let g = in_flat types_of_method_sig t (flat_map (own_method_sig recs) (listed (method_at recs m))) i in
        let at = in_flat (own_method_sig recs) g.0 (listed (method_at recs m)) g.1 in
        let s = in_flat types_of_sig t (g.0.ret ∷ g.0.params) g.2 in
        method_row_used (a_method m e) (found_row m e at.0 g.0) g.0 s.0 h
        (flat_in (λ at. map (found_row m e at) (own_method_sig recs at)) (found_row m e at.0 g.0) at.0 (listed (method_at recs m)) at.1 (mapped (found_row m e at.0) g.0 (own_method_sig recs at.0) at.2)) refl
        s.1 (own_method_fine inputs at.0 g.0 s.0 at.2 s.1) s.2

    abbrev absent_row : TypeKey → List ℕ → MethodSig → MemberRefRow
    absent_row p name g = record { class = key_token o p; name = name; signature = Good (member.Method (new_method_sig o g)) }

    absent_used : (p : TypeKey) (name : List ℕ) (g : MethodSig) → AllFine recs (g.ret ∷ g.params) → In (an_absent p name g) (flat_map members_of_met mets) → In t (types_of_method_sig g) → Used
    absent_used p name g f h i =
        let s = in_flat types_of_sig t (g.ret ∷ g.params) i in
        method_row_used (an_absent p name g) (absent_row p name g) g s.0 h (inl refl) refl s.1 (f.each s.0 s.1) s.2

    -- the rows of a met method
    record HasMethod (k : MethodKey) : Type 0 where
      specs : (s : Sig) → In s (spec_of_method recs k) → In s (flat_map (specs_of_met recs) mets)
      members : (y : MemberKey) → In y (member_of_method k) → In y (flat_map members_of_met mets)

    found_by : (m : MethodId) (e : TypeExpr) → Plain recs e → HasMethod (found_method m e) → In t (types_of_owner recs e) ⊎ In t (flat_map types_of_method_sig (flat_map (own_method_sig recs) (listed (method_at recs m)))) → Used
    found_by m e p has (inl h) = owner_used e p has.specs h
    found_by m e p has (inr h) = found_used m e (has.members (a_method m e) (inl refl)) h

    absent_by : (p : TypeKey) (name : List ℕ) (g : MethodSig) → FineMethod recs (absent_method p name g) → HasMethod (absent_method p name g) → In t (types_of_key p) ⊎ In t (types_of_method_sig g) → Used
    absent_by p name g f has (inl h) = key_used p f.0 has.specs h
    absent_by p name g f has (inr h) = absent_used p name g f.1 (has.members (an_absent p name g) (inl refl)) h

    method_used : (k : MethodKey) → FineMethod recs k → HasMethod k → In t (types_of_method recs k) → Used
    method_used (own_method m) f has h = absurd h
    method_used (found_method m e) f has h =
        found_by m e f has (in_parts t (types_of_owner recs e) (flat_map types_of_method_sig (flat_map (own_method_sig recs) (listed (method_at recs m)))) h)
    method_used (absent_method p name g) f has h = absent_by p name g f has (in_parts t (types_of_key p) (types_of_method_sig g) h)

    abbrev field_row_of : FieldId → TypeExpr → RowAt → Sig → MemberRefRow
    field_row_of m e at s = record { class = parent_token o e; name = field_name recs at; signature = Good (member.Field (new_sig o s)) }

    field_used : (m : FieldId) (e : TypeExpr) → In (a_field m e) (flat_map members_of_met mets) → In t (types_of_sigs (flat_map (own_field_sig recs) (listed (field_at recs m)))) → Used
    field_used m e h i =
        let s = in_flat types_of_sig t (flat_map (own_field_sig recs) (listed (field_at recs m))) i in
        let at = in_flat (own_field_sig recs) s.0 (listed (field_at recs m)) s.1 in
        field_row_used (a_field m e) (field_row_of m e at.0 s.0) s.0 h
        (flat_in (λ at. map (field_row_of m e at) (own_field_sig recs at)) (field_row_of m e at.0 s.0) at.0 (listed (field_at recs m)) at.1 (mapped (field_row_of m e at.0) s.0 (own_field_sig recs at.0) at.2)) refl
        (own_field_fine inputs at.0 s.0 at.2) s.2

    -- ---- what is met

    module _ (x : Met) (h : In x mets) where
      specs_in : (s : Sig) → In s (specs_of_met recs x) → In s (flat_map (specs_of_met recs) mets)
      specs_in s i = flat_in (specs_of_met recs) s x mets h i

      members_in : (y : MemberKey) → In y (members_of_met x) → In y (flat_map members_of_met mets)
      members_in y i = flat_in members_of_met y x mets h i

    field_by : (m : FieldId) (e : TypeExpr) → Plain recs e → In (met_field (found_field m e)) mets → In t (types_of_owner recs e) ⊎ In t (types_of_sigs (flat_map (own_field_sig recs) (listed (field_at recs m)))) → Used
    field_by m e p h (inl i) = owner_used e p (specs_in (met_field (found_field m e)) h) i
    field_by m e p h (inr i) = field_used m e (members_in (met_field (found_field m e)) h (a_field m e) (inl refl)) i

    instance_by : (i : InstanceKey) → FineMethod recs i.method × AllFine recs i.args → In (met_instance i) mets → In t (types_of_method recs i.method) ⊎ In t (types_of_sigs i.args) → Used
    instance_by i f h (inl j) = method_used i.method f.0 (record { specs = specs_in (met_instance i) h; members = members_in (met_instance i) h }) j
    instance_by i f h (inr j) =
        let s = in_flat types_of_sig t i.args j in
        instance_used i s.0 (flat_in instances_of_met i (met_instance i) mets h (inl refl)) s.1 (f.1.each s.0 s.1) s.2

    -- each type of what is met is listed, or a modifier of the output
    pub met_used : (x : Met) → In x mets → FineMet recs o left x → In t (types_of_met recs x) → Used
    met_used (met_type k) h f i = key_used k f (specs_in (met_type k) h) i
    met_used (met_sig s) h f i = f t i
    met_used (met_method k) h f i = method_used k f (record { specs = specs_in (met_method k) h; members = members_in (met_method k) h }) i
    met_used (met_field (own_field m)) h f i = absurd i
    met_used (met_field (found_field m e)) h f i =
        field_by m e f h (in_parts t (types_of_owner recs e) (types_of_sigs (flat_map (own_field_sig recs) (listed (field_at recs m)))) i)
    met_used (met_instance k) h f i = instance_by k f h (in_parts t (types_of_method recs k.method) (types_of_sigs k.args) i)
    met_used (met_locals ss) h f i =
        let s = in_flat types_of_sig t ss i in
        locals_used ss s.0 (flat_in locals_of_met ss (met_locals ss) mets h (inl refl)) s.1 (f.each s.0 s.1) s.2
