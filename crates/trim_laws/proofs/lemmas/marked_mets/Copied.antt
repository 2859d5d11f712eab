-- The constructor of a copied attribute: the types that it may name are the core library's, or references that name nothing, and so it
-- is found in the core library alone.
use Rattle.std.proofs.Common.{◌≡◌, ℕ, zero, suc, ◌+◌, nat_lt, Bool, true, false, List, [], ◌∷◌, ◌++◌, length, map, Option, Some, None, refl, sym, ap, subst, ◌∙◌}
use Rattle.std.specs.Prelude.{slice_get, nat_le, ◌==◌, ◌&&◌, ◌||◌, if◌then◌else◌}
use Rattle.std.specs.List.{list_any, list_all, flat_map}
use Rattle.std.specs.Option.{option_map, option_and_then}
use Rattle.std.specs.Cmp.{first_so, second_so}
use Rattle.std.proofs.lemmas.Bool.{eqb-true}
use Rattle.std.proofs.lemmas.List.Elements.{Contains-append_left, Contains-append_right}
use Rattle.il_base.specs.declared.ids.TypeId.{TypeId}
use Rattle.il_base.specs.declared.sig.Sig.{Sig, fold-roll-Sig, roll-Sig}
use Rattle.il_base.specs.declared.sig.Sig.TheFolds.{map-Sig}
use Rattle.il_base.specs.declared.sig.Sig.TheOpen.{Sig-F}
use Rattle.il_base.specs.declared.sig.Sig.TheVariants as sig
use Rattle.il_base.specs.declared.sig.MethodSig.{MethodSig}
use Rattle.il_base.specs.declared.table.TheConstants as table
use Rattle.il_base.specs.declared.world_model.known.Known.{Known}
use Rattle.il_base.specs.declared.world_model.known.Known.TheVariants.{Good, Bad}
use Rattle.il_base.specs.declared.world_model.known.BadKind.TheVariants.{Unresolved, Outside}
use Rattle.il_base.specs.declared.world_model.expr.TypeExpr.{TypeExpr}
use Rattle.il_base.specs.declared.world_model.expr.MethodUse.{MethodUse}
use Rattle.il_base.specs.declared.world_model.expr.MemberSig.{MemberSig}
use Rattle.il_base.specs.declared.world_model.expr.MemberSig.TheVariants as member
use Rattle.il_base.specs.declared.world_model.types.TypeRefRow.{TypeRefRow}
use Rattle.il_base.specs.declared.world_model.types.TypeSpecRow.{TypeSpecRow}
use Rattle.il_base.specs.declared.world_model.members.MemberRefRow.{MemberRefRow}
use Rattle.il_base.specs.declared.world_model.record.AsmRec.{AsmRec}
use Rattle.il_base.specs.world_model.Tokens.{table_of, index_in, row_index}
use Rattle.il_base.specs.world_model.Exprs.{levels}
use Rattle.il_base.specs.world_model.Worlds.{types_in as type_rows, type_id, known_then, rows_before, row_below, sig_expr}
use Rattle.il_base.specs.declared.core_table.types.TheConstants.{TYPE_COUNT}
use Rattle.rules.specs.declared.link_rules.row_at.RowAt.{RowAt}
use Rattle.rules.specs.declared.link_rules.member_type.MethodType.{MethodType}
use Rattle.rules.specs.link_rules.Types.{at_row, listed_at, added_at, ref_at, ref_type, ref_definition, added_type, definition_at, added_by}
use Rattle.rules.specs.link_rules.Signatures.{names_at, named_type, spec_type_at, token_type, method_type}
use Rattle.rules.specs.link_rules.Members.{method_of_type, find_method, Found, methods_in, most_levels, method_use, is_field_sig, parent_of, method_in_parent, method_ref_use}
use Rattle.rules.specs.link_rules.Cycles.{listed}
use Rattle.base_laws.proofs.lemmas.known_laws.Lists.{first_in, later_in, and_then_some, map_some}
use Rattle.rules.specs.merge_rules.Numbers.{Kept}
use Rattle.rules.specs.merge_rules.Keys.{TypeKey, named, spec, good, class_number, numbered_key, spec_key, type_key, world_sig, world_method_sig}
use Rattle.rules.specs.merge_rules.Refs.{numbers_layer, numbers_in, types_of_sig, types_of_key, types_of_method_sig}
use Rattle.rules.specs.merge_rules.Attributes.{may_scope, may_refer, may_name, may_have, good_sigs, may_be_parent, may_take}
use Rattle.merge_laws.proofs.lemmas.merged_owners.Every.{Every, all_none, all_one, all_more, some_of}
use Rattle.merge_laws.proofs.lemmas.merged_signatures.Reading.{good_then}
use Rattle.trim_laws.proofs.lemmas.marked_mets.Stays.{Stays, StayAll, last_stays}
use Rattle.trim_laws.proofs.lemmas.marked_mets.Tokens.{NumberStays, TokenStays, class_stays, modifier_stays}
use Rattle.trim_laws.proofs.lemmas.marked_mets.Signatures.{Opens, world_stays, sigs_by}
use Rattle.trim_laws.proofs.lemmas.marked_mets.CoreOnly.{IsLast, Core, NamesLast, row_last, named_core, sig_core, closed_owner}

-- each item of a list that a test holds of
every_of : {A : Type 0} (p : A → Bool) (xs : List A) → list_all p xs ≡ true → Every (λ x. p x ≡ true) xs
every_of p [] h = all_none (λ x. p x ≡ true)
every_of p (x ∷ xs) h = all_more (λ y. p y ≡ true) x xs (first_so (p x) (list_all p xs) h) (every_of p xs (second_so (p x) (list_all p xs) h))

-- the core library has no TypeRef and no TypeSpec rows
pub record IsBare (rec : AsmRec) : Type 0 where
  pub refs : rec.type_ref ≡ []
  pub specs : rec.type_spec ≡ []

module _ (recs : List AsmRec) where
  -- ---- tokens that a copied attribute may have

  module _ (a : ℕ) (rec : AsmRec) where
    refer_last : (n k : ℕ) → may_refer recs a rec n k ≡ true → (at : RowAt) → ref_definition recs a rec k ≡ Some at → suc at.asm ≡ length recs
    unfolding may_refer
    refer_last zero k h at e = absurd (cc)
    refer_last (suc n) k h at e =
        eqb-true (suc at.asm) (length recs)
        (sym (ap (λ (o : Option RowAt). elim o as (λ o. Bool) [ Some x ↦ suc x.asm == length recs | None ↦ list_any (may_scope rec (may_refer recs a rec n)) (listed (slice_get rec.type_ref k)) ]) e) ∙ h)

    of_table : (t token k : ℕ) (b : Bool) → (table_of token == t) ≡ b → (if b then row_index token else None) ≡ Some k → table_of token ≡ t
    of_table t token k true e h = eqb-true (table_of token) t e
    of_table t token k false e h = absurd (cc)

    is_ref : (token k : ℕ) → index_in table.TYPE_REF token ≡ Some k → (table_of token == table.TYPE_DEF) ≡ false
    is_ref token k h = subst (λ (t : ℕ). (t == table.TYPE_DEF) ≡ false) (sym (of_table table.TYPE_REF token k (table_of token == table.TYPE_REF) refl h)) refl

    defined_by : (token k : ℕ) (at : RowAt) (b : Bool) → b ≡ false → index_in table.TYPE_REF token ≡ Some k
        → (if b then option_map (at_row a) (row_below (type_rows rec) (index_in table.TYPE_DEF token)) else option_and_then (ref_definition recs a rec) (index_in table.TYPE_REF token)) ≡ Some at → ref_definition recs a rec k ≡ Some at
    defined_by token k at true f i h = absurd (cc)
    defined_by token k at false f i h = sym (ap (option_and_then (ref_definition recs a rec)) i) ∙ h

    pub may_last : (token : ℕ) → may_name recs a rec token ≡ true → NamesLast recs a rec token
    unfolding definition_at
    may_last token h at e =
        let k = some_of (may_refer recs a rec (length rec.type_ref)) (index_in table.TYPE_REF token) h in
        refer_last (length rec.type_ref) k.0 k.2 at (defined_by token k.0 at (table_of token == table.TYPE_DEF) (is_ref token k.0 k.1) k.1 e)

    pub have_last : (s : Sig) → may_have recs a rec s ≡ true → Every (NamesLast recs a rec) (numbers_in s)
    have_last s h = let all = every_of (may_name recs a rec) (numbers_in s) h in record { each = λ token c. may_last token (all.each token c) }

    -- a name that only modifiers find is the core library's
    added_by_test : (at there : RowAt) (b c : Bool) → (suc at.asm == length recs) ≡ b → (if b && c then Some at else None) ≡ Some there → (suc at.asm ≡ length recs) × (at ≡ there)
    added_by_test at there true true e h = (eqb-true (suc at.asm) (length recs) e, cc)
    added_by_test at there true false e h = absurd (cc)
    added_by_test at there false c e h = absurd (cc)

    added_last : (token : ℕ) (t : TypeId) → added_by recs a rec token ≡ Some t → IsLast recs t
    unfolding added_by added_type
    added_last token t e =
        let k = and_then_some (added_type recs a rec) (index_in table.TYPE_REF token) t e in
        let m = map_some (λ (at : RowAt). type_id recs at.asm at.row) (option_and_then (added_at recs) (ref_at recs a rec k.0)) t k.2 in
        let r = and_then_some (added_at recs) (ref_at recs a rec k.0) m.0 m.1 in
        let l = added_by_test r.0 m.0 (suc r.0.asm == length recs) (nat_le TYPE_COUNT r.0.row) refl r.2 in
        subst (IsLast recs) m.2 (row_last recs m.0.asm m.0.row (subst (λ (x : RowAt). suc x.asm ≡ length recs) l.1 l.0))

    -- ---- the type that its parent names

    spec_core : (o : Option TypeSpecRow) (e : TypeExpr) → list_any (may_have recs a rec) (good_sigs o) ≡ true → spec_type_at recs a rec o ≡ Good e → Core recs e
    spec_core None e may h = absurd (cc)
    spec_core (Some row) e may h =
        let s = good_then (sig_expr (names_at recs a rec)) row.signature e h in
        sig_core recs a rec added_last s.from e (have_last s.from (one_may row.signature s.from s.is may)) s.gives
      where
        one_may : (k : Known Sig) (s : Sig) → k ≡ Good s → list_any (may_have recs a rec) (flat_map (λ (r : TypeSpecRow). listed (good r.signature)) (record { signature = k } ∷ [])) ≡ true → may_have recs a rec s ≡ true
        one_may (Good x) s e m = let same : x ≡ s = cc in subst (λ (y : Sig). may_have recs a rec y ≡ true) same (only (may_have recs a rec x) m)
          where
            only : (b : Bool) → (b || false) ≡ true → b ≡ true
            only true m = refl
            only false m = m
        one_may (Bad why) s e m = absurd (cc)

    parent_by : (token : ℕ) (e : TypeExpr) (b : Bool)
        → (if b then list_any (may_have recs a rec) (good_sigs (option_and_then (slice_get rec.type_spec) (index_in table.TYPE_SPEC token))) else may_name recs a rec token) ≡ true
        → (if b then spec_type_at recs a rec (option_and_then (slice_get rec.type_spec) (index_in table.TYPE_SPEC token)) else named_type recs a rec token) ≡ Good e → Core recs e
    parent_by token e true may h = spec_core (option_and_then (slice_get rec.type_spec) (index_in table.TYPE_SPEC token)) e may h
    parent_by token e false may h = named_core recs a rec token e (may_last token may) h

    pub parent_core : (token : ℕ) (e : TypeExpr) → may_be_parent recs a rec token ≡ true → token_type recs a rec token ≡ Good e → Core recs e
    unfolding token_type
    parent_core token e may h = parent_by token e (table_of token == table.TYPE_SPEC) may h

  -- ---- what tokens of the core library name

  module _ (a : ℕ) (rec : AsmRec) (last : suc a ≡ length recs) (bare : IsBare rec) where
    no_refs_by : (token : ℕ) (at : RowAt) (b : Bool)
        → (if b then option_map (at_row a) (row_below (type_rows rec) (index_in table.TYPE_DEF token)) else option_and_then (ref_definition recs a rec) (index_in table.TYPE_REF token)) ≡ Some at → suc at.asm ≡ length recs
    unfolding ref_definition ref_type
    no_refs_by token at true e = let m = map_some (at_row a) (row_below (type_rows rec) (index_in table.TYPE_DEF token)) at e in subst (λ (x : RowAt). suc x.asm ≡ length recs) m.2 last
    no_refs_by token at false e =
        let m = and_then_some (ref_definition recs a rec) (index_in table.TYPE_REF token) at e in
        let r = and_then_some (listed_at recs) (ref_at recs a rec m.0) at m.2 in
        let f : None ≡ Some r.0 = sym (ap (λ (n : ℕ). ref_type recs a rec n m.0) (ap (λ (xs : List TypeRefRow). length xs) bare.refs)) ∙ r.1 in
        absurd (cc)

    own_last : (token : ℕ) → NamesLast recs a rec token
    unfolding definition_at
    own_last token at e = no_refs_by token at (table_of token == table.TYPE_DEF) e

    no_specs : (j : ℕ) (rows : List TypeSpecRow) → rows ≡ [] → slice_get rows j ≡ None
    no_specs j [] e = refl
    no_specs j (x ∷ xs) e = absurd (cc)

    no_spec_by : (token : ℕ) (o : Option ℕ) (e : TypeExpr) → spec_type_at recs a rec (option_and_then (slice_get rec.type_spec) o) ≡ Good e → Core recs e
    no_spec_by token None e h = absurd (cc)
    no_spec_by token (Some j) e h = let f : Bad Unresolved ≡ Good e = sym (ap (spec_type_at recs a rec) (no_specs j rec.type_spec bare.specs)) ∙ h in absurd (cc)

    own_by : (token : ℕ) (e : TypeExpr) (b : Bool)
        → (if b then spec_type_at recs a rec (option_and_then (slice_get rec.type_spec) (index_in table.TYPE_SPEC token)) else named_type recs a rec token) ≡ Good e → Core recs e
    own_by token e true h = no_spec_by token (index_in table.TYPE_SPEC token) e h
    own_by token e false h = named_core recs a rec token e (own_last token) h

    pub own_core : (token : ℕ) (e : TypeExpr) → token_type recs a rec token ≡ Good e → Core recs e
    unfolding token_type
    own_core token e h = own_by token e (table_of token == table.TYPE_SPEC) h

  -- ---- the type in which a copied constructor is found

  module _ (bare : (a : ℕ) (rec : AsmRec) → slice_get recs a ≡ Some rec → suc a ≡ length recs → IsBare rec) (a : ℕ) (rec : AsmRec) where
    rows_core : (b : ℕ) (r : AsmRec) (token : ℕ) (e : TypeExpr) → suc b ≡ length recs → slice_get recs b ≡ Some r → token_type recs b r token ≡ Good e → Core recs e
    rows_core b r token e last there h = own_core b r last (bare b r there last) token e h

    use_by : (x : Found) (u : MethodUse) → Core recs x.owner → (b : Bool)
        → (if b then Bad (Outside 5) else Good (record { method = record { 0 = rows_before methods_in recs x.at.asm + x.at.row }; owner = x.owner; args = [] })) ≡ Good u → Core recs u.owner
    use_by x u h true e = absurd (cc)
    use_by x u h false e =
        let same : record { method = record { 0 = rows_before methods_in recs x.at.asm + x.at.row }; owner = x.owner; args = [] } ≡ u = cc in
        subst (λ (v : MethodUse). Core recs v.owner) same h

    use_core : (o : Option Found) (u : MethodUse) → ((x : Found) → o ≡ Some x → Core recs x.owner) → method_use recs o ≡ Good u → Core recs u.owner
    use_core None u h e = absurd (cc)
    use_core (Some x) u h e = use_by x u (h x refl) (nat_lt most_levels (levels x.owner)) e

    found_core : (parent : TypeExpr) (name : List ℕ) (wanted : MethodType) (x : Found) → Core recs parent → find_method recs parent name wanted ≡ Some x → Core recs x.owner
    unfolding find_method
    found_core parent name wanted x core h = closed_owner recs rows_core (method_of_type recs name wanted) parent x core h

    in_core : (row : MemberRefRow) (parent : TypeExpr) (s : MemberSig) (u : MethodUse) → Core recs parent → method_in_parent recs a rec row parent s ≡ Good u → Core recs u.owner
    in_core row parent (member.Method s) u core h =
        let k = good_then (λ (wanted : MethodType). method_use recs (find_method recs parent row.name wanted)) (method_type (names_at recs a rec) s) u h in
        use_core (find_method recs parent row.name k.from) u (λ x. found_core parent row.name k.from x core) k.gives
    in_core row parent (member.Field s) u core h = absurd (cc)

    kind_core : (row : MemberRefRow) (u : MethodUse) (b : Bool) → may_be_parent recs a rec row.class ≡ true
        → (if b then Bad Unresolved else known_then (λ (parent : TypeExpr). known_then (method_in_parent recs a rec row parent) row.signature) (parent_of recs a rec row)) ≡ Good u → Core recs u.owner
    kind_core row u true may h = absurd (cc)
    kind_core row u false may h =
        let p = good_then (λ (parent : TypeExpr). known_then (method_in_parent recs a rec row parent) row.signature) (parent_of recs a rec row) u h in
        let s = good_then (method_in_parent recs a rec row p.from) row.signature u p.gives in
        in_core row p.from s.from u (parent_core a rec row.class p.from may p.is) s.gives

    pub ref_core : (row : MemberRefRow) (u : MethodUse) → may_be_parent recs a rec row.class ≡ true → method_ref_use recs a rec row ≡ Good u → Core recs u.owner
    unfolding method_ref_use
    ref_core row u may h = kind_core row u (is_field_sig row.signature) may h

  -- ---- what it refers to stays

  module _ (kept : Kept) (a : ℕ) (rec : AsmRec) where
    token_stays : (token : ℕ) → NamesLast recs a rec token → TokenStays recs kept a rec token
    token_stays token last at e none = last_stays recs kept at.asm at.row (last at e)

    abbrev May : Sig → Type 0
    May s = Every (NamesLast recs a rec) (numbers_in s)

    numbers_are : (x : Sig-F Sig) (s : Sig) → roll-Sig x ≡ s → numbers_in s ≡ numbers_layer (map-Sig Sig (List ℕ) numbers_in x)
    unfolding numbers_in
    numbers_are x s e = ap numbers_in (sym e) ∙ fold-roll-Sig (List ℕ) numbers_layer x

    layer_may : (x : Sig-F Sig) (s : Sig) → roll-Sig x ≡ s → May s → Every (NamesLast recs a rec) (numbers_layer (map-Sig Sig (List ℕ) numbers_in x))
    layer_may x s e h = subst (Every (NamesLast recs a rec)) (numbers_are x s e) h

    args_may : (ss : List Sig) → Every (NamesLast recs a rec) (flat_map (λ ns. ns) (map numbers_in ss)) → Every May ss
    args_may [] h = all_none May
    args_may (s ∷ ss) h =
        let rest : List ℕ = flat_map (λ ns. ns) (map numbers_in ss) in
        all_more May s ss (record { each = λ j c. h.each j (Contains-append_left (numbers_in s) rest j c) }) (args_may ss (record { each = λ j c. h.each j (Contains-append_right (numbers_in s) rest j c) }))

    may_opens : Opens recs kept a rec May
    may_opens = record {
      named = λ v token h. token_stays token ((layer_may (Sig-F.Named v token) (sig.Named v token) (sig.rolls-Named v token) h).each token (first_in token []));
      generic = λ v token ss h.
          let g = layer_may (Sig-F.Inst v token ss) (sig.Inst v token ss) (sig.rolls-Inst v token ss) h in
          let rest : List ℕ = flat_map (λ ns. ns) (map numbers_in ss) in
          (token_stays token (g.each token (first_in token rest)), args_may ss (record { each = λ j c. g.each j (later_in token rest j c) }));
      array = λ s h. layer_may (Sig-F.Array s) (sig.Array s) (sig.rolls-Array s) h;
      by_ref = λ s h. layer_may (Sig-F.ByRef s) (sig.ByRef s) (sig.rolls-ByRef s) h;
      modified = λ q token s h.
          let g = layer_may (Sig-F.Mod q token s) (sig.Mod q token s) (sig.rolls-Mod q token s) h in
          (modifier_stays recs kept a rec token (class_stays recs kept a rec token (token_stays token (g.each token (first_in token (numbers_in s))))), record { each = λ j c. g.each j (later_in token (numbers_in s) j c) });
      pinned = λ s h. layer_may (Sig-F.Pinned s) (sig.Pinned s) (sig.rolls-Pinned s) h;
    }

    pub sig_stays : (s : Sig) → may_have recs a rec s ≡ true → StayAll recs kept (types_of_sig (world_sig recs a rec s))
    sig_stays s h = world_stays recs kept a rec May may_opens s (have_last a rec s h)

    pub method_sig_stays : (s : MethodSig) → may_take recs a rec s ≡ true → StayAll recs kept (types_of_method_sig (world_method_sig recs a rec s))
    method_sig_stays s h = sigs_by recs kept a rec (λ x. may_have recs a rec x ≡ true) sig_stays (s.ret ∷ s.params) (every_of (may_have recs a rec) (s.ret ∷ s.params) h)

    -- ---- the key of its parent

    spec_by : (o : Option TypeSpecRow) (k : TypeKey) → list_any (may_have recs a rec) (good_sigs o) ≡ true → spec_key recs a rec o ≡ Some k → StayAll recs kept (types_of_key k)
    spec_by None k may h = absurd (cc)
    spec_by (Some row) k may h = known_by row.signature may h
      where
        only : (b : Bool) → (b || false) ≡ true → b ≡ true
        only true m = refl
        only false m = m

        known_by : (s : Known Sig) → list_any (may_have recs a rec) (listed (good s) ++ []) ≡ true → spec_key recs a rec (Some (record { signature = s })) ≡ Some k → StayAll recs kept (types_of_key k)
        known_by (Good s) m e =
            let same : spec (world_sig recs a rec s) ≡ k = cc in
            subst (λ (x : TypeKey). StayAll recs kept (types_of_key x)) same (sig_stays s (only (may_have recs a rec s) m))
        known_by (Bad why) m e = absurd (cc)

    number_by : (n : ℕ) (k : TypeKey) → NumberStays recs kept n → numbered_key n ≡ Some k → StayAll recs kept (types_of_key k)
    number_by zero k h e = absurd (cc)
    number_by (suc t) k h e =
        let id : TypeId = record { 0 = t } in
        let same : named id ≡ k = cc in
        subst (λ (x : TypeKey). StayAll recs kept (types_of_key x)) same (all_one (Stays recs kept) id (h id refl))

    key_by : (token : ℕ) (k : TypeKey) (b : Bool)
        → (if b then list_any (may_have recs a rec) (good_sigs (option_and_then (slice_get rec.type_spec) (index_in table.TYPE_SPEC token))) else may_name recs a rec token) ≡ true
        → (if b then spec_key recs a rec (option_and_then (slice_get rec.type_spec) (index_in table.TYPE_SPEC token)) else numbered_key (class_number recs a rec token)) ≡ Some k → StayAll recs kept (types_of_key k)
    key_by token k true may h = spec_by (option_and_then (slice_get rec.type_spec) (index_in table.TYPE_SPEC token)) k may h
    key_by token k false may h = number_by (class_number recs a rec token) k (class_stays recs kept a rec token (token_stays token (may_last a rec token may))) h

    pub parent_stays : (token : ℕ) (k : TypeKey) → may_be_parent recs a rec token ≡ true → type_key recs a rec token ≡ Some k → StayAll recs kept (types_of_key k)
    unfolding type_key
    parent_stays token k may h = key_by token k (table_of token == table.TYPE_SPEC) may h
