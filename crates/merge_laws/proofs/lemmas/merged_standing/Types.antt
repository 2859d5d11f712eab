-- Each type that is referred to has one row.
use Rattle.std.proofs.Common.{◌≡◌, ◌<◌, ℕ, zero, suc, ◌+◌, ◌-◌, List, [], ◌∷◌, length, map, Bool, true, false, nat_lt, Option, Some, None, inl, inr, refl, sym, ap, subst, ◌∙◌, arith}
use Rattle.std.specs.Prelude.{slice_get, nat_le, ◌==◌, IsTrue, if◌then◌else◌}
use Rattle.std.specs.List.{Contains, flat_map, filter, range_with_len}
use Rattle.std.specs.Option.{option_map, option_and_then}
use Rattle.std.specs.Cmp.{first_so}
use Rattle.std.proofs.lemmas.Bool.{ltb-false, leb-true, leb-false}
use Rattle.il_base.specs.declared.ids.TypeId.{TypeId}
use Rattle.il_base.specs.declared.sig.Sig.{Sig}
use Rattle.il_base.specs.declared.sig.MethodSig.{MethodSig}
use Rattle.il_base.specs.declared.table.TheConstants as table
use Rattle.il_base.specs.declared.world_model.known.Known.{Known}
use Rattle.il_base.specs.declared.world_model.known.Known.TheVariants.{Good, Bad}
use Rattle.il_base.specs.declared.world_model.expr.TypeExpr.{TypeExpr, out-TypeExpr}
use Rattle.il_base.specs.declared.world_model.expr.TypeExpr.TheFolds.{map-TypeExpr}
use Rattle.il_base.specs.declared.world_model.expr.TypeExpr.TheOpen.{TypeExpr-F}
use Rattle.il_base.specs.declared.world_model.expr.MethodUse.{MethodUse}
use Rattle.il_base.specs.declared.world_model.expr.FieldUse.{FieldUse}
use Rattle.il_base.specs.declared.world_model.types.TypeDefRow.{TypeDefRow}
use Rattle.il_base.specs.declared.world_model.types.TypeRefRow.{TypeRefRow}
use Rattle.il_base.specs.declared.world_model.types.TypeSpecRow.{TypeSpecRow}
use Rattle.il_base.specs.declared.world_model.members.FieldRow.{FieldRow}
use Rattle.il_base.specs.declared.world_model.members.MethodDefRow.{MethodDefRow}
use Rattle.il_base.specs.declared.world_model.record.AsmRec.{AsmRec}
use Rattle.il_base.specs.world_model.Tokens.{table_of, index_in}
use Rattle.il_base.specs.world_model.Worlds.{rows_before, types_in, type_id, prim_type}
use Rattle.rules.specs.declared.link_rules.row_at.RowAt.{RowAt}
use Rattle.rules.specs.link_rules.Types.{at_row, encloser, ref_definition}
use Rattle.rules.specs.link_rules.Members.{home_from, type_home, array_type}
use Rattle.rules.specs.link_rules.Cycles.{listed}
use Rattle.rules.specs.type_rules.Rows.{rec_at, type_row_at}
use Rattle.base_laws.proofs.lemmas.type_laws.Places.{place_has, home_is}
use Rattle.base_laws.proofs.lemmas.known_laws.Lists.{head_or, and_then_some, map_some}
use Rattle.rules.specs.mark_rules.Naming.{method_named, field_named}
use Rattle.rules.specs.change_rules.Keeps.{Names, both, names_layer, names_of}
use Rattle.run_laws.proofs.lemmas.query_laws.Homes.{names_out}
use Rattle.rules.specs.merge_rules.Absent.{reference_rows, reference_at, reference_scope, definition_of, absent_type, absent_row}
use Rattle.rules.specs.merge_rules.Numbers.{inputs}
use Rattle.rules.specs.merge_rules.Keys.{TypeKey, named, spec, numbered_key, spec_key, type_key, expr_key_in, expr_key, made_sig, class_number, world_sig, world_sigs, world_method_sig, MethodKey, own_method, found_method, FieldKey, own_field, found_field, good, is_plain_owner, method_key_of, field_key_of, method_key, field_key}
use Rattle.rules.specs.merge_rules.Order.{Met}
use Rattle.rules.specs.merge_rules.Refs.{Output, known_list, own_method_sig, own_field_sig, method_at, field_at, types_of_sig, types_of_sigs, types_of_key, types_of_method_sig, types_of_owner, types_of_method, types_of_field, types_of_met, same_id, is_reference, enclosing_type, outer_reference, scope_type_by, scope_type, with_scopes, most_scopes, type_refs, found_ref, absent_ref, type_ref_row, type_ref_rows}
use Rattle.merge_laws.proofs.lemmas.merged_record.Lists.{from_inputs, flat_length, place_in}
use Rattle.merge_laws.proofs.lemmas.merged_loads.Lists as once
use Rattle.merge_laws.proofs.lemmas.merged_references.Found.{Stands, definition_names}
use Rattle.merge_laws.proofs.lemmas.merged_owners.Every.{Every, all_none, all_one, all_join, all_filter, all_flat, all_option, all_map}
use Rattle.merge_laws.proofs.lemmas.merged_standing.Low.{bound, below, Low, IsLow, stands_low, prim_low}
use Rattle.merge_laws.proofs.lemmas.merged_standing.Owners.{method_owner_low, field_owner_low}
use Rattle.merge_laws.proofs.lemmas.merged_standing.Numbers.{Within, IsThere, low_there, sig_there, absent_there, class_within, world_fine, made_fine}
use Rattle.merge_laws.proofs.lemmas.merged_standing.Mets.{Holds}

map_length : {A B : Type 0} (f : A → B) (xs : List A) → length (map f xs) ≡ length xs
map_length f [] = refl
map_length f (x ∷ xs) = ap suc (map_length f xs)

one_length : {A B : Type 0} (f : A → B) (o : Option A) (x : A) → o ≡ Some x → length (map f (listed o)) ≡ 1
one_length f o x e = ap (λ p. length (map f (listed p))) e

good_is : {A : Type 0} (x : Known A) (y : A) → good x ≡ Some y → x ≡ Good y
good_is (Good z) y e = let same : z ≡ y = cc in ap Good same
good_is (Bad why) y e = absurd (cc)

in_range : (i n : ℕ) → Every (λ k. k < i + n) (range_with_len i n)
in_range i zero = all_none (λ k. k < i + 0)
in_range i (suc n) = record { each = λ k c. elim (head_or i (range_with_len (i + 1) n) k c) [ inl e ↦ omega (arith, e) | inr d ↦ (let lt = (in_range (i + 1) n).each k d in omega (arith, lt)) ] }

module _ (recs : List AsmRec) where
  abbrev All : List TypeId → Type 0
  All ts = Every (IsThere recs) ts

  -- ---- keys of types

  module _ (a : ℕ) (rec : AsmRec) (there : slice_get recs a ≡ Some rec) where
    world_there : (s : Sig) → All (types_of_sig (world_sig recs a rec s))
    world_there s = sig_there recs (world_sig recs a rec s) (world_fine recs a rec there s)

    sigs_there : (ss : List Sig) → All (types_of_sigs (world_sigs recs a rec ss))
    sigs_there ss =
        all_flat (IsThere recs) types_of_sig (world_sigs recs a rec ss) (λ s c. (all_map (λ (x : Sig). All (types_of_sig x)) (world_sig recs a rec) ss (λ x d. world_there x)).each s c)

    method_sig_there : (s : MethodSig) → All (types_of_method_sig (world_method_sig recs a rec s))
    method_sig_there s = sigs_there (s.ret ∷ s.params)

    abbrev good_key : Known Sig → Option TypeKey
    good_key (Good s) = Some (spec (world_sig recs a rec s))
    good_key (Bad why) = None

    good_there : (s : Known Sig) (k : TypeKey) → good_key s ≡ Some k → All (types_of_key k)
    good_there (Good s) k h = let same : spec (world_sig recs a rec s) ≡ k = cc in subst (λ (x : TypeKey). All (types_of_key x)) same (world_there s)
    good_there (Bad why) k h = absurd (cc)

    spec_there : (o : Option TypeSpecRow) (k : TypeKey) → spec_key recs a rec o ≡ Some k → All (types_of_key k)
    spec_there None k h = absurd (cc)
    spec_there (Some row) k h = good_there row.signature k h

    numbered_there : (n : ℕ) (k : TypeKey) → Within recs n → numbered_key n ≡ Some k → All (types_of_key k)
    numbered_there zero k w h = absurd (cc)
    numbered_there (suc t) k w h =
        let same : named (record { 0 = t }) ≡ k = cc in
        subst (λ (x : TypeKey). All (types_of_key x)) same (all_one (IsThere recs) (record { 0 = t }) (omega (arith, w)))

    key_by : (token : ℕ) (k : TypeKey) (b : Bool)
        → (if b then spec_key recs a rec (option_and_then (slice_get rec.type_spec) (index_in table.TYPE_SPEC token)) else numbered_key (class_number recs a rec token)) ≡ Some k → All (types_of_key k)
    key_by token k true h = spec_there (option_and_then (slice_get rec.type_spec) (index_in table.TYPE_SPEC token)) k h
    key_by token k false h = numbered_there (class_number recs a rec token) k (class_within recs a rec there token) h

    key_there : (token : ℕ) (k : TypeKey) → type_key recs a rec token ≡ Some k → All (types_of_key k)
    unfolding type_key
    key_there token k h = key_by token k (table_of token == table.TYPE_SPEC) h

  -- ---- owners of members

  expr_by : (e : TypeExpr) (x : TypeExpr-F TypeExpr) (k : TypeKey) → IsTrue (both (names_layer (below recs) (map-TypeExpr TypeExpr Names (names_of (below recs)) x))) → Low recs e → expr_key_in recs e x ≡ Some k → All (types_of_key k)
  expr_by e (TypeExpr-F.Def t) k g low h =
      let same : named t ≡ k = cc in
      subst (λ (x : TypeKey). All (types_of_key x)) same (all_one (IsThere recs) t (low_there recs t (first_so (nat_lt t.0 (bound recs)) (nat_lt t.0 (bound recs)) g)))
  expr_by e (TypeExpr-F.Prim n) k g low h =
      let m = map_some named (prim_type recs n) k h in
      subst (λ (x : TypeKey). All (types_of_key x)) m.2 (all_one (IsThere recs) m.0 (low_there recs m.0 (prim_low recs n m.0 m.1)))
  expr_by e (TypeExpr-F.Inst t args) k g low h = made_by e k low h
    where
      made_by : (e : TypeExpr) (k : TypeKey) → Low recs e → Some (spec (made_sig recs e)) ≡ Some k → All (types_of_key k)
      made_by e k low h = let same : spec (made_sig recs e) ≡ k = cc in subst (λ (x : TypeKey). All (types_of_key x)) same (sig_there recs (made_sig recs e) (made_fine recs e low))
  expr_by e (TypeExpr-F.Array x) k g low h = let same : spec (made_sig recs e) ≡ k = cc in subst (λ (x : TypeKey). All (types_of_key x)) same (sig_there recs (made_sig recs e) (made_fine recs e low))
  expr_by e (TypeExpr-F.ByRef x) k g low h = let same : spec (made_sig recs e) ≡ k = cc in subst (λ (x : TypeKey). All (types_of_key x)) same (sig_there recs (made_sig recs e) (made_fine recs e low))
  expr_by e (TypeExpr-F.Var n) k g low h = let same : spec (made_sig recs e) ≡ k = cc in subst (λ (x : TypeKey). All (types_of_key x)) same (sig_there recs (made_sig recs e) (made_fine recs e low))
  expr_by e (TypeExpr-F.MVar n) k g low h = let same : spec (made_sig recs e) ≡ k = cc in subst (λ (x : TypeKey). All (types_of_key x)) same (sig_there recs (made_sig recs e) (made_fine recs e low))
  expr_by e (TypeExpr-F.Mod required by x) k g low h = let same : spec (made_sig recs e) ≡ k = cc in subst (λ (x : TypeKey). All (types_of_key x)) same (sig_there recs (made_sig recs e) (made_fine recs e low))

  owner_there : (e : TypeExpr) → Low recs e → All (types_of_owner recs e)
  unfolding expr_key
  owner_there e low = all_option (IsThere recs) types_of_key (expr_key recs e) (λ k h. expr_by e (out-TypeExpr e) k (sym (ap both (names_out (below recs) e)) ∙ low) low h)

  own_method_there : (at : RowAt) → Every (λ (s : MethodSig). All (types_of_method_sig s)) (own_method_sig recs at)
  own_method_there at =
      let P : MethodSig → Type 0 = λ s. All (types_of_method_sig s) in
      all_option P (λ (rec : AsmRec). flat_map (λ (m : MethodDefRow). map (world_method_sig recs at.asm rec) (known_list m.signature)) (listed (slice_get rec.method_def at.row))) (rec_at recs at)
      (λ rec there.
      all_option P (λ (m : MethodDefRow). map (world_method_sig recs at.asm rec) (known_list m.signature)) (slice_get rec.method_def at.row)
      (λ m e. all_map P (world_method_sig recs at.asm rec) (known_list m.signature) (λ s c. method_sig_there at.asm rec there s)))

  own_field_there : (at : RowAt) → Every (λ (s : Sig). All (types_of_sig s)) (own_field_sig recs at)
  own_field_there at =
      let P : Sig → Type 0 = λ s. All (types_of_sig s) in
      all_option P (λ (rec : AsmRec). flat_map (λ (f : FieldRow). map (world_sig recs at.asm rec) (known_list f.signature)) (listed (slice_get rec.field at.row))) (rec_at recs at)
      (λ rec there.
      all_option P (λ (f : FieldRow). map (world_sig recs at.asm rec) (known_list f.signature)) (slice_get rec.field at.row)
      (λ f e. all_map P (world_sig recs at.asm rec) (known_list f.signature) (λ s c. world_there at.asm rec there s)))

  method_if : (b : Bool) (u : MethodUse) → Low recs u.owner → All (types_of_method recs (if b then own_method u.method else found_method u.method u.owner))
  method_if true u low = all_none (IsThere recs)
  method_if false u low =
      let sigs : List MethodSig = flat_map (own_method_sig recs) (listed (method_at recs u.method)) in
      all_join (IsThere recs) (types_of_owner recs u.owner) (flat_map types_of_method_sig sigs) (owner_there u.owner low)
      (all_flat (IsThere recs) types_of_method_sig sigs
      (all_option (λ (s : MethodSig). All (types_of_method_sig s)) (own_method_sig recs) (method_at recs u.method) (λ at e. own_method_there at)).each)

  method_by : (own : Bool) (u : MethodUse) → (own ≡ false → Low recs u.owner) → All (types_of_method recs (method_key_of recs own u))
  method_by true u h = all_none (IsThere recs)
  method_by false u h = method_if (is_plain_owner recs u.owner) u (h refl)

  field_if : (b : Bool) (u : FieldUse) → Low recs u.owner → All (types_of_field recs (if b then own_field u.field else found_field u.field u.owner))
  field_if true u low = all_none (IsThere recs)
  field_if false u low =
      let sigs : List Sig = flat_map (own_field_sig recs) (listed (field_at recs u.field)) in
      all_join (IsThere recs) (types_of_owner recs u.owner) (types_of_sigs sigs) (owner_there u.owner low)
      (all_flat (IsThere recs) types_of_sig sigs (all_option (λ (s : Sig). All (types_of_sig s)) (own_field_sig recs) (field_at recs u.field) (λ at e. own_field_there at)).each)

  field_by : (own : Bool) (u : FieldUse) → (own ≡ false → Low recs u.owner) → All (types_of_field recs (field_key_of recs own u))
  field_by true u h = all_none (IsThere recs)
  field_by false u h = field_if (is_plain_owner recs u.owner) u (h refl)

  module _ (array : (t : TypeId) → array_type recs ≡ Some t → IsLow recs t) where
    method_there : (a : ℕ) (rec : AsmRec) (token : ℕ) (m : MethodKey) → slice_get recs a ≡ Some rec → (table_of token == table.METHOD_SPEC) ≡ false → method_key recs a rec token ≡ Some m → All (types_of_method recs m)
    unfolding method_key
    method_there a rec token m there s h =
        let k = map_some (method_key_of recs (table_of token == table.METHOD_DEF)) (good (method_named recs a rec token)) m h in
        let n = good_is (method_named recs a rec token) k.0 k.1 in
        subst (λ (x : MethodKey). All (types_of_method recs x)) k.2 (method_by (table_of token == table.METHOD_DEF) k.0 (method_owner_low recs array a rec there token k.0 n s))

    field_there : (a : ℕ) (rec : AsmRec) (token : ℕ) (f : FieldKey) → slice_get recs a ≡ Some rec → field_key recs a rec token ≡ Some f → All (types_of_field recs f)
    unfolding field_key
    field_there a rec token f there h =
        let k = map_some (field_key_of recs (table_of token == table.FIELD)) (good (field_named recs a rec token)) f h in
        let n = good_is (field_named recs a rec token) k.0 k.1 in
        subst (λ (x : FieldKey). All (types_of_field recs x)) k.2 (field_by (table_of token == table.FIELD) k.0 (field_owner_low recs array a rec there token k.0 n))

    pub all_there : Holds recs (λ x. Every (IsThere recs) (types_of_met recs x))
    all_there = record {
      types = λ a rec token k there e. key_there a rec there token k e;
      sigs = λ a rec s there. world_there a rec there s;
      locals = λ a rec ss there. sigs_there a rec there ss;
      methods = method_there;
      fields = field_there;
      instances = λ a rec token m args there s e. all_join (IsThere recs) (types_of_method recs m) (types_of_sigs (world_sigs recs a rec args)) (method_there a rec token m there s e) (sigs_there a rec there args);
      absents = λ a rec token p name s there e. all_join (IsThere recs) (types_of_key p) (types_of_method_sig (world_method_sig recs a rec s)) (key_there a rec there token p e) (method_sig_there a rec there s);
    }

  -- ---- scopes

  module _ (nests : (a : ℕ) (rec : AsmRec) → slice_get recs a ≡ Some rec → (k j : ℕ) → encloser rec k ≡ Some j → j < length rec.type_def) where
    definition_stands : (at def : RowAt) → definition_of recs at ≡ Some def → Stands recs def
    definition_stands at def e =
        let r = and_then_some (λ rec. ref_definition recs at.asm rec at.row) (rec_at recs at) def e in
        (definition_names recs at.asm r.0 at.row def r.2).stands

    outer_there : (at : RowAt) (u : TypeId) (o : Option RowAt) → definition_of recs at ≡ o → (elim o [ Some def ↦ Some (type_id recs def.asm def.row) | None ↦ absent_type recs at ]) ≡ Some u → IsThere recs u
    outer_there at u None f e = absent_there recs at u e
    outer_there at u (Some def) f e =
        let same : type_id recs def.asm def.row ≡ u = cc in
        subst (IsThere recs) same (low_there recs (type_id recs def.asm def.row) (stands_low recs def (definition_stands at def f)))

    scope_by : (t u : TypeId) (o : Option RowAt) → scope_type_by recs t o ≡ Some u → IsThere recs u
    scope_by t u None e =
        let at = and_then_some (enclosing_type recs) (type_home recs t) u e in
        let r = and_then_some (λ (rec : AsmRec). option_map (type_id recs at.0.asm) (encloser rec at.0.row)) (rec_at recs at.0) u at.2 in
        let k = map_some (type_id recs at.0.asm) (encloser r.0 at.0.row) u r.2 in
        subst (IsThere recs) k.2
        (low_there recs (type_id recs at.0.asm k.0) (stands_low recs (at_row at.0.asm k.0) (record { rec = r.0; there = r.1; below = nests at.0.asm r.0 r.1 at.0.row k.0 k.1 })))
    scope_by t u (Some at) e =
        let s = and_then_some (outer_reference recs) (reference_scope recs at) u e in
        outer_there s.0 u (definition_of recs s.0) refl s.2

    scope_there : (t u : TypeId) → scope_type recs t ≡ Some u → IsThere recs u
    unfolding scope_type
    scope_there t u e = scope_by t u (absent_row recs t) e

    scopes_there : (n : ℕ) (t : TypeId) → IsThere recs t → All (with_scopes recs n t)
    unfolding with_scopes
    scopes_there zero t h = all_one (IsThere recs) t h
    scopes_there (suc n) t h =
        all_join (IsThere recs) (flat_map (with_scopes recs n) (listed (scope_type recs t))) (t ∷ []) (all_option (IsThere recs) (with_scopes recs n) (scope_type recs t) (λ u e. scopes_there n u (scope_there t u e))) (all_one (IsThere recs) t h)

    pub refs_there : (mets : List Met) → Every (λ x. Every (IsThere recs) (types_of_met recs x)) mets → (t : TypeId) → Contains (type_refs recs mets) t → IsThere recs t
    unfolding type_refs
    refs_there mets h =
        let met : List TypeId = flat_map (types_of_met recs) mets in
        let some : List TypeId = filter (is_reference recs) met in
        let n : ℕ = most_scopes recs in
        let here : All some = all_filter (IsThere recs) (is_reference recs) met (all_flat (IsThere recs) (types_of_met recs) mets h.each) in
        once.every_once (IsThere recs) same_id [] (flat_map (with_scopes recs n) some) (all_none (IsThere recs)).each (all_flat (IsThere recs) (with_scopes recs n) some (λ t c. scopes_there n t (here.each t c))).each

  -- ---- rows

  abbrev HasRow : RowAt → Type 0
  HasRow at = (row : TypeRefRow) × (reference_at recs at ≡ Some row)

  references_there : Every HasRow (reference_rows recs)
  references_there =
      all_flat HasRow (λ (x : ℕ × AsmRec). map (at_row x.0) (range_with_len 0 (length x.1.type_ref))) (inputs recs)
      (λ x c.
      let i = from_inputs 0 recs x c in
      let n : i.place ≡ x.0 = omega (arith, i.number) in
      let there : slice_get recs x.0 ≡ Some x.1 = subst (λ (a : ℕ). slice_get recs a ≡ Some x.1) n i.there in
      all_map HasRow (at_row x.0) (range_with_len 0 (length x.1.type_ref))
      (λ k d.
      let lt = (in_range 0 (length x.1.type_ref)).each k d in
      let r = place_has x.1.type_ref k (omega (arith, lt)) in
      (r.0, ap (option_and_then (λ (rec : AsmRec). slice_get rec.type_ref k)) there ∙ r.1)))

home_by : (rec : AsmRec) (recs : List AsmRec) (i n : ℕ) (b : Bool) → (nat_lt n (length rec.type_def) ≡ false → (at : RowAt) × (home_from types_in (suc i) recs (n - length rec.type_def) ≡ Some at))
    → nat_lt n (length rec.type_def) ≡ b → (at : RowAt) × ((if b then Some (at_row i n) else home_from types_in (suc i) recs (n - length rec.type_def)) ≡ Some at)
home_by rec recs i n true more e = (at_row i n, refl)
home_by rec recs i n false more e = more e

home_some : (recs : List AsmRec) (i n : ℕ) → n < rows_before types_in recs (length recs) → (at : RowAt) × (home_from types_in i recs n ≡ Some at)
unfolding home_from rows_before
home_some [] i n lt = absurd (omega arith)
home_some (rec ∷ recs) i n lt = home_by rec recs i n (nat_lt n (length rec.type_def)) (λ e. let le = ltb-false n (length rec.type_def) e in home_some recs (suc i) (n - length rec.type_def) (omega (arith, le, lt))) refl

row_there : (recs : List AsmRec) (t : TypeId) → t.0 < bound recs → (row : TypeDefRow) × (option_and_then (type_row_at recs) (type_home recs t) ≡ Some row)
row_there recs t lt =
    let h = home_some recs 0 t.0 lt in
    let s = home_is recs 0 t.0 h.0 h.1 in
    let a : s.asm ≡ h.0.asm = omega (arith, s.numbered) in
    let r = place_has s.rec.type_def h.0.row s.below in
    let there : slice_get recs h.0.asm ≡ Some s.rec = subst (λ (n : ℕ). slice_get recs n ≡ Some s.rec) a s.there in
    (r.0, ap (option_and_then (type_row_at recs)) h.1 ∙ ap (option_and_then (λ (rec : AsmRec). slice_get rec.type_def h.0.row)) there ∙ r.1)

module _ (o : Output) (t : TypeId) where
  abbrev row_of : Option RowAt → List TypeRefRow
  row_of a = elim a as (λ a. List TypeRefRow) [ Some at ↦ map (absent_ref o t) (listed (reference_at o.recs at)) | None ↦ map (found_ref o t) (listed (option_and_then (type_row_at o.recs) (type_home o.recs t))) ]

  row_by : (b : Bool) → nat_le (bound o.recs) t.0 ≡ b → IsThere o.recs t → length (row_of (if b then slice_get (reference_rows o.recs) (t.0 - bound o.recs) else None)) ≡ 1
  row_by true e h =
      let le = leb-true (bound o.recs) t.0 e in
      let r = place_has (reference_rows o.recs) (t.0 - bound o.recs) (omega (arith, le, h)) in
      let row = (references_there o.recs).each r.0 (place_in (reference_rows o.recs) (t.0 - bound o.recs) r.0 r.1) in
      ap (λ a. length (row_of a)) r.1 ∙ one_length (absent_ref o t) (reference_at o.recs r.0) row.0 row.1
  row_by false e h =
      let lt = leb-false (bound o.recs) t.0 e in
      let r = row_there o.recs t lt in
      one_length (found_ref o t) (option_and_then (type_row_at o.recs) (type_home o.recs t)) r.0 r.1

  pub row_length : IsThere o.recs t → length (type_ref_row o t) ≡ 1
  unfolding absent_row
  row_length h = row_by (nat_le (bound o.recs) t.0) refl h

pub rows_length : (o : Output) → ((t : TypeId) → Contains (type_refs o.recs o.mets) t → IsThere o.recs t) → length (type_ref_rows o) ≡ length (type_refs o.recs o.mets)
unfolding type_ref_rows
rows_length o h = flat_length (type_ref_row o) (type_refs o.recs o.mets) (λ t c. row_length o t (h t c))
