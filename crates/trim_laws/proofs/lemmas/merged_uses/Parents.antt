-- The parent of a reference to a member that is written names the type in which the member is found, moved.
use Rattle.std.proofs.Common.{◌≡◌, ◌<◌, ℕ, zero, suc, List, [], ◌∷◌, length, map, Option, Some, inl, refl, sym, ap, subst, ◌∙◌, arith}
use Rattle.std.specs.Prelude.{slice_get, ◌==◌, if◌then◌else◌}
use Rattle.std.specs.List.{flat_map}
use Rattle.std.specs.Option.{option_map, option_and_then}
use Rattle.std.proofs.lemmas.List.{length-map}
use Rattle.il_base.specs.declared.ids.TypeId.{TypeId}
use Rattle.il_base.specs.declared.sig.Sig.{Sig}
use Rattle.il_base.specs.declared.world_model.known.Known.TheVariants.{Good}
use Rattle.il_base.specs.declared.world_model.expr.TypeExpr.{TypeExpr}
use Rattle.il_base.specs.declared.world_model.expr.TypeExpr.TheVariants as expr
use Rattle.il_base.specs.declared.world_model.types.TypeSpecRow.{TypeSpecRow}
use Rattle.il_base.specs.declared.world_model.record.AsmRec.{AsmRec}
use Rattle.il_base.specs.world_model.Records.{table_sizes}
use Rattle.il_base.specs.world_model.Tokens.{index_in}
use Rattle.il_base.specs.world_model.Worlds.{prim_type, sig_expr, definition_of}
use Rattle.rules.specs.declared.link_rules.row_at.RowAt.{RowAt}
use Rattle.rules.specs.link_rules.Linked.{assemblies}
use Rattle.rules.specs.link_rules.Members.{type_home, owner_of}
use Rattle.rules.specs.link_rules.Cycles.{listed}
use Rattle.rules.specs.link_rules.Signatures.{definition_expr, named_type, names_at, spec_type_at, token_type}
use Rattle.base_laws.proofs.lemmas.type_laws.Within.{In, in_front, flat_in}
use Rattle.rules.specs.merge_rules.Keys.{TypeKey, named, spec, same_sig, expr_key_in, expr_key, made_sig}
use Rattle.rules.specs.merge_rules.Order.{Met}
use Rattle.rules.specs.merge_rules.Refs.{row_token, types_of_key, types_of_owner, types_of_met, spec_of_key, specs_of_met, type_specs, type_spec_rows, type_token, key_token, new_sig, first_or, parent_token}
use Rattle.rules.specs.merge_rules.Restricted.{output_of}
use Rattle.token_keys.proofs.lemmas.key_codes.SameSig.{sig_decides}
use Rattle.rules.specs.change_rules.Moves.{move_expr}
use Rattle.rules.specs.merged_world_rules.Merge.{Merge, IsMerge, before, after, output}
use Rattle.rules.specs.merged_world_rules.NewNumbers.{rho_of}
use Rattle.merge_laws.specs.merged_references.Written.{HasReferenceRows}
use Rattle.merge_laws.proofs.lemmas.merged_references.Lists.{Placed, has_place, contains}
use Rattle.merge_laws.proofs.lemmas.merged_references.Tokens.{token_table, token_index}
use Rattle.merge_laws.proofs.lemmas.merged_references.Left.{left_specs}
use Rattle.merge_laws.proofs.lemmas.merged_references.Merges.{after_is, premises}
use Rattle.merge_laws.proofs.lemmas.merged_signatures.Agreeing.{good_token}
use Rattle.merge_laws.proofs.lemmas.merged_signatures.Merges.{world, Has, has}
use Rattle.trim_laws.specs.marked_merge_rules.Reads.{AllThere}
use Rattle.trim_laws.proofs.lemmas.merged_uses.Leaves.{alone, All, def_leaf}
use Rattle.trim_laws.proofs.lemmas.merged_uses.Owners.{Shape, a_prim, a_definition, an_instance, prim_out, def_out, inst_out, prim_owner, def_owner, inst_owner}
use Rattle.trim_laws.proofs.lemmas.merged_uses.Made.{made_reads, leaf_type, leaf_met, inst_met}
use Rattle.trim_laws.proofs.lemmas.merged_uses.Sound.{Ok}
use Rattle.trim_laws.proofs.lemmas.merged_uses.Facts.{def_defined, prim_there, leaf_home, named_token, leaf_fact, prim_defined_is}

map_at : {A B : Type 0} (f : A → B) (xs : List A) (k : ℕ) (x : A) → slice_get xs k ≡ Some x → slice_get (map f xs) k ≡ Some (f x)
map_at f [] k x e = absurd (cc)
map_at f (y ∷ xs) zero x e = let same : y ≡ x = cc in ap (λ z. Some (f z)) same
map_at f (y ∷ xs) (suc k) x e = map_at f xs k x e

-- ---- keys

module _ (recs : List AsmRec) where
  prim_key : (n : ℕ) (t : TypeId) → prim_type recs n ≡ Some t → expr_key recs (expr.Prim n) ≡ Some (named t)
  unfolding expr_key
  prim_key n t e = ap (expr_key_in recs (expr.Prim n)) (prim_out n) ∙ ap (option_map named) e

  def_key : (t : TypeId) → expr_key recs (expr.Def t) ≡ Some (named t)
  unfolding expr_key
  def_key t = ap (expr_key_in recs (expr.Def t)) (def_out t)

  inst_key : (t : TypeId) (args : List TypeExpr) → expr_key recs (expr.Inst t args) ≡ Some (spec (made_sig recs (expr.Inst t args)))
  unfolding expr_key
  inst_key t args = ap (expr_key_in recs (expr.Inst t args)) (inst_out t args)

module _ (m : Merge) (is : IsMerge m) (rows : HasReferenceRows m) where
  abbrev here : List AsmRec
  here = world m is rows

  -- ---- a TypeSpec row of the output

  module _ (s : Sig) (met : In s (flat_map (specs_of_met (before m)) (output m).mets)) where
    place : Placed (same_sig s) (type_specs (before m) (output m).mets)
    unfolding type_specs
    place = has_place same_sig (flat_map (specs_of_met (before m)) (output m).mets) s ((sig_decides s s).1 refl) met

    item_is : place.item ≡ s
    item_is = sym ((sig_decides s place.item).0 place.passes)

    specs_are : m.left.type_spec ≡ map (λ x. record { signature = Good (new_sig (output m) x) }) (type_specs (before m) (output m).mets)
    unfolding assemblies output_of type_spec_rows
    specs_are = left_specs m.internal (output m) m.left (premises m is rows).is

    low : suc place.index < 16777216
    unfolding table_sizes
    low =
        let few : length m.left.type_spec < 16777216 = is.few 0x1b in
        let n : length m.left.type_spec ≡ length (type_specs (before m) (output m).mets) = ap length specs_are ∙ length-map (type_specs (before m) (output m).mets) _ in
        let lt = place.below in
        omega (arith, few, n, lt)

    row_is : slice_get m.left.type_spec place.index ≡ Some (record { signature = Good (new_sig (output m) s) })
    row_is =
        ap (λ (rs : List TypeSpecRow). slice_get rs place.index) specs_are
        ∙ map_at (λ x. record { signature = Good (new_sig (output m) x) }) (type_specs (before m) (output m).mets) place.index place.item place.there
        ∙ ap (λ (x : Sig). Some (record { signature = Good (new_sig (output m) x) })) item_is

    spec_token : key_token (output m) (spec s) ≡ row_token 0x1b (Some place.index)
    unfolding assemblies output_of key_token
    spec_token = ap (row_token 0x1b) place.is

    spec_named : token_type here 0 m.left (key_token (output m) (spec s)) ≡ sig_expr (names_at here 0 m.left) (new_sig (output m) s)
    unfolding token_type
    spec_named =
        ap (token_type here 0 m.left) spec_token
        ∙ ap (λ (n : ℕ). if n == 0x1b then spec_type_at here 0 m.left (option_and_then (slice_get m.left.type_spec) (index_in 0x1b (row_token 0x1b (Some place.index)))) else named_type here 0 m.left (row_token 0x1b (Some place.index)))
        (token_table 0x1b place.index (omega arith) low)
        ∙ ap (λ (o : Option ℕ). spec_type_at here 0 m.left (option_and_then (slice_get m.left.type_spec) o)) (token_index 0x1b place.index (omega arith) low)
        ∙ ap (spec_type_at here 0 m.left) row_is

  -- ---- a parent in what is met

  module _ (there : AllThere m) (x : Met) (met : In x (output m).mets) where
    -- each type of a member's owner, and the signature that is made of it
    pub record OwnerMet (e : TypeExpr) : Type 0 where
      pub types : (t : TypeId) → In t (types_of_owner (before m) e) → In t (types_of_met (before m) x)
      pub specs : (s : Sig) → In s (flat_map spec_of_key (listed (expr_key (before m) e))) → In s (specs_of_met (before m) x)

    has_type : (t : TypeId) (at : RowAt) → In t (types_of_met (before m) x) → type_home (before m) t ≡ Some at → Has m is rows t
    has_type t at i home = has m is rows t (there x t at (contains (output m).mets x met) (contains (types_of_met (before m) x) t i) home)

    key_types : (e : TypeExpr) (k : TypeKey) → expr_key (before m) e ≡ Some k → (t : TypeId) → In t (types_of_key k) → In t (types_of_owner (before m) e)
    key_types e k f t i = subst (λ (o : Option TypeKey). In t (flat_map types_of_key (listed o))) (sym f) (in_front t (types_of_key k) [] i)

    key_specs : (e : TypeExpr) (k : TypeKey) → expr_key (before m) e ≡ Some k → (s : Sig) → In s (spec_of_key k) → In s (flat_map spec_of_key (listed (expr_key (before m) e)))
    key_specs e k f s i = subst (λ (o : Option TypeKey). In s (flat_map spec_of_key (listed o))) (sym f) (in_front s (spec_of_key k) [] i)

    -- its own type is one of them
    pub owner_type : (e : TypeExpr) (t : TypeId) → Shape e → owner_of (before m) e ≡ Some t → In t (types_of_owner (before m) e)
    owner_type e t (a_prim n same) owner =
        let key = prim_key (before m) n t (sym (prim_owner (before m) n) ∙ ap (owner_of (before m)) (sym same) ∙ owner) in
        key_types e (named t) (ap (expr_key (before m)) same ∙ key) t (inl refl)
    owner_type e t (a_definition u same) owner =
        let one : Some u ≡ Some t = sym (def_owner (before m) u) ∙ ap (owner_of (before m)) (sym same) ∙ owner in
        let eq : u ≡ t = cc in
        key_types e (named u) (ap (expr_key (before m)) same ∙ def_key (before m) u) t (inl (sym eq))
    owner_type e t (an_instance u args same) owner =
        let one : Some u ≡ Some t = sym (inst_owner (before m) u args) ∙ ap (owner_of (before m)) (sym same) ∙ owner in
        let eq : u ≡ t = cc in
        key_types e (spec (made_sig (before m) (expr.Inst u args))) (ap (expr_key (before m)) same ∙ inst_key (before m) u args) t
        (subst (λ (x : TypeId). In x (types_of_key (spec (made_sig (before m) (expr.Inst u args))))) eq (inst_met (before m) u args))

    token_is : (e : TypeExpr) (k : TypeKey) → expr_key (before m) e ≡ Some k → parent_token (output m) e ≡ key_token (output m) k
    unfolding output_of
    token_is e k f = ap (λ (o : Option TypeKey). first_or (map (key_token (output m)) (listed o)) 0) f

    named_token_is : (t : TypeId) → key_token (output m) (named t) ≡ type_token (output m) t
    unfolding key_token
    named_token_is t = refl

    abbrev Names : TypeExpr → Type 0
    Names e = token_type here 0 m.left (parent_token (output m) e) ≡ Good (move_expr (rho_of m) e)

    prim_names : (n : ℕ) (t : TypeId) → prim_type (before m) n ≡ Some t → OwnerMet (expr.Prim n) → Names (expr.Prim n)
    prim_names n t e met_owner =
        let p = prim_there m is n t e in
        let key = prim_key (before m) n t e in
        let w = has_type t p.at (met_owner.types t (key_types (expr.Prim n) (named t) key t (inl refl))) p.home in
        let f = named_token m is rows p.at t p.names (ap (definition_of (prim_type (before m))) p.says ∙ prim_defined_is (prim_type (before m)) n t e) w in
        ap (token_type here 0 m.left) (token_is (expr.Prim n) (named t) key ∙ named_token_is t)
        ∙ good_token here 0 m.left (type_token (output m) t) (move_expr (rho_of m) (definition_expr (before m) p.at)) f ∙ ap (λ (y : TypeExpr). Good (move_expr (rho_of m) y)) p.says

    def_names : (t : TypeId) → All (Ok (before m)) (expr.Def t) → OwnerMet (expr.Def t) → Names (expr.Def t)
    def_names t ok met_owner =
        let a = def_leaf (Ok (before m)) t ok in
        let home = leaf_home m is (alone t) a in
        let key = def_key (before m) t in
        let w = has_type t home.0 (met_owner.types t (key_types (expr.Def t) (named t) key t (inl refl))) home.1 in
        let f = named_token m is rows a.at t a.names (ap (definition_of (prim_type (before m))) a.is ∙ def_defined (prim_type (before m)) t) w in
        ap (token_type here 0 m.left) (token_is (expr.Def t) (named t) key ∙ named_token_is t)
        ∙ good_token here 0 m.left (type_token (output m) t) (move_expr (rho_of m) (definition_expr (before m) a.at)) f ∙ ap (λ (y : TypeExpr). Good (move_expr (rho_of m) y)) a.is

    inst_names : (t : TypeId) (args : List TypeExpr) → All (Ok (before m)) (expr.Inst t args) → OwnerMet (expr.Inst t args) → Names (expr.Inst t args)
    unfolding assemblies output_of
    inst_names t args ok met_owner =
        let e : TypeExpr = expr.Inst t args in
        let s : Sig = made_sig (before m) e in
        let key = inst_key (before m) t args in
        let spec_met = flat_in (specs_of_met (before m)) s x (output m).mets met (met_owner.specs s (key_specs e (spec s) key s (inl refl))) in
        ap (token_type here 0 m.left) (token_is e (spec s) key) ∙ spec_named s spec_met
        ∙ made_reads (output m) (before m) (names_at here 0 m.left) (rho_of m) e
        (λ l i. let ok_leaf = ok l i in let home = leaf_home m is l ok_leaf in
        leaf_fact m is rows l ok_leaf (has_type (leaf_type l) home.0 (met_owner.types (leaf_type l) (key_types e (spec s) key (leaf_type l) (leaf_met (before m) e l i))) home.1))

    names_by : (e : TypeExpr) → Shape e → (t : TypeId) → owner_of (before m) e ≡ Some t → All (Ok (before m)) e → OwnerMet e → Names e
    names_by e (a_prim n same) t owner ok met_owner =
        subst Names (sym same) (prim_names n t (sym (prim_owner (before m) n) ∙ ap (owner_of (before m)) (sym same) ∙ owner) (subst OwnerMet same met_owner))
    names_by e (a_definition u same) t owner ok met_owner = subst Names (sym same) (def_names u (subst (All (Ok (before m))) same ok) (subst OwnerMet same met_owner))
    names_by e (an_instance u args same) t owner ok met_owner = subst Names (sym same) (inst_names u args (subst (All (Ok (before m))) same ok) (subst OwnerMet same met_owner))

    pub parent_names : (e : TypeExpr) → Shape e → (t : TypeId) → owner_of (before m) e ≡ Some t → All (Ok (before m)) e → OwnerMet e
        → token_type (after m) 0 m.left (parent_token (output m) e) ≡ Good (move_expr (rho_of m) e)
    parent_names e shape t owner ok met_owner =
        subst (λ (ws : List AsmRec). token_type ws 0 m.left (parent_token (output m) e) ≡ Good (move_expr (rho_of m) e)) (sym (after_is m is rows)) (names_by e shape t owner ok met_owner)
