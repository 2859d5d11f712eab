-- What the types that tokens and signatures of inputs name, and bases, are made of: definitions that stand in their tables.
use Rattle.std.proofs.Common.{◌≡◌, ◌<◌, ℕ, suc, Bool, true, false, List, [], ◌∷◌, length, map, Option, Some, None, ◌⊎◌, inl, inr, refl, sym, ap, subst, ◌∙◌}
use Rattle.std.specs.Prelude.{slice_get, ◌==◌, if◌then◌else◌}
use Rattle.std.specs.Option.{option_and_then}
use Rattle.il_base.specs.declared.ids.TypeId.{TypeId}
use Rattle.il_base.specs.declared.sig.Sig.{Sig, fold-roll-Sig, ind-Sig, roll-Sig}
use Rattle.il_base.specs.declared.sig.Sig.TheFolds.{map-Sig}
use Rattle.il_base.specs.declared.sig.Sig.TheOpen.{Sig-F}
use Rattle.il_base.specs.declared.world_model.known.Known.{Known}
use Rattle.il_base.specs.declared.world_model.known.Known.TheVariants.{Good, Bad}
use Rattle.il_base.specs.declared.world_model.known.BadKind.TheVariants.{Unresolved}
use Rattle.il_base.specs.declared.world_model.expr.TypeExpr.{TypeExpr}
use Rattle.il_base.specs.declared.world_model.expr.TypeExpr.TheVariants as expr
use Rattle.il_base.specs.declared.world_model.types.TypeSpecRow.{TypeSpecRow}
use Rattle.il_base.specs.declared.world_model.record.AsmRec.{AsmRec}
use Rattle.il_base.specs.world_model.Tokens.{table_of, index_in}
use Rattle.il_base.specs.world_model.Worlds as worlds
use Rattle.il_base.specs.world_model.Worlds.{known_map, known_then, known_or, all_known, type_id, prim_type, named_in, definition_of, definition_named, found_or_named, modifier_named, sig_layer, sig_expr}
use Rattle.rules.specs.declared.link_rules.row_at.RowAt.{RowAt}
use Rattle.rules.specs.link_rules.Types.{definition_at, added_by}
use Rattle.rules.specs.link_rules.Signatures.{prim_at, definition_expr, named_type, names_at, spec_type_at, token_type}
use Rattle.merge_laws.proofs.lemmas.merged_references.Found.{Names, Added, added_names, token_names}
use Rattle.merge_laws.proofs.lemmas.merged_signatures.Reading.{good_map, good_then}
use Rattle.merge_laws.proofs.lemmas.merged_signatures.Agreeing.{defines}
use Rattle.trim_laws.proofs.lemmas.merged_uses.Leaves.{Leaf, alone, generic, modifier, All, AllOf, none_of, one_more, all_prim, all_var, all_mvar, all_def, all_array, all_by_ref, all_mod, all_inst}

-- ---- definitions

module _ (recs : List AsmRec) where
  pub record IsAlone (t : TypeId) : Type 0 where
    pub at : RowAt
    pub names : Names recs at
    pub is : definition_expr recs at ≡ expr.Def t

  pub record IsGeneric (t : TypeId) : Type 0 where
    pub at : RowAt
    pub names : Names recs at
    pub defined : definition_of (prim_type recs) (definition_expr recs at) ≡ Good t

  -- by the token of an input
  pub record IsModifier (t : TypeId) : Type 0 where
    pub a : ℕ
    pub rec : AsmRec
    pub there : slice_get recs a ≡ Some rec
    pub input : suc a < length recs
    pub token : ℕ
    pub names : modifier_named (names_at recs a rec) token ≡ Good t
    pub found : Added recs t ⊎ IsGeneric t

  abbrev pub Ok : Leaf → Type 0
  Ok (alone t) = IsAlone t
  Ok (generic t) = IsGeneric t
  Ok (modifier t) = IsModifier t

  pub def_is : (at : RowAt) → prim_at recs at ≡ None → definition_expr recs at ≡ expr.Def (type_id recs at.asm at.row)
  unfolding definition_expr
  def_is at e = ap (λ (o : Option ℕ). elim o as (λ o. TypeExpr) [ Some n ↦ expr.Prim n | None ↦ expr.Def (type_id recs at.asm at.row) ]) e

  pub prim_is : (at : RowAt) (n : ℕ) → prim_at recs at ≡ Some n → definition_expr recs at ≡ expr.Prim n
  unfolding definition_expr
  prim_is at n e = ap (λ (o : Option ℕ). elim o as (λ o. TypeExpr) [ Some n ↦ expr.Prim n | None ↦ expr.Def (type_id recs at.asm at.row) ]) e

  expr_by : (at : RowAt) (o : Option ℕ) → prim_at recs at ≡ o → Names recs at → All Ok (definition_expr recs at)
  expr_by at None e n = subst (All Ok) (sym (def_is at e)) (all_def Ok (type_id recs at.asm at.row) (record { at = at; names = n; is = def_is at e }))
  expr_by at (Some k) e n = subst (All Ok) (sym (prim_is at k e)) (all_prim Ok k)

  pub expr_ok : (at : RowAt) → Names recs at → All Ok (definition_expr recs at)
  expr_ok at n = expr_by at (prim_at recs at) refl n

  -- ---- tokens and signatures of an input

  module _ (a : ℕ) (rec : AsmRec) (there : slice_get recs a ≡ Some rec) (input : suc a < length recs) where
    stand : (token : ℕ) (at : RowAt) → definition_at recs a rec token ≡ Some at → Names recs at
    stand token at e = token_names recs a rec token at there input e

    pub named_ok : (token : ℕ) (e : TypeExpr) → named_type recs a rec token ≡ Good e → All Ok e
    named_ok token e h = let d = defines recs a rec token e h in subst (All Ok) d.gives (expr_ok d.at (stand token d.at d.is))

    abbrev n : worlds.Names
    n = names_at recs a rec

    named_good_by : (k : Known TypeExpr) (e : TypeExpr) (b : Bool) → (if b then Bad Unresolved else k) ≡ Good e → k ≡ Good e
    named_good_by k e true f = cc
    named_good_by k e false f = f

    pub named_good : (token : ℕ) (e : TypeExpr) → named_in n.types token ≡ Good e → named_type recs a rec token ≡ Good e
    unfolding named_in
    named_good token e f = named_good_by (named_type recs a rec token) e (table_of token == 0x1b) f

    definition_ok : (token : ℕ) (t : TypeId) → definition_named n token ≡ Good t → IsGeneric t
    unfolding definition_named
    definition_ok token t h =
        let g = good_then (definition_of (prim_type recs)) (named_in n.types token) t h in
        let d = defines recs a rec token g.from (named_good token g.from g.is) in
        record { at = d.at; names = stand token d.at d.is; defined = ap (definition_of (prim_type recs)) d.gives ∙ g.gives }

    modifier_by : (token : ℕ) (t : TypeId) (o : Option TypeId) → added_by recs a rec token ≡ o → found_or_named o (definition_named n token) ≡ Good t → Added recs t ⊎ IsGeneric t
    modifier_by token t None f h = inr (definition_ok token t h)
    modifier_by token t (Some u) f h = let same : u ≡ t = cc in inl (subst (Added recs) same (added_names recs a rec token u f))

    modifier_ok : (token : ℕ) (t : TypeId) → modifier_named n token ≡ Good t → IsModifier t
    unfolding modifier_named
    modifier_ok token t h = record { a = a; rec = rec; there = there; input = input; token = token; names = h; found = modifier_by token t (added_by recs a rec token) refl h }

    abbrev Reads : Sig → Type 0
    Reads s = (e : TypeExpr) → sig_expr n s ≡ Good e → All Ok e

    abbrev Part : Type 0
    Part = (s : Sig) × Reads s

    args_ok : (xs : List Part) (es : List TypeExpr) → all_known (map (sig_expr n) (map (λ x. x.0) xs)) ≡ Good es → AllOf Ok es
    args_ok [] es h = let same : [] ≡ es = cc in subst (AllOf Ok) same (none_of Ok)
    args_ok (x ∷ xs) es h =
        let k = good_then (λ (y : TypeExpr). known_map (λ ys. y ∷ ys) (all_known (map (sig_expr n) (map (λ x. x.0) xs)))) (sig_expr n x.0) es h in
        let m = good_map (λ (ys : List TypeExpr). k.from ∷ ys) (all_known (map (sig_expr n) (map (λ x. x.0) xs))) es k.gives in
        subst (AllOf Ok) m.gives (one_more Ok k.from m.from (x.1 k.from k.is) (args_ok xs m.from m.is))

    layer_ok : (y : Sig-F Part) (e : TypeExpr) → sig_layer n (map-Sig Sig (Known TypeExpr) (sig_expr n) (map-Sig Part Sig (λ x. x.0) y)) ≡ Good e → All Ok e
    layer_ok (Sig-F.Prim k) e h = let same : expr.Prim k ≡ e = cc in subst (All Ok) same (all_prim Ok k)
    layer_ok (Sig-F.Named v token) e h = named_ok token e (named_good token e h)
    layer_ok (Sig-F.Array x) e h = let m = good_map (λ (y : TypeExpr). expr.Array y) (sig_expr n x.0) e h in subst (All Ok) m.gives (all_array Ok m.from (x.1 m.from m.is))
    layer_ok (Sig-F.ByRef x) e h = let m = good_map (λ (y : TypeExpr). expr.ByRef y) (sig_expr n x.0) e h in subst (All Ok) m.gives (all_by_ref Ok m.from (x.1 m.from m.is))
    layer_ok (Sig-F.Inst v token xs) e h =
        let d = good_then (λ (d : TypeId). known_map (λ ys. expr.Inst d ys) (all_known (map (sig_expr n) (map (λ x. x.0) xs)))) (definition_named n token) e h in
        let m = good_map (λ (ys : List TypeExpr). expr.Inst d.from ys) (all_known (map (sig_expr n) (map (λ x. x.0) xs))) e d.gives in
        subst (All Ok) m.gives (all_inst Ok d.from m.from (definition_ok token d.from d.is) (args_ok xs m.from m.is))
    layer_ok (Sig-F.Var k) e h = let same : expr.Var k ≡ e = cc in subst (All Ok) same (all_var Ok k)
    layer_ok (Sig-F.MVar k) e h = let same : expr.MVar k ≡ e = cc in subst (All Ok) same (all_mvar Ok k)
    layer_ok (Sig-F.Mod required token x) e h =
        let d = good_then (λ (d : TypeId). known_map (λ y. expr.Mod required d y) (sig_expr n x.0)) (modifier_named n token) e h in
        let m = good_map (λ (y : TypeExpr). expr.Mod required d.from y) (sig_expr n x.0) e d.gives in
        subst (All Ok) m.gives (all_mod Ok required d.from m.from (modifier_ok token d.from d.is) (x.1 m.from m.is))
    layer_ok (Sig-F.Pinned x) e h = x.1 e h

    rolled : (y : Sig-F Part) → Reads (roll-Sig (map-Sig Part Sig (λ x. x.0) y))
    unfolding sig_expr
    rolled y e h = layer_ok y e (sym (fold-roll-Sig (Known TypeExpr) (sig_layer n) (map-Sig Part Sig (λ x. x.0) y)) ∙ h)

    pub sig_ok : (s : Sig) (e : TypeExpr) → sig_expr n s ≡ Good e → All Ok e
    sig_ok = ind-Sig Reads (λ x y is. subst (λ z. Reads (roll-Sig z)) is (rolled y))

    spec_ok : (o : Option TypeSpecRow) (e : TypeExpr) → spec_type_at recs a rec o ≡ Good e → All Ok e
    spec_ok None e h = absurd (cc)
    spec_ok (Some row) e h = let k = good_then (sig_expr n) row.signature e h in sig_ok k.from e k.gives

    type_by : (token : ℕ) (e : TypeExpr) (b : Bool) → (if b then spec_type_at recs a rec (option_and_then (slice_get rec.type_spec) (index_in 0x1b token)) else named_type recs a rec token) ≡ Good e → All Ok e
    type_by token e true h = spec_ok (option_and_then (slice_get rec.type_spec) (index_in 0x1b token)) e h
    type_by token e false h = named_ok token e h

    pub token_ok : (token : ℕ) (e : TypeExpr) → token_type recs a rec token ≡ Good e → All Ok e
    unfolding token_type
    token_ok token e h = type_by token e (table_of token == 0x1b) h
