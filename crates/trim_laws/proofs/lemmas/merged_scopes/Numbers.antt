-- Signatures, tokens and owners that have a reading name types of the world.
use Rattle.std.proofs.Common.{◌≡◌, ◌<◌, ℕ, zero, suc, List, [], ◌∷◌, length, map, Bool, true, false, nat_lt, Option, Some, None, refl, sym, ap, subst, ◌∙◌, ◌&&◌}
use Rattle.std.specs.Prelude.{slice_get, IsTrue, ◌==◌, if◌then◌else◌}
use Rattle.std.specs.List.{flat_map, list_all}
use Rattle.std.specs.Option.{option_and_then}
use Rattle.std.specs.Cmp.{first_so, second_so}
use Rattle.std.proofs.lemmas.Bool.{and_from, ltb-true}
use Rattle.il_base.specs.declared.ids.TypeId.{TypeId}
use Rattle.il_base.specs.declared.ids.Item.TheVariants as item
use Rattle.il_base.specs.declared.sig.Sig.{Sig, fold-Sig, fold-roll-Sig, ind-Sig, roll-Sig}
use Rattle.il_base.specs.declared.sig.Sig.TheFolds.{map-Sig}
use Rattle.il_base.specs.declared.sig.Sig.TheOpen.{Sig-F}
use Rattle.il_base.specs.declared.sig.Sig.TheVariants as sig
use Rattle.il_base.specs.declared.sig.MethodSig.{MethodSig}
use Rattle.il_base.specs.declared.table.TheConstants.{TYPE_SPEC}
use Rattle.il_base.specs.declared.world_model.known.Known.{Known}
use Rattle.il_base.specs.declared.world_model.known.Known.TheVariants.{Good, Bad}
use Rattle.il_base.specs.declared.world_model.known.BadKind.TheVariants.{Unresolved}
use Rattle.il_base.specs.declared.world_model.expr.TypeExpr.{TypeExpr, fold-roll-TypeExpr, ind-TypeExpr, out-TypeExpr, roll-TypeExpr}
use Rattle.il_base.specs.declared.world_model.expr.TypeExpr.TheFolds.{map-TypeExpr}
use Rattle.il_base.specs.declared.world_model.expr.TypeExpr.TheOpen.{TypeExpr-F}
use Rattle.il_base.specs.declared.world_model.expr.TypeExpr.TheVariants as expr
use Rattle.il_base.specs.declared.world_model.types.TypeSpecRow.{TypeSpecRow}
use Rattle.il_base.specs.declared.world_model.record.AsmRec.{AsmRec}
use Rattle.il_base.specs.world_model.Tokens.{table_of, index_in}
use Rattle.il_base.specs.world_model.Worlds as worlds
use Rattle.il_base.specs.world_model.Worlds.{known_map, known_then, known_or, all_known, prim_type, named_in, definition_of, definition_named, found_or_named, modifier_named, sig_layer, sig_expr}
use Rattle.rules.specs.declared.link_rules.row_at.RowAt.{RowAt}
use Rattle.rules.specs.declared.link_rules.member_type.MethodType.{MethodType}
use Rattle.rules.specs.link_rules.Types.{added_by}
use Rattle.rules.specs.link_rules.Signatures.{named_type, names_at, spec_type_at, token_type, method_type_of, method_type}
use Rattle.rules.specs.link_rules.Members.{type_home, arguments_of}
use Rattle.base_laws.proofs.lemmas.known_laws.Lists.{map_some}
use Rattle.rules.specs.mark_rules.Places.{row_of, is_core}
use Rattle.rules.specs.change_rules.Keeps.{Names, both, names_layer, names_of, shows_expr}
use Rattle.base_laws.proofs.lemmas.change_laws.Exprs.{With, plain_parts}
use Rattle.base_laws.proofs.lemmas.change_laws.Subst.{names_def, names_rolled}
use Rattle.run_laws.proofs.lemmas.query_laws.Homes.{names_out}
use Rattle.rules.specs.merge_rules.Keys.{TypeKey, named, spec, numbered_key, spec_key, type_key, number_or, class_number, modifier_number, world_layer, world_sig, world_sigs, world_method_sig, is_value, made_layer, made_sig, expr_key_in, expr_key}
use Rattle.rules.specs.merge_rules.Refs.{numbers_layer, numbers_in}
use Rattle.trim_laws.specs.merged_scopes.Numbers.{numbers_of_sigs, numbers_of_key, numbers_of_method_sig, numbers_of_owner}
use Rattle.merge_laws.proofs.lemmas.merged_references.Rows.{rows_up_to}
use Rattle.merge_laws.proofs.lemmas.merged_signatures.Agreeing.{good_token}
use Rattle.merge_laws.proofs.lemmas.merged_owners.Every.{Every, all_none, all_one, all_more, all_join, all_option, some_of}
use Rattle.merge_laws.proofs.lemmas.merged_tokens.Keys.{Says, of_core, of_definition, of_signature, known_good, token_key}
use Rattle.merge_laws.proofs.lemmas.merged_standing.Low.{bound, below, Low, IsLow, prim_low, named_low, added_low}

mapped_good : {A B : Type 0} (f : A → B) (x : Known A) (y : B) → known_map f x ≡ Good y → (a : A) × (x ≡ Good a) × (f a ≡ y)
mapped_good f (Good a) y e = (a, refl, cc)
mapped_good f (Bad why) y e = absurd (cc)

-- what is so of the number of each type of the world
module _ (recs : List AsmRec) (P : ℕ → Type 0) (there_so : (t : TypeId) → t.0 < bound recs → P (suc t.0)) where
  pub low_so : (t : TypeId) → IsLow recs t → P (suc t.0)
  low_so t h = there_so t (ltb-true t.0 (bound recs) h)

  -- ---- numbers of signatures

  abbrev pub All : List ℕ → Type 0
  All ns = Every P ns

  pub numbers_are : (x : Sig-F Sig) (s : Sig) → roll-Sig x ≡ s → numbers_in s ≡ numbers_layer (map-Sig Sig (List ℕ) numbers_in x)
  unfolding numbers_in
  numbers_are x s e = ap (fold-Sig (List ℕ) numbers_layer) (sym e) ∙ fold-roll-Sig (List ℕ) numbers_layer x

  pub of_layer : (x : Sig-F Sig) (s : Sig) → roll-Sig x ≡ s → All (numbers_layer (map-Sig Sig (List ℕ) numbers_in x)) → All (numbers_in s)
  of_layer x s e h = subst (Every P) (sym (numbers_are x s e)) h

  -- ---- tokens

  core_so : (u : TypeId) → is_core recs (item.Typ u) ≡ true → P (suc u.0)
  unfolding is_core row_of
  core_so u h =
      let at = some_of (λ (r : RowAt). suc r.asm == length recs) (type_home recs u) h in
      there_so u (rows_up_to [] [] recs u at.0 at.1)

  def_so : (e : TypeExpr) (u : TypeId) → Low recs e → e ≡ expr.Def u → P (suc u.0)
  def_so e u low same =
      let b : Bool = nat_lt u.0 (bound recs) in
      let h : (b && b) ≡ true = sym (ap both (names_def (below recs) u)) ∙ subst (λ (x : TypeExpr). IsTrue (shows_expr (below recs) x)) same low in
      low_so u (first_so b b h)

  says_so : (e : TypeExpr) (k : TypeKey) → Low recs e → Says recs e k → (t : TypeId) → k ≡ named t → P (suc t.0)
  says_so e k low (of_core u core) t same = let one : u ≡ t = cc in subst (λ (x : TypeId). P (suc x.0)) one (core_so u core)
  says_so e k low (of_definition u def) t same = let one : u ≡ t = cc in subst (λ (x : TypeId). P (suc x.0)) one (def_so e u low def)
  says_so e k low (of_signature s) t same = absurd (cc)

  module _ (a : ℕ) (rec : AsmRec) (there : slice_get recs a ≡ Some rec) where
    abbrev n : worlds.Names
    n = names_at recs a rec

    numbered_by : (token : ℕ) (k : TypeKey) (b : Bool) → (table_of token == TYPE_SPEC) ≡ b → b ≡ false → type_key recs a rec token ≡ Some k → numbered_key (class_number recs a rec token) ≡ Some k
    unfolding type_key
    numbered_by token k true e f h = absurd (cc)
    numbered_by token k false e f h =
        sym (ap (λ (b : Bool). if b then spec_key recs a rec (option_and_then (slice_get rec.type_spec) (index_in TYPE_SPEC token)) else numbered_key (class_number recs a rec token)) e) ∙ h

    number_so : (m : ℕ) (k : TypeKey) → ((t : TypeId) → k ≡ named t → P (suc t.0)) → numbered_key m ≡ Some k → P m
    number_so zero k h g = absurd (cc)
    number_so (suc t) k h g = let same : named (record { 0 = t }) ≡ k = cc in h (record { 0 = t }) (sym same)

    -- a token that names a definition is none of a signature's
    spec_unnamed : (token : ℕ) (e : TypeExpr) (b : Bool) → (table_of token == TYPE_SPEC) ≡ b → (if b then Bad Unresolved else known_or (Some (named_type recs a rec token))) ≡ Good e → b ≡ false
    spec_unnamed token e true f h = absurd (cc)
    spec_unnamed token e false f h = refl

    pub named_number : (token : ℕ) (e : TypeExpr) → named_in n.types token ≡ Good e → named_type recs a rec token ≡ Good e → P (class_number recs a rec token)
    unfolding named_in
    named_number token e f h =
        let key = token_key recs a rec token e (good_token recs a rec token e h) in
        let other = spec_unnamed token e (table_of token == TYPE_SPEC) refl f in
        number_so (class_number recs a rec token) key.key (says_so e key.key (named_low recs a rec there token e h) key.says) (numbered_by token key.key (table_of token == TYPE_SPEC) refl other key.is)

    good_name : (token : ℕ) (e : TypeExpr) (b : Bool) → (if b then Bad Unresolved else known_or (Some (named_type recs a rec token))) ≡ Good e → named_type recs a rec token ≡ Good e
    good_name token e true h = absurd (cc)
    good_name token e false h = h

    in_number : (token : ℕ) (e : TypeExpr) → named_in n.types token ≡ Good e → P (class_number recs a rec token)
    unfolding named_in
    in_number token e h = named_number token e h (good_name token e (table_of token == TYPE_SPEC) h)

    definition_number : (token : ℕ) (d : TypeId) → definition_named n token ≡ Good d → P (class_number recs a rec token)
    unfolding definition_named
    definition_number token d h = let k = known_good (definition_of (prim_type recs)) (named_in n.types token) d h in in_number token k.0 k.1

    modifier_by : (token : ℕ) (d : TypeId) (o : Option TypeId) → added_by recs a rec token ≡ o → found_or_named o (definition_named n token) ≡ Good d → P (number_or o (class_number recs a rec token))
    modifier_by token d None f h = definition_number token d h
    modifier_by token d (Some u) f h = low_so u (added_low recs a rec there token u f)

    modifier_of : (token : ℕ) (d : TypeId) → modifier_named n token ≡ Good d → P (modifier_number recs a rec token)
    unfolding modifier_named
    modifier_of token d h = modifier_by token d (added_by recs a rec token) refl h

    -- ---- signatures with a reading

    abbrev world : Sig → Sig
    world = world_sig recs a rec

    abbrev Reads : Sig → Type 0
    Reads s = (e : TypeExpr) → sig_expr n s ≡ Good e → Every P (numbers_in (world s))

    abbrev Part : Type 0
    Part = (s : Sig) × Reads s

    args_read : (xs : List Part) (es : List TypeExpr) → all_known (map (sig_expr n) (map (λ x. x.0) xs)) ≡ Good es → Every P (flat_map (λ ns. ns) (map numbers_in (map world (map (λ x. x.0) xs))))
    args_read [] es h = all_none P
    args_read (x ∷ xs) es h =
        let k = known_good (λ (y : TypeExpr). known_map (λ ys. y ∷ ys) (all_known (map (sig_expr n) (map (λ x. x.0) xs)))) (sig_expr n x.0) es h in
        let m = mapped_good (λ ys. k.0 ∷ ys) (all_known (map (sig_expr n) (map (λ x. x.0) xs))) es k.2 in
        all_join P (numbers_in (world x.0)) (flat_map (λ ns. ns) (map numbers_in (map world (map (λ x. x.0) xs)))) (x.1 k.0 k.1) (args_read xs m.0 m.1)

    layer_read : (y : Sig-F Part) (e : TypeExpr) → sig_layer n (map-Sig Sig (Known TypeExpr) (sig_expr n) (map-Sig Part Sig (λ x. x.0) y)) ≡ Good e
        → Every P (numbers_in (world_layer recs a rec (map-Sig Sig Sig world (map-Sig Part Sig (λ x. x.0) y))))
    layer_read (Sig-F.Prim k) e h = of_layer (Sig-F.Prim k) (sig.Prim k) (sig.rolls-Prim k) (all_none P)
    layer_read (Sig-F.Named v token) e h =
        let k : ℕ = class_number recs a rec token in of_layer (Sig-F.Named v k) (sig.Named v k) (sig.rolls-Named v k) (all_one P k (in_number token e h))
    layer_read (Sig-F.Array x) e h =
        let m = mapped_good (λ (y : TypeExpr). expr.Array y) (sig_expr n x.0) e h in of_layer (Sig-F.Array (world x.0)) (sig.Array (world x.0)) (sig.rolls-Array (world x.0)) (x.1 m.0 m.1)
    layer_read (Sig-F.ByRef x) e h =
        let m = mapped_good (λ (y : TypeExpr). expr.ByRef y) (sig_expr n x.0) e h in of_layer (Sig-F.ByRef (world x.0)) (sig.ByRef (world x.0)) (sig.rolls-ByRef (world x.0)) (x.1 m.0 m.1)
    layer_read (Sig-F.Inst v token xs) e h =
        let d = known_good (λ (d : TypeId). known_map (λ ys. expr.Inst d ys) (all_known (map (sig_expr n) (map (λ x. x.0) xs)))) (definition_named n token) e h in
        let m = mapped_good (λ ys. expr.Inst d.0 ys) (all_known (map (sig_expr n) (map (λ x. x.0) xs))) e d.2 in
        let k : ℕ = class_number recs a rec token in
        let ss : List Sig = map world (map (λ x. x.0) xs) in
        of_layer (Sig-F.Inst v k ss) (sig.Inst v k ss) (sig.rolls-Inst v k ss) (all_more P k (flat_map (λ ns. ns) (map numbers_in ss)) (definition_number token d.0 d.1) (args_read xs m.0 m.1))
    layer_read (Sig-F.Var k) e h = of_layer (Sig-F.Var k) (sig.Var k) (sig.rolls-Var k) (all_none P)
    layer_read (Sig-F.MVar k) e h = of_layer (Sig-F.MVar k) (sig.MVar k) (sig.rolls-MVar k) (all_none P)
    layer_read (Sig-F.Mod required token x) e h =
        let d = known_good (λ (d : TypeId). known_map (λ y. expr.Mod required d y) (sig_expr n x.0)) (modifier_named n token) e h in
        let m = mapped_good (λ y. expr.Mod required d.0 y) (sig_expr n x.0) e d.2 in
        let k : ℕ = modifier_number recs a rec token in
        of_layer (Sig-F.Mod required k (world x.0)) (sig.Mod required k (world x.0)) (sig.rolls-Mod required k (world x.0)) (all_more P k (numbers_in (world x.0)) (modifier_of token d.0 d.1) (x.1 m.0 m.1))
    layer_read (Sig-F.Pinned x) e h = of_layer (Sig-F.Pinned (world x.0)) (sig.Pinned (world x.0)) (sig.rolls-Pinned (world x.0)) (x.1 e h)

    rolled : (y : Sig-F Part) → Reads (roll-Sig (map-Sig Part Sig (λ x. x.0) y))
    unfolding world_sig sig_expr
    rolled y e h =
        subst (λ (s : Sig). Every P (numbers_in s)) (sym (fold-roll-Sig Sig (world_layer recs a rec) (map-Sig Part Sig (λ x. x.0) y)))
        (layer_read y e (sym (fold-roll-Sig (Known TypeExpr) (sig_layer n) (map-Sig Part Sig (λ x. x.0) y)) ∙ h))

    pub sig_reads : (s : Sig) (e : TypeExpr) → sig_expr n s ≡ Good e → All (numbers_in (world s))
    sig_reads s e h = ind-Sig Reads (λ x y is. subst (λ z. Reads (roll-Sig z)) is (rolled y)) s e h

    pub sigs_read : (ss : List Sig) (es : List TypeExpr) → arguments_of n ss ≡ Good es → All (numbers_of_sigs (world_sigs recs a rec ss))
    sigs_read [] es h = all_none P
    sigs_read (s ∷ ss) es h =
        let k = known_good (λ (y : TypeExpr). known_map (λ ys. y ∷ ys) (all_known (map (sig_expr n) ss))) (sig_expr n s) es h in
        let m = mapped_good (λ ys. k.0 ∷ ys) (all_known (map (sig_expr n) ss)) es k.2 in
        all_join P (numbers_in (world s)) (numbers_of_sigs (world_sigs recs a rec ss)) (sig_reads s k.0 k.1) (sigs_read ss m.0 m.1)

    pub method_sig_reads : (s : MethodSig) (t : MethodType) → method_type n s ≡ Good t → All (numbers_of_method_sig (world_method_sig recs a rec s))
    unfolding method_type
    method_sig_reads s t h =
        let k = known_good (λ (ret : TypeExpr). known_map (λ params. method_type_of s ret params) (all_known (map (sig_expr n) s.params))) (sig_expr n s.ret) t h in
        let m = mapped_good (λ params. method_type_of s k.0 params) (all_known (map (sig_expr n) s.params)) t k.2 in
        all_join P (numbers_in (world s.ret)) (numbers_of_sigs (world_sigs recs a rec s.params)) (sig_reads s.ret k.0 k.1) (sigs_read s.params m.0 m.1)

    -- ---- tokens of types

    abbrev good_key : Known Sig → Option TypeKey
    good_key (Good s) = Some (spec (world_sig recs a rec s))
    good_key (Bad why) = None

    good_read : (s : Known Sig) (e : TypeExpr) (k : TypeKey) → known_then (sig_expr n) s ≡ Good e → good_key s ≡ Some k → All (numbers_of_key k)
    good_read (Good s) e k h g = let same : spec (world_sig recs a rec s) ≡ k = cc in subst (λ (x : TypeKey). All (numbers_of_key x)) same (sig_reads s e h)
    good_read (Bad why) e k h g = absurd (cc)

    spec_read : (o : Option TypeSpecRow) (e : TypeExpr) (k : TypeKey) → spec_type_at recs a rec o ≡ Good e → spec_key recs a rec o ≡ Some k → All (numbers_of_key k)
    spec_read None e k h g = absurd (cc)
    spec_read (Some row) e k h g = good_read row.signature e k h g

    numbered_read : (m : ℕ) (k : TypeKey) → P m → numbered_key m ≡ Some k → All (numbers_of_key k)
    numbered_read zero k h g = absurd (cc)
    numbered_read (suc t) k h g =
        let same : named (record { 0 = t }) ≡ k = cc in
        subst (λ (x : TypeKey). All (numbers_of_key x)) same (all_one P (suc t) h)

    pub name_again : (token : ℕ) (e : TypeExpr) → (table_of token == TYPE_SPEC) ≡ false → named_type recs a rec token ≡ Good e → named_in n.types token ≡ Good e
    unfolding named_in
    name_again token e f h = ap (λ (b : Bool). if b then Bad Unresolved else known_or (Some (named_type recs a rec token))) f ∙ h

    key_by : (token : ℕ) (e : TypeExpr) (k : TypeKey) (b : Bool) → (table_of token == TYPE_SPEC) ≡ b
        → (if b then spec_type_at recs a rec (option_and_then (slice_get rec.type_spec) (index_in TYPE_SPEC token)) else named_type recs a rec token) ≡ Good e
        → (if b then spec_key recs a rec (option_and_then (slice_get rec.type_spec) (index_in TYPE_SPEC token)) else numbered_key (class_number recs a rec token)) ≡ Some k → All (numbers_of_key k)
    key_by token e k true f h g = spec_read (option_and_then (slice_get rec.type_spec) (index_in TYPE_SPEC token)) e k h g
    key_by token e k false f h g = numbered_read (class_number recs a rec token) k (named_number token e (name_again token e f h) h) g

    pub key_reads : (token : ℕ) (e : TypeExpr) (k : TypeKey) → token_type recs a rec token ≡ Good e → type_key recs a rec token ≡ Some k → All (numbers_of_key k)
    unfolding token_type type_key
    key_reads token e k h g = key_by token e k (table_of token == TYPE_SPEC) refl h g

  -- ---- signatures that are made of types

  abbrev made : TypeExpr → Sig
  made = made_sig recs

  abbrev IsMade : TypeExpr → Type 0
  IsMade e = Low recs e → Every P (numbers_in (made e))

  args_made : (xs : List (With IsMade)) → list_all both (map (names_of (below recs)) (map (λ x. x.0) xs)) ≡ true → Every P (flat_map (λ ns. ns) (map numbers_in (map made (map (λ x. x.0) xs))))
  args_made [] h = all_none P
  args_made (x ∷ xs) h =
      let first : Bool = both (names_of (below recs) x.0) in
      let rest : Bool = list_all both (map (names_of (below recs)) (map (λ x. x.0) xs)) in
      all_join P (numbers_in (made x.0)) (flat_map (λ ns. ns) (map numbers_in (map made (map (λ x. x.0) xs)))) (x.1 (first_so first rest h)) (args_made xs (second_so first rest h))

  layer_made : (y : TypeExpr-F (With IsMade)) → IsTrue (both (names_layer (below recs) (map-TypeExpr TypeExpr Names (names_of (below recs)) (plain_parts IsMade y))))
      → Every P (numbers_in (made_layer recs (map-TypeExpr TypeExpr Sig made (plain_parts IsMade y))))
  layer_made (TypeExpr-F.Prim n) h = of_layer (Sig-F.Prim n) (sig.Prim n) (sig.rolls-Prim n) (all_none P)
  layer_made (TypeExpr-F.Def t) h =
      let v : Bool = is_value recs t in
      of_layer (Sig-F.Named v (suc t.0)) (sig.Named v (suc t.0)) (sig.rolls-Named v (suc t.0)) (all_one P (suc t.0) (low_so t (first_so (nat_lt t.0 (bound recs)) (nat_lt t.0 (bound recs)) h)))
  layer_made (TypeExpr-F.Inst t xs) h =
      let v : Bool = is_value recs t in
      let ss : List Sig = map made (map (λ x. x.0) xs) in
      let b : Bool = nat_lt t.0 (bound recs) in
      let all : Bool = list_all both (map (names_of (below recs)) (map (λ x. x.0) xs)) in
      let g = first_so (b && all) (b && all) h in
      of_layer (Sig-F.Inst v (suc t.0) ss) (sig.Inst v (suc t.0) ss) (sig.rolls-Inst v (suc t.0) ss)
      (all_more P (suc t.0) (flat_map (λ ns. ns) (map numbers_in ss)) (low_so t (first_so b all g)) (args_made xs (second_so b all g)))
  layer_made (TypeExpr-F.Array x) h = of_layer (Sig-F.Array (made x.0)) (sig.Array (made x.0)) (sig.rolls-Array (made x.0)) (x.1 h)
  layer_made (TypeExpr-F.ByRef x) h = of_layer (Sig-F.ByRef (made x.0)) (sig.ByRef (made x.0)) (sig.rolls-ByRef (made x.0)) (x.1 h)
  layer_made (TypeExpr-F.Var n) h = of_layer (Sig-F.Var n) (sig.Var n) (sig.rolls-Var n) (all_none P)
  layer_made (TypeExpr-F.MVar n) h = of_layer (Sig-F.MVar n) (sig.MVar n) (sig.rolls-MVar n) (all_none P)
  layer_made (TypeExpr-F.Mod required by x) h =
      let b : Bool = nat_lt by.0 (bound recs) in
      let n : Names = names_of (below recs) x.0 in
      let p = first_so (b && n.kept) (b && n.shown) h in
      let q = second_so (b && n.kept) (b && n.shown) h in
      of_layer (Sig-F.Mod required (suc by.0) (made x.0)) (sig.Mod required (suc by.0) (made x.0)) (sig.rolls-Mod required (suc by.0) (made x.0))
      (all_more P (suc by.0) (numbers_in (made x.0)) (low_so by (first_so b n.kept p)) (x.1 (and_from n.kept n.shown (second_so b n.kept p) (second_so b n.shown q))))

  rolled_made : (y : TypeExpr-F (With IsMade)) → IsMade (roll-TypeExpr (plain_parts IsMade y))
  unfolding made_sig
  rolled_made y h =
      subst (λ (s : Sig). Every P (numbers_in s)) (sym (fold-roll-TypeExpr Sig (made_layer recs) (plain_parts IsMade y)))
      (layer_made y (sym (ap both (names_rolled (below recs) (plain_parts IsMade y))) ∙ h))

  made_read : (e : TypeExpr) → Low recs e → All (numbers_in (made_sig recs e))
  made_read e low = ind-TypeExpr IsMade (λ x y is. subst (λ z. IsMade (roll-TypeExpr z)) is (rolled_made y)) e low

  -- ---- owners of members

  made_key : (e : TypeExpr) (k : TypeKey) → Low recs e → Some (spec (made_sig recs e)) ≡ Some k → All (numbers_of_key k)
  made_key e k low h = let same : spec (made_sig recs e) ≡ k = cc in subst (λ (x : TypeKey). All (numbers_of_key x)) same (made_read e low)

  expr_by : (e : TypeExpr) (x : TypeExpr-F TypeExpr) (k : TypeKey) → IsTrue (both (names_layer (below recs) (map-TypeExpr TypeExpr Names (names_of (below recs)) x))) → Low recs e → expr_key_in recs e x ≡ Some k → All (numbers_of_key k)
  expr_by e (TypeExpr-F.Def t) k g low h =
      let same : named t ≡ k = cc in
      subst (λ (x : TypeKey). All (numbers_of_key x)) same (all_one P (suc t.0) (low_so t (first_so (nat_lt t.0 (bound recs)) (nat_lt t.0 (bound recs)) g)))
  expr_by e (TypeExpr-F.Prim n) k g low h =
      let m = map_some named (prim_type recs n) k h in
      subst (λ (x : TypeKey). All (numbers_of_key x)) m.2 (let u : TypeId = m.0 in all_one P (suc u.0) (low_so u (prim_low recs n u m.1)))
  expr_by e (TypeExpr-F.Inst t args) k g low h = made_key e k low h
  expr_by e (TypeExpr-F.Array x) k g low h = made_key e k low h
  expr_by e (TypeExpr-F.ByRef x) k g low h = made_key e k low h
  expr_by e (TypeExpr-F.Var n) k g low h = made_key e k low h
  expr_by e (TypeExpr-F.MVar n) k g low h = made_key e k low h
  expr_by e (TypeExpr-F.Mod required by x) k g low h = made_key e k low h

  pub owner_reads : (e : TypeExpr) → Low recs e → All (numbers_of_owner recs e)
  unfolding expr_key
  owner_reads e low = all_option P numbers_of_key (expr_key recs e) (λ k h. expr_by e (out-TypeExpr e) k (sym (ap both (names_out (below recs) e)) ∙ low) low h)
