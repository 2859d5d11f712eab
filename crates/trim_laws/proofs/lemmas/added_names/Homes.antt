-- The types that a signature or a token of an input names, where it has a reading, are types of the world.
use Rattle.std.proofs.Common.{◌≡◌, ◌<◌, ℕ, zero, suc, ◌+◌, ◌-◌, List, [], ◌∷◌, ◌++◌, length, map, nat_lt, Bool, true, false, Option, Some, None, ◌⊎◌, inl, inr, refl, sym, ap, subst, ◌∙◌, ◌||◌, arith}
use Rattle.std.specs.Prelude.{slice_get, position, ◌==◌, if◌then◌else◌}
use Rattle.std.specs.List.{flat_map, list_any}
use Rattle.std.specs.Option.{option_map, option_and_then}
use Rattle.std.proofs.lemmas.Bool.{ltb-true, or_left, or_right, eq-eqb}
use Rattle.il_base.specs.declared.ids.TypeId.{TypeId}
use Rattle.il_base.specs.declared.sig.Sig.{Sig, fold-Sig, fold-roll-Sig, ind-Sig, roll-Sig}
use Rattle.il_base.specs.declared.sig.Sig.TheFolds.{map-Sig}
use Rattle.il_base.specs.declared.sig.Sig.TheOpen.{Sig-F}
use Rattle.il_base.specs.declared.sig.Sig.TheVariants as sig
use Rattle.il_base.specs.declared.sig.MethodSig.{MethodSig}
use Rattle.il_base.specs.declared.world_model.known.Known.{Known}
use Rattle.il_base.specs.declared.world_model.known.Known.TheVariants.{Good, Bad}
use Rattle.il_base.specs.declared.world_model.known.BadKind.TheVariants.{Unresolved}
use Rattle.il_base.specs.declared.world_model.expr.TypeExpr.{TypeExpr, out-TypeExpr}
use Rattle.il_base.specs.declared.world_model.expr.TypeExpr.TheOpen.{TypeExpr-F}
use Rattle.il_base.specs.declared.world_model.expr.TypeExpr.TheVariants as expr
use Rattle.il_base.specs.declared.world_model.types.TypeSpecRow.{TypeSpecRow}
use Rattle.il_base.specs.declared.world_model.types.TypeDefRow.{TypeDefRow}
use Rattle.il_base.specs.declared.world_model.record.AsmRec.{AsmRec}
use Rattle.il_base.specs.world_model.Core.{is_code}
use Rattle.il_base.specs.world_model.Tokens.{table_of, index_in}
use Rattle.il_base.specs.world_model.Worlds as worlds
use Rattle.il_base.specs.world_model.Worlds.{known_map, known_then, known_or, all_known, types_in, type_id, core_types, prim_of, is_code_of, prim_type, named_in, definition_of, definition_named, found_or_named, modifier_named, sig_layer, sig_expr}
use Rattle.rules.specs.declared.link_rules.row_at.RowAt.{RowAt}
use Rattle.rules.specs.declared.link_rules.member_type.MethodType.{MethodType}
use Rattle.rules.specs.link_rules.Types.{definition_at, added_by}
use Rattle.rules.specs.link_rules.Signatures.{prim_at, definition_expr, known_expr, named_type, names_at, method_type_of, method_type, spec_type_at, token_type}
use Rattle.rules.specs.link_rules.Members.{type_home}
use Rattle.base_laws.proofs.lemmas.type_laws.Within.{In, in_parts, in_map, in_flat}
use Rattle.base_laws.proofs.lemmas.type_laws.Upwards.{out_is}
use Rattle.base_laws.proofs.lemmas.known_laws.Lists.{and_then_some}
use Rattle.rules.specs.merge_rules.Keys.{TypeKey, named, spec, number_of, number_or, absent_number, found_or, class_number, modifier_number, numbered_key, spec_key, type_key, world_layer, world_sig, world_method_sig}
use Rattle.rules.specs.merge_rules.Refs.{numbers_layer, numbers_in, type_of_number, types_of_sig, types_of_method_sig, types_of_key}
use Rattle.merge_laws.proofs.lemmas.merged_tokens.Once.{below_home}
use Rattle.merge_laws.proofs.lemmas.merged_references.Lists.{Placed, placed}
use Rattle.merge_laws.proofs.lemmas.merged_signatures.Agreeing.{defines}
use Rattle.merge_laws.proofs.lemmas.merged_standing.Low.{bound, IsLow, stands_low, prim_low, token_stands, added_low}
use Rattle.trim_laws.proofs.lemmas.added_names.Tokens.{known_good, mapped_good}

any_at : {A : Type 0} (p : A → Bool) (xs : List A) (k : ℕ) (x : A) → slice_get xs k ≡ Some x → p x ≡ true → list_any p xs ≡ true
any_at p [] k x e h = absurd (cc)
any_at p (y ∷ xs) zero x e h = let same : y ≡ x = cc in or_left (p y) (list_any p xs) (ap p same ∙ h)
any_at p (y ∷ xs) (suc k) x e h = or_right (p y) (list_any p xs) (any_at p xs k x e h)

code_is : (n : ℕ) (o : Option ℕ) → o ≡ Some n → is_code n o ≡ true
code_is n None e = absurd (cc)
code_is n (Some m) e = let same : m ≡ n = cc in eq-eqb m n same

module _ (recs : List AsmRec) where
  -- ---- a primitive is a type of the core library

  prim_by : (at : RowAt) (n : ℕ) (b : Bool) → (if b then option_and_then prim_of (slice_get (core_types recs) at.row) else None) ≡ Some n → Placed (is_code_of n) (core_types recs)
  prim_by at n true e =
      let r = and_then_some prim_of (slice_get (core_types recs) at.row) n e in
      placed (is_code_of n) (core_types recs) (any_at (is_code_of n) (core_types recs) at.row r.0 r.1 (code_is n (prim_of r.0) r.2))
  prim_by at n false e = absurd (cc)

  prim_there : (at : RowAt) (n : ℕ) → prim_at recs at ≡ Some n → (t : TypeId) × (prim_type recs n ≡ Some t)
  unfolding prim_type
  prim_there at n h =
      let p = prim_by at n (suc at.asm == length recs) h in
      (type_id recs (length recs - 1) p.index, ap (option_map (λ k. type_id recs (length recs - 1) k)) p.is)

  -- ---- numbers of types of the world

  abbrev is_low : ℕ → Bool
  is_low zero = true
  is_low (suc t) = nat_lt t (bound recs)

  abbrev number_in : TypeExpr-F TypeExpr → ℕ
  number_in (TypeExpr-F.Def t) = suc t.0
  number_in (TypeExpr-F.Prim n) = elim (prim_type recs n) [ Some t ↦ suc t.0 | None ↦ 0 ]
  number_in _ = 0

  number_is : (x : TypeExpr-F TypeExpr) (e : TypeExpr) → out-TypeExpr e ≡ x → number_of recs (Good e) ≡ number_in x
  number_is x e f = ap number_in f

  pub record AllLow (ns : List ℕ) : Type 0 where
    pub each : (n : ℕ) → In n ns → is_low n ≡ true

  low_none : AllLow []
  low_none = record { each = λ n h. absurd h }

  more_by : (n k : ℕ) (ns : List ℕ) → is_low n ≡ true → AllLow ns → (k ≡ n) ⊎ In k ns → is_low k ≡ true
  more_by n k ns l f (inl e) = ap is_low e ∙ l
  more_by n k ns l f (inr h) = f.each k h

  low_more : (n : ℕ) (ns : List ℕ) → is_low n ≡ true → AllLow ns → AllLow (n ∷ ns)
  low_more n ns l f = record { each = λ k h. more_by n k ns l f h }

  join_by : (k : ℕ) (ns ms : List ℕ) → AllLow ns → AllLow ms → In k ns ⊎ In k ms → is_low k ≡ true
  join_by k ns ms f g (inl h) = f.each k h
  join_by k ns ms f g (inr h) = g.each k h

  low_join : (ns ms : List ℕ) → AllLow ns → AllLow ms → AllLow (ns ++ ms)
  low_join ns ms f g = record { each = λ k h. join_by k ns ms f g (in_parts k ns ms h) }

  numbers_are : (x : Sig-F Sig) (s : Sig) → roll-Sig x ≡ s → numbers_in s ≡ numbers_layer (map-Sig Sig (List ℕ) numbers_in x)
  unfolding numbers_in
  numbers_are x s e = ap (fold-Sig (List ℕ) numbers_layer) (sym e) ∙ fold-roll-Sig (List ℕ) numbers_layer x

  of_layer : (x : Sig-F Sig) (s : Sig) → roll-Sig x ≡ s → AllLow (numbers_layer (map-Sig Sig (List ℕ) numbers_in x)) → AllLow (numbers_in s)
  of_layer x s e h = subst AllLow (sym (numbers_are x s e)) h

  -- a type with a low number is a row
  pub low_home : (t : TypeId) → is_low (suc t.0) ≡ true → (at : RowAt) × (type_home recs t ≡ Some at)
  low_home t l = below_home types_in recs 0 t.0 (ltb-true t.0 (bound recs) l)

  number_low : (n : ℕ) (t : TypeId) → In t (type_of_number n) → is_low n ≡ true → is_low (suc t.0) ≡ true
  number_low zero t h l = absurd h
  number_low (suc k) t (inl e) l = ap (λ (u : TypeId). nat_lt u.0 (bound recs)) e ∙ l
  number_low (suc k) t (inr h) l = absurd h

  pub sig_homes : (s : Sig) → AllLow (numbers_in s) → (t : TypeId) → In t (types_of_sig s) → (at : RowAt) × (type_home recs t ≡ Some at)
  sig_homes s f t h =
      let m = in_flat type_of_number t (numbers_in s) h in
      low_home t (number_low m.0 t m.2 (f.each m.0 m.1))

  module _ (a : ℕ) (rec : AsmRec) (there : slice_get recs a ≡ Some rec) where
    -- ---- tokens

    definition_by : (at : RowAt) (o : Option ℕ) → prim_at recs at ≡ o → IsLow recs (type_id recs at.asm at.row)
        → (t : TypeId) × (number_of recs (Good (elim o [ Some n ↦ expr.Prim n | None ↦ expr.Def (type_id recs at.asm at.row) ])) ≡ suc t.0) × IsLow recs t
    definition_by at None e l =
        let t : TypeId = type_id recs at.asm at.row in
        (t, number_is (TypeExpr-F.Def t) (expr.Def t) (out_is (TypeExpr-F.Def t) (expr.Def t) (expr.rolls-Def t)), l)
    definition_by at (Some n) e l =
        let p = prim_there at n e in (
          p.0,
          number_is (TypeExpr-F.Prim n) (expr.Prim n) (out_is (TypeExpr-F.Prim n) (expr.Prim n) (expr.rolls-Prim n)) ∙ ap (λ (o : Option TypeId). elim o as (λ o. ℕ) [ Some t ↦ suc t.0 | None ↦ 0 ]) p.1,
          prim_low recs n p.0 p.1,
        )

    definition_number : (at : RowAt) → IsLow recs (type_id recs at.asm at.row) → (t : TypeId) × (number_of recs (Good (definition_expr recs at)) ≡ suc t.0) × IsLow recs t
    unfolding definition_expr
    definition_number at l = definition_by at (prim_at recs at) refl l

    class_is : (token n : ℕ) (e : TypeExpr) → named_type recs a rec token ≡ Good e → number_of recs (Good e) ≡ suc n → class_number recs a rec token ≡ suc n
    unfolding class_number
    class_is token n e f g = ap (λ (k : Known TypeExpr). found_or (number_of recs k) (absent_number recs a token)) f ∙ ap (λ (m : ℕ). found_or m (absent_number recs a token)) g

    pub class_low : (token : ℕ) (e : TypeExpr) → named_type recs a rec token ≡ Good e → is_low (class_number recs a rec token) ≡ true
    class_low token e f =
        let d = defines recs a rec token e f in
        let n = definition_number d.at (stands_low recs d.at (token_stands recs a rec there token d.at d.is)) in
        ap is_low (class_is token n.0.0 e f (ap (λ (x : TypeExpr). number_of recs (Good x)) (sym d.gives) ∙ n.1)) ∙ n.2

    abbrev n : worlds.Names
    n = names_at recs a rec

    in_by : (token : ℕ) (e : TypeExpr) (b : Bool) → (if b then Bad Unresolved else known_or (Some (named_type recs a rec token))) ≡ Good e → is_low (class_number recs a rec token) ≡ true
    in_by token e true h = absurd (cc)
    in_by token e false h = class_low token e h

    in_low : (token : ℕ) (e : TypeExpr) → named_in n.types token ≡ Good e → is_low (class_number recs a rec token) ≡ true
    unfolding named_in
    in_low token e h = in_by token e (table_of token == 0x1b) h

    defined_low : (token : ℕ) (t : TypeId) → definition_named n token ≡ Good t → is_low (class_number recs a rec token) ≡ true
    unfolding definition_named
    defined_low token t h = let k = known_good (definition_of (prim_type recs)) (named_in n.types token) t h in in_low token k.0 k.1

    modifier_by : (token : ℕ) (t : TypeId) (o : Option TypeId) → added_by recs a rec token ≡ o → found_or_named o (definition_named n token) ≡ Good t → is_low (number_or o (class_number recs a rec token)) ≡ true
    modifier_by token t None e h = defined_low token t h
    modifier_by token t (Some u) e h = added_low recs a rec there token u e

    modifier_low : (token : ℕ) (t : TypeId) → modifier_named n token ≡ Good t → is_low (modifier_number recs a rec token) ≡ true
    unfolding modifier_named
    modifier_low token t h = modifier_by token t (added_by recs a rec token) refl h

    -- ---- signatures

    abbrev world : Sig → Sig
    world = world_sig recs a rec

    abbrev Reads : Sig → Type 0
    Reads s = (e : TypeExpr) → sig_expr n s ≡ Good e → AllLow (numbers_in (world s))

    abbrev Part : Type 0
    Part = (s : Sig) × Reads s

    abbrev plain : List Part → List Sig
    plain xs = map (λ x. x.0) xs

    args_low : (xs : List Part) (es : List TypeExpr) → all_known (map (sig_expr n) (plain xs)) ≡ Good es → AllLow (flat_map (λ ns. ns) (map numbers_in (map world (plain xs))))
    args_low [] es h = low_none
    args_low (x ∷ xs) es h =
        let k = known_good (λ (y : TypeExpr). known_map (λ ys. y ∷ ys) (all_known (map (sig_expr n) (plain xs)))) (sig_expr n x.0) es h in
        let m = mapped_good (λ ys. k.0 ∷ ys) (all_known (map (sig_expr n) (plain xs))) es k.2 in
        low_join (numbers_in (world x.0)) (flat_map (λ ns. ns) (map numbers_in (map world (plain xs)))) (x.1 k.0 k.1) (args_low xs m.0 m.1)

    abbrev OfLayer : Sig-F Part → Type 0
    OfLayer y = AllLow (numbers_in (world_layer recs a rec (map-Sig Sig Sig world (map-Sig Part Sig (λ x. x.0) y))))

    layer_low : (y : Sig-F Part) (e : TypeExpr) → sig_layer n (map-Sig Sig (Known TypeExpr) (sig_expr n) (map-Sig Part Sig (λ x. x.0) y)) ≡ Good e → OfLayer y
    layer_low (Sig-F.Prim k) e h = of_layer (Sig-F.Prim k) (sig.Prim k) (sig.rolls-Prim k) low_none
    layer_low (Sig-F.Named v token) e h =
        let k : ℕ = class_number recs a rec token in of_layer (Sig-F.Named v k) (sig.Named v k) (sig.rolls-Named v k) (low_more k [] (in_low token e h) low_none)
    layer_low (Sig-F.Array x) e h =
        let m = mapped_good (λ (y : TypeExpr). expr.Array y) (sig_expr n x.0) e h in of_layer (Sig-F.Array (world x.0)) (sig.Array (world x.0)) (sig.rolls-Array (world x.0)) (x.1 m.0 m.1)
    layer_low (Sig-F.ByRef x) e h =
        let m = mapped_good (λ (y : TypeExpr). expr.ByRef y) (sig_expr n x.0) e h in of_layer (Sig-F.ByRef (world x.0)) (sig.ByRef (world x.0)) (sig.rolls-ByRef (world x.0)) (x.1 m.0 m.1)
    layer_low (Sig-F.Inst v token xs) e h =
        let d = known_good (λ (d : TypeId). known_map (λ ys. expr.Inst d ys) (all_known (map (sig_expr n) (plain xs)))) (definition_named n token) e h in
        let m = mapped_good (λ ys. expr.Inst d.0 ys) (all_known (map (sig_expr n) (plain xs))) e d.2 in
        let k : ℕ = class_number recs a rec token in
        let ss : List Sig = map world (plain xs) in
        of_layer (Sig-F.Inst v k ss) (sig.Inst v k ss) (sig.rolls-Inst v k ss) (low_more k (flat_map (λ ns. ns) (map numbers_in ss)) (defined_low token d.0 d.1) (args_low xs m.0 m.1))
    layer_low (Sig-F.Var k) e h = of_layer (Sig-F.Var k) (sig.Var k) (sig.rolls-Var k) low_none
    layer_low (Sig-F.MVar k) e h = of_layer (Sig-F.MVar k) (sig.MVar k) (sig.rolls-MVar k) low_none
    layer_low (Sig-F.Mod required token x) e h =
        let d = known_good (λ (d : TypeId). known_map (λ y. expr.Mod required d y) (sig_expr n x.0)) (modifier_named n token) e h in
        let m = mapped_good (λ y. expr.Mod required d.0 y) (sig_expr n x.0) e d.2 in
        let k : ℕ = modifier_number recs a rec token in
        of_layer (Sig-F.Mod required k (world x.0)) (sig.Mod required k (world x.0)) (sig.rolls-Mod required k (world x.0)) (low_more k (numbers_in (world x.0)) (modifier_low token d.0 d.1) (x.1 m.0 m.1))
    layer_low (Sig-F.Pinned x) e h = of_layer (Sig-F.Pinned (world x.0)) (sig.Pinned (world x.0)) (sig.rolls-Pinned (world x.0)) (x.1 e h)

    rolled : (y : Sig-F Part) → Reads (roll-Sig (map-Sig Part Sig (λ x. x.0) y))
    unfolding sig_expr world_sig
    rolled y e h =
        subst (λ (s : Sig). AllLow (numbers_in s)) (sym (fold-roll-Sig Sig (world_layer recs a rec) (map-Sig Part Sig (λ x. x.0) y)))
        (layer_low y e (sym (fold-roll-Sig (Known TypeExpr) (sig_layer n) (map-Sig Part Sig (λ x. x.0) y)) ∙ h))

    sig_low : (s : Sig) → Reads s
    sig_low = ind-Sig Reads (λ x y is. subst (λ z. Reads (roll-Sig z)) is (rolled y))

    -- ---- what has a reading names types of the world

    pub sig_there : (s : Sig) (e : TypeExpr) (t : TypeId) → sig_expr n s ≡ Good e → In t (types_of_sig (world_sig recs a rec s)) → (at : RowAt) × (type_home recs t ≡ Some at)
    sig_there s e t h i = sig_homes (world_sig recs a rec s) (sig_low s e h) t i

    head_good : (x s : Sig) (ss : List Sig) (e : TypeExpr) → sig_expr n x ≡ Good e → (In s ss → (e : TypeExpr) × (sig_expr n s ≡ Good e)) → (s ≡ x) ⊎ In s ss → (e : TypeExpr) × (sig_expr n s ≡ Good e)
    head_good x s ss e f more (inl is) = (e, ap (sig_expr n) is ∙ f)
    head_good x s ss e f more (inr j) = more j

    params_good : (ss : List Sig) (es : List TypeExpr) (s : Sig) → all_known (map (sig_expr n) ss) ≡ Good es → In s ss → (e : TypeExpr) × (sig_expr n s ≡ Good e)
    params_good [] es s h i = absurd i
    params_good (x ∷ ss) es s h i =
        let k = known_good (λ (y : TypeExpr). known_map (λ ys. y ∷ ys) (all_known (map (sig_expr n) ss))) (sig_expr n x) es h in
        let m = mapped_good (λ ys. k.0 ∷ ys) (all_known (map (sig_expr n) ss)) es k.2 in
        head_good x s ss k.0 k.1 (params_good ss m.0 s m.1) i

    -- the return and the parameters
    pub method_good : (g : MethodSig) (m : MethodType) (s : Sig) → method_type n g ≡ Good m → In s (g.ret ∷ g.params) → (e : TypeExpr) × (sig_expr n s ≡ Good e)
    unfolding method_type
    method_good g m s h i =
        let r = known_good (λ (ret : TypeExpr). known_map (λ params. method_type_of g ret params) (all_known (map (sig_expr n) g.params))) (sig_expr n g.ret) m h in
        let p = mapped_good (λ params. method_type_of g r.0 params) (all_known (map (sig_expr n) g.params)) m r.2 in
        head_good g.ret s g.params r.0 r.1 (params_good g.params p.0 s p.1) i

    pub method_there : (g : MethodSig) (m : MethodType) (t : TypeId) → method_type n g ≡ Good m → In t (types_of_method_sig (world_method_sig recs a rec g)) → (at : RowAt) × (type_home recs t ≡ Some at)
    method_there g m t h i =
        let s = in_flat types_of_sig t (map (world_sig recs a rec) (g.ret ∷ g.params)) i in
        let y = in_map (world_sig recs a rec) s.0 (g.ret ∷ g.params) s.1 in
        let e = method_good g m y.0 h y.1 in
        sig_there y.0 e.0 t e.1 (subst (λ (x : Sig). In t (types_of_sig x)) y.2 s.2)

    -- ---- keys of tokens

    spec_there : (o : Option TypeSpecRow) (e : TypeExpr) (k : TypeKey) (t : TypeId) → spec_type_at recs a rec o ≡ Good e → spec_key recs a rec o ≡ Some k → In t (types_of_key k) → (at : RowAt) × (type_home recs t ≡ Some at)
    spec_there None e k t h f i = absurd (cc)
    spec_there (Some row) e k t h f i =
        let s = known_good (sig_expr n) row.signature e h in
        let g : spec_key recs a rec (Some row) ≡ Some (spec (world_sig recs a rec s.0)) = ap (λ (x : Known Sig). spec_key recs a rec (Some (record { signature = x }))) s.1 in
        let same : spec (world_sig recs a rec s.0) ≡ k = cc in
        sig_there s.0 e t s.2 (subst (λ (x : TypeKey). In t (types_of_key x)) (sym same) i)

    number_there : (m : ℕ) (k : TypeKey) (t : TypeId) → is_low m ≡ true → numbered_key m ≡ Some k → In t (types_of_key k) → (at : RowAt) × (type_home recs t ≡ Some at)
    number_there zero k t l f i = absurd (cc)
    number_there (suc u) k t l f i =
        let same : named (record { 0 = u }) ≡ k = cc in
        by_one (subst (λ (x : TypeKey). In t (types_of_key x)) (sym same) i)
      where
        by_one : In t (record { 0 = u } ∷ []) → (at : RowAt) × (type_home recs t ≡ Some at)
        by_one (inl e) = low_home t (ap (λ (x : TypeId). nat_lt x.0 (bound recs)) e ∙ l)
        by_one (inr j) = absurd j

    key_by : (token : ℕ) (e : TypeExpr) (k : TypeKey) (t : TypeId) (b : Bool)
        → (if b then spec_type_at recs a rec (option_and_then (slice_get rec.type_spec) (index_in 0x1b token)) else named_type recs a rec token) ≡ Good e
        → (if b then spec_key recs a rec (option_and_then (slice_get rec.type_spec) (index_in 0x1b token)) else numbered_key (class_number recs a rec token)) ≡ Some k
        → In t (types_of_key k) → (at : RowAt) × (type_home recs t ≡ Some at)
    key_by token e k t true h f i = spec_there (option_and_then (slice_get rec.type_spec) (index_in 0x1b token)) e k t h f i
    key_by token e k t false h f i = number_there (class_number recs a rec token) k t (class_low token e h) f i

    pub key_there : (token : ℕ) (e : TypeExpr) (k : TypeKey) (t : TypeId) → token_type recs a rec token ≡ Good e → type_key recs a rec token ≡ Some k → In t (types_of_key k) → (at : RowAt) × (type_home recs t ≡ Some at)
    unfolding token_type type_key
    key_there token e k t h f i = key_by token e k t (table_of token == 0x1b) h f i
