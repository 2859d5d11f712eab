-- A signature that is written over the types of the world has each type that it names, and so has the key of a token or of an owner.
use Rattle.std.proofs.Common.{◌≡◌, ℕ, zero, suc, Bool, true, false, List, [], ◌∷◌, ◌++◌, map, Option, Some, None, refl, sym, ap, subst, ◌∙◌, ◌⊎◌, inl, inr}
use Rattle.std.specs.Prelude.{slice_get, ◌==◌, if◌then◌else◌}
use Rattle.std.specs.List.{Contains, flat_map}
use Rattle.std.specs.Option.{option_and_then, option_map}
use Rattle.std.proofs.lemmas.List.Elements.{Contains-append_left, Contains-append_right, Contains-append_cases}
use Rattle.il_base.specs.declared.ids.TypeId.{TypeId}
use Rattle.il_base.specs.declared.sig.Sig.{Sig, fold-Sig, fold-roll-Sig, ind-Sig, roll-Sig}
use Rattle.il_base.specs.declared.sig.Sig.TheFolds.{map-Sig}
use Rattle.il_base.specs.declared.sig.Sig.TheOpen.{Sig-F}
use Rattle.il_base.specs.declared.sig.Sig.TheVariants as sig
use Rattle.il_base.specs.declared.sig.MethodSig.{MethodSig}
use Rattle.il_base.specs.declared.table.TheConstants.{TYPE_SPEC}
use Rattle.il_base.specs.declared.world_model.known.Known.{Known}
use Rattle.il_base.specs.declared.world_model.known.Known.TheVariants.{Good, Bad}
use Rattle.il_base.specs.declared.world_model.known.BadKind.TheVariants.{Unresolved}
use Rattle.il_base.specs.declared.world_model.expr.TypeExpr.{TypeExpr, fold-roll-TypeExpr, ind-TypeExpr, out-TypeExpr, roll-TypeExpr, roll-out-TypeExpr}
use Rattle.il_base.specs.declared.world_model.expr.TypeExpr.TheFolds.{map-TypeExpr}
use Rattle.il_base.specs.declared.world_model.expr.TypeExpr.TheOpen.{TypeExpr-F}
use Rattle.il_base.specs.declared.world_model.expr.TypeExpr.TheVariants as expr
use Rattle.il_base.specs.declared.world_model.types.TypeSpecRow.{TypeSpecRow}
use Rattle.il_base.specs.declared.world_model.record.AsmRec.{AsmRec}
use Rattle.il_base.specs.world_model.Tokens.{table_of, index_in}
use Rattle.il_base.specs.world_model.Worlds.{prim_type, type_id, known_map, known_then, all_known, known_type, named_in, definition_in, definition_of, definition_named, found_or_named, modifier_named, sig_layer, sig_expr}
use Rattle.il_base.specs.world_model.Worlds as worlds
use Rattle.rules.specs.declared.link_rules.row_at.RowAt.{RowAt}
use Rattle.rules.specs.link_rules.Types.{definition_at, added_by}
use Rattle.rules.specs.declared.link_rules.member_type.MethodType.{MethodType}
use Rattle.rules.specs.link_rules.Signatures.{prim_at, definition_expr, known_expr, named_type, names_at, spec_type_at, token_type, method_type_of, method_type}
use Rattle.base_laws.proofs.lemmas.type_laws.Upwards.{out_is}
use Rattle.base_laws.proofs.lemmas.known_laws.Lists.{none_in, first_in, later_in, one_is, head_or, to_flat}
use Rattle.base_laws.proofs.lemmas.change_laws.Exprs.{With, plain_parts}
use Rattle.rules.specs.mark_rules.Naming as naming
use Rattle.rules.specs.merge_rules.Keys.{TypeKey, named, spec, number_of, number_or, absent_number, found_or, class_number, modifier_number, world_layer, world_sig, is_value, made_layer, made_sig, numbered_key, spec_key, type_key, expr_key_in, expr_key}
use Rattle.rules.specs.merge_rules.Refs.{numbers_layer, numbers_in, type_of_number, types_of_sig, types_of_key}
use Rattle.merge_laws.proofs.lemmas.merged_signatures.Reading.{good_map, good_then}

pub types_are : (x : TypeExpr-F TypeExpr) (e : TypeExpr) → roll-TypeExpr x ≡ e → naming.types_in e ≡ naming.types_layer (map-TypeExpr TypeExpr (List TypeId) naming.types_in x)
unfolding naming.types_in
types_are x e is = ap naming.types_in (sym is) ∙ fold-roll-TypeExpr (List TypeId) naming.types_layer x

numbers_are : (x : Sig-F Sig) (s : Sig) → roll-Sig x ≡ s → numbers_in s ≡ numbers_layer (map-Sig Sig (List ℕ) numbers_in x)
unfolding numbers_in
numbers_are x s e = ap (fold-Sig (List ℕ) numbers_layer) (sym e) ∙ fold-roll-Sig (List ℕ) numbers_layer x

has_layer : (k : ℕ) (x : Sig-F Sig) (s : Sig) → roll-Sig x ≡ s → Contains (numbers_layer (map-Sig Sig (List ℕ) numbers_in x)) k → Contains (numbers_in s) k
has_layer k x s e h = subst (λ (ns : List ℕ). Contains ns k) (sym (numbers_are x s e)) h

-- the types of a signature by their numbers
pub numbered : (s : Sig) (t : TypeId) → Contains (numbers_in s) (suc t.0) → Contains (types_of_sig s) t
numbered s t c = to_flat type_of_number (numbers_in s) t (record { item = suc t.0; there = c; inside = first_in t [] })

module _ (recs : List AsmRec) where
  -- ---- the number of a definition

  abbrev number_as : TypeExpr-F TypeExpr → ℕ
  number_as (TypeExpr-F.Def t) = suc t.0
  number_as (TypeExpr-F.Prim n) = elim (prim_type recs n) [ Some t ↦ suc t.0 | None ↦ 0 ]
  number_as _ = 0

  number_is : (e : TypeExpr) → number_of recs (Good e) ≡ number_as (out-TypeExpr e)
  number_is e = refl

  defined_as : (x : TypeExpr-F TypeExpr) (t : TypeId) → definition_in (prim_type recs) x ≡ Good t → number_as x ≡ suc t.0
  defined_as (TypeExpr-F.Prim n) t e = by_prim (prim_type recs n) e
    where
      by_prim : (o : Option TypeId) → known_type o ≡ Good t → (elim o as (λ o. ℕ) [ Some u ↦ suc u.0 | None ↦ 0 ]) ≡ suc t.0
      by_prim None f = absurd (cc)
      by_prim (Some u) f = let same : u ≡ t = cc in ap (λ (v : TypeId). suc v.0) same
  defined_as (TypeExpr-F.Def u) t e = let same : u ≡ t = cc in ap (λ (v : TypeId). suc v.0) same
  defined_as (TypeExpr-F.Inst u args) t e = absurd (cc)
  defined_as (TypeExpr-F.Array x) t e = absurd (cc)
  defined_as (TypeExpr-F.ByRef x) t e = absurd (cc)
  defined_as (TypeExpr-F.Var n) t e = absurd (cc)
  defined_as (TypeExpr-F.MVar n) t e = absurd (cc)
  defined_as (TypeExpr-F.Mod required by x) t e = absurd (cc)

  defined_number : (e : TypeExpr) (t : TypeId) → definition_of (prim_type recs) e ≡ Good t → number_of recs (Good e) ≡ suc t.0
  unfolding definition_of
  defined_number e t h = number_is e ∙ defined_as (out-TypeExpr e) t h

  def_number : (t : TypeId) → number_of recs (Good (expr.Def t)) ≡ suc t.0
  def_number t = number_is (expr.Def t) ∙ ap number_as (out_is (TypeExpr-F.Def t) (expr.Def t) (expr.rolls-Def t))

  -- a row as a type names itself, or nothing
  row_number : (at : RowAt) (o : Option ℕ) (t : TypeId) → Contains (naming.types_in (elim o as (λ o. TypeExpr) [ Some n ↦ expr.Prim n | None ↦ expr.Def (type_id recs at.asm at.row) ])) t
      → number_of recs (Good (elim o as (λ o. TypeExpr) [ Some n ↦ expr.Prim n | None ↦ expr.Def (type_id recs at.asm at.row) ])) ≡ suc t.0
  row_number at None t c =
      let d : TypeId = type_id recs at.asm at.row in
      let one : Contains (d ∷ []) t = subst (λ (ts : List TypeId). Contains ts t) (types_are (TypeExpr-F.Def d) (expr.Def d) (expr.rolls-Def d)) c in
      def_number d ∙ ap (λ (v : TypeId). suc v.0) (one_is d t one)
  row_number at (Some n) t c = absurd (none_in t (subst (λ (ts : List TypeId). Contains ts t) (types_are (TypeExpr-F.Prim n) (expr.Prim n) (expr.rolls-Prim n)) c))

  expr_number : (at : RowAt) (t : TypeId) → Contains (naming.types_in (definition_expr recs at)) t → number_of recs (Good (definition_expr recs at)) ≡ suc t.0
  unfolding definition_expr
  expr_number at t c = row_number at (prim_at recs at) t c

  -- ---- a signature that is made of a type has its types

  abbrev IsMade : TypeExpr → Type 0
  IsMade e = (t : TypeId) → Contains (naming.types_in e) t → Contains (numbers_in (made_sig recs e)) (suc t.0)

  abbrev exprs : List (With IsMade) → List TypeExpr
  exprs xs = map (λ x. x.0) xs

  made_args : (xs : List (With IsMade)) (t : TypeId) → Contains (flat_map (λ ts. ts) (map naming.types_in (exprs xs))) t → Contains (flat_map (λ ns. ns) (map numbers_in (map (made_sig recs) (exprs xs)))) (suc t.0)
  made_args [] t c = absurd (none_in t c)
  made_args (x ∷ xs) t c =
      let rest : List ℕ = flat_map (λ ns. ns) (map numbers_in (map (made_sig recs) (exprs xs))) in
      elim (Contains-append_cases (naming.types_in x.0) (flat_map (λ ts. ts) (map naming.types_in (exprs xs))) t c) [
        | inl d ↦ Contains-append_left (numbers_in (made_sig recs x.0)) rest (suc t.0) (x.1 t d)
        | inr d ↦ Contains-append_right (numbers_in (made_sig recs x.0)) rest (suc t.0) (made_args xs t d)
      ]

  made_layer_has : (y : TypeExpr-F (With IsMade)) (t : TypeId) → Contains (naming.types_layer (map-TypeExpr TypeExpr (List TypeId) naming.types_in (plain_parts IsMade y))) t
      → Contains (numbers_in (made_layer recs (map-TypeExpr TypeExpr Sig (made_sig recs) (plain_parts IsMade y)))) (suc t.0)
  made_layer_has (TypeExpr-F.Prim n) t c = absurd (none_in t c)
  made_layer_has (TypeExpr-F.Def u) t c =
      let v : Bool = is_value recs u in
      has_layer (suc t.0) (Sig-F.Named v (suc u.0)) (sig.Named v (suc u.0)) (sig.rolls-Named v (suc u.0)) (subst (λ (w : TypeId). Contains (suc u.0 ∷ []) (suc w.0)) (one_is u t c) (first_in (suc u.0) []))
  made_layer_has (TypeExpr-F.Inst u xs) t c =
      let v : Bool = is_value recs u in
      let ss : List Sig = map (made_sig recs) (exprs xs) in
      let rest : List ℕ = flat_map (λ ns. ns) (map numbers_in ss) in
      has_layer (suc t.0) (Sig-F.Inst v (suc u.0) ss) (sig.Inst v (suc u.0) ss) (sig.rolls-Inst v (suc u.0) ss)
      (elim (head_or u (flat_map (λ ts. ts) (map naming.types_in (exprs xs))) t c) [
        | inl e ↦ subst (λ (w : TypeId). Contains (suc u.0 ∷ rest) (suc w.0)) e (first_in (suc u.0) rest)
        | inr d ↦ later_in (suc u.0) rest (suc t.0) (made_args xs t d)
      ])
  made_layer_has (TypeExpr-F.Array x) t c = let s : Sig = made_sig recs x.0 in has_layer (suc t.0) (Sig-F.Array s) (sig.Array s) (sig.rolls-Array s) (x.1 t c)
  made_layer_has (TypeExpr-F.ByRef x) t c = let s : Sig = made_sig recs x.0 in has_layer (suc t.0) (Sig-F.ByRef s) (sig.ByRef s) (sig.rolls-ByRef s) (x.1 t c)
  made_layer_has (TypeExpr-F.Var n) t c = absurd (none_in t c)
  made_layer_has (TypeExpr-F.MVar n) t c = absurd (none_in t c)
  made_layer_has (TypeExpr-F.Mod required by x) t c =
      let s : Sig = made_sig recs x.0 in
      has_layer (suc t.0) (Sig-F.Mod required (suc by.0) s) (sig.Mod required (suc by.0) s) (sig.rolls-Mod required (suc by.0) s)
      (elim (head_or by (naming.types_in x.0) t c) [
        | inl e ↦ subst (λ (w : TypeId). Contains (suc by.0 ∷ numbers_in s) (suc w.0)) e (first_in (suc by.0) (numbers_in s))
        | inr d ↦ later_in (suc by.0) (numbers_in s) (suc t.0) (x.1 t d)
      ])

  made_rolled : (y : TypeExpr-F (With IsMade)) → IsMade (roll-TypeExpr (plain_parts IsMade y))
  unfolding made_sig
  made_rolled y t c =
      subst (λ (s : Sig). Contains (numbers_in s) (suc t.0)) (sym (fold-roll-TypeExpr Sig (made_layer recs) (plain_parts IsMade y)))
      (made_layer_has y t (subst (λ (ts : List TypeId). Contains ts t) (types_are (plain_parts IsMade y) (roll-TypeExpr (plain_parts IsMade y)) refl) c))

  made_has : (e : TypeExpr) → IsMade e
  made_has = ind-TypeExpr IsMade (λ x y is. subst (λ z. IsMade (roll-TypeExpr z)) is (made_rolled y))

  -- the key of a type has its types
  pub record KeyHas (o : Option TypeKey) (t : TypeId) : Type 0 where
    pub key : TypeKey
    pub is : o ≡ Some key
    pub has : Contains (types_of_key key) t

  spec_has : (e : TypeExpr) (t : TypeId) → Contains (naming.types_in e) t → KeyHas (Some (spec (made_sig recs e))) t
  spec_has e t c = record { key = spec (made_sig recs e); is = refl; has = numbered (made_sig recs e) t (made_has e t c) }

  owner_in_has : (x : TypeExpr-F TypeExpr) (e : TypeExpr) (t : TypeId) → roll-TypeExpr x ≡ e → Contains (naming.types_in e) t → KeyHas (expr_key_in recs e x) t
  owner_in_has (TypeExpr-F.Def u) e t is c = record { key = named u; is = refl; has = subst (λ (ts : List TypeId). Contains ts t) (types_are (TypeExpr-F.Def u) e is) c }
  owner_in_has (TypeExpr-F.Prim n) e t is c = absurd (none_in t (subst (λ (ts : List TypeId). Contains ts t) (types_are (TypeExpr-F.Prim n) e is) c))
  owner_in_has (TypeExpr-F.Inst u args) e t is c = spec_has e t c
  owner_in_has (TypeExpr-F.Array x) e t is c = spec_has e t c
  owner_in_has (TypeExpr-F.ByRef x) e t is c = spec_has e t c
  owner_in_has (TypeExpr-F.Var n) e t is c = spec_has e t c
  owner_in_has (TypeExpr-F.MVar n) e t is c = spec_has e t c
  owner_in_has (TypeExpr-F.Mod required by x) e t is c = spec_has e t c

  pub owner_has : (e : TypeExpr) (t : TypeId) → Contains (naming.types_in e) t → KeyHas (expr_key recs e) t
  unfolding expr_key
  owner_has e t c = owner_in_has (out-TypeExpr e) e t (roll-out-TypeExpr e) c

  -- ---- tokens and signatures of an assembly

  module _ (a : ℕ) (rec : AsmRec) where
    class_of : (token : ℕ) (n : ℕ) → number_of recs (named_type recs a rec token) ≡ suc n → class_number recs a rec token ≡ suc n
    unfolding class_number
    class_of token n e = ap (λ (k : ℕ). found_or k (absent_number recs a token)) e

    named_by : (token : ℕ) (o : Option RowAt) (e : TypeExpr) (t : TypeId) → known_expr recs o ≡ Good e → Contains (naming.types_in e) t → number_of recs (known_expr recs o) ≡ suc t.0
    named_by token None e t h c = absurd (cc)
    named_by token (Some at) e t h c =
        let same : definition_expr recs at ≡ e = cc in
        expr_number at t (subst (λ (x : TypeExpr). Contains (naming.types_in x) t) (sym same) c)

    pub named_has : (token : ℕ) (e : TypeExpr) (t : TypeId) → named_type recs a rec token ≡ Good e → Contains (naming.types_in e) t → class_number recs a rec token ≡ suc t.0
    unfolding named_type
    named_has token e t h c = class_of token t.0 (named_by token (definition_at recs a rec token) e t h c)

    abbrev n : worlds.Names
    n = names_at recs a rec

    in_by : (token : ℕ) (e : TypeExpr) (b : Bool) → (if b then Bad Unresolved else named_type recs a rec token) ≡ Good e → named_type recs a rec token ≡ Good e
    in_by token e true h = absurd (cc)
    in_by token e false h = h

    in_is : (token : ℕ) (e : TypeExpr) → named_in n.types token ≡ Good e → named_type recs a rec token ≡ Good e
    unfolding named_in
    in_is token e h = in_by token e (table_of token == TYPE_SPEC) h

    definition_has : (token : ℕ) (t : TypeId) → definition_named n token ≡ Good t → class_number recs a rec token ≡ suc t.0
    unfolding definition_named
    definition_has token t h =
        let k = good_then (definition_of (prim_type recs)) (named_in n.types token) t h in
        class_of token t.0 (ap (number_of recs) (in_is token k.from k.is) ∙ defined_number k.from t k.gives)

    modified_by : (token : ℕ) (t : TypeId) (o : Option TypeId) → found_or_named o (definition_named n token) ≡ Good t → number_or o (class_number recs a rec token) ≡ suc t.0
    modified_by token t None h = definition_has token t h
    modified_by token t (Some u) h = let same : u ≡ t = cc in ap (λ (v : TypeId). suc v.0) same

    modifier_has : (token : ℕ) (t : TypeId) → modifier_named n token ≡ Good t → modifier_number recs a rec token ≡ suc t.0
    unfolding modifier_named
    modifier_has token t h = modified_by token t (added_by recs a rec token) h

    abbrev world : Sig → Sig
    world = world_sig recs a rec

    abbrev Reads : Sig → Type 0
    Reads s = (e : TypeExpr) → sig_expr n s ≡ Good e → (t : TypeId) → Contains (naming.types_in e) t → Contains (numbers_in (world s)) (suc t.0)

    abbrev Part : Type 0
    Part = (s : Sig) × Reads s

    abbrev sigs : List Part → List Sig
    sigs xs = map (λ x. x.0) xs

    types_of : (x : TypeExpr-F TypeExpr) (e f : TypeExpr) (t : TypeId) → roll-TypeExpr x ≡ e → e ≡ f → Contains (naming.types_in f) t → Contains (naming.types_layer (map-TypeExpr TypeExpr (List TypeId) naming.types_in x)) t
    types_of x e f t is same c = subst (λ (ts : List TypeId). Contains ts t) (types_are x e is) (subst (λ (y : TypeExpr). Contains (naming.types_in y) t) (sym same) c)

    args_read : (xs : List Part) (es : List TypeExpr) (t : TypeId) → all_known (map (sig_expr n) (sigs xs)) ≡ Good es → Contains (flat_map (λ ts. ts) (map naming.types_in es)) t
        → Contains (flat_map (λ ns. ns) (map numbers_in (map world (sigs xs)))) (suc t.0)
    args_read [] es t h c = let same : [] ≡ es = cc in absurd (none_in t (subst (λ (ys : List TypeExpr). Contains (flat_map (λ ts. ts) (map naming.types_in ys)) t) (sym same) c))
    args_read (x ∷ xs) es t h c =
        let k = good_then (λ (y : TypeExpr). known_map (λ ys. y ∷ ys) (all_known (map (sig_expr n) (sigs xs)))) (sig_expr n x.0) es h in
        let m = good_map (λ ys. k.from ∷ ys) (all_known (map (sig_expr n) (sigs xs))) es k.gives in
        let rest : List ℕ = flat_map (λ ns. ns) (map numbers_in (map world (sigs xs))) in
        let d : Contains (naming.types_in k.from ++ flat_map (λ ts. ts) (map naming.types_in m.from)) t = subst (λ (ys : List TypeExpr). Contains (flat_map (λ ts. ts) (map naming.types_in ys)) t) (sym m.gives) c in
        elim (Contains-append_cases (naming.types_in k.from) (flat_map (λ ts. ts) (map naming.types_in m.from)) t d) [
          | inl f ↦ Contains-append_left (numbers_in (world x.0)) rest (suc t.0) (x.1 k.from k.is t f)
          | inr f ↦ Contains-append_right (numbers_in (world x.0)) rest (suc t.0) (args_read xs m.from t m.is f)
        ]

    layer_reads : (y : Sig-F Part) (e : TypeExpr) (t : TypeId) → sig_layer n (map-Sig Sig (Known TypeExpr) (sig_expr n) (map-Sig Part Sig (λ x. x.0) y)) ≡ Good e → Contains (naming.types_in e) t
        → Contains (numbers_in (world_layer recs a rec (map-Sig Sig Sig world (map-Sig Part Sig (λ x. x.0) y)))) (suc t.0)
    layer_reads (Sig-F.Prim k) e t h c = let same : expr.Prim k ≡ e = cc in absurd (none_in t (types_of (TypeExpr-F.Prim k) (expr.Prim k) e t (expr.rolls-Prim k) same c))
    layer_reads (Sig-F.Named v token) e t h c =
        let k : ℕ = class_number recs a rec token in
        let is : k ≡ suc t.0 = named_has token e t (in_is token e h) c in
        has_layer (suc t.0) (Sig-F.Named v k) (sig.Named v k) (sig.rolls-Named v k) (subst (λ (j : ℕ). Contains (k ∷ []) j) is (first_in k []))
    layer_reads (Sig-F.Array x) e t h c =
        let m = good_map (λ (y : TypeExpr). expr.Array y) (sig_expr n x.0) e h in
        let s : Sig = world x.0 in
        has_layer (suc t.0) (Sig-F.Array s) (sig.Array s) (sig.rolls-Array s) (x.1 m.from m.is t (types_of (TypeExpr-F.Array m.from) (expr.Array m.from) e t (expr.rolls-Array m.from) m.gives c))
    layer_reads (Sig-F.ByRef x) e t h c =
        let m = good_map (λ (y : TypeExpr). expr.ByRef y) (sig_expr n x.0) e h in
        let s : Sig = world x.0 in
        has_layer (suc t.0) (Sig-F.ByRef s) (sig.ByRef s) (sig.rolls-ByRef s) (x.1 m.from m.is t (types_of (TypeExpr-F.ByRef m.from) (expr.ByRef m.from) e t (expr.rolls-ByRef m.from) m.gives c))
    layer_reads (Sig-F.Inst v token xs) e t h c =
        let d = good_then (λ (d : TypeId). known_map (λ ys. expr.Inst d ys) (all_known (map (sig_expr n) (sigs xs)))) (definition_named n token) e h in
        let m = good_map (λ ys. expr.Inst d.from ys) (all_known (map (sig_expr n) (sigs xs))) e d.gives in
        let k : ℕ = class_number recs a rec token in
        let is : k ≡ suc d.from.0 = definition_has token d.from d.is in
        let ss : List Sig = map world (sigs xs) in
        let rest : List ℕ = flat_map (λ ns. ns) (map numbers_in ss) in
        has_layer (suc t.0) (Sig-F.Inst v k ss) (sig.Inst v k ss) (sig.rolls-Inst v k ss)
        (elim (head_or d.from (flat_map (λ ts. ts) (map naming.types_in m.from)) t (types_of (TypeExpr-F.Inst d.from m.from) (expr.Inst d.from m.from) e t (expr.rolls-Inst d.from m.from) m.gives c)) [
          | inl f ↦ subst (λ (w : TypeId). Contains (k ∷ rest) (suc w.0)) f (subst (λ (j : ℕ). Contains (k ∷ rest) j) is (first_in k rest))
          | inr f ↦ later_in k rest (suc t.0) (args_read xs m.from t m.is f)
        ])
    layer_reads (Sig-F.Var k) e t h c = let same : expr.Var k ≡ e = cc in absurd (none_in t (types_of (TypeExpr-F.Var k) (expr.Var k) e t (expr.rolls-Var k) same c))
    layer_reads (Sig-F.MVar k) e t h c = let same : expr.MVar k ≡ e = cc in absurd (none_in t (types_of (TypeExpr-F.MVar k) (expr.MVar k) e t (expr.rolls-MVar k) same c))
    layer_reads (Sig-F.Mod required token x) e t h c =
        let d = good_then (λ (d : TypeId). known_map (λ y. expr.Mod required d y) (sig_expr n x.0)) (modifier_named n token) e h in
        let m = good_map (λ y. expr.Mod required d.from y) (sig_expr n x.0) e d.gives in
        let k : ℕ = modifier_number recs a rec token in
        let is : k ≡ suc d.from.0 = modifier_has token d.from d.is in
        let s : Sig = world x.0 in
        has_layer (suc t.0) (Sig-F.Mod required k s) (sig.Mod required k s) (sig.rolls-Mod required k s)
        (elim (head_or d.from (naming.types_in m.from) t (types_of (TypeExpr-F.Mod required d.from m.from) (expr.Mod required d.from m.from) e t (expr.rolls-Mod required d.from m.from) m.gives c)) [
          | inl f ↦ subst (λ (w : TypeId). Contains (k ∷ numbers_in s) (suc w.0)) f (subst (λ (j : ℕ). Contains (k ∷ numbers_in s) j) is (first_in k (numbers_in s)))
          | inr f ↦ later_in k (numbers_in s) (suc t.0) (x.1 m.from m.is t f)
        ])
    layer_reads (Sig-F.Pinned x) e t h c = let s : Sig = world x.0 in has_layer (suc t.0) (Sig-F.Pinned s) (sig.Pinned s) (sig.rolls-Pinned s) (x.1 e h t c)

    rolled : (y : Sig-F Part) → Reads (roll-Sig (map-Sig Part Sig (λ x. x.0) y))
    unfolding sig_expr world_sig
    rolled y e h t c =
        subst (λ (s : Sig). Contains (numbers_in s) (suc t.0)) (sym (fold-roll-Sig Sig (world_layer recs a rec) (map-Sig Part Sig (λ x. x.0) y)))
        (layer_reads y e t (sym (fold-roll-Sig (Known TypeExpr) (sig_layer n) (map-Sig Part Sig (λ x. x.0) y)) ∙ h) c)

    pub reads_all : (s : Sig) → Reads s
    reads_all = ind-Sig Reads (λ x y is. subst (λ z. Reads (roll-Sig z)) is (rolled y))

    -- a signature has the types that it names
    pub sig_has : (s : Sig) (e : TypeExpr) (t : TypeId) → sig_expr (names_at recs a rec) s ≡ Good e → Contains (naming.types_in e) t → Contains (types_of_sig (world_sig recs a rec s)) t
    sig_has s e t h c = numbered (world s) t (reads_all s e h t c)

    -- ---- the key of a token

    spec_by : (o : Option TypeSpecRow) (e : TypeExpr) (t : TypeId) → spec_type_at recs a rec o ≡ Good e → Contains (naming.types_in e) t → KeyHas (spec_key recs a rec o) t
    spec_by None e t h c = absurd (cc)
    spec_by (Some row) e t h c =
        let s = good_then (sig_expr n) row.signature e h in
        record {
          key = spec (world s.from);
          is = ap (λ (k : Known Sig). spec_key recs a rec (Some (record { signature = k }))) s.is;
          has = sig_has s.from e t s.gives c;
        }

    key_by : (token : ℕ) (e : TypeExpr) (t : TypeId) (b : Bool)
        → (if b then spec_type_at recs a rec (option_and_then (slice_get rec.type_spec) (index_in TYPE_SPEC token)) else named_type recs a rec token) ≡ Good e → Contains (naming.types_in e) t
        → KeyHas (if b then spec_key recs a rec (option_and_then (slice_get rec.type_spec) (index_in TYPE_SPEC token)) else numbered_key (class_number recs a rec token)) t
    key_by token e t true h c = spec_by (option_and_then (slice_get rec.type_spec) (index_in TYPE_SPEC token)) e t h c
    key_by token e t false h c = record { key = named t; is = ap numbered_key (named_has token e t h c); has = first_in t [] }

    pub token_has : (token : ℕ) (e : TypeExpr) (t : TypeId) → token_type recs a rec token ≡ Good e → Contains (naming.types_in e) t → KeyHas (type_key recs a rec token) t
    unfolding token_type type_key
    token_has token e t h c = key_by token e t (table_of token == TYPE_SPEC) h c

    -- ---- signatures of what lists and methods have

    one_sig : (ss : List Sig) (es : List TypeExpr) (e : TypeExpr) → all_known (map (sig_expr (names_at recs a rec)) ss) ≡ Good es → Contains es e → (s : Sig) × Contains ss s × (sig_expr (names_at recs a rec) s ≡ Good e)
    one_sig [] es e h c = let same : [] ≡ es = cc in absurd (none_in e (subst (λ (ys : List TypeExpr). Contains ys e) (sym same) c))
    one_sig (s ∷ ss) es e h c =
        let k = good_then (λ (y : TypeExpr). known_map (λ ys. y ∷ ys) (all_known (map (sig_expr (names_at recs a rec)) ss))) (sig_expr (names_at recs a rec) s) es h in
        let m = good_map (λ ys. k.from ∷ ys) (all_known (map (sig_expr (names_at recs a rec)) ss)) es k.gives in
        elim (head_or k.from m.from e (subst (λ (ys : List TypeExpr). Contains ys e) (sym m.gives) c)) [
          | inl f ↦ (s, first_in s ss, k.is ∙ ap (λ (x : TypeExpr). Good x) f)
          | inr f ↦ (let r = one_sig ss m.from e m.is f in (r.0, later_in s ss r.0 r.1, r.2))
        ]

    pub method_part : (g : MethodSig) (m : MethodType) (e : TypeExpr) → method_type (names_at recs a rec) g ≡ Good m → Contains (m.ret ∷ m.params) e → (s : Sig) × Contains (g.ret ∷ g.params) s × (sig_expr (names_at recs a rec) s ≡ Good e)
    unfolding method_type
    method_part g m e h c =
        let r = good_then (λ (ret : TypeExpr). known_map (λ params. method_type_of g ret params) (all_known (map (sig_expr (names_at recs a rec)) g.params))) (sig_expr (names_at recs a rec) g.ret) m h in
        let p = good_map (λ (params : List TypeExpr). method_type_of g r.from params) (all_known (map (sig_expr (names_at recs a rec)) g.params)) m r.gives in
        elim (head_or r.from p.from e (subst (λ (x : MethodType). Contains (x.ret ∷ x.params) e) (sym p.gives) c)) [
          | inl f ↦ (g.ret, first_in g.ret g.params, r.is ∙ ap (λ (x : TypeExpr). Good x) f)
          | inr f ↦ (let q = one_sig g.params p.from e p.is f in (q.0, later_in g.ret g.params q.0 q.1, q.2))
        ]
