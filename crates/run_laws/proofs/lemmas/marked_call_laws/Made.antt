-- A type of which there can be objects is of an instantiated definition, or of one of the core library.
use Rattle.std.proofs.Common.{◌≡◌, ℕ, suc, ◌-◌, ◌<◌, Bool, true, false, List, [], ◌∷◌, ◌++◌, length, map, Option, Some, None, ◌⊎◌, inl, inr, refl, sym, ap, subst, ◌∙◌}
use Rattle.std.specs.Prelude.{IsTrue, not, ◌==◌, ◌||◌}
use Rattle.std.specs.List.{list_any}
use Rattle.std.specs.Option.{is_some, option_and_then}
use Rattle.std.proofs.lemmas.Bool.{eqb-true}
use Rattle.il_base.specs.declared.ids.TypeId.{TypeId}
use Rattle.il_base.specs.declared.ids.Item.TheVariants as item
use Rattle.il_base.specs.declared.world_model.expr.TypeExpr.{TypeExpr, fold-TypeExpr, fold-roll-TypeExpr, out-TypeExpr, roll-TypeExpr, roll-out-TypeExpr}
use Rattle.il_base.specs.declared.world_model.expr.TypeExpr.TheOpen.{TypeExpr-F}
use Rattle.il_base.specs.declared.world_model.expr.TypeExpr.TheVariants as expr
use Rattle.il_base.specs.declared.world_model.types.TypeDefRow.{TypeDefRow}
use Rattle.il_base.specs.declared.world_model.record.AsmRec.{AsmRec}
use Rattle.il_base.specs.world_model.Worlds.{type_id, core_types}
use Rattle.il_base.specs.core_table.Record.{core_record}
use Rattle.rules.specs.declared.link_rules.row_at.RowAt.{RowAt}
use Rattle.rules.specs.declared.link_rules.core_type_name.CoreTypeName.{CoreTypeName}
use Rattle.rules.specs.link_rules.CoreNames.{missing_names, core_with}
use Rattle.rules.specs.link_rules.Members.{type_home, array_type, owner_in, owner_of}
use Rattle.rules.specs.link_rules.Cycles.{listed, home_of}
use Rattle.rules.specs.link_rules.Linked.{assemblies, link_fault_of}
use Rattle.base_laws.proofs.lemmas.type_laws.CoreRows.{array_row}
use Rattle.base_laws.proofs.lemmas.type_laws.Places.{place_within}
use Rattle.base_laws.proofs.lemmas.type_laws.Upwards.{out_is}
use Rattle.rules.specs.step_rules.Closing.{plain_layer, plain}
use Rattle.rules.specs.mark_rules.Facts.{Fact}
use Rattle.rules.specs.mark_rules.Facts.Fact.{instantiated}
use Rattle.rules.specs.mark_rules.Places.{row_of, is_core}
use Rattle.rules.specs.change_rules.Change.{Keep}
use Rattle.rules.specs.change_rules.Keeps.{parameter_passes, makes_expr}
use Rattle.run_laws.specs.marked_laws.Flags.{is_core_type, is_absent, keep_of}
use Rattle.run_laws.proofs.lemmas.marked_laws.Places.{prim_is_core, last_type}
use Rattle.run_laws.proofs.lemmas.marked_call_laws.Core.{IsLast, IsCoreType}

-- ---- a type without modifiers

pub plain_def : (t : TypeId) → plain (expr.Def t) ≡ expr.Def t
unfolding plain
plain_def t = ap (λ (e : TypeExpr). (fold-TypeExpr (TypeExpr × TypeExpr) plain_layer e).1) (sym (expr.rolls-Def t)) ∙ ap (λ (p : TypeExpr × TypeExpr). p.1) (fold-roll-TypeExpr (TypeExpr × TypeExpr) plain_layer (TypeExpr-F.Def t))

pub plain_prim : (n : ℕ) → plain (expr.Prim n) ≡ expr.Prim n
unfolding plain
plain_prim n = ap (λ (e : TypeExpr). (fold-TypeExpr (TypeExpr × TypeExpr) plain_layer e).1) (sym (expr.rolls-Prim n)) ∙ ap (λ (p : TypeExpr × TypeExpr). p.1) (fold-roll-TypeExpr (TypeExpr × TypeExpr) plain_layer (TypeExpr-F.Prim n))

pub plain_array : (x : TypeExpr) → plain (expr.Array x) ≡ expr.Array (fold-TypeExpr (TypeExpr × TypeExpr) plain_layer x).0
unfolding plain
plain_array x =
    ap (λ (e : TypeExpr). (fold-TypeExpr (TypeExpr × TypeExpr) plain_layer e).1) (sym (expr.rolls-Array x))
    ∙ ap (λ (p : TypeExpr × TypeExpr). p.1) (fold-roll-TypeExpr (TypeExpr × TypeExpr) plain_layer (TypeExpr-F.Array x))

abbrev pub parts : List TypeExpr → List TypeExpr
parts args = map (λ (p : TypeExpr × TypeExpr). p.0) (map (fold-TypeExpr (TypeExpr × TypeExpr) plain_layer) args)

pub plain_inst : (t : TypeId) (args : List TypeExpr) → plain (expr.Inst t args) ≡ expr.Inst t (parts args)
unfolding plain
plain_inst t args =
    ap (λ (e : TypeExpr). (fold-TypeExpr (TypeExpr × TypeExpr) plain_layer e).1) (sym (expr.rolls-Inst t args))
    ∙ ap (λ (p : TypeExpr × TypeExpr). p.1) (fold-roll-TypeExpr (TypeExpr × TypeExpr) plain_layer (TypeExpr-F.Inst t args))

-- ---- types that signatures don't name by a definition are the core library's

types_behind : (xs : List AsmRec) (c : AsmRec) → core_types (xs ++ c ∷ []) ≡ c.type_def
unfolding core_types
types_behind [] c = refl
types_behind (x ∷ []) c = refl
types_behind (x ∷ y ∷ xs) c = types_behind (y ∷ xs) c

array_below : (inputs : List AsmRec) (names : List CoreTypeName) → 21 < length (core_types (inputs ++ core_with core_record names ∷ []))
array_below inputs names =
    let row = array_row names in
    subst (λ (ts : List TypeDefRow). 21 < length ts) (sym (types_behind inputs (core_with core_record names))) (place_within (core_with core_record names).type_def 21 row.row row.there)

array_by : (recs : List AsmRec) (t : TypeId) → array_type recs ≡ Some t → type_id recs (length recs - 1) 21 ≡ t
array_by recs t e = some_is (type_id recs (length recs - 1) 21) t e
  where
    some_is : (x y : TypeId) → Some x ≡ Some y → x ≡ y
    some_is x y h = cc

array_core : (inputs : List AsmRec) (t : TypeId) → array_type (assemblies inputs) ≡ Some t → is_core (assemblies inputs) (item.Typ t) ≡ true
unfolding assemblies
array_core inputs t e =
    let names : List CoreTypeName = missing_names (inputs ++ core_record ∷ []) in
    last_type (inputs ++ core_with core_record names ∷ []) 21 (array_below inputs names) t (array_by (inputs ++ core_with core_record names ∷ []) t e)

module _ (inputs : List AsmRec) (sound : link_fault_of inputs ≡ None) (has : Fact → Bool) where
  abbrev recs : List AsmRec
  recs = assemblies inputs

  abbrev k : Keep
  k = keep_of recs has

  last_by : (o : Option RowAt) (x : RowAt) → o ≡ Some x → list_any (λ (at : RowAt). suc at.asm == length recs) (listed o) ≡ true → IsLast inputs sound x
  last_by None x e h = absurd (cc)
  last_by (Some y) x e h = by_test (suc y.asm == length recs) refl h
    where
      by_test : (b : Bool) → (suc y.asm == length recs) ≡ b → (b || false) ≡ true → IsLast inputs sound x
      by_test true t h = let same : y ≡ x = cc in ap (λ (z : RowAt). suc z.asm) (sym same) ∙ eqb-true (suc y.asm) (length recs) t
      by_test false t h = absurd (cc)

  core_last : (t : TypeId) (x : RowAt) → is_core recs (item.Typ t) ≡ true → type_home recs t ≡ Some x → IsLast inputs sound x
  unfolding is_core row_of
  core_last t x h e = last_by (type_home recs t) x e h

  -- ---- the flag

  abbrev Flag : TypeId → Type 0
  Flag t = ((is_core recs (item.Typ t) ≡ true) ⊎ (is_absent recs t.0 ≡ true)) ⊎ IsTrue (has (instantiated t))

  or_by : (a b : Bool) → IsTrue (a || b) → (a ≡ true) ⊎ IsTrue b
  or_by true b h = inl refl
  or_by false b h = inr h

  either_by : (a b c : Bool) → ((a || b) ≡ true) ⊎ IsTrue c → ((a ≡ true) ⊎ (b ≡ true)) ⊎ IsTrue c
  either_by a b c (inl h) = inl (or_by a b h)
  either_by a b c (inr h) = inr h

  flagged : (t : TypeId) → IsTrue (k.made t.0) → Flag t
  unfolding keep_of
  flagged t h = either_by (is_core_type recs t.0) (is_absent recs t.0) (has (instantiated t)) (or_by (is_core_type recs t.0 || is_absent recs t.0) (has (instantiated t)) h)

  some_is : (x y : TypeId) → Some x ≡ Some y → x ≡ y
  some_is x y h = cc

  made_in : (e : TypeExpr) (x : TypeExpr-F TypeExpr) → roll-TypeExpr x ≡ e → IsTrue (parameter_passes k.made (out-TypeExpr (plain e))) → (t : TypeId) → owner_in recs x ≡ Some t → Flag t
  made_in e (TypeExpr-F.Prim n) is h t o = inl (inl (prim_is_core recs n t o))
  made_in e (TypeExpr-F.Def d) is h t o =
      let f : out-TypeExpr (plain e) ≡ TypeExpr-F.Def d =
      ap (λ (z : TypeExpr). out-TypeExpr (plain z)) (sym is ∙ expr.rolls-Def d) ∙ ap out-TypeExpr (plain_def d) ∙ out_is (TypeExpr-F.Def d) (expr.Def d) (expr.rolls-Def d) in
      subst Flag (some_is d t o) (flagged d (subst (λ (z : TypeExpr-F TypeExpr). IsTrue (parameter_passes k.made z)) f h))
  made_in e (TypeExpr-F.Inst d args) is h t o =
      let f : out-TypeExpr (plain e) ≡ TypeExpr-F.Inst d (parts args) =
      ap (λ (z : TypeExpr). out-TypeExpr (plain z)) (sym is ∙ expr.rolls-Inst d args) ∙ ap out-TypeExpr (plain_inst d args)
      ∙ out_is (TypeExpr-F.Inst d (parts args)) (expr.Inst d (parts args)) (expr.rolls-Inst d (parts args)) in
      subst Flag (some_is d t o) (flagged d (subst (λ (z : TypeExpr-F TypeExpr). IsTrue (parameter_passes k.made z)) f h))
  made_in e (TypeExpr-F.Array x) is h t o = inl (inl (array_core inputs t o))
  made_in e (TypeExpr-F.ByRef x) is h t o = absurd (cc)
  made_in e (TypeExpr-F.Var n) is h t o = absurd (cc)
  made_in e (TypeExpr-F.MVar n) is h t o = absurd (cc)
  made_in e (TypeExpr-F.Mod required by x) is h t o = absurd (cc)

  made_owner : (e : TypeExpr) (t : TypeId) → IsTrue (makes_expr k e) → owner_of recs e ≡ Some t → Flag t
  unfolding owner_of makes_expr
  made_owner e t h o = made_in e (out-TypeExpr e) (roll-out-TypeExpr e) h t o

  -- an instantiated definition
  pub record Made (x : RowAt) : Type 0 where
    pub id : TypeId
    pub home : type_home recs id ≡ Some x
    pub is : IsTrue (has (instantiated id))

  flag_home : (t : TypeId) (x : RowAt) → type_home recs t ≡ Some x → Flag t → IsLast inputs sound x ⊎ Made x
  flag_home t x e (inl (inl h)) = inl (core_last t x h e)
  flag_home t x e (inl (inr h)) = absurd (let f : false ≡ true = sym (ap (λ (o : Option RowAt). not (is_some o)) e) ∙ h in cc)
  flag_home t x e (inr h) = inr (record { id = t; home = e; is = h })

  pub record MadeType (e : TypeExpr) : Type 0 where
    pub of : RowAt
    pub is : home_of recs e ≡ Some of
    pub made : Made of

  core_by : (e : TypeExpr) (x : RowAt) → home_of recs e ≡ Some x → IsLast inputs sound x ⊎ Made x → IsCoreType inputs sound e ⊎ MadeType e
  core_by e x is (inl last) = inl (λ at f. let same : x ≡ at = some_row x at (sym is ∙ f) in subst (IsLast inputs sound) same last)
    where
      some_row : (x y : RowAt) → Some x ≡ Some y → x ≡ y
      some_row x y h = cc
  core_by e x is (inr m) = inr (record { of = x; is = is; made = m })

  home_by : (e : TypeExpr) (o : Option TypeId) (h : Option RowAt) → owner_of recs e ≡ o → home_of recs e ≡ h → IsTrue (makes_expr k e) → option_and_then (type_home recs) o ≡ h → IsCoreType inputs sound e ⊎ MadeType e
  home_by e o None f is h g = inl (λ at e. absurd (let z : None ≡ Some at = sym is ∙ e in cc))
  home_by e None (Some x) f is h g = absurd (cc)
  home_by e (Some t) (Some x) f is h g = core_by e x is (flag_home t x g (made_owner e t h f))

  -- a type of which there can be objects
  pub made_type : (e : TypeExpr) → IsTrue (makes_expr k e) → IsCoreType inputs sound e ⊎ MadeType e
  made_type e h = home_by e (owner_of recs e) (home_of recs e) refl refl h refl
