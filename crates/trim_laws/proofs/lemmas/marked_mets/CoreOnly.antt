-- Types that name types of the core library alone: so do signatures of a copied attribute, bases, and types in which members are found.
use Rattle.std.proofs.Common.{◌≡◌, ℕ, zero, suc, ◌-◌, Bool, true, false, List, [], ◌∷◌, length, map, Option, Some, None, refl, sym, ap, subst, ◌∙◌, arith}
use Rattle.std.specs.Prelude.{slice_get, position, ◌==◌, ◌||◌, if◌then◌else◌}
use Rattle.std.specs.List.{Contains, flat_map, range_with_len}
use Rattle.std.specs.Option.{option_map, option_and_then}
use Rattle.std.proofs.lemmas.List.Elements.{Contains-append_left, Contains-append_right}
use Rattle.il_base.specs.declared.ids.TypeId.{TypeId}
use Rattle.il_base.specs.declared.sig.Sig.{Sig, fold-roll-Sig, ind-Sig, roll-Sig}
use Rattle.il_base.specs.declared.sig.Sig.TheFolds.{map-Sig}
use Rattle.il_base.specs.declared.sig.Sig.TheOpen.{Sig-F}
use Rattle.il_base.specs.declared.table.TheConstants as table
use Rattle.il_base.specs.declared.world_model.known.Known.{Known}
use Rattle.il_base.specs.declared.world_model.known.Known.TheVariants.{Good, Bad}
use Rattle.il_base.specs.declared.world_model.known.BadKind.TheVariants.{Unresolved}
use Rattle.il_base.specs.declared.world_model.expr.TypeExpr.{TypeExpr, ind-TypeExpr, out-TypeExpr, roll-TypeExpr, roll-out-TypeExpr}
use Rattle.il_base.specs.declared.world_model.expr.TypeExpr.TheFolds.{map-TypeExpr}
use Rattle.il_base.specs.declared.world_model.expr.TypeExpr.TheOpen.{TypeExpr-F}
use Rattle.il_base.specs.declared.world_model.expr.TypeExpr.TheVariants as expr
use Rattle.il_base.specs.declared.world_model.types.TypeDefRow.{TypeDefRow}
use Rattle.il_base.specs.declared.world_model.record.AsmRec.{AsmRec}
use Rattle.il_base.specs.world_model.Tokens.{table_of, index_in}
use Rattle.il_base.specs.world_model.Exprs.{arg_or, subst as put}
use Rattle.il_base.specs.world_model.Worlds.{types_in as type_rows, type_id, core_types, is_code_of, prim_type, known_map, known_then, all_known, known_type, named_in, definition_in, definition_of, definition_named, found_or_named, modifier_named, sig_layer, sig_expr}
use Rattle.il_base.specs.world_model.Worlds as worlds
use Rattle.il_base.proofs.lemmas.world_model.ExprLayers.{subst_prim, subst_def, subst_inst, subst_array, subst_by_ref, subst_var, subst_mvar, subst_mod}
use Rattle.il_base.specs.declared.core_table.tokens.TheConstants.{ARRAY}
use Rattle.rules.specs.declared.link_rules.row_at.RowAt.{RowAt}
use Rattle.rules.specs.link_rules.Types.{definition_at, added_by}
use Rattle.rules.specs.link_rules.Signatures.{prim_at, definition_expr, known_expr, named_type, names_at, token_type}
use Rattle.rules.specs.link_rules.Members.{type_home, array_type, owner_in, owner_of, args_in, args_of, good_type, is_named, only_named, is_interface_row, base_in, base_at, base_of, bases_from, type_count, with_bases, Found, found_in, or_next, search, own_args, open_in, open_parent, closed}
use Rattle.base_laws.proofs.lemmas.type_laws.Places.{home_is, place_within}
use Rattle.base_laws.proofs.lemmas.known_laws.Lists.{first_in, later_in, and_then_some, map_some}
use Rattle.base_laws.proofs.lemmas.change_laws.Exprs.{With, plain_parts}
use Rattle.rules.specs.mark_rules.Naming as naming
use Rattle.rules.specs.merge_rules.Numbers.{Kept}
use Rattle.rules.specs.merge_rules.Refs.{numbers_layer, numbers_in}
use Rattle.merge_laws.proofs.lemmas.merged_owners.Every.{Every, all_none, all_one, all_more, all_join, all_map}
use Rattle.merge_laws.proofs.lemmas.merged_owners.Homes.{not_before}
use Rattle.merge_laws.proofs.lemmas.merged_signatures.Reading.{good_map, good_then}
use Rattle.trim_laws.proofs.lemmas.marked_mets.Stays.{Stay}
use Rattle.trim_laws.proofs.lemmas.marked_mets.Tokens.{types_are}

module _ (recs : List AsmRec) where
  -- ---- types of the core library, which is the last assembly

  abbrev pub IsLast : TypeId → Type 0
  IsLast t = (at : RowAt) → type_home recs t ≡ Some at → suc at.asm ≡ length recs

  abbrev pub AreLast : List TypeId → Type 0
  AreLast ts = Every IsLast ts

  abbrev pub Core : TypeExpr → Type 0
  Core e = AreLast (naming.types_in e)

  pub last_stays : (kept : Kept) (e : TypeExpr) → Core e → Stay recs kept e
  last_stays kept e h = record { each = λ t c at home lt. let last = h.each t c at home in absurd (omega (arith, lt, last)) }

  pub row_last : (a k : ℕ) → suc a ≡ length recs → IsLast (type_id recs a k)
  row_last a k e at home =
      let s = home_is recs 0 (type_id recs a k).0 at home in
      let le = not_before type_rows recs 0 a k at home in
      let lt = place_within recs s.asm s.rec s.there in
      omega (arith, e, le, lt, s.numbered)

  core_row : (k : ℕ) → IsLast (type_id recs (length recs - 1) k)
  core_row k at home =
      let s = home_is recs 0 (type_id recs (length recs - 1) k).0 at home in
      let lt = place_within recs s.asm s.rec s.there in
      row_last (length recs - 1) k (omega (arith, lt)) at home

  prim_last : (n : ℕ) (t : TypeId) → prim_type recs n ≡ Some t → IsLast t
  unfolding prim_type
  prim_last n t e =
      let m = map_some (λ k. type_id recs (length recs - 1) k) (position (is_code_of n) (core_types recs)) t e in
      subst IsLast m.2 (core_row m.0)

  array_last : (t : TypeId) → array_type recs ≡ Some t → IsLast t
  array_last t e =
      let m = map_some (λ k. type_id recs (length recs - 1) k) (index_in table.TYPE_DEF ARRAY) t e in
      subst IsLast m.2 (core_row m.0)

  -- ---- by the outermost construct

  core_as : (x : TypeExpr-F TypeExpr) (e : TypeExpr) → roll-TypeExpr x ≡ e → AreLast (naming.types_layer (map-TypeExpr TypeExpr (List TypeId) naming.types_in x)) → Core e
  core_as x e is h = subst AreLast (sym (types_are x e is)) h

  as_core : (x : TypeExpr-F TypeExpr) (e : TypeExpr) → roll-TypeExpr x ≡ e → Core e → AreLast (naming.types_layer (map-TypeExpr TypeExpr (List TypeId) naming.types_in x))
  as_core x e is h = subst AreLast (types_are x e is) h

  prim_core : (n : ℕ) → Core (expr.Prim n)
  prim_core n = core_as (TypeExpr-F.Prim n) (expr.Prim n) (expr.rolls-Prim n) (all_none IsLast)

  def_core : (t : TypeId) → IsLast t → Core (expr.Def t)
  def_core t h = core_as (TypeExpr-F.Def t) (expr.Def t) (expr.rolls-Def t) (all_one IsLast t h)

  var_core : (n : ℕ) → Core (expr.Var n)
  var_core n = core_as (TypeExpr-F.Var n) (expr.Var n) (expr.rolls-Var n) (all_none IsLast)

  mvar_core : (n : ℕ) → Core (expr.MVar n)
  mvar_core n = core_as (TypeExpr-F.MVar n) (expr.MVar n) (expr.rolls-MVar n) (all_none IsLast)

  array_core : (e : TypeExpr) → Core e → Core (expr.Array e)
  array_core e h = core_as (TypeExpr-F.Array e) (expr.Array e) (expr.rolls-Array e) h

  by_ref_core : (e : TypeExpr) → Core e → Core (expr.ByRef e)
  by_ref_core e h = core_as (TypeExpr-F.ByRef e) (expr.ByRef e) (expr.rolls-ByRef e) h

  mod_core : (required : Bool) (by : TypeId) (e : TypeExpr) → IsLast by → Core e → Core (expr.Mod required by e)
  mod_core required by e h g = core_as (TypeExpr-F.Mod required by e) (expr.Mod required by e) (expr.rolls-Mod required by e) (all_more IsLast by (naming.types_in e) h g)

  args_core : (es : List TypeExpr) → Every Core es → AreLast (flat_map (λ ts. ts) (map naming.types_in es))
  args_core [] h = all_none IsLast
  args_core (e ∷ es) h =
      all_join IsLast (naming.types_in e) (flat_map (λ ts. ts) (map naming.types_in es)) (h.each e (first_in e es)) (args_core es (record { each = λ x c. h.each x (later_in e es x c) }))

  inst_core : (t : TypeId) (es : List TypeExpr) → IsLast t → Every Core es → Core (expr.Inst t es)
  inst_core t es h g =
      core_as (TypeExpr-F.Inst t es) (expr.Inst t es) (expr.rolls-Inst t es) (all_more IsLast t (flat_map (λ ts. ts) (map naming.types_in es)) h (args_core es g))

  from_args : (es : List TypeExpr) → AreLast (flat_map (λ ts. ts) (map naming.types_in es)) → Every Core es
  from_args [] h = all_none Core
  from_args (e ∷ es) h =
      let rest : List TypeId = flat_map (λ ts. ts) (map naming.types_in es) in
      all_more Core e es (record { each = λ t c. h.each t (Contains-append_left (naming.types_in e) rest t c) })
      (from_args es (record { each = λ t c. h.each t (Contains-append_right (naming.types_in e) rest t c) }))

  -- ---- arguments put in

  arg_core : (args : List TypeExpr) (n : ℕ) (other : TypeExpr) → Every Core args → Core other → Core (arg_or args n other)
  arg_core [] zero other a h = h
  arg_core [] (suc n) other a h = h
  arg_core (x ∷ xs) zero other a h = a.each x (first_in x xs)
  arg_core (x ∷ xs) (suc n) other a h = arg_core xs n other (record { each = λ e c. a.each e (later_in x xs e c) }) h

  module _ (targs : List TypeExpr) (all : Every Core targs) where
    abbrev Puts : TypeExpr → Type 0
    Puts e = Core e → Core (put targs [] e)

    abbrev plain : List (With Puts) → List TypeExpr
    plain xs = map (λ x. x.0) xs

    args_put : (xs : List (With Puts)) → Every Core (plain xs) → Every Core (map (put targs []) (plain xs))
    args_put [] h = all_none Core
    args_put (x ∷ xs) h = all_more Core (put targs [] x.0) (map (put targs []) (plain xs)) (x.1 (h.each x.0 (first_in x.0 (plain xs)))) (args_put xs (record { each = λ e c. h.each e (later_in x.0 (plain xs) e c) }))

    put_prim : (n : ℕ) → Puts (expr.Prim n)
    put_prim n h = subst Core (sym (subst_prim targs [] n)) (prim_core n)

    put_def : (t : TypeId) → Puts (expr.Def t)
    put_def t h = subst Core (sym (subst_def targs [] t)) h

    put_inst : (t : TypeId) (xs : List (With Puts)) → Puts (expr.Inst t (plain xs))
    put_inst t xs h =
        let rest : List TypeId = flat_map (λ ts. ts) (map naming.types_in (plain xs)) in
        let g = as_core (TypeExpr-F.Inst t (plain xs)) (expr.Inst t (plain xs)) (expr.rolls-Inst t (plain xs)) h in
        subst Core (sym (subst_inst targs [] t (plain xs)))
        (inst_core t (map (put targs []) (plain xs)) (g.each t (first_in t rest)) (args_put xs (from_args (plain xs) (record { each = λ u c. g.each u (later_in t rest u c) }))))

    put_array : (x : With Puts) → Puts (expr.Array x.0)
    put_array x h =
        let g = as_core (TypeExpr-F.Array x.0) (expr.Array x.0) (expr.rolls-Array x.0) h in
        subst Core (sym (subst_array targs [] x.0)) (array_core (put targs [] x.0) (x.1 g))

    put_by_ref : (x : With Puts) → Puts (expr.ByRef x.0)
    put_by_ref x h =
        let g = as_core (TypeExpr-F.ByRef x.0) (expr.ByRef x.0) (expr.rolls-ByRef x.0) h in
        subst Core (sym (subst_by_ref targs [] x.0)) (by_ref_core (put targs [] x.0) (x.1 g))

    put_var : (n : ℕ) → Puts (expr.Var n)
    put_var n h = subst Core (sym (subst_var targs [] n)) (arg_core targs n (expr.Var n) all h)

    put_mvar : (n : ℕ) → Puts (expr.MVar n)
    put_mvar n h = subst Core (sym (subst_mvar targs [] n)) (arg_core [] n (expr.MVar n) (all_none Core) h)

    put_mod : (required : Bool) (by : TypeId) (x : With Puts) → Puts (expr.Mod required by x.0)
    put_mod required by x h =
        let g = as_core (TypeExpr-F.Mod required by x.0) (expr.Mod required by x.0) (expr.rolls-Mod required by x.0) h in
        subst Core (sym (subst_mod targs [] required by x.0))
        (mod_core required by (put targs [] x.0) (g.each by (first_in by (naming.types_in x.0))) (x.1 (record { each = λ u c. g.each u (later_in by (naming.types_in x.0) u c) })))

    put_rolled : (y : TypeExpr-F (With Puts)) → Puts (roll-TypeExpr (plain_parts Puts y))
    put_rolled (TypeExpr-F.Prim n) = subst Puts (sym (expr.rolls-Prim n)) (put_prim n)
    put_rolled (TypeExpr-F.Def t) = subst Puts (sym (expr.rolls-Def t)) (put_def t)
    put_rolled (TypeExpr-F.Inst t xs) = subst Puts (sym (expr.rolls-Inst t (plain xs))) (put_inst t xs)
    put_rolled (TypeExpr-F.Array x) = subst Puts (sym (expr.rolls-Array x.0)) (put_array x)
    put_rolled (TypeExpr-F.ByRef x) = subst Puts (sym (expr.rolls-ByRef x.0)) (put_by_ref x)
    put_rolled (TypeExpr-F.Var n) = subst Puts (sym (expr.rolls-Var n)) (put_var n)
    put_rolled (TypeExpr-F.MVar n) = subst Puts (sym (expr.rolls-MVar n)) (put_mvar n)
    put_rolled (TypeExpr-F.Mod required by x) = subst Puts (sym (expr.rolls-Mod required by x.0)) (put_mod required by x)

    put_core : (e : TypeExpr) → Puts e
    put_core = ind-TypeExpr Puts (λ x y is. subst (λ z. Puts (roll-TypeExpr z)) is (put_rolled y))

  args_by : (x : TypeExpr-F TypeExpr) (e : TypeExpr) → roll-TypeExpr x ≡ e → Core e → Every Core (args_in x)
  args_by (TypeExpr-F.Inst t args) e is h =
      let rest : List TypeId = flat_map (λ ts. ts) (map naming.types_in args) in
      let g = as_core (TypeExpr-F.Inst t args) e is h in
      from_args args (record { each = λ u c. g.each u (later_in t rest u c) })
  args_by (TypeExpr-F.Prim n) e is h = all_none Core
  args_by (TypeExpr-F.Def t) e is h = all_none Core
  args_by (TypeExpr-F.Array x) e is h = all_none Core
  args_by (TypeExpr-F.ByRef x) e is h = all_none Core
  args_by (TypeExpr-F.Var n) e is h = all_none Core
  args_by (TypeExpr-F.MVar n) e is h = all_none Core
  args_by (TypeExpr-F.Mod required by x) e is h = all_none Core

  args_of_core : (e : TypeExpr) → Core e → Every Core (args_of e)
  unfolding args_of
  args_of_core e h = args_by (out-TypeExpr e) e (roll-out-TypeExpr e) h

  -- ---- the definition of a type

  owner_by : (x : TypeExpr-F TypeExpr) (e : TypeExpr) (t : TypeId) → roll-TypeExpr x ≡ e → Core e → owner_in recs x ≡ Some t → IsLast t
  owner_by (TypeExpr-F.Prim n) e t is h o = prim_last n t o
  owner_by (TypeExpr-F.Def u) e t is h o = let same : u ≡ t = cc in subst IsLast same ((as_core (TypeExpr-F.Def u) e is h).each u (first_in u []))
  owner_by (TypeExpr-F.Inst u args) e t is h o =
      let same : u ≡ t = cc in
      subst IsLast same ((as_core (TypeExpr-F.Inst u args) e is h).each u (first_in u (flat_map (λ ts. ts) (map naming.types_in args))))
  owner_by (TypeExpr-F.Array x) e t is h o = array_last t o
  owner_by (TypeExpr-F.ByRef x) e t is h o = absurd (cc)
  owner_by (TypeExpr-F.Var n) e t is h o = absurd (cc)
  owner_by (TypeExpr-F.MVar n) e t is h o = absurd (cc)
  owner_by (TypeExpr-F.Mod required by x) e t is h o = absurd (cc)

  owner_last : (e : TypeExpr) (t : TypeId) → Core e → owner_of recs e ≡ Some t → IsLast t
  unfolding owner_of
  owner_last e t h o = owner_by (out-TypeExpr e) e t (roll-out-TypeExpr e) h o

  -- ---- rows of the core library

  row_core : (at : RowAt) (o : Option ℕ) → suc at.asm ≡ length recs → Core (elim o as (λ o. TypeExpr) [ Some n ↦ expr.Prim n | None ↦ expr.Def (type_id recs at.asm at.row) ])
  row_core at None e = def_core (type_id recs at.asm at.row) (row_last at.asm at.row e)
  row_core at (Some n) e = prim_core n

  pub definition_core : (at : RowAt) → suc at.asm ≡ length recs → Core (definition_expr recs at)
  unfolding definition_expr
  definition_core at e = row_core at (prim_at recs at) e

  defined_by : (x : TypeExpr-F TypeExpr) (e : TypeExpr) (t : TypeId) → roll-TypeExpr x ≡ e → Core e → definition_in (prim_type recs) x ≡ Good t → IsLast t
  defined_by (TypeExpr-F.Prim n) e t is h d = known_by (prim_type recs n) refl d
    where
      known_by : (o : Option TypeId) → prim_type recs n ≡ o → known_type o ≡ Good t → IsLast t
      known_by None f g = absurd (cc)
      known_by (Some u) f g = let same : u ≡ t = cc in subst IsLast same (prim_last n u f)
  defined_by (TypeExpr-F.Def u) e t is h d = let same : u ≡ t = cc in subst IsLast same ((as_core (TypeExpr-F.Def u) e is h).each u (first_in u []))
  defined_by (TypeExpr-F.Inst u args) e t is h d = absurd (cc)
  defined_by (TypeExpr-F.Array x) e t is h d = absurd (cc)
  defined_by (TypeExpr-F.ByRef x) e t is h d = absurd (cc)
  defined_by (TypeExpr-F.Var n) e t is h d = absurd (cc)
  defined_by (TypeExpr-F.MVar n) e t is h d = absurd (cc)
  defined_by (TypeExpr-F.Mod required by x) e t is h d = absurd (cc)

  defined_last : (e : TypeExpr) (t : TypeId) → Core e → definition_of (prim_type recs) e ≡ Good t → IsLast t
  unfolding definition_of
  defined_last e t h d = defined_by (out-TypeExpr e) e t (roll-out-TypeExpr e) h d

  -- ---- signatures all of whose tokens name types of the core library

  module _ (a : ℕ) (rec : AsmRec) where
    abbrev pub NamesLast : ℕ → Type 0
    NamesLast token = (at : RowAt) → definition_at recs a rec token ≡ Some at → suc at.asm ≡ length recs

    named_by : (token : ℕ) (e : TypeExpr) (o : Option RowAt) → NamesLast token → definition_at recs a rec token ≡ o → known_expr recs o ≡ Good e → Core e
    named_by token e None last f h = absurd (cc)
    named_by token e (Some at) last f h = let same : definition_expr recs at ≡ e = cc in subst Core same (definition_core at (last at f))

    pub named_core : (token : ℕ) (e : TypeExpr) → NamesLast token → named_type recs a rec token ≡ Good e → Core e
    unfolding named_type
    named_core token e last h = named_by token e (definition_at recs a rec token) last refl h

    abbrev n : worlds.Names
    n = names_at recs a rec

    in_by : (token : ℕ) (e : TypeExpr) (b : Bool) → NamesLast token → (if b then Bad Unresolved else named_type recs a rec token) ≡ Good e → Core e
    in_by token e true last h = absurd (cc)
    in_by token e false last h = named_core token e last h

    in_core : (token : ℕ) (e : TypeExpr) → NamesLast token → named_in n.types token ≡ Good e → Core e
    unfolding named_in
    in_core token e last h = in_by token e (table_of token == table.TYPE_SPEC) last h

    definition_last : (token : ℕ) (t : TypeId) → NamesLast token → definition_named n token ≡ Good t → IsLast t
    unfolding definition_named
    definition_last token t last h =
        let k = good_then (definition_of (prim_type recs)) (named_in n.types token) t h in
        defined_last k.from t (in_core token k.from last k.is) k.gives

    modified_by : (token : ℕ) (t : TypeId) (o : Option TypeId) → NamesLast token → ((u : TypeId) → o ≡ Some u → IsLast u) → found_or_named o (definition_named n token) ≡ Good t → IsLast t
    modified_by token t None last added h = definition_last token t last h
    modified_by token t (Some u) last added h = let same : u ≡ t = cc in subst IsLast same (added u refl)

    module _ (added : (token : ℕ) (t : TypeId) → added_by recs a rec token ≡ Some t → IsLast t) where
      modifier_last : (token : ℕ) (t : TypeId) → NamesLast token → modifier_named n token ≡ Good t → IsLast t
      unfolding modifier_named
      modifier_last token t last h = modified_by token t (added_by recs a rec token) last (added token) h

      abbrev Reads : Sig → Type 0
      Reads s = (e : TypeExpr) → Every NamesLast (numbers_in s) → sig_expr n s ≡ Good e → Core e

      abbrev Part : Type 0
      Part = (s : Sig) × Reads s

      abbrev sigs : List Part → List Sig
      sigs xs = map (λ x. x.0) xs

      args_read : (xs : List Part) (es : List TypeExpr) → Every NamesLast (flat_map (λ ns. ns) (map numbers_in (sigs xs))) → all_known (map (sig_expr n) (sigs xs)) ≡ Good es → Every Core es
      args_read [] es last h = let same : [] ≡ es = cc in subst (Every Core) same (all_none Core)
      args_read (x ∷ xs) es last h =
          let rest : List ℕ = flat_map (λ ns. ns) (map numbers_in (sigs xs)) in
          let k = good_then (λ (y : TypeExpr). known_map (λ ys. y ∷ ys) (all_known (map (sig_expr n) (sigs xs)))) (sig_expr n x.0) es h in
          let m = good_map (λ ys. k.from ∷ ys) (all_known (map (sig_expr n) (sigs xs))) es k.gives in
          subst (Every Core) m.gives
          (all_more Core k.from m.from (x.1 k.from (record { each = λ j c. last.each j (Contains-append_left (numbers_in x.0) rest j c) }) k.is)
          (args_read xs m.from (record { each = λ j c. last.each j (Contains-append_right (numbers_in x.0) rest j c) }) m.is))

      layer_reads : (y : Sig-F Part) (e : TypeExpr) → Every NamesLast (numbers_layer (map-Sig Sig (List ℕ) numbers_in (map-Sig Part Sig (λ x. x.0) y)))
          → sig_layer n (map-Sig Sig (Known TypeExpr) (sig_expr n) (map-Sig Part Sig (λ x. x.0) y)) ≡ Good e → Core e
      layer_reads (Sig-F.Prim k) e last h = let same : expr.Prim k ≡ e = cc in subst Core same (prim_core k)
      layer_reads (Sig-F.Named v token) e last h = in_core token e (last.each token (first_in token [])) h
      layer_reads (Sig-F.Array x) e last h = let m = good_map (λ (y : TypeExpr). expr.Array y) (sig_expr n x.0) e h in subst Core m.gives (array_core m.from (x.1 m.from last m.is))
      layer_reads (Sig-F.ByRef x) e last h = let m = good_map (λ (y : TypeExpr). expr.ByRef y) (sig_expr n x.0) e h in subst Core m.gives (by_ref_core m.from (x.1 m.from last m.is))
      layer_reads (Sig-F.Inst v token xs) e last h =
          let rest : List ℕ = flat_map (λ ns. ns) (map numbers_in (sigs xs)) in
          let d = good_then (λ (d : TypeId). known_map (λ ys. expr.Inst d ys) (all_known (map (sig_expr n) (sigs xs)))) (definition_named n token) e h in
          let m = good_map (λ ys. expr.Inst d.from ys) (all_known (map (sig_expr n) (sigs xs))) e d.gives in
          subst Core m.gives
          (inst_core d.from m.from (definition_last token d.from (last.each token (first_in token rest)) d.is) (args_read xs m.from (record { each = λ j c. last.each j (later_in token rest j c) }) m.is))
      layer_reads (Sig-F.Var k) e last h = let same : expr.Var k ≡ e = cc in subst Core same (var_core k)
      layer_reads (Sig-F.MVar k) e last h = let same : expr.MVar k ≡ e = cc in subst Core same (mvar_core k)
      layer_reads (Sig-F.Mod required token x) e last h =
          let d = good_then (λ (d : TypeId). known_map (λ y. expr.Mod required d y) (sig_expr n x.0)) (modifier_named n token) e h in
          let m = good_map (λ y. expr.Mod required d.from y) (sig_expr n x.0) e d.gives in
          subst Core m.gives
          (mod_core required d.from m.from (modifier_last token d.from (last.each token (first_in token (numbers_in x.0))) d.is) (x.1 m.from (record { each = λ j c. last.each j (later_in token (numbers_in x.0) j c) }) m.is))
      layer_reads (Sig-F.Pinned x) e last h = x.1 e last h

      numbers_rolled : (x : Sig-F Sig) → numbers_in (roll-Sig x) ≡ numbers_layer (map-Sig Sig (List ℕ) numbers_in x)
      unfolding numbers_in
      numbers_rolled x = fold-roll-Sig (List ℕ) numbers_layer x

      rolled : (y : Sig-F Part) → Reads (roll-Sig (map-Sig Part Sig (λ x. x.0) y))
      unfolding sig_expr
      rolled y e last h =
          layer_reads y e (subst (Every NamesLast) (numbers_rolled (map-Sig Part Sig (λ x. x.0) y)) last) (sym (fold-roll-Sig (Known TypeExpr) (sig_layer n) (map-Sig Part Sig (λ x. x.0) y)) ∙ h)

      pub sig_core : (s : Sig) (e : TypeExpr) → Every NamesLast (numbers_in s) → sig_expr n s ≡ Good e → Core e
      sig_core = ind-Sig Reads (λ x y is. subst (λ z. Reads (roll-Sig z)) is (rolled y))

  -- ---- bases, where each base that a row of the core library names is of it

  module _ (rows : (a : ℕ) (rec : AsmRec) (token : ℕ) (e : TypeExpr) → suc a ≡ length recs → slice_get recs a ≡ Some rec → token_type recs a rec token ≡ Good e → Core e) where
    only_by : (e b : TypeExpr) (c : Bool) → (if c then Some e else None) ≡ Some b → e ≡ b
    only_by e b true h = cc
    only_by e b false h = absurd (cc)

    named_base : (k : Known TypeExpr) (b : TypeExpr) → only_named (good_type k) ≡ Some b → k ≡ Good b
    named_base (Good e) b h = ap Good (only_by e b (is_named e) h)
    named_base (Bad why) b h = absurd (cc)

    row_base : (a : ℕ) (rec : AsmRec) (row : TypeDefRow) (b : TypeExpr) (c : Bool) → suc a ≡ length recs → slice_get recs a ≡ Some rec
        → (if c then None else only_named (good_type (token_type recs a rec row.extends))) ≡ Some b → Core b
    row_base a rec row b true last there h = absurd (cc)
    row_base a rec row b false last there h = rows a rec row.extends b last there (named_base (token_type recs a rec row.extends) b h)

    base_at_core : (at : RowAt) (b : TypeExpr) → suc at.asm ≡ length recs → base_at recs at ≡ Some b → Core b
    base_at_core at b last h =
        let r = and_then_some (λ (rec : AsmRec). option_and_then (base_in recs at.asm rec) (slice_get rec.type_def at.row)) (slice_get recs at.asm) b h in
        let t = and_then_some (base_in recs at.asm r.0) (slice_get r.0.type_def at.row) b r.2 in
        row_base at.asm r.0 t.0 b (t.0.extends == 0 || is_interface_row t.0) last r.1 t.2

    base_core : (e b : TypeExpr) → Core e → base_of recs e ≡ Some b → Core b
    unfolding base_of
    base_core e b core h =
        let m = map_some (put (args_of e) []) (option_and_then (base_at recs) (option_and_then (type_home recs) (owner_of recs e))) b h in
        let at = and_then_some (base_at recs) (option_and_then (type_home recs) (owner_of recs e)) m.0 m.1 in
        let t = and_then_some (type_home recs) (owner_of recs e) at.0 at.1 in
        subst Core m.2 (put_core (args_of e) (args_of_core e core) m.0 (base_at_core at.0 m.0 (owner_last e t.0 core t.1 at.0 t.2) at.2))

    next_core : (n : ℕ) (o : Option TypeExpr) → ((b : TypeExpr) → o ≡ Some b → Every Core (bases_from recs n b)) → Every Core (elim o [ None ↦ [] | Some b ↦ bases_from recs n b ])
    next_core n None h = all_none Core
    next_core n (Some b) h = h b refl

    bases_core : (n : ℕ) (e : TypeExpr) → Core e → Every Core (bases_from recs n e)
    unfolding bases_from
    bases_core zero e h = all_none Core
    bases_core (suc n) e h = all_more Core e (elim (base_of recs e) [ None ↦ [] | Some b ↦ bases_from recs n b ]) h (next_core n (base_of recs e) (λ b is. bases_core n b (base_core e b h is)))

    -- ---- a parent with its own parameters

    vars_core : (ns : List ℕ) → Every Core (map (λ k. expr.Var k) ns)
    vars_core ns = all_map Core (λ k. expr.Var k) ns (λ k c. var_core k)

    array_by : (e : TypeExpr) (o : Option TypeId) → array_type recs ≡ o → Core e → Core (elim o [ Some t ↦ expr.Def t | None ↦ e ])
    array_by e None f h = h
    array_by e (Some t) f h = def_core t (array_last t f)

    open_by : (e : TypeExpr) (x : TypeExpr-F TypeExpr) → roll-TypeExpr x ≡ e → Core e → Core (open_in recs e x)
    open_by e (TypeExpr-F.Inst t args) is h =
        inst_core t (own_args (length args)) ((as_core (TypeExpr-F.Inst t args) e is h).each t (first_in t (flat_map (λ ts. ts) (map naming.types_in args)))) (vars_core (range_with_len 0 (length args)))
    open_by e (TypeExpr-F.Array x) is h = array_by e (array_type recs) refl h
    open_by e (TypeExpr-F.Prim n) is h = h
    open_by e (TypeExpr-F.Def t) is h = h
    open_by e (TypeExpr-F.ByRef x) is h = h
    open_by e (TypeExpr-F.Var n) is h = h
    open_by e (TypeExpr-F.MVar n) is h = h
    open_by e (TypeExpr-F.Mod required by x) is h = h

    open_core : (e : TypeExpr) → Core e → Core (open_parent recs e)
    unfolding open_parent
    open_core e h = open_by e (out-TypeExpr e) (roll-out-TypeExpr e) h

    -- ---- what is found

    module _ (look : TypeExpr → Option RowAt) where
      next_owner : (e : TypeExpr) (x : Found) (later : Option Found) (o : Option RowAt) → Core e → (later ≡ Some x → Core x.owner) → or_next (option_map (found_in e) o) later ≡ Some x → Core x.owner
      next_owner e x later None core more h = more h
      next_owner e x later (Some at) core more h = let same : found_in e at ≡ x = cc in subst (λ (y : Found). Core y.owner) same core

      search_owner : (es : List TypeExpr) (x : Found) → ((e : TypeExpr) → Contains es e → Core e) → search look es ≡ Some x → Core x.owner
      unfolding search
      search_owner [] x core h = absurd (cc)
      search_owner (e ∷ es) x core h = next_owner e x (search look es) (look e) (core e (first_in e es)) (search_owner es x (λ y c. core y (later_in e es y c))) h

      pub closed_owner : (parent : TypeExpr) (x : Found) → Core parent → option_map (closed parent) (search look (with_bases recs (open_parent recs parent))) ≡ Some x → Core x.owner
      closed_owner parent x core h =
          let m = map_some (closed parent) (search look (with_bases recs (open_parent recs parent))) x h in
          let all = bases_core (type_count recs) (open_parent recs parent) (open_core parent core) in
          subst (λ (y : Found). Core y.owner) m.2 (put_core (args_of parent) (args_of_core parent core) m.0.owner (search_owner (with_bases recs (open_parent recs parent)) m.0 all.each m.1))
