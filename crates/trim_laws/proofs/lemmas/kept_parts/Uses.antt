-- The types that a member names by a token: those of the core library are among the types of what the token meets.
use Rattle.std.proofs.Common.{◌≡◌, ◌<◌, ℕ, zero, suc, ◌+◌, ◌-◌, Bool, true, false, nat_lt, List, [], ◌∷◌, ◌++◌, length, map, Option, Some, None, refl, sym, ap, subst, ◌∙◌, inl, inr, arith}
use Rattle.std.specs.Prelude.{slice_get, ⊤, ◌==◌, ◌&&◌, ◌||◌, if◌then◌else◌}
use Rattle.std.specs.List.{Contains, flat_map, list_any, range_with_len}
use Rattle.std.specs.Option.{option_and_then, option_map}
use Rattle.std.proofs.lemmas.Bool.{ltb-true}
use Rattle.std.proofs.lemmas.List.Elements.{Contains-append_left, Contains-append_right, Contains-append_cases}
use Rattle.il_base.specs.declared.ids.TypeId.{TypeId}
use Rattle.il_base.specs.declared.ids.Item.TheVariants as item
use Rattle.il_base.specs.declared.table.TheConstants as table
use Rattle.il_base.specs.declared.world_model.known.Known.{Known}
use Rattle.il_base.specs.declared.world_model.known.Known.TheVariants.{Good, Bad}
use Rattle.il_base.specs.declared.world_model.known.BadKind.TheVariants.{Outside}
use Rattle.il_base.specs.declared.world_model.expr.TypeExpr.{TypeExpr, out-TypeExpr, roll-TypeExpr, roll-out-TypeExpr}
use Rattle.il_base.specs.declared.world_model.expr.TypeExpr.TheOpen.{TypeExpr-F}
use Rattle.il_base.specs.declared.world_model.expr.TypeExpr.TheVariants as expr
use Rattle.il_base.specs.declared.world_model.record.AsmRec.{AsmRec}
use Rattle.il_base.specs.world_model.Tokens.{index_in}
use Rattle.il_base.specs.world_model.Worlds.{type_id, types_in}
use Rattle.il_base.specs.declared.core_table.tokens.TheConstants.{ARRAY}
use Rattle.rules.specs.declared.link_rules.row_at.RowAt.{RowAt}
use Rattle.rules.specs.link_rules.Types.{at_row}
use Rattle.rules.specs.link_rules.Cycles.{listed, home_of}
use Rattle.rules.specs.link_rules.Signatures.{prim_at, definition_expr}
use Rattle.rules.specs.link_rules.Members.{type_home, array_type, owner_in, owner_of, param_count, own_args, with_own_args, own_type}
use Rattle.rules.specs.type_rules.Rows.{rec_at}
use Rattle.base_laws.proofs.lemmas.type_laws.Places.{home_is, place_within}
use Rattle.base_laws.proofs.lemmas.known_laws.Lists.{none_in, first_in, later_in, one_is, head_or, from_map, to_flat, from_flat, map_some}
use Rattle.rules.specs.mark_rules.Facts.{Fact}
use Rattle.rules.specs.mark_rules.Facts.Fact.{marked}
use Rattle.rules.specs.mark_rules.Naming as naming
use Rattle.rules.specs.mark_rules.Naming.{mark_types, of_expr, of_exprs}
use Rattle.rules.specs.merge_rules.Keys.{is_plain_input, is_bare_in, is_plain_owner}
use Rattle.merge_laws.proofs.lemmas.merged_owners.Every.{some_of}
use Rattle.merge_laws.proofs.lemmas.merged_owners.Homes.{own_home, not_before}
use Rattle.trim_laws.proofs.lemmas.kept_parts.Named.{types_are}

both_true : (b c : Bool) → (b && c) ≡ true → (b ≡ true) × (c ≡ true)
both_true true c h = (refl, h)
both_true false c h = absurd (cc)

-- ---- facts of types

pub type_in : (e : TypeExpr) (t : TypeId) → Contains (of_expr e) (marked (item.Typ t)) → Contains (naming.types_in e) t
type_in e t c =
    let m = from_map (λ (u : TypeId). marked (item.Typ u)) (naming.types_in e) (marked (item.Typ t)) c in
    let same : m.0 ≡ t = let f = m.2 in cc in
    subst (λ (u : TypeId). Contains (naming.types_in e) u) same m.1

pub record InOne (es : List TypeExpr) (t : TypeId) : Type 0 where
  pub expr : TypeExpr
  pub there : Contains es expr
  pub inside : Contains (naming.types_in expr) t

pub type_in_one : (es : List TypeExpr) (t : TypeId) → Contains (of_exprs es) (marked (item.Typ t)) → InOne es t
type_in_one es t c = let r = from_flat of_expr es (marked (item.Typ t)) c in record { expr = r.item; there = r.there; inside = type_in r.item t r.inside }

module _ (recs : List AsmRec) where
  -- ---- a type of the core library

  pub record IsCore (t : TypeId) : Type 0 where
    pub at : RowAt
    pub home : type_home recs t ≡ Some at
    pub last : suc at.asm ≡ length recs

  not_of : (a k : ℕ) (rec : AsmRec) → slice_get recs a ≡ Some rec → suc a < length recs → k < types_in rec → IsCore (type_id recs a k) → ⊥
  not_of a k rec there input lt core =
      let home = own_home types_in recs (at_row a k) rec there lt in
      let same : at_row a k ≡ core.at = let f = core.home in cc in
      let asm : a ≡ core.at.asm = ap (λ (x : RowAt). x.asm) same in
      let last = core.last in
      omega (arith, asm, last, input)

  -- ---- an owner that is a plain type of an input names none

  one_home : (t : TypeId) (at : RowAt) → type_home recs t ≡ Some at → suc at.asm < length recs → IsCore t → ⊥
  one_home t at home lt core =
      let same : at ≡ core.at = let f = core.home in cc in
      let asm : at.asm ≡ core.at.asm = ap (λ (x : RowAt). x.asm) same in
      let last = core.last in
      omega (arith, asm, last, lt)

  array_home : (t : TypeId) (at : RowAt) → array_type recs ≡ Some t → type_home recs t ≡ Some at → suc at.asm < length recs → ⊥
  array_home t at e home lt =
      let m = map_some (λ k. type_id recs (length recs - 1) k) (index_in table.TYPE_DEF ARRAY) t e in
      let le = not_before types_in recs 0 (length recs - 1) m.0 at (subst (λ (u : TypeId). type_home recs u ≡ Some at) (sym m.2) home) in
      omega (arith, le, lt)

  at_by : (o : Option TypeId) (at : RowAt) → option_and_then (type_home recs) o ≡ Some at → (t : TypeId) × (o ≡ Some t) × (type_home recs t ≡ Some at)
  at_by None at e = absurd (cc)
  at_by (Some t) at e = (t, refl, e)

  plain_in : (x : TypeExpr-F TypeExpr) (e : TypeExpr) (t : TypeId) (at : RowAt) → roll-TypeExpr x ≡ e → is_bare_in x ≡ true → option_and_then (type_home recs) (owner_in recs x) ≡ Some at → suc at.asm < length recs
      → Contains (naming.types_in e) t → IsCore t → ⊥
  plain_in (TypeExpr-F.Prim n) e t at is bare home lt c core = none_in t (subst (λ (ts : List TypeId). Contains ts t) (types_are (TypeExpr-F.Prim n) e is) c)
  plain_in (TypeExpr-F.Def u) e t at is bare home lt c core =
      let one : u ≡ t = one_is u t (subst (λ (ts : List TypeId). Contains ts t) (types_are (TypeExpr-F.Def u) e is) c) in
      one_home t at (subst (λ (v : TypeId). type_home recs v ≡ Some at) one home) lt core
  plain_in (TypeExpr-F.Inst u args) e t at is bare home lt c core = absurd (cc)
  plain_in (TypeExpr-F.Array x) e t at is bare home lt c core = let o = at_by (array_type recs) at home in array_home o.0 at o.1 o.2 lt
  plain_in (TypeExpr-F.ByRef x) e t at is bare home lt c core = absurd (cc)
  plain_in (TypeExpr-F.Var n) e t at is bare home lt c core = absurd (cc)
  plain_in (TypeExpr-F.MVar n) e t at is bare home lt c core = absurd (cc)
  plain_in (TypeExpr-F.Mod required by x) e t at is bare home lt c core = absurd (cc)

  pub plain_none : (e : TypeExpr) (t : TypeId) → is_plain_owner recs e ≡ true → Contains (naming.types_in e) t → IsCore t → ⊥
  unfolding owner_of
  plain_none e t h c core =
      let home : Option RowAt = option_and_then (type_home recs) (owner_in recs (out-TypeExpr e)) in
      let p = both_true (is_bare_in (out-TypeExpr e)) (is_plain_input recs home) h in
      let s = some_of (λ (x : RowAt). nat_lt (suc x.asm) (length recs) && list_any (λ (rec : AsmRec). param_count rec x.row == 0) (listed (rec_at recs x))) home p.1 in
      let q = both_true (nat_lt (suc s.0.asm) (length recs)) (list_any (λ (rec : AsmRec). param_count rec s.0.row == 0) (listed (rec_at recs s.0))) s.2 in
      plain_in (out-TypeExpr e) e t s.0 (roll-out-TypeExpr e) p.0 s.1 (ltb-true (suc s.0.asm) (length recs) q.0) c core

  -- ---- nor does a type of an input in itself

  vars_none : (ns : List ℕ) (t : TypeId) → Contains (flat_map (λ ts. ts) (map naming.types_in (map (λ k. expr.Var k) ns))) t → ⊥
  vars_none [] t c = none_in t c
  vars_none (n ∷ ns) t c =
      elim (Contains-append_cases (naming.types_in (expr.Var n)) (flat_map (λ ts. ts) (map naming.types_in (map (λ k. expr.Var k) ns))) t c) [
        | inl d ↦ none_in t (subst (λ (ts : List TypeId). Contains ts t) (types_are (TypeExpr-F.Var n) (expr.Var n) (expr.rolls-Var n)) d)
        | inr d ↦ vars_none ns t d
      ]

  module _ (a k : ℕ) (rec : AsmRec) (there : slice_get recs a ≡ Some rec) (input : suc a < length recs) (lt : k < types_in rec) where
    own_by : (o : Option ℕ) (t : TypeId) → Contains (naming.types_in (elim o as (λ o. TypeExpr) [ Some n ↦ expr.Prim n | None ↦ expr.Def (type_id recs a k) ])) t → IsCore t → ⊥
    own_by None t c core =
        let d : TypeId = type_id recs a k in
        let one : d ≡ t = one_is d t (subst (λ (ts : List TypeId). Contains ts t) (types_are (TypeExpr-F.Def d) (expr.Def d) (expr.rolls-Def d)) c) in
        not_of a k rec there input lt (subst IsCore (sym one) core)
    own_by (Some n) t c core = none_in t (subst (λ (ts : List TypeId). Contains ts t) (types_are (TypeExpr-F.Prim n) (expr.Prim n) (expr.rolls-Prim n)) c)

    own_args_none : (count : ℕ) (t : TypeId) → Contains (naming.types_in (with_own_args recs (at_row a k) count)) t → IsCore t → ⊥
    unfolding definition_expr
    own_args_none zero t c core = own_by (prim_at recs (at_row a k)) t c core
    own_args_none (suc n) t c core =
        let d : TypeId = type_id recs a k in
        let args : List TypeExpr = own_args (suc n) in
        elim (head_or d (flat_map (λ ts. ts) (map naming.types_in args)) t (subst (λ (ts : List TypeId). Contains ts t) (types_are (TypeExpr-F.Inst d args) (expr.Inst d args) (expr.rolls-Inst d args)) c)) [
          | inl e ↦ not_of a k rec there input lt (subst IsCore (sym e) core)
          | inr f ↦ vars_none (range_with_len 0 (suc n)) t f
        ]

    pub own_none : (t : TypeId) → Contains (naming.types_in (own_type recs rec (at_row a k))) t → IsCore t → ⊥
    unfolding own_type
    own_none t c core = own_args_none (param_count rec k) t c core
