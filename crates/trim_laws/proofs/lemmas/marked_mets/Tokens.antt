-- The number that a token of a type has in a signature: its type stays where the definition does that the token names.
use Rattle.std.proofs.Common.{◌≡◌, ◌≤◌, ℕ, zero, suc, ◌+◌, ◌-◌, List, [], ◌∷◌, length, Bool, true, false, Option, Some, None, refl, sym, ap, subst, ◌∙◌, arith}
use Rattle.std.specs.Prelude.{position, nat_le, ◌==◌, ◌&&◌, if◌then◌else◌}
use Rattle.std.specs.List.{Contains}
use Rattle.std.specs.Option.{option_map, option_and_then}
use Rattle.std.proofs.lemmas.Bool.{eqb-true}
use Rattle.il_base.specs.declared.ids.TypeId.{TypeId}
use Rattle.il_base.specs.declared.table.TheConstants as table
use Rattle.il_base.specs.declared.world_model.known.Known.{Known}
use Rattle.il_base.specs.declared.world_model.known.Known.TheVariants.{Good, Bad}
use Rattle.il_base.specs.declared.world_model.known.BadKind.TheVariants.{Unresolved}
use Rattle.il_base.specs.declared.world_model.expr.TypeExpr.{TypeExpr, fold-roll-TypeExpr, roll-TypeExpr}
use Rattle.il_base.specs.declared.world_model.expr.TypeExpr as exprs
use Rattle.il_base.specs.declared.world_model.expr.TypeExpr.TheFolds.{map-TypeExpr}
use Rattle.il_base.specs.declared.world_model.expr.TypeExpr.TheOpen.{TypeExpr-F}
use Rattle.il_base.specs.declared.world_model.expr.TypeExpr.TheVariants as expr
use Rattle.il_base.specs.declared.world_model.types.TypeRefRow.{TypeRefRow}
use Rattle.il_base.specs.declared.world_model.record.AsmRec.{AsmRec}
use Rattle.il_base.specs.world_model.Tokens.{table_of, index_in}
use Rattle.il_base.specs.world_model.Worlds.{types_in, type_id, row_below, core_types, is_code_of, prim_type, known_then, named_in, definition_of, definition_named, found_or_named, modifier_named}
use Rattle.il_base.specs.declared.core_table.types.TheConstants.{TYPE_COUNT}
use Rattle.rules.specs.declared.link_rules.row_at.RowAt.{RowAt}
use Rattle.rules.specs.link_rules.Types.{at_row, listed_at, added_at, ref_at, ref_type, ref_definition, added_type, definition_at, added_by}
use Rattle.rules.specs.link_rules.Signatures.{prim_at, definition_expr, known_expr, named_type, names_at}
use Rattle.base_laws.proofs.lemmas.known_laws.Lists.{first_in, and_then_some, map_some}
use Rattle.rules.specs.mark_rules.Naming as naming
use Rattle.rules.specs.merge_rules.Absent.{first_same, absent_type, type_count}
use Rattle.rules.specs.merge_rules.Numbers.{Kept}
use Rattle.rules.specs.merge_rules.Keys.{number_of, number_or, absent_number, found_or, class_number, modifier_number}
use Rattle.trim_laws.proofs.lemmas.marked_mets.Stays.{Stays, Stay, last_stays, past_stays}

-- ---- what types name, by their outermost construct

pub types_are : (x : TypeExpr-F TypeExpr) (e : TypeExpr) → roll-TypeExpr x ≡ e → naming.types_in e ≡ naming.types_layer (map-TypeExpr TypeExpr (List TypeId) naming.types_in x)
unfolding naming.types_in
types_are x e is = ap naming.types_in (sym is) ∙ fold-roll-TypeExpr (List TypeId) naming.types_layer x

def_number : (recs : List AsmRec) (t : TypeId) → number_of recs (Good (expr.Def t)) ≡ suc t.0
unfolding exprs.out-TypeExpr denote.Hole.Carrier.out
def_number recs t = refl

prim_number : (recs : List AsmRec) (n : ℕ) → number_of recs (Good (expr.Prim n)) ≡ (elim (prim_type recs n) as (λ o. ℕ) [ Some t ↦ suc t.0 | None ↦ 0 ])
unfolding exprs.out-TypeExpr denote.Hole.Carrier.out
prim_number recs n = refl

def_defined : (f : ℕ → Option TypeId) (t : TypeId) → definition_of f (expr.Def t) ≡ Good t
unfolding definition_of exprs.out-TypeExpr denote.Hole.Carrier.out
def_defined f t = refl

module _ (recs : List AsmRec) (kept : Kept) where
  -- ---- numbers

  abbrev pub NumberStays : ℕ → Type 0
  NumberStays n = (t : TypeId) → n ≡ suc t.0 → Stays recs kept t

  pub zero_stays : NumberStays 0
  zero_stays t e = absurd (omega (arith, e))

  pub suc_stays : (t : TypeId) → Stays recs kept t → NumberStays (suc t.0)
  suc_stays t h u e =
      let same : t.0 ≡ u.0 = omega (arith, e) in
      subst (Stays recs kept) (ap (λ (n : ℕ). record { 0 = n }) same) h

  found_stays : (n other : ℕ) → NumberStays n → NumberStays other → NumberStays (found_or n other)
  found_stays zero other h g = g
  found_stays (suc n) other h g = h

  or_stays : (o : Option TypeId) (n : ℕ) → ((t : TypeId) → o ≡ Some t → Stays recs kept t) → NumberStays n → NumberStays (number_or o n)
  or_stays None n h g = g
  or_stays (Some t) n h g = suc_stays t (h t refl)

  -- ---- primitives are types of the core library

  last_number : 1 ≤ length recs → suc (length recs - 1) ≡ length recs
  last_number le = omega (arith, le)

  core_row : (k : ℕ) → Stays recs kept (type_id recs (length recs - 1) k)
  core_row k at home lt = last_stays recs kept (length recs - 1) k (last_number (omega (arith, lt))) at home lt

  pub prim_stays : (n : ℕ) (t : TypeId) → prim_type recs n ≡ Some t → Stays recs kept t
  unfolding prim_type
  prim_stays n t e =
      let m = map_some (λ k. type_id recs (length recs - 1) k) (position (is_code_of n) (core_types recs)) t e in
      subst (Stays recs kept) m.2 (core_row m.0)

  prim_by : (o : Option TypeId) → ((t : TypeId) → o ≡ Some t → Stays recs kept t) → NumberStays (elim o as (λ o. ℕ) [ Some t ↦ suc t.0 | None ↦ 0 ])
  prim_by None h = zero_stays
  prim_by (Some t) h = suc_stays t (h t refl)

  -- ---- references that name nothing

  pub absent_stays : (at : RowAt) (t : TypeId) → absent_type recs at ≡ Some t → Stays recs kept t
  unfolding absent_type
  absent_stays at t e =
      let m = map_some (λ k. record { 0 = type_count recs + k }) (first_same recs at) t e in
      subst (Stays recs kept) m.2 (past_stays recs kept (record { 0 = type_count recs + m.0 }) (omega arith))

  -- ---- a row as a type

  expr_by : (at : RowAt) (o : Option ℕ) → (o ≡ None → Stays recs kept (type_id recs at.asm at.row))
      → NumberStays (number_of recs (Good (elim o as (λ o. TypeExpr) [ Some n ↦ expr.Prim n | None ↦ expr.Def (type_id recs at.asm at.row) ])))
  expr_by at None h = subst NumberStays (sym (def_number recs (type_id recs at.asm at.row))) (suc_stays (type_id recs at.asm at.row) (h refl))
  expr_by at (Some n) h = subst NumberStays (sym (prim_number recs n)) (prim_by (prim_type recs n) (prim_stays n))

  row_stays : (at : RowAt) → (prim_at recs at ≡ None → Stays recs kept (type_id recs at.asm at.row)) → NumberStays (number_of recs (Good (definition_expr recs at)))
  unfolding definition_expr
  row_stays at h = expr_by at (prim_at recs at) h

  module _ (a : ℕ) (rec : AsmRec) where
    -- the definition that a token names stays, if it is none of a primitive
    abbrev pub TokenStays : ℕ → Type 0
    TokenStays token = (at : RowAt) → definition_at recs a rec token ≡ Some at → prim_at recs at ≡ None → Stays recs kept (type_id recs at.asm at.row)

    absent_by : (o : Option ℕ) → NumberStays (number_or (option_and_then (λ k. absent_type recs (at_row a k)) o) 0)
    absent_by None = zero_stays
    absent_by (Some k) = or_stays (absent_type recs (at_row a k)) 0 (absent_stays (at_row a k)) zero_stays

    home_by : (o : Option RowAt) → ((at : RowAt) → o ≡ Some at → prim_at recs at ≡ None → Stays recs kept (type_id recs at.asm at.row)) → NumberStays (number_of recs (known_expr recs o))
    home_by None h = zero_stays
    home_by (Some at) h = row_stays at (h at refl)

    named_stays : (token : ℕ) → TokenStays token → NumberStays (number_of recs (named_type recs a rec token))
    unfolding named_type
    named_stays token h = home_by (definition_at recs a rec token) h

    pub class_stays : (token : ℕ) → TokenStays token → NumberStays (class_number recs a rec token)
    unfolding class_number
    class_stays token h = found_stays (number_of recs (named_type recs a rec token)) (absent_number recs a token) (named_stays token h) (absent_by (index_in table.TYPE_REF token))

    -- ---- names that only modifiers find are of the core library

    added_last : (at there : RowAt) (b c : Bool) → (suc at.asm == length recs) ≡ b → (if b && c then Some at else None) ≡ Some there → (suc at.asm ≡ length recs) × (at ≡ there)
    added_last at there true true e h = (eqb-true (suc at.asm) (length recs) e, cc)
    added_last at there true false e h = absurd (cc)
    added_last at there false c e h = absurd (cc)

    pub added_stays : (token : ℕ) (t : TypeId) → added_by recs a rec token ≡ Some t → Stays recs kept t
    unfolding added_by added_type
    added_stays token t e =
        let k = and_then_some (added_type recs a rec) (index_in table.TYPE_REF token) t e in
        let m = map_some (λ (at : RowAt). type_id recs at.asm at.row) (option_and_then (added_at recs) (ref_at recs a rec k.0)) t k.2 in
        let r = and_then_some (added_at recs) (ref_at recs a rec k.0) m.0 m.1 in
        let l = added_last r.0 m.0 (suc r.0.asm == length recs) (nat_le TYPE_COUNT r.0.row) refl r.2 in
        subst (Stays recs kept) m.2 (last_stays recs kept m.0.asm m.0.row (subst (λ (x : RowAt). suc x.asm ≡ length recs) l.1 l.0))

    pub modifier_stays : (token : ℕ) → NumberStays (class_number recs a rec token) → NumberStays (modifier_number recs a rec token)
    modifier_stays token h = or_stays (added_by recs a rec token) (class_number recs a rec token) (added_stays token) h

    -- ---- what good tokens name

    def_types : (t : TypeId) → naming.types_in (expr.Def t) ≡ t ∷ []
    def_types t = types_are (TypeExpr-F.Def t) (expr.Def t) (expr.rolls-Def t)

    def_is : (at : RowAt) → prim_at recs at ≡ None → definition_expr recs at ≡ expr.Def (type_id recs at.asm at.row)
    unfolding definition_expr
    def_is at e = ap (λ (o : Option ℕ). elim o as (λ o. TypeExpr) [ Some n ↦ expr.Prim n | None ↦ expr.Def (type_id recs at.asm at.row) ]) e

    named_is : (token : ℕ) (at : RowAt) → definition_at recs a rec token ≡ Some at → prim_at recs at ≡ None → named_type recs a rec token ≡ Good (expr.Def (type_id recs at.asm at.row))
    unfolding named_type
    named_is token at e p = ap (known_expr recs) e ∙ ap (λ (x : TypeExpr). Good x) (def_is at p)

    -- a token that names types that stay
    pub good_token : (token : ℕ) (e : TypeExpr) → named_type recs a rec token ≡ Good e → Stay recs kept e → TokenStays token
    good_token token e h stay at is none =
        let d : expr.Def (type_id recs at.asm at.row) ≡ e = let f = named_is token at is none in cc in
        let types : naming.types_in e ≡ type_id recs at.asm at.row ∷ [] = ap naming.types_in (sym d) ∙ def_types (type_id recs at.asm at.row) in
        stay.each (type_id recs at.asm at.row) (subst (λ (ts : List TypeId). Contains ts (type_id recs at.asm at.row)) (sym types) (first_in (type_id recs at.asm at.row) []))

    named_good_by : (k : Known TypeExpr) (e : TypeExpr) (b : Bool) → (if b then Bad Unresolved else k) ≡ Good e → k ≡ Good e
    named_good_by k e true f = absurd (cc)
    named_good_by k e false f = f

    pub named_good : (token : ℕ) (e : TypeExpr) → named_in (names_at recs a rec).types token ≡ Good e → named_type recs a rec token ≡ Good e
    unfolding named_in
    named_good token e f = named_good_by (named_type recs a rec token) e (table_of token == table.TYPE_SPEC) f

    -- a token of a definition that stays
    known_stays : (token : ℕ) (d : TypeId) (k : Known TypeExpr) → named_in (names_at recs a rec).types token ≡ k → known_then (definition_of (prim_type recs)) k ≡ Good d → Stays recs kept d → TokenStays token
    known_stays token d (Bad why) e h stay at is none = absurd (cc)
    known_stays token d (Good x) e h stay at is none =
        let f = named_good token x e in
        let same : x ≡ expr.Def (type_id recs at.asm at.row) = let g = named_is token at is none in cc in
        let one : type_id recs at.asm at.row ≡ d = let g : Good (type_id recs at.asm at.row) ≡ Good d = sym (ap (definition_of (prim_type recs)) same ∙ def_defined (prim_type recs) (type_id recs at.asm at.row)) ∙ h in cc in
        subst (Stays recs kept) (sym one) stay

    pub definition_stays : (token : ℕ) (d : TypeId) → definition_named (names_at recs a rec) token ≡ Good d → Stays recs kept d → TokenStays token
    unfolding definition_named
    definition_stays token d h stay = known_stays token d (named_in (names_at recs a rec).types token) refl h stay

    modified_by : (token : ℕ) (d : TypeId) (o : Option TypeId) → added_by recs a rec token ≡ o → found_or_named o (definition_named (names_at recs a rec) token) ≡ Good d → Stays recs kept d
        → NumberStays (number_or o (class_number recs a rec token))
    modified_by token d None f h stay = class_stays token (definition_stays token d h stay)
    modified_by token d (Some t) f h stay = suc_stays t (added_stays token t f)

    pub modified_stays : (token : ℕ) (d : TypeId) → modifier_named (names_at recs a rec) token ≡ Good d → Stays recs kept d → NumberStays (modifier_number recs a rec token)
    unfolding modifier_named
    modified_stays token d h stay = modified_by token d (added_by recs a rec token) refl h stay

    -- ---- an assembly without references

    token_by : (token : ℕ) (at : RowAt) (b : Bool) → suc a ≡ length recs → rec.type_ref ≡ []
        → (if b then option_map (at_row a) (row_below (types_in rec) (index_in table.TYPE_DEF token)) else option_and_then (ref_definition recs a rec) (index_in table.TYPE_REF token)) ≡ Some at
        → Stays recs kept (type_id recs at.asm at.row)
    unfolding ref_definition ref_type
    token_by token at true last none e =
        let m = map_some (at_row a) (row_below (types_in rec) (index_in table.TYPE_DEF token)) at e in
        subst (λ (x : RowAt). Stays recs kept (type_id recs x.asm x.row)) m.2 (last_stays recs kept a m.0 last)
    token_by token at false last none e =
        let m = and_then_some (ref_definition recs a rec) (index_in table.TYPE_REF token) at e in
        let r = and_then_some (listed_at recs) (ref_at recs a rec m.0) at m.2 in
        let f : None ≡ Some r.0 = sym (ap (λ (n : ℕ). ref_type recs a rec n m.0) (ap (λ (xs : List TypeRefRow). length xs) none)) ∙ r.1 in
        absurd (cc)

    pub core_token : suc a ≡ length recs → rec.type_ref ≡ [] → (token : ℕ) → TokenStays token
    unfolding definition_at
    core_token last none token at e p = token_by token at (table_of token == table.TYPE_DEF) last none e
