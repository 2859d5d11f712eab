-- Types and tokens that aren't names that only modifiers use (II.7.1.1).
use Rattle.std.proofs.Common.{◌≡◌, ◌<◌, ℕ, zero, suc, ◌+◌, List, [], ◌∷◌, length, Bool, true, false, not, Option, Some, None, refl, sym, ap, subst, ◌∙◌, ◌&&◌, ◌||◌, arith, eqb-true}
use Rattle.std.specs.Prelude.{slice_get, nat_lt, nat_le, ◌==◌, if◌then◌else◌}
use Rattle.std.specs.List.{list_any}
use Rattle.std.specs.Option.{option_map, option_and_then}
use Rattle.std.proofs.lemmas.Bool.{lt-leb, leb-false, ltb-true, and_parts, eq-eqb}
use Rattle.il_base.specs.declared.ids.TypeId.{TypeId}
use Rattle.il_base.specs.declared.ids.Item.TheVariants as item
use Rattle.il_base.specs.declared.world_model.known.Known.{Known}
use Rattle.il_base.specs.declared.world_model.known.Known.TheVariants.{Good, Bad}
use Rattle.il_base.specs.declared.world_model.expr.TypeExpr.{TypeExpr, out-TypeExpr}
use Rattle.il_base.specs.declared.world_model.expr.TypeExpr.TheOpen.{TypeExpr-F}
use Rattle.il_base.specs.declared.world_model.expr.TypeExpr.TheVariants as expr
use Rattle.il_base.specs.declared.world_model.record.AsmRec.{AsmRec}
use Rattle.il_base.specs.world_model.Tokens.{table_of, index_in}
use Rattle.il_base.specs.world_model.Worlds.{types_in, type_id, row_below, prim_type}
use Rattle.il_base.specs.declared.core_table.types.TheConstants.{TYPES, TYPE_COUNT}
use Rattle.rules.specs.declared.link_rules.row_at.RowAt.{RowAt}
use Rattle.rules.specs.link_rules.Types.{at_row, definition_at, ref_definition}
use Rattle.rules.specs.link_rules.Signatures.{prim_at, definition_expr, known_expr, named_type}
use Rattle.rules.specs.link_rules.Members.{type_home}
use Rattle.rules.specs.link_rules.Cycles.{listed}
use Rattle.rules.specs.link_rules.Linked.{assemblies}
use Rattle.base_laws.proofs.lemmas.type_laws.Places.{home_at}
use Rattle.base_laws.proofs.lemmas.type_laws.Upwards.{out_is}
use Rattle.base_laws.proofs.lemmas.known_laws.Lists.{map_some}
use Rattle.rules.specs.mark_rules.Facts.Fact.{marked}
use Rattle.run_laws.specs.marked_laws.Flags.{is_added_row, is_added}
use Rattle.run_laws.proofs.lemmas.marked_laws.Added.{prim_not_added}
use Rattle.rules.specs.merge_rules.Absent.{reference_rows, first_same, absent_type, type_count}
use Rattle.rules.specs.merge_rules.Keys.{number_of, number_or, absent_number, found_or, class_number}
use Rattle.merge_laws.proofs.lemmas.merged_references.Found.{Stands, Names, token_names}
use Rattle.merge_laws.proofs.lemmas.merged_references.Rows.{rows_up_to}
use Rattle.trim_laws.proofs.lemmas.added_names.Modifiers.{is_listed}

types_counted : length TYPES ≡ TYPE_COUNT
types_counted = refl

-- a token of a type of the core library's table
abbrev is_low : Option ℕ → Bool
is_low None = false
is_low (Some k) = nat_lt k TYPE_COUNT

abbrev pub is_low_token : ℕ → Bool
is_low_token token = table_of token == 0x02 && is_low (index_in 0x02 token)

-- ---- types

module _ (recs : List AsmRec) where
  row_by : (at : RowAt) (b : Bool) → (suc at.asm == length recs) ≡ b → (suc at.asm ≡ length recs → at.row < TYPE_COUNT) → not ((b && nat_le (length TYPES) at.row) || false) ≡ true
  row_by at false e low = refl
  row_by at true e low =
      let n = types_counted in
      let lt = low (eqb-true (suc at.asm) (length recs) e) in
      ap (λ (b : Bool). not (b || false)) (lt-leb (length TYPES) at.row (omega (arith, n, lt)))

  home_by : (at : RowAt) (o : Option RowAt) → o ≡ Some at → (suc at.asm ≡ length recs → at.row < TYPE_COUNT) → not (list_any (is_added_row recs) (listed o)) ≡ true
  home_by at o e low = ap (λ (x : Option RowAt). not (list_any (is_added_row recs) (listed x))) e ∙ row_by at (suc at.asm == length recs) refl low

  -- a type of an input, or of the core library's table
  pub listed_type : (t : TypeId) (at : RowAt) → type_home recs t ≡ Some at → (suc at.asm ≡ length recs → at.row < TYPE_COUNT) → is_listed recs (suc t.0) ≡ true
  listed_type t at e low = home_by at (type_home recs t) e low

  low_by : (at : RowAt) (b c : Bool) → (suc at.asm == length recs) ≡ b → nat_le (length TYPES) at.row ≡ c → not ((b && c) || false) ≡ true → suc at.asm ≡ length recs → at.row < TYPE_COUNT
  low_by at true true e f h last = absurd (cc)
  low_by at true false e f h last = let n = types_counted in let lt = leb-false (length TYPES) at.row f in omega (arith, n, lt)
  low_by at false c e f h last = absurd (let g : false ≡ true = sym e ∙ eq-eqb (suc at.asm) (length recs) last in cc)

  -- one of the core library that is listed is of its table
  pub listed_low : (t : TypeId) (at : RowAt) → type_home recs t ≡ Some at → is_listed recs (suc t.0) ≡ true → suc at.asm ≡ length recs → at.row < TYPE_COUNT
  listed_low t at e h last =
      low_by at (suc at.asm == length recs) (nat_le (length TYPES) at.row) refl refl
      (sym (ap (λ (x : Option RowAt). not (list_any (is_added_row recs) (listed x))) e) ∙ h) last

  pub stands_home : (at : RowAt) → Stands recs at → type_home recs (type_id recs at.asm at.row) ≡ Some at
  stands_home at s = home_at recs 0 at.asm at.row s.rec s.there s.below ∙ ap (λ (a : ℕ). Some (at_row a at.row)) (omega arith)

  -- ---- references that name nothing

  none_by : (t : TypeId) (o : Option RowAt) → type_home recs t ≡ o → ((at : RowAt) → o ≡ Some at → ⊥) → not (list_any (is_added_row recs) (listed o)) ≡ true
  none_by t None e h = refl
  none_by t (Some at) e h = absurd (h at refl)

  past_listed : (t : TypeId) (k : ℕ) → type_count recs + k ≡ t.0 → is_listed recs (suc t.0) ≡ true
  past_listed t k e =
      none_by t (type_home recs t) refl (λ at f. let lt : t.0 < type_count recs = rows_up_to [] [] recs t at f in omega (arith, lt, e))

  absent_by : (a k : ℕ) (o : Option TypeId) → absent_type recs (at_row a k) ≡ o → is_listed recs (number_or o 0) ≡ true
  unfolding absent_type
  absent_by a k None e = refl
  absent_by a k (Some t) e =
      let m = map_some (λ j. record { 0 = type_count recs + j }) (first_same recs (at_row a k)) t e in
      past_listed t m.0 (ap (λ (u : TypeId). u.0) m.2)

  absent_listed : (a : ℕ) (o : Option ℕ) → is_listed recs (number_or (option_and_then (λ k. absent_type recs (at_row a k)) o) 0) ≡ true
  absent_listed a None = refl
  absent_listed a (Some k) = absent_by a k (absent_type recs (at_row a k)) refl

  found_listed : (n other : ℕ) → is_listed recs n ≡ true → is_listed recs other ≡ true → is_listed recs (found_or n other) ≡ true
  found_listed zero other h g = g
  found_listed (suc t) other h g = h

  -- ---- numbers of types

  abbrev number_in : TypeExpr-F TypeExpr → ℕ
  number_in (TypeExpr-F.Def t) = suc t.0
  number_in (TypeExpr-F.Prim n) = elim (prim_type recs n) [ Some t ↦ suc t.0 | None ↦ 0 ]
  number_in _ = 0

  number_is : (x : TypeExpr-F TypeExpr) (e : TypeExpr) → out-TypeExpr e ≡ x → number_of recs (Good e) ≡ number_in x
  number_is x e f = ap number_in f

module _ (inputs : List AsmRec) where
  abbrev pub recs : List AsmRec
  recs = assemblies inputs

  prim_by : (n : ℕ) (o : Option TypeId) → prim_type recs n ≡ o → is_listed recs (elim o [ Some t ↦ suc t.0 | None ↦ 0 ]) ≡ true
  prim_by n None e = refl
  prim_by n (Some t) e = ap not (prim_not_added inputs n t e)

  pub prim_listed : (n : ℕ) (t : TypeId) → prim_type recs n ≡ Some t → is_listed recs (suc t.0) ≡ true
  prim_listed n t e = ap not (prim_not_added inputs n t e)

  definition_by : (at : RowAt) (o : Option ℕ) → Names recs at → is_listed recs (number_of recs (Good (elim o [ Some n ↦ expr.Prim n | None ↦ expr.Def (type_id recs at.asm at.row) ]))) ≡ true
  definition_by at None n =
      let t : TypeId = type_id recs at.asm at.row in
      ap (is_listed recs) (number_is recs (TypeExpr-F.Def t) (expr.Def t) (out_is (TypeExpr-F.Def t) (expr.Def t) (expr.rolls-Def t))) ∙ listed_type recs t at (stands_home recs at n.stands) n.listed
  definition_by at (Some k) n =
      ap (is_listed recs) (number_is recs (TypeExpr-F.Prim k) (expr.Prim k) (out_is (TypeExpr-F.Prim k) (expr.Prim k) (expr.rolls-Prim k))) ∙ prim_by k (prim_type recs k) refl

  definition_listed : (at : RowAt) → Names recs at → is_listed recs (number_of recs (Good (definition_expr recs at))) ≡ true
  unfolding definition_expr
  definition_listed at n = definition_by at (prim_at recs at) n

  module _ (a : ℕ) (rec : AsmRec) (token : ℕ) (names : (at : RowAt) → definition_at recs a rec token ≡ Some at → Names recs at) where
    named_by : (o : Option RowAt) → definition_at recs a rec token ≡ o → is_listed recs (number_of recs (known_expr recs o)) ≡ true
    named_by None e = refl
    named_by (Some at) e = definition_listed at (names at e)

    named_listed : is_listed recs (number_of recs (named_type recs a rec token)) ≡ true
    unfolding named_type
    named_listed = named_by (definition_at recs a rec token) refl

    -- a token whose row is of an input or of the core library's table
    pub class_listed : is_listed recs (class_number recs a rec token) ≡ true
    unfolding class_number
    class_listed = found_listed recs (number_of recs (named_type recs a rec token)) (absent_number recs a token) named_listed (absent_listed recs a (index_in 0x01 token))

  -- a token of an input
  pub input_listed : (a : ℕ) (rec : AsmRec) → slice_get recs a ≡ Some rec → suc a < length recs → (token : ℕ) → is_listed recs (class_number recs a rec token) ≡ true
  input_listed a rec there input token = class_listed a rec token (λ at e. token_names recs a rec token at there input e)

  -- ---- tokens of the core library

  module _ (a : ℕ) (core : AsmRec) (there : slice_get recs a ≡ Some core) where
    index_names : (k : ℕ) (at : RowAt) (b : Bool) → nat_lt k (types_in core) ≡ b → nat_lt k TYPE_COUNT ≡ true → option_map (at_row a) (if b then Some k else None) ≡ Some at → Names recs at
    index_names k at true e low h =
        let same : at_row a k ≡ at = cc in
        subst (Names recs) same (record { stands = record { rec = core; there = there; below = ltb-true k (types_in core) e }; listed = λ last. ltb-true k TYPE_COUNT low })
    index_names k at false e low h = absurd (cc)

    row_names : (o : Option ℕ) (at : RowAt) → is_low o ≡ true → option_map (at_row a) (row_below (types_in core) o) ≡ Some at → Names recs at
    row_names None at low h = absurd (cc)
    row_names (Some k) at low h = index_names k at (nat_lt k (types_in core)) refl low h

    table_names : (token : ℕ) (at : RowAt) (b : Bool) → (table_of token == 0x02) ≡ b → (b && is_low (index_in 0x02 token)) ≡ true
        → (if b then option_map (at_row a) (row_below (types_in core) (index_in 0x02 token)) else option_and_then (ref_definition recs a core) (index_in 0x01 token)) ≡ Some at → Names recs at
    table_names token at true e low h = row_names (index_in 0x02 token) at low h
    table_names token at false e low h = absurd (cc)

    pub low_names : (token : ℕ) (at : RowAt) → is_low_token token ≡ true → definition_at recs a core token ≡ Some at → Names recs at
    unfolding definition_at
    low_names token at low h = table_names token at (table_of token == 0x02) refl low h
