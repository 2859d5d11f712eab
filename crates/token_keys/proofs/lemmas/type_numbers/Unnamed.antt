-- Tokens of no row of TypeRef or TypeDef have the number 0.
use Rattle.std.proofs.Common.{◌≡◌, ℕ, zero, suc, ◌+◌, List, length, Bool, true, false, Option, Some, None, refl, ap, ◌∙◌}
use Rattle.std.specs.Prelude.{slice_get, nat_lt, ◌==◌, if◌then◌else◌}
use Rattle.std.specs.Option.{is_some, option_map, option_and_then}
use Rattle.std.proofs.lemmas.Bool.{ltb-false, ne_eqb}
use Rattle.std.proofs.lemmas.Option.{slice_get_past}
use Rattle.il_base.specs.declared.world_model.known.Known.{Known}
use Rattle.il_base.specs.declared.world_model.expr.TypeExpr.{TypeExpr}
use Rattle.il_base.specs.declared.world_model.record.AsmRec.{AsmRec}
use Rattle.il_base.specs.world_model.Tokens.{table_of, row_index, index_in}
use Rattle.il_base.specs.world_model.Worlds.{row_below, types_in, type_id}
use Rattle.rules.specs.declared.link_rules.row_at.RowAt.{RowAt}
use Rattle.rules.specs.link_rules.Types.{at_row, ref_type, listed_at, added_at, ref_definition, added_type, definition_at, added_by}
use Rattle.rules.specs.link_rules.Signatures.{known_expr, named_type, spec_type_at, token_type}
use Rattle.rules.specs.merge_rules.Absent.{reference_at, absent_type, type_count}
use Rattle.rules.specs.merge_rules.Keys.{number_of, number_or, found_or, class_number, modifier_number}
use Rattle.token_keys.proofs.lemmas.absent_types.Firsts.{none_first}
use Rattle.token_keys.specs.type_numbers.Filled.{covers}

-- ---- what no row of TypeRef names

none_at : (recs : List AsmRec) (a : ℕ) (rec : AsmRec) (n k : ℕ) → slice_get rec.type_ref k ≡ None → ref_type recs a rec n k ≡ None
unfolding ref_type
none_at recs a rec zero k e = refl
none_at recs a rec (suc n) k e = rw e refl

no_definition : (recs : List AsmRec) (a : ℕ) (rec : AsmRec) (k : ℕ) → slice_get rec.type_ref k ≡ None → ref_definition recs a rec k ≡ None
unfolding ref_definition
no_definition recs a rec k e = ap (option_and_then (listed_at recs)) (none_at recs a rec (length rec.type_ref) k e)

no_added : (recs : List AsmRec) (a : ℕ) (rec : AsmRec) (k : ℕ) → slice_get rec.type_ref k ≡ None → added_type recs a rec k ≡ None
unfolding added_type
no_added recs a rec k e =
    ap (λ (o : Option RowAt). option_map (λ (at : RowAt). type_id recs at.asm at.row) (option_and_then (added_at recs) o)) (none_at recs a rec (length rec.type_ref) k e)

no_absent : (recs : List AsmRec) (a : ℕ) (rec : AsmRec) (k : ℕ) → slice_get recs a ≡ Some rec → slice_get rec.type_ref k ≡ None → absent_type recs (at_row a k) ≡ None
unfolding absent_type
no_absent recs a rec k here e =
    let none : reference_at recs (at_row a k) ≡ None = ap (option_and_then (λ (r : AsmRec). slice_get r.type_ref k)) here ∙ e in
    ap (option_map (λ (n : ℕ). record { 0 = type_count recs + n })) (none_first recs (at_row a k) none)

past : {A : Type 0} (xs : List A) (k : ℕ) (b : Bool) → nat_lt k (length xs) ≡ b → is_some (if b then Some k else None) ≡ false → slice_get xs k ≡ None
past xs k true e h = let no : true ≡ false = h in cc
past xs k false e h = slice_get_past xs k (ltb-false k (length xs) e)

-- ---- tokens by their tables

module _ (recs : List AsmRec) (a : ℕ) (rec : AsmRec) (here : slice_get recs a ≡ Some rec) (q : ℕ) where
  -- the row of TypeRef that it names, if any
  no_reference : (o : Option ℕ) → is_some (row_below (length rec.type_ref) o) ≡ false → option_and_then (ref_definition recs a rec) o ≡ None
  no_reference None e = refl
  no_reference (Some k) e = no_definition recs a rec k (past rec.type_ref k (nat_lt k (length rec.type_ref)) refl e)

  no_modifier : (o : Option ℕ) → is_some (row_below (length rec.type_ref) o) ≡ false → option_and_then (added_type recs a rec) o ≡ None
  no_modifier None e = refl
  no_modifier (Some k) e = no_added recs a rec k (past rec.type_ref k (nat_lt k (length rec.type_ref)) refl e)

  no_place : (o : Option ℕ) → is_some (row_below (length rec.type_ref) o) ≡ false → option_and_then (λ k. absent_type recs (at_row a k)) o ≡ None
  no_place None e = refl
  no_place (Some k) e = no_absent recs a rec k here (past rec.type_ref k (nat_lt k (length rec.type_ref)) refl e)

  not_some : {A : Type 0} (o : Option A) → is_some o ≡ false → o ≡ None
  not_some None e = refl
  not_some (Some x) e = let no : true ≡ false = e in cc

  undefined_by : (b : Bool) (defined referred : Option ℕ) → is_some (row_below (types_in rec) defined) ≡ false → is_some (row_below (length rec.type_ref) referred) ≡ false
      → (if b then option_map (at_row a) (row_below (types_in rec) defined) else option_and_then (ref_definition recs a rec) referred) ≡ None
  undefined_by true defined referred e f = ap (option_map (at_row a)) (not_some (row_below (types_in rec) defined) e)
  undefined_by false defined referred e f = no_reference referred f

  unnamed : covers 1 (length rec.type_ref) q ≡ false → covers 2 (length rec.type_def) q ≡ false → number_of recs (named_type recs a rec q) ≡ 0
  unfolding named_type definition_at
  unnamed e f = ap (λ (o : Option RowAt). number_of recs (known_expr recs o)) (undefined_by (table_of q == 2) (index_in 2 q) (index_in 1 q) f e)

  pub no_class : covers 1 (length rec.type_ref) q ≡ false → covers 2 (length rec.type_def) q ≡ false → class_number recs a rec q ≡ 0
  unfolding class_number
  no_class e f = λ i. found_or (unnamed e f i) (number_or (no_place (index_in 1 q) e i) 0)

  pub no_mark : covers 1 (length rec.type_ref) q ≡ false → covers 2 (length rec.type_def) q ≡ false → modifier_number recs a rec q ≡ 0
  unfolding added_by
  no_mark e f = λ i. number_or (no_modifier (index_in 1 q) e i) (no_class e f i)

-- ---- a TypeSpec token

spec_by : (recs : List AsmRec) (a : ℕ) (rec : AsmRec) (t : ℕ) (row : Option ℕ) → t ≡ 27
    → (if t == 2 then option_map (at_row a) (row_below (types_in rec) (if t == 2 then row else None)) else option_and_then (ref_definition recs a rec) (if t == 1 then row else None)) ≡ None
spec_by recs a rec t row e = rw e refl

pub spec_unnamed : (recs : List AsmRec) (a : ℕ) (rec : AsmRec) (token : ℕ) → table_of token ≡ 27 → number_of recs (named_type recs a rec token) ≡ 0
unfolding named_type definition_at
spec_unnamed recs a rec token e = ap (λ (o : Option RowAt). number_of recs (known_expr recs o)) (spec_by recs a rec (table_of token) (row_index token) e)

-- what any other token names

named_by : (spec : Bool) (x y k : Known TypeExpr) → spec ≡ false → (if spec then x else y) ≡ k → y ≡ k
named_by spec x y k e f = let g : (if false then x else y) ≡ k = rw e at f in g

pub named_is : (recs : List AsmRec) (a : ℕ) (rec : AsmRec) (token : ℕ) (k : Known TypeExpr) → (table_of token ≡ 27 → ⊥) → token_type recs a rec token ≡ k → number_of recs (named_type recs a rec token) ≡ number_of recs k
unfolding token_type
named_is recs a rec token k ne e =
    ap (number_of recs)
    (named_by (table_of token == 27) (spec_type_at recs a rec (option_and_then (slice_get rec.type_spec) (index_in 27 token))) (named_type recs a rec token) k (ne_eqb (table_of token) 27 ne) e)
