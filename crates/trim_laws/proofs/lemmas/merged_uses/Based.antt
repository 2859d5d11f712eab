-- In a merge's inputs bases and System.Array are definitions that stand in their tables.
use Rattle.std.proofs.Common.{◌≡◌, ◌<◌, ◌≤◌, ℕ, zero, suc, ◌-◌, Bool, true, false, List, [], ◌∷◌, ◌++◌, length, map, Option, Some, None, ◌⊎◌, inl, inr, refl, sym, ap, subst, ◌∙◌, arith}
use Rattle.std.specs.Prelude.{slice_get, ◌==◌, ◌||◌, if◌then◌else◌}
use Rattle.std.specs.List.{list_all}
use Rattle.std.specs.Option.{option_map, option_and_then}
use Rattle.std.proofs.lemmas.Bool.{and_parts, and_from, cases_lt, eq-eqb}
use Rattle.std.proofs.lemmas.List.Folds.{list_all-append}
use Rattle.il_base.specs.declared.ids.TypeId.{TypeId}
use Rattle.il_base.specs.declared.table.TheConstants.{TYPE_DEF}
use Rattle.il_base.specs.declared.world_model.known.Known.{Known}
use Rattle.il_base.specs.declared.world_model.known.Known.TheVariants.{Good, Bad}
use Rattle.il_base.specs.declared.world_model.expr.TypeExpr.{TypeExpr}
use Rattle.il_base.specs.declared.world_model.expr.TypeExpr.TheVariants as expr
use Rattle.il_base.specs.declared.world_model.types.TypeDefRow.{TypeDefRow}
use Rattle.il_base.specs.declared.world_model.record.AsmRec.{AsmRec}
use Rattle.il_base.specs.world_model.Tokens.{index_in}
use Rattle.il_base.specs.world_model.Worlds.{type_id, core_types, prim_of, prims}
use Rattle.il_base.specs.declared.core_table.tokens.TheConstants.{ARRAY}
use Rattle.il_base.specs.core_table.Names.{text_of}
use Rattle.il_base.specs.core_table.Record.{core_record, record_with, type_rows, type_row}
use Rattle.rules.specs.declared.link_rules.core_type_name.CoreTypeName.{CoreTypeName}
use Rattle.rules.specs.declared.link_rules.row_at.RowAt.{RowAt}
use Rattle.rules.specs.link_rules.CoreNames.{added_row}
use Rattle.rules.specs.link_rules.Types.{at_row}
use Rattle.rules.specs.link_rules.Signatures.{prim_at, definition_expr, token_type}
use Rattle.rules.specs.link_rules.Members.{array_type, good_type, is_named, only_named, is_interface_row, base_in, base_at}
use Rattle.rules.specs.world_change_rules.Rows.{is_table_type}
use Rattle.rules.specs.merged_world_rules.Merge.{Merge, IsMerge, before, names_before}
use Rattle.merge_laws.proofs.lemmas.merged_places.Rows.{place_within, get_front}
use Rattle.merge_laws.proofs.lemmas.merged_places.Worlds.{core_of, before_length, core_rec, core_at, before_types}
use Rattle.merge_laws.proofs.lemmas.merged_references.Core.{count}
use Rattle.merge_laws.proofs.lemmas.merged_references.Found.{Names}
use Rattle.merge_laws.proofs.lemmas.merged_signatures.Agreeing.{good_token}
use Rattle.merge_laws.proofs.lemmas.merged_rows_move.Bases.{Own, own_token, named_own}
use Rattle.merge_laws.proofs.lemmas.merged_rows_move.Core.{types_before, types_more}
use Rattle.trim_laws.proofs.lemmas.merged_uses.Leaves.{alone, All}
use Rattle.trim_laws.proofs.lemmas.merged_uses.Sound.{Ok, def_is, expr_ok, token_ok}

-- ---- what rows of the core library extend is of its table

abbrev is_right : TypeDefRow → Bool
is_right t = t.extends == 0 || is_table_type t.extends

table_right : list_all is_right core_record.type_def ≡ true
unfolding core_record record_with type_rows type_row
table_right = refl

added_right : (names : List CoreTypeName) → list_all is_right (map (added_row core_record) names) ≡ true
added_right [] = refl
added_right (x ∷ names) = added_right names

all_at : {A : Type 0} (p : A → Bool) (xs : List A) (k : ℕ) (x : A) → list_all p xs ≡ true → slice_get xs k ≡ Some x → p x ≡ true
all_at p [] k x h e = absurd (cc)
all_at p (y ∷ xs) zero x h e = let same : y ≡ x = cc in ap p (sym same) ∙ (and_parts (p y) (list_all p xs) h).0
all_at p (y ∷ xs) (suc k) x h e = all_at p xs k x (and_parts (p y) (list_all p xs) h).1 e

row_right : (names : List CoreTypeName) (k : ℕ) (t : TypeDefRow) → slice_get (core_record.type_def ++ map (added_row core_record) names) k ≡ Some t → is_right t ≡ true
row_right names k t e =
    all_at is_right (core_record.type_def ++ map (added_row core_record) names) k t
    (list_all-append is_right core_record.type_def (map (added_row core_record) names)
    ∙ and_from (list_all is_right core_record.type_def) (list_all is_right (map (added_row core_record) names)) table_right (added_right names)) e

-- System.Array is no primitive
array_row : option_and_then prim_of (slice_get core_record.type_def 21) ≡ None
unfolding core_record record_with type_rows type_row text_of prim_of prims
array_row = refl

array_there : index_in TYPE_DEF ARRAY ≡ Some 21
array_there = refl

then_from : {A B : Type 0} (f : A → Option B) (o : Option A) (y : B) → option_and_then f o ≡ Some y → (x : A) × (o ≡ Some x) × (f x ≡ Some y)
then_from f None y e = absurd (cc)
then_from f (Some x) y e = (x, refl, e)

only_by : (e b : TypeExpr) (c : Bool) → (if c then Some e else None) ≡ Some b → e ≡ b
only_by e b true h = cc
only_by e b false h = absurd (cc)

named_base : (k : Known TypeExpr) (b : TypeExpr) → only_named (good_type k) ≡ Some b → k ≡ Good b
named_base (Good e) b h = ap Good (only_by e b (is_named e) h)
named_base (Bad why) b h = absurd (cc)

-- ---- in a merge

module _ (m : Merge) (is : IsMerge m) where
  -- a row of the core library's table
  pub own_names : (a k : ℕ) → suc a ≡ length (before m) → k < length core_record.type_def → Names (before m) (at_row a k)
  own_names a k last lt =
      let more = types_more m is in
      let n = count (names_before m) in
      record {
        stands = record { rec = core_of m; there = core_at m (at_row a k) last; below = omega (arith, lt, more) };
        listed = λ e. omega (arith, lt, n);
      }

  core_token : (a w : ℕ) (b : TypeExpr) → suc a ≡ length (before m) → Own w → token_type (before m) a (core_of m) w ≡ Good b → All (Ok (before m)) b
  core_token a w b last own h =
      let low = own.low in
      let more = types_more m is in
      let e = good_token (before m) a (core_of m) w (definition_expr (before m) (at_row a own.row)) (named_own (before m) a (core_of m) w own (omega (arith, low, more))) in
      let same : definition_expr (before m) (at_row a own.row) ≡ b = let f : Good (definition_expr (before m) (at_row a own.row)) ≡ Good b = sym e ∙ h in cc in
      subst (All (Ok (before m))) same (expr_ok (before m) (at_row a own.row) (own_names a own.row last own.low))

  core_by : (a : ℕ) (t : TypeDefRow) (b : TypeExpr) (z c : Bool) → suc a ≡ length (before m) → (z || is_table_type t.extends) ≡ true
      → (if z || c then None else only_named (good_type (token_type (before m) a (core_of m) t.extends))) ≡ Some b → All (Ok (before m)) b
  core_by a t b true c last right h = absurd (cc)
  core_by a t b false true last right h = absurd (cc)
  core_by a t b false false last right h = core_token a t.extends b last (own_token t.extends right) (named_base (token_type (before m) a (core_of m) t.extends) b h)

  core_row : (a : ℕ) (t : TypeDefRow) (b : TypeExpr) → suc a ≡ length (before m) → is_right t ≡ true → base_in (before m) a (core_of m) t ≡ Some b → All (Ok (before m)) b
  core_row a t b last right h = core_by a t b (t.extends == 0) (is_interface_row t) last right h

  input_by : (a : ℕ) (rec : AsmRec) (t : TypeDefRow) (b : TypeExpr) (c : Bool) → slice_get (before m) a ≡ Some rec → suc a < length (before m)
      → (if c then None else only_named (good_type (token_type (before m) a rec t.extends))) ≡ Some b → All (Ok (before m)) b
  input_by a rec t b true there lt h = absurd (cc)
  input_by a rec t b false there lt h =
      token_ok (before m) a rec there lt t.extends b (named_base (token_type (before m) a rec t.extends) b h)

  base_by : (at : RowAt) (rec : AsmRec) (t : TypeDefRow) (b : TypeExpr) → slice_get (before m) at.asm ≡ Some rec → slice_get rec.type_def at.row ≡ Some t → base_in (before m) at.asm rec t ≡ Some b
      → (suc at.asm < length (before m)) ⊎ (length (before m) ≤ suc at.asm) → All (Ok (before m)) b
  base_by at rec t b there row h (inl lt) = input_by at.asm rec t b (t.extends == 0 || is_interface_row t) there lt h
  base_by at rec t b there row h (inr ge) =
      let within = place_within (before m) at.asm rec there in
      let last : suc at.asm ≡ length (before m) = omega (arith, ge, within) in
      let same : rec ≡ core_of m = core_rec m at rec there last in
      let e : slice_get (core_of m).type_def at.row ≡ Some t = ap (λ (r : AsmRec). slice_get r.type_def at.row) (sym same) ∙ row in
      let right = row_right (names_before m) at.row t (ap (λ (ts : List TypeDefRow). slice_get ts at.row) (sym (before_types m)) ∙ e) in
      core_row at.asm t b last right (ap (λ (r : AsmRec). base_in (before m) at.asm r t) (sym same) ∙ h)

  pub base_ok : (at : RowAt) (b : TypeExpr) → base_at (before m) at ≡ Some b → All (Ok (before m)) b
  base_ok at b h =
      let r = then_from (λ (rec : AsmRec). option_and_then (base_in (before m) at.asm rec) (slice_get rec.type_def at.row)) (slice_get (before m) at.asm) b h in
      let t = then_from (base_in (before m) at.asm r.0) (slice_get r.0.type_def at.row) b r.2 in
      base_by at r.0 t.0 b r.1 t.1 t.2 (cases_lt (suc at.asm) (length (before m)))

  -- ---- System.Array

  abbrev last_asm : ℕ
  last_asm = length (before m) - 1

  last_is : suc last_asm ≡ length (before m)
  last_is = let long = before_length m in omega (arith, long)

  array_low : 21 < length core_record.type_def
  unfolding core_record record_with type_rows
  array_low = omega arith

  array_none : prim_at (before m) (at_row last_asm 21) ≡ None
  array_none =
      ap (λ (b : Bool). if b then option_and_then prim_of (slice_get (core_types (before m)) 21) else None) (eq-eqb (suc last_asm) (length (before m)) last_is)
      ∙ ap (λ (ts : List TypeDefRow). option_and_then prim_of (slice_get ts 21)) (types_before m is)
      ∙ ap (option_and_then prim_of) (get_front core_record.type_def (map (added_row core_record) (names_before m)) 21 array_low) ∙ array_row

  pub array_ok : (t : TypeId) → array_type (before m) ≡ Some t → Ok (before m) (alone t)
  array_ok t h =
      let e : Some (type_id (before m) last_asm 21) ≡ Some t = sym (ap (option_map (type_id (before m) (length (before m) - 1))) array_there) ∙ h in
      let same : type_id (before m) last_asm 21 ≡ t = cc in
      let at : RowAt = at_row last_asm 21 in
      record { at = at; names = own_names last_asm 21 last_is array_low; is = def_is (before m) at array_none ∙ ap (λ (u : TypeId). expr.Def u) same }
