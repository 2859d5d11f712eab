-- A method of an input that is named by its own row is named so in the output.
use Rattle.std.proofs.Common.{◌≡◌, ◌<◌, ℕ, zero, suc, ◌+◌, Bool, true, false, nat_lt, List, [], ◌∷◌, length, map, Option, Some, None, refl, sym, ap, subst, ◌∙◌, arith}
use Rattle.std.specs.Prelude.{IsTrue, slice_get, ◌==◌, if◌then◌else◌}
use Rattle.std.specs.List.{position_from, range_with_len}
use Rattle.std.specs.Option.{option_map, option_and_then}
use Rattle.std.proofs.lemmas.Bool.{ne_eqb, lt-ltb}
use Rattle.il_base.specs.declared.table.TheConstants.{METHOD_DEF, MEMBER_REF}
use Rattle.il_base.specs.declared.world_model.known.Known.TheVariants.{Good}
use Rattle.il_base.specs.declared.world_model.expr.TypeExpr.{TypeExpr}
use Rattle.il_base.specs.declared.world_model.expr.TypeExpr.TheVariants as expr
use Rattle.il_base.specs.declared.world_model.types.TypeDefRow.{TypeDefRow}
use Rattle.il_base.specs.declared.world_model.members.MethodDefRow.{MethodDefRow}
use Rattle.il_base.specs.declared.world_model.record.AsmRec.{AsmRec}
use Rattle.il_base.specs.world_model.Records.{table_sizes}
use Rattle.il_base.specs.world_model.Tokens.{index_in}
use Rattle.il_base.specs.world_model.Exprs.{levels}
use Rattle.il_base.specs.world_model.Worlds.{types_in, row_below, type_id, core_types, prim_of}
use Rattle.rules.specs.declared.link_rules.row_at.RowAt.{RowAt}
use Rattle.rules.specs.link_rules.Types.{at_row}
use Rattle.rules.specs.link_rules.Signatures.{definition_expr}
use Rattle.rules.specs.link_rules.Members.{methods_in, own_args, most_levels, method_use, param_count, with_own_args, own_type, owns_method, own_member, method_def_use, ref_use_at, def_use_at, generic_method}
use Rattle.rules.specs.type_rules.Slots.{method_row_at, type_of_method}
use Rattle.rules.specs.merge_rules.Numbers.{kept_types, kept_methods, new_row}
use Rattle.rules.specs.merge_rules.Keys.{own_method}
use Rattle.rules.specs.merge_rules.Refs.{row_token, kept_token, method_token}
use Rattle.rules.specs.merge_rules.Restricted.{output_of}
use Rattle.rules.specs.change_rules.Change.{Keep}
use Rattle.rules.specs.change_rules.Moves.{move_expr}
use Rattle.base_laws.proofs.lemmas.change_laws.Exprs.{move_def, move_inst, move_var}
use Rattle.rules.specs.world_change_rules.Places.{type_number, method_number, keeps_type_row, keeps_method_row}
use Rattle.rules.specs.merged_world_rules.Merge.{Merge, IsMerge, before, after, output}
use Rattle.rules.specs.merged_world_rules.Numbering.{number_at}
use Rattle.rules.specs.merged_world_rules.NewNumbers.{rho_of, places_of}
use Rattle.merge_laws.proofs.lemmas.merged_references.Tokens.{token_table, token_index}
use Rattle.merge_laws.proofs.lemmas.merged_places.Ranks.{rank}
use Rattle.merge_laws.proofs.lemmas.merged_places.Rows.{IsThere, place_within, place_has, there_home, input_below}
use Rattle.merge_laws.proofs.lemmas.merged_places.Kept.{keeps, new_row_is}
use Rattle.merge_laws.proofs.lemmas.merged_places.Worlds.{after_is, after_left}
use Rattle.merge_laws.proofs.lemmas.merged_places.Moving.{place_kept}
use Rattle.merge_laws.proofs.lemmas.merged_places.Situations.{place, place_there, Input}
use Rattle.merge_laws.proofs.lemmas.merged_places.Tables.{number_type, number_method, type_kind, method_kind, method_left}
use Rattle.merge_laws.proofs.lemmas.merged_places.Whole.{undone_of, places_move}
use Rattle.merge_laws.proofs.lemmas.merged_rows_move.Owners.{first_is}
use Rattle.merge_laws.proofs.lemmas.merged_rows_move.Params.{params_move}
use Rattle.merge_laws.proofs.lemmas.merged_rows_move.Whole.{marks}
use Rattle.trim_laws.specs.merged_uses.Laws.{Reads}
use Rattle.trim_laws.proofs.lemmas.merged_uses.Signed.{levels_moved}
use Rattle.trim_laws.proofs.lemmas.merged_uses.Searches.{use_of}

pub map_from : {A B : Type 0} (f : A → B) (o : Option A) (y : B) → option_map f o ≡ Some y → (x : A) × (o ≡ Some x) × (f x ≡ y)
map_from f None y e = absurd (cc)
map_from f (Some x) y e = (x, refl, cc)

pub own_moved : (m : Merge) (i n : ℕ) → map (move_expr (rho_of m)) (map (λ k. expr.Var k) (range_with_len i n)) ≡ map (λ k. expr.Var k) (range_with_len i n)
own_moved m i zero = refl
own_moved m i (suc n) = λ j. move_var (rho_of m) i j ∷ own_moved m (i + 1) n j

-- a definition that isn't of the core library
pub plain_def : (recs : List AsmRec) (at : RowAt) → (suc at.asm == length recs) ≡ false → definition_expr recs at ≡ expr.Def (type_id recs at.asm at.row)
unfolding definition_expr
plain_def recs at e =
    ap (λ (b : Bool). elim (if b then option_and_then prim_of (slice_get (core_types recs) at.row) else None) as (λ o. TypeExpr) [ Some n ↦ expr.Prim n | None ↦ expr.Def (type_id recs at.asm at.row) ]) e

module _ (m : Merge) (k : Keep) (kept : RowAt → Bool) (r : Reads m k kept) (at : RowAt) (rec : AsmRec) (there : slice_get (before m) at.asm ≡ Some rec) (input : suc at.asm < length (before m)) (below : at.row < methods_in rec)
    (keeps_at : IsTrue (keeps_method_row k (before m) at)) (home : RowAt) (of : type_of_method (before m) at ≡ Some home) where
  abbrev is : IsMerge m
  is = r.merge

  abbrev mv : TypeExpr → TypeExpr
  mv = move_expr (rho_of m)

  -- ---- the row

  row : (x : MethodDefRow) × (slice_get rec.method_def at.row ≡ Some x)
  row = place_has rec.method_def at.row below

  row_there : method_row_at (before m) at ≡ Some row.0
  row_there = ap (option_and_then (λ (x : AsmRec). slice_get x.method_def at.row)) there ∙ row.1

  at_there : IsThere methods_in (before m) at
  at_there = record { rec = rec; here = there; below = below }

  keeps_item : m.kept (number_method (number_at methods_in (before m) at)) ≡ true
  keeps_item = sym (r.flags.methods at row.0 row_there) ∙ keeps_at

  abbrev j : ℕ
  j = rank (keeps methods_in (before m) number_method m.kept) (number_at methods_in (before m) at)

  placed : (places_of m).method at ≡ at_row 0 j
  unfolding kept_methods
  placed = place_there m methods_in number_method (method_kind m is) at at_there ∙ place_kept m methods_in number_method (method_kind m is) at at_there input keeps_item

  new_is : new_row (kept_methods (before m) m.kept) at ≡ Some j
  unfolding kept_methods
  new_is = new_row_is methods_in (before m) number_method m.kept at at_there (input_below methods_in (before m) at at_there input) keeps_item

  new_below : j < length m.left.method_def
  new_below = let l = method_left m is at rec row.0 at_there input keeps_item there row.1 in place_within m.left.method_def j _ l.1

  new_few : suc j < 16777216
  unfolding table_sizes
  new_few = let few : length m.left.method_def < 16777216 = is.few 0x06 in let lt = new_below in omega (arith, few, lt)

  -- ---- its token

  abbrev token : ℕ
  token = row_token METHOD_DEF (Some j)

  pub token_is : method_token (output m) (own_method (record { 0 = number_at methods_in (before m) at })) ≡ row_token METHOD_DEF (Some (rank (keeps methods_in (before m) number_method m.kept) (number_at methods_in (before m) at)))
  unfolding method_token output_of
  token_is =
      ap (kept_token METHOD_DEF (kept_methods (before m) m.kept)) (there_home methods_in (before m) at at_there)
      ∙ ap (row_token METHOD_DEF) new_is

  below_is : (count n : ℕ) → n < count → row_below count (Some n) ≡ Some n
  below_is count n lt = ap (λ (b : Bool). if b then Some n else None) (lt-ltb n count lt)

  generic_is : generic_method (after m) 0 m.left token ≡ method_def_use (after m) 0 m.left j
  unfolding generic_method
  generic_is =
      ap (λ (n : ℕ). if n == METHOD_DEF then def_use_at (after m) 0 m.left (row_below (methods_in m.left) (index_in METHOD_DEF token)) else ref_use_at (after m) 0 m.left (option_and_then (slice_get m.left.member_ref) (index_in MEMBER_REF token)))
      (token_table METHOD_DEF j (omega arith) new_few)
      ∙ ap (λ (o : Option ℕ). def_use_at (after m) 0 m.left (row_below (methods_in m.left) o)) (token_index METHOD_DEF j (omega arith) new_few)
      ∙ ap (def_use_at (after m) 0 m.left) (below_is (methods_in m.left) j new_below)

  -- ---- the type that has it

  first : (i : ℕ) × (position_from (owns_method (suc at.row)) 0 rec.type_def ≡ Some i) × (at_row at.asm i ≡ home)
  first =
      map_from (at_row at.asm) (position_from (owns_method (suc at.row)) 0 rec.type_def) home
      (sym (ap (option_and_then (λ (x : AsmRec). option_map (at_row at.asm) (position_from (owns_method (suc at.row)) 0 x.type_def))) there) ∙ of)

  home_asm : home.asm ≡ at.asm
  home_asm = ap (λ (x : RowAt). x.asm) (sym first.2)

  home_rec : slice_get (before m) home.asm ≡ Some rec
  home_rec = ap (slice_get (before m)) home_asm ∙ there

  home_below : home.row < length rec.type_def
  home_below =
      let f = first_is (owns_method (suc at.row)) rec.type_def first.0 first.1 in
      let lt = place_within rec.type_def first.0 f.item f.there in
      subst (λ (x : RowAt). x.row < length rec.type_def) first.2 lt

  abbrev home_there : IsThere types_in (before m) home
  home_there = record { rec = rec; here = home_rec; below = home_below }

  home_input : suc home.asm < length (before m)
  home_input = subst (λ (a : ℕ). suc a < length (before m)) (sym home_asm) input

  keeps_home : IsTrue (keeps_type_row k (before m) home)
  keeps_home = r.flags.keeps.owners at home keeps_at of

  home_row : (x : TypeDefRow) × (slice_get rec.type_def home.row ≡ Some x)
  home_row = place_has rec.type_def home.row home_below

  type_item : m.kept (number_type (number_at types_in (before m) home)) ≡ true
  type_item =
      sym (r.flags.types home home_row.0 home_input (ap (option_and_then (λ (x : AsmRec). slice_get x.type_def home.row)) home_rec ∙ home_row.1)) ∙ keeps_home

  abbrev i : ℕ
  i = rank (keeps types_in (before m) number_type m.kept) (number_at types_in (before m) home)

  home_moved : place m types_in number_type (type_kind m is) home ≡ at_row 0 (rank (keeps types_in (before m) number_type m.kept) (number_at types_in (before m) home))
  home_moved = place_there m types_in number_type (type_kind m is) home home_there ∙ place_kept m types_in number_type (type_kind m is) home home_there home_input type_item

  home_placed : (places_of m).typ home ≡ at_row 0 i
  unfolding kept_types
  home_placed = home_moved

  abbrev home_is : Input m types_in number_type (type_kind m is) home
  home_is = record { there = home_there; earlier = home_input; keeps_it = type_item; moved = home_moved }

  new_owner : type_of_method (after m) (at_row 0 j) ≡ Some (at_row 0 i)
  new_owner =
      ap (type_of_method (after m)) (sym placed) ∙ ((marks m k kept is r.flags).methods at keeps_at).owner ∙ ap (option_map (places_of m).typ) of ∙ ap Some home_placed

  position_is : position_from (owns_method (suc j)) 0 m.left.type_def ≡ Some i
  position_is =
      let g = map_from (at_row 0) (position_from (owns_method (suc j)) 0 m.left.type_def) (at_row 0 i)
      (sym (ap (option_and_then (λ (x : AsmRec). option_map (at_row 0) (position_from (owns_method (suc j)) 0 x.type_def))) (after_left m)) ∙ new_owner) in
      g.1 ∙ ap (λ (x : RowAt). Some x.row) g.2

  -- ---- that type in itself

  two : length (after m) ≡ 2
  two = ap length (after_is m)

  new_plain : definition_expr (after m) (at_row 0 i) ≡ expr.Def (type_id (after m) 0 i)
  new_plain = plain_def (after m) (at_row 0 i) (ne_eqb 1 (length (after m)) (λ e. let t = two in absurd (omega (arith, e, t))))

  old_plain : definition_expr (before m) home ≡ expr.Def (type_id (before m) home.asm home.row)
  old_plain = plain_def (before m) home (ne_eqb (suc home.asm) (length (before m)) (λ e. let lt = home_input in absurd (omega (arith, e, lt))))

  number_moved : (type_id (after m) 0 i).0 ≡ (rho_of m).typ (type_id (before m) home.asm home.row).0
  number_moved =
      ap (type_number (after m)) (sym home_placed)
      ∙ (places_move m (undone_of m) k kept is r.flags).types home home_row.0 (ap (option_and_then (λ (x : AsmRec). slice_get x.type_def home.row)) home_rec ∙ home_row.1) keeps_home

  with_args : (n : ℕ) → with_own_args (after m) (at_row 0 i) n ≡ mv (with_own_args (before m) home n)
  with_args zero =
      new_plain ∙ ap (λ (n : ℕ). expr.Def (record { 0 = n })) number_moved ∙ sym (ap mv old_plain ∙ move_def (rho_of m) (type_id (before m) home.asm home.row))
  with_args (suc n) =
      ap (λ (t : ℕ). expr.Inst (record { 0 = t }) (own_args (suc n))) number_moved
      ∙ sym (move_inst (rho_of m) (type_id (before m) home.asm home.row) (own_args (suc n)) ∙ ap (expr.Inst (record { 0 = (rho_of m).typ (type_id (before m) home.asm home.row).0 })) (own_moved m 0 (suc n)))

  own_again : own_type (after m) m.left (at_row 0 i) ≡ mv (own_type (before m) rec home)
  unfolding own_type
  own_again = ap (with_own_args (after m) (at_row 0 i)) (params_move m is home home_is) ∙ with_args (param_count rec home.row)

  -- ---- what the token names

  found_is : own_member (after m) 0 m.left owns_method j ≡ Some (record { at = (places_of m).method at; owner = mv (own_type (before m) rec home) })
  found_is =
      ap (option_map (λ t. record { at = at_row 0 j; owner = own_type (after m) m.left (at_row 0 t) })) position_is
      ∙ (λ q. Some (record { at = sym placed q; owner = own_again q }))

  pub own_reads : nat_lt most_levels (levels (own_type (before m) rec home)) ≡ false
      → generic_method (after m) 0 m.left (method_token (output m) (own_method (record { 0 = number_at methods_in (before m) at })))
      ≡ Good (record { method = record { 0 = (rho_of m).method (method_number (before m) at) }; owner = move_expr (rho_of m) (own_type (before m) rec home); args = [] })
  unfolding method_def_use
  own_reads low =
      ap (generic_method (after m) 0 m.left) token_is ∙ generic_is ∙ ap (method_use (after m)) found_is
      ∙ use_of (after m) (record { at = (places_of m).method at; owner = mv (own_type (before m) rec home) }) (ap (nat_lt most_levels) (levels_moved (rho_of m) (own_type (before m) rec home)) ∙ low)
      ∙ ap (λ (n : ℕ). Good (record { method = record { 0 = n }; owner = mv (own_type (before m) rec home); args = [] })) ((places_move m (undone_of m) k kept is r.flags).methods at row.0 row_there keeps_at)
