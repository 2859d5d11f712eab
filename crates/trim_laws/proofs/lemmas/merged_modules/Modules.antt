-- The first type of the first input is kept, with its name, so it is the first type of the output: it is `<Module>` there where it was, and no
-- other type is.
use Rattle.std.proofs.Common.{◌≡◌, ◌<◌, ◌≤◌, ℕ, zero, suc, Bool, true, false, List, [], ◌∷◌, length, codes, Option, Some, refl, sym, ap, subst, ◌∙◌, arith}
use Rattle.std.specs.Prelude.{slice_get, ◌==◌, ◌&&◌, ◌||◌}
use Rattle.std.specs.List.{list_any}
use Rattle.std.specs.Option.{is_some, option_and_then}
use Rattle.std.proofs.lemmas.Bool.{ne_eqb}
use Rattle.descriptor_file.specs.declared.root.Root.{Root}
use Rattle.il_base.specs.declared.world_model.types.TypeDefRow.{TypeDefRow}
use Rattle.il_base.specs.declared.world_model.record.AsmRec.{AsmRec}
use Rattle.il_base.specs.world_model.Core.{same_name}
use Rattle.il_base.specs.world_model.Worlds.{rows_before, types_in}
use Rattle.rules.specs.declared.link_rules.row_at.RowAt.{RowAt}
use Rattle.rules.specs.link_rules.Types.{at_row}
use Rattle.rules.specs.link_rules.Cycles.{listed}
use Rattle.rules.specs.type_rules.Rows.{type_row_at, is_module_type}
use Rattle.rules.specs.mark_rules.Places.{row_of, type_item}
use Rattle.rules.specs.mark_rules.BadItems.{is_global}
use Rattle.rules.specs.merge_rules.Moved.{moved_type_row}
use Rattle.merge_laws.proofs.lemmas.merged_record.FirstNames.{first_written}
use Rattle.merge_laws.proofs.lemmas.merged_loads.ModuleType.{has_module, module_marked}
use Rattle.merge_laws.proofs.lemmas.merged_places.Ranks.{rank, rank_is, rank_none, rank_kept, rank_rises}
use Rattle.merge_laws.proofs.lemmas.merged_places.Rows.{IsThere, place_within, place_has, there_home, one_by_number}
use Rattle.merge_laws.proofs.lemmas.merged_places.Kept.{keeps}
use Rattle.merge_laws.proofs.lemmas.merged_places.Worlds.{before_length, before_input, after_left}
use Rattle.merge_laws.proofs.lemmas.merged_places.Tables.{number_type, type_left}
use Rattle.rules.specs.merged_world_rules.Merge.{Merge, before, after, output}
use Rattle.rules.specs.merged_world_rules.Numbering.{number_at}
use Rattle.trim_laws.specs.marked_merge_rules.Merges.{IsMarkedMerge}
use Rattle.trim_laws.specs.merged_modules.Laws.{ModulesStay}

or_none : (b : Bool) → (b || false) ≡ b
or_none true = refl
or_none false = refl

-- whether a row is `<Module>`
global_is : (recs : List AsmRec) (at : RowAt) (rec : AsmRec) (row : TypeDefRow) → slice_get recs at.asm ≡ Some rec → slice_get rec.type_def at.row ≡ Some row → is_global recs (Some at) ≡ is_module_type at.row row
global_is recs at rec row here is =
    ap (λ (o : Option TypeDefRow). list_any (is_module_type at.row) (listed o) || false) (ap (option_and_then (λ (r : AsmRec). slice_get r.type_def at.row)) here ∙ is)
    ∙ or_none (is_module_type at.row row || false)
    ∙ or_none (is_module_type at.row row)

-- a row that isn't the first is none
none_is : (n : ℕ) (xs : List TypeDefRow) → (n == 0) ≡ false → list_any (is_module_type n) xs ≡ false
none_is n [] e = refl
none_is n (x ∷ xs) e = (λ i. e i && same_name x.name (codes "<Module>") && same_name x.namespace [] || list_any (is_module_type n) xs) ∙ none_is n xs e

later_not_global : (recs : List AsmRec) (t : RowAt) → (t.row == 0) ≡ false → is_global recs (Some t) ≡ false
later_not_global recs t e = ap (λ (b : Bool). b || false) (none_is t.row (listed (type_row_at recs t)) e)

module _ (m : Merge) (entry : Option RowAt) (roots : List Root) (is : IsMarkedMerge m entry roots) where
  -- ---- the first type of the first input

  record First : Type 0 where
    rec : AsmRec
    there : slice_get (before m) 0 ≡ Some rec
    row : TypeDefRow
    row_is : slice_get rec.type_def 0 ≡ Some row

  an_input : 1 < length (before m)
  an_input = let long = before_length m in let some = is.merge.some in omega (arith, long, some)

  first : First
  first =
      let p = place_has m.inputs 0 is.merge.some in
      let q = has_module p.0 (is.files 0 p.0 p.1) in
      record { rec = p.0; there = before_input m 0 an_input ∙ p.1; row = q.0; row_is = q.1 }

  origin_there : IsThere types_in (before m) (at_row 0 0)
  origin_there = let f = first in record { rec = f.rec; here = f.there; below = place_within f.rec.type_def 0 f.row f.row_is }

  origin_number : number_at types_in (before m) (at_row 0 0) ≡ 0
  unfolding rows_before
  origin_number = omega arith

  origin_home : row_of (before m) (type_item (before m) (at_row 0 0)) ≡ Some (at_row 0 0)
  unfolding row_of
  origin_home = there_home types_in (before m) (at_row 0 0) origin_there

  origin_kept : m.kept (type_item (before m) (at_row 0 0)) ≡ true
  origin_kept =
      let f = first in
      is.all (type_item (before m) (at_row 0 0)) (ap (λ (o : Option RowAt). is_some o) origin_home) (module_marked (before m) entry roots f.rec f.row f.there f.row_is)

  -- ---- it is the first type of the output

  abbrev flag : ℕ → Bool
  flag = keeps types_in (before m) number_type m.kept

  first_flag : flag 0 ≡ true
  first_flag = subst (λ (n : ℕ). m.kept (number_type n) ≡ true) origin_number origin_kept

  first_rank : rank flag 0 ≡ 0
  first_rank = rank_is flag 0 ∙ rank_none flag 0

  same_name_left : is_global (after m) (Some (at_row 0 0)) ≡ is_global (before m) (Some (at_row 0 0))
  same_name_left =
      let f = first in
      let moved : TypeDefRow = moved_type_row m.internal (output m) (at_row 0 0) f.rec f.row in
      let left : slice_get m.left.type_def (rank flag (number_at types_in (before m) (at_row 0 0))) ≡ Some moved = type_left m is.merge (at_row 0 0) f.rec f.row origin_there an_input origin_kept f.there f.row_is in
      let place : slice_get m.left.type_def 0 ≡ Some moved =
      ap (λ (n : ℕ). slice_get m.left.type_def n) (sym first_rank) ∙ ap (λ (n : ℕ). slice_get m.left.type_def (rank flag n)) (sym origin_number) ∙ left in
      global_is (after m) (at_row 0 0) m.left moved (after_left m) place
      ∙ ap (λ (name : List ℕ). same_name name (codes "<Module>") && same_name f.row.namespace []) (first_written (output m) (at_row 0 0) f.row.name refl)
      ∙ sym (global_is (before m) (at_row 0 0) f.rec f.row f.there f.row_is)

  -- ---- any type

  after_first : (n : ℕ) → 1 ≤ n → (rank flag n == 0) ≡ false
  after_first n le =
      let one = rank_kept flag 0 first_flag in
      let more = rank_rises flag 1 n le in
      ne_eqb (rank flag n) 0 (λ e. absurd (omega (arith, one, more, e)))

  by_number : (t : RowAt) (n : ℕ) → IsThere types_in (before m) t → number_at types_in (before m) t ≡ n → is_global (before m) (Some t) ≡ false → is_global (after m) (Some (at_row 0 (rank flag n))) ≡ false
  by_number t (suc n) there e not = later_not_global (after m) (at_row 0 (rank flag (suc n))) (after_first (suc n) (omega arith))
  by_number t zero there e not =
      let same : t ≡ at_row 0 0 = one_by_number types_in (before m) t (at_row 0 0) there origin_there (e ∙ sym origin_number) in
      ap (λ (n : ℕ). is_global (after m) (Some (at_row 0 n))) first_rank ∙ same_name_left ∙ ap (λ (x : RowAt). is_global (before m) (Some x)) (sym same) ∙ not

pub stay : ModulesStay
stay m entry roots is t there lt kept not = by_number m entry roots is t (number_at types_in (before m) t) there refl not
