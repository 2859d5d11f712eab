-- The first type of the first input is left of it.
use Rattle.std.proofs.Common.{◌≡◌, ◌<◌, ◌≤◌, ℕ, suc, List, [], ◌∷◌, ◌++◌, length, map, Bool, true, Option, Some, None, refl, sym, ap, subst, arith, eq-eqb}
use Rattle.std.specs.Prelude.{slice_get}
use Rattle.std.specs.List.{Contains, flat_map, list_any}
use Rattle.std.specs.Option.{is_some}
use Rattle.std.proofs.lemmas.Bool.{or_right}
use Rattle.std.proofs.lemmas.List.Elements.{Contains-append_left, Contains-append_right}
use Rattle.il_base.specs.declared.ids.Item.TheVariants as item
use Rattle.il_base.specs.declared.table.TheConstants.{TYPE_DEF}
use Rattle.il_base.specs.cli_format.Demand.{first_fault}
use Rattle.il_base.specs.cli_format.Image.{metadata_of}
use Rattle.il_base.specs.cli_format.Tables.{rows_of}
use Rattle.il_base.specs.cli_format.Metadata.{tables_stream}
use Rattle.descriptor_file.specs.declared.root.Root.{Root}
use Rattle.il_base.specs.declared.world_model.types.TypeDefRow.{TypeDefRow}
use Rattle.il_base.specs.declared.world_model.record.AsmRec.{AsmRec}
use Rattle.il_base.specs.world_model.Records.{table_sizes}
use Rattle.il_base.specs.world_model.Worlds.{types_in}
use Rattle.rules.specs.record_format.Cells.{count_of}
use Rattle.rules.specs.record_format.Types.{type_def_row}
use Rattle.rules.specs.record_format.Record.{record_demands, record_at}
use Rattle.rules.specs.declared.link_rules.row_at.RowAt.{RowAt}
use Rattle.rules.specs.link_rules.Types.{at_row}
use Rattle.rules.specs.link_rules.Cycles.{listed}
use Rattle.rules.specs.mark_rules.Facts.{Fact, start}
use Rattle.rules.specs.mark_rules.Facts.Fact.{marked}
use Rattle.rules.specs.mark_rules.Places.{row_of, marks_type, type_item}
use Rattle.rules.specs.mark_rules.Roots.{root_facts, module_facts, entry_facts, start_facts}
use Rattle.rules.specs.mark_rules.Marking.{same_fact, is_core_fact, given, marking, Marks}
use Rattle.rules.specs.merge_rules.Numbers.{kept_types}
use Rattle.rules.specs.merge_rules.Refs.{Output}
use Rattle.rules.specs.merge_rules.Restricted.{placed_methods, moved_methods, restricted_by, output_of, restricted}
use Rattle.merge_laws.proofs.lemmas.merged_record.Lists.{first_in, below_length, map_some, OfInput}
use Rattle.merge_laws.proofs.lemmas.merged_record.Sizes.{left, types}
use Rattle.merge_laws.proofs.lemmas.merged_record.Owned.{to_kept}
use Rattle.file_laws.proofs.lemmas.layout_laws.FileDemands.{singles, length_rows}
use Rattle.merge_laws.specs.merged_loads.Laws.{IsOfFile}
use Rattle.merge_laws.specs.merged_loads.Marked.{ModuleStays}
use Rattle.merge_laws.proofs.lemmas.merged_loads.TextsStand.{any_in}
use Rattle.merge_laws.proofs.lemmas.merged_loads.Flawless.{to_option, own_home}

-- the record of a file has a type
has_first : {A : Type 0} (xs : List A) → 1 ≤ length xs → (x : A) × (slice_get xs 0 ≡ Some x)
has_first [] h = absurd (omega (arith, h))
has_first (x ∷ xs) h = (x, refl)

some_type : (bs : List ℕ) → first_fault (record_demands bs) ≡ None → 1 ≤ length (record_at bs).type_def
unfolding record_at count_of
some_type bs meets = omega (arith, length_rows (type_def_row (metadata_of bs)) (rows_of (tables_stream (metadata_of bs)) TYPE_DEF), (singles bs meets).2)

pub has_module : (rec : AsmRec) → IsOfFile rec → (row : TypeDefRow) × (slice_get rec.type_def 0 ≡ Some row)
has_module rec f = has_first rec.type_def (subst (λ (r : AsmRec). 1 ≤ length r.type_def) (sym f.has.is) (some_type f.file f.has.meets))

has_some : {A : Type 0} (xs : List A) (x : A) → Contains xs x → 1 ≤ length xs
has_some xs x c = let lt = c.1 in omega arith

module _ (recs : List AsmRec) (entry : Option RowAt) (roots : List Root) (rec : AsmRec) (row : TypeDefRow) (first : slice_get recs 0 ≡ Some rec) (is : slice_get rec.type_def 0 ≡ Some row) where
  abbrev fact : Fact
  fact = marks_type recs (at_row 0 0)

  in_module : Contains (module_facts recs) fact
  in_module =
      to_option (λ (r : AsmRec). map (λ (t : TypeDefRow). marks_type recs (at_row 0 0)) (listed (slice_get r.type_def 0))) (slice_get recs 0) rec fact first
      (subst (λ (o : Option TypeDefRow). Contains (map (λ (t : TypeDefRow). marks_type recs (at_row 0 0)) (listed o)) fact) (sym is) (first_in fact []))

  in_start : Contains (start_facts recs entry roots) fact
  unfolding start_facts
  in_start =
      Contains-append_left (marked (item.Asm (record { 0 = 0 })) ∷ module_facts recs ++ entry_facts recs entry) (flat_map (root_facts recs) roots) fact
      (Contains-append_left (marked (item.Asm (record { 0 = 0 })) ∷ module_facts recs) (entry_facts recs entry) fact (Contains-append_right (marked (item.Asm (record { 0 = 0 })) ∷ []) (module_facts recs) fact in_module))

  same_self : same_fact fact fact ≡ true
  same_self = eq-eqb _ _ refl

  pub module_marked : Marks recs entry roots fact
  unfolding marking given
  module_marked = start fact (or_right (is_core_fact recs fact) (list_any (same_fact fact) (start_facts recs entry roots)) (any_in (same_fact fact) (start_facts recs entry roots) fact in_start same_self))

  module_there : row_of recs (type_item recs (at_row 0 0)) ≡ Some (at_row 0 0)
  unfolding row_of
  module_there = own_home types_in recs (at_row 0 0) rec first (below_length rec.type_def 0 row is)

module _ (internal : Bool) (o : Output) (primary : AsmRec) where
  some_left : 1 ≤ length (kept_types o.recs o.kept) → 1 ≤ length (left internal o primary).type_def
  unfolding table_sizes
  some_left h = let n = types internal o primary in omega (arith, h, n)

  has_kept : (rec : AsmRec) (row : TypeDefRow) → slice_get o.recs 0 ≡ Some rec → suc 0 < length o.recs → slice_get rec.type_def 0 ≡ Some row → o.kept (type_item o.recs (at_row 0 0)) ≡ true → 1 ≤ length (kept_types o.recs o.kept)
  unfolding kept_types
  has_kept rec row first within is kept =
      let input : OfInput o.recs 0 rec = record { there = first; within = within } in
      has_some _ (at_row 0 0) (to_kept types_in (type_item o.recs) o.recs o.kept (at_row 0 0) rec input (below_length rec.type_def 0 row is) kept)

pub module_stays : ModuleStays
unfolding restricted output_of
module_stays internal recs entry roots kept rec e within keeps first row there is =
    let o : Output = output_of recs kept in
    let m = map_some (restricted_by internal o (placed_methods (moved_methods o))) (slice_get recs 0) rec e in
    let known : kept (type_item recs (at_row 0 0)) ≡ true =
    keeps (type_item recs (at_row 0 0)) (ap (λ (x : Option RowAt). is_some x) (module_there recs entry roots first row there is)) (module_marked recs entry roots first row there is) in
    subst (λ (r : AsmRec). 1 ≤ length r.type_def) m.2 (some_left internal o m.0 (has_kept internal o m.0 first row there within is known))
