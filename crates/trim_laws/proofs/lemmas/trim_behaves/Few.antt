-- The tables of a file have at most 1048576 rows (II.24.2.6).
use Rattle.std.proofs.Common.{◌≡◌, ◌≤◌, ◌<◌, ℕ, zero, suc, List, [], ◌∷◌, length, get_or, None, refl, ap, ap₂, subst, sym, ◌∙◌, arith}
use Rattle.std.specs.Prelude.{map}
use Rattle.std.specs.List.{AllByRecursion}
use Rattle.il_base.specs.cli_format.Demand.{first_fault}
use Rattle.il_base.specs.cli_format.Image.{image_demands, metadata_of, metadata_place_of}
use Rattle.il_base.specs.cli_format.Metadata.{tables_demands, most_rows}
use Rattle.il_base.proofs.lemmas.cli_format.Faults.{none_of_both}
use Rattle.il_base.proofs.lemmas.cli_format.Plain.{few_law}
use Rattle.il_base.specs.declared.world_model.record.AsmRec.{AsmRec}
use Rattle.il_base.specs.world_model.Records.{table_sizes, rows_in}
use Rattle.rules.specs.record_format.Cells.{count_of, all_rows}
use Rattle.rules.specs.record_format.Types.{module_row, type_ref_row, type_def_row, interface_impl_row, class_layout_row, type_spec_row, exported_type_row, nested_class_row, generic_param_row, generic_param_constraint_row, module_ref_row, assembly_row, assembly_processor_row, assembly_os_row, assembly_ref_row, assembly_ref_processor_row, assembly_ref_os_row}
use Rattle.rules.specs.record_format.Members.{field_row, method_def_row, param_row, member_ref_row, stand_alone_sig_row, event_map_row, event_row, property_map_row, property_row, method_semantics_row, method_impl_row, method_spec_row}
use Rattle.rules.specs.record_format.Others.{constant_row, custom_attribute_row, field_marshal_row, decl_security_row, field_layout_row, impl_map_row, field_rva_row, file_row, manifest_resource_row}
use Rattle.rules.specs.record_format.Record.{as_demand, record_demands, record_at, HasRecord}
use Rattle.file_laws.proofs.lemmas.record_laws.Rows.{length_rows}
use Rattle.rules.specs.merged_world_rules.Merge.{HasFewRows}

more : {a b : ℕ} {xs ys : List ℕ} → a ≡ b → xs ≡ ys → (a ∷ xs) ≡ (b ∷ ys)
more e es = ap₂ (λ (x : ℕ) (l : List ℕ). x ∷ l) e es

abbrev Few : ℕ → Type 0
Few n = n ≤ 1048576

few_at : (ns : List ℕ) → AllByRecursion Few ns → (t : ℕ) → get_or ns t 0 ≤ 1048576
few_at [] all t = omega arith
few_at (n ∷ ns) all zero = all.0
few_at (n ∷ ns) all (suc t) = few_at ns all.1 t

module _ (bs : List ℕ) (meets : first_fault (record_demands bs) ≡ None) where
  abbrev m : List ℕ
  m = metadata_of bs

  abbrev rec : AsmRec
  rec = record_at bs

  met : first_fault (tables_demands m (metadata_place_of bs)) ≡ None
  unfolding record_demands
  met = (none_of_both (map as_demand (image_demands bs)) (tables_demands m (metadata_place_of bs)) meets).1

  rows : {A : Type 0} (t : ℕ) (row : ℕ → A) → length (all_rows m t row) ≡ count_of m t
  rows t row = length_rows row (count_of m t)

  counts : List ℕ
  counts = count_of m 0x00 ∷ count_of m 0x01 ∷ count_of m 0x02 ∷ 0 ∷ count_of m 0x04 ∷ 0 ∷ count_of m 0x06 ∷ 0 ∷ count_of m 0x08 ∷ count_of m 0x09 ∷ count_of m 0x0a ∷ count_of m 0x0b ∷ count_of m 0x0c ∷ count_of m 0x0d ∷ count_of m 0x0e ∷ count_of m 0x0f ∷ count_of m 0x10 ∷ count_of m 0x11 ∷ count_of m 0x12 ∷ 0 ∷ count_of m 0x14 ∷ count_of m 0x15 ∷ 0 ∷ count_of m 0x17 ∷ count_of m 0x18 ∷ count_of m 0x19 ∷ count_of m 0x1a ∷ count_of m 0x1b ∷ count_of m 0x1c ∷ count_of m 0x1d ∷ 0 ∷ 0 ∷ count_of m 0x20 ∷ count_of m 0x21 ∷ count_of m 0x22 ∷ count_of m 0x23 ∷ count_of m 0x24 ∷ count_of m 0x25 ∷ count_of m 0x26 ∷ count_of m 0x27 ∷ count_of m 0x28 ∷ count_of m 0x29 ∷ count_of m 0x2a ∷ count_of m 0x2b ∷ count_of m 0x2c ∷ []

  sizes_are : table_sizes rec ≡ counts
  unfolding table_sizes record_at counts
  sizes_are = more (rows 0x00 (module_row m)) (more (rows 0x01 (type_ref_row m)) (more (rows 0x02 (type_def_row m)) (more refl (more (rows 0x04 (field_row m)) (more refl (more (rows 0x06 (method_def_row bs m)) (more refl (more (rows 0x08 (param_row m)) (more (rows 0x09 (interface_impl_row m)) (more (rows 0x0a (member_ref_row m)) (more (rows 0x0b (constant_row m)) (more (rows 0x0c (custom_attribute_row m)) (more (rows 0x0d (field_marshal_row m)) (more (rows 0x0e (decl_security_row m)) (more (rows 0x0f (class_layout_row m)) (more (rows 0x10 (field_layout_row m)) (more (rows 0x11 (stand_alone_sig_row m)) (more (rows 0x12 (event_map_row m)) (more refl (more (rows 0x14 (event_row m)) (more (rows 0x15 (property_map_row m)) (more refl (more (rows 0x17 (property_row m)) (more (rows 0x18 (method_semantics_row m)) (more (rows 0x19 (method_impl_row m)) (more (rows 0x1a (module_ref_row m)) (more (rows 0x1b (type_spec_row m)) (more (rows 0x1c (impl_map_row m)) (more (rows 0x1d (field_rva_row bs m (all_rows m 0x0f (class_layout_row m)) (all_rows m 0x04 (field_row m)))) (more refl (more refl (more (rows 0x20 (assembly_row m)) (more (rows 0x21 (assembly_processor_row m)) (more (rows 0x22 (assembly_os_row m)) (more (rows 0x23 (assembly_ref_row m)) (more (rows 0x24 (assembly_ref_processor_row m)) (more (rows 0x25 (assembly_ref_os_row m)) (more (rows 0x26 (file_row m)) (more (rows 0x27 (exported_type_row m)) (more (rows 0x28 (manifest_resource_row m)) (more (rows 0x29 (nested_class_row m)) (more (rows 0x2a (generic_param_row m)) (more (rows 0x2b (method_spec_row m)) (more (rows 0x2c (generic_param_constraint_row m)) (refl)))))))))))))))))))))))))))))))))))))))))))))

  size : (t : ℕ) → rows_in rec t ≡ get_or counts t 0
  size t = ap (λ (xs : List ℕ). get_or xs t 0) sizes_are

  few_below : (t : ℕ) → t < 45 → Few (count_of m t)
  unfolding count_of
  few_below t h = few_law m (metadata_place_of bs) t met h

  few_counts : AllByRecursion Few counts
  unfolding counts
  few_counts = (few_below 0x00 (omega arith), (few_below 0x01 (omega arith), (few_below 0x02 (omega arith), (omega arith, (few_below 0x04 (omega arith), (omega arith, (few_below 0x06 (omega arith), (omega arith, (few_below 0x08 (omega arith), (few_below 0x09 (omega arith), (few_below 0x0a (omega arith), (few_below 0x0b (omega arith), (few_below 0x0c (omega arith), (few_below 0x0d (omega arith), (few_below 0x0e (omega arith), (few_below 0x0f (omega arith), (few_below 0x10 (omega arith), (few_below 0x11 (omega arith), (few_below 0x12 (omega arith), (omega arith, (few_below 0x14 (omega arith), (few_below 0x15 (omega arith), (omega arith, (few_below 0x17 (omega arith), (few_below 0x18 (omega arith), (few_below 0x19 (omega arith), (few_below 0x1a (omega arith), (few_below 0x1b (omega arith), (few_below 0x1c (omega arith), (few_below 0x1d (omega arith), (omega arith, (omega arith, (few_below 0x20 (omega arith), (few_below 0x21 (omega arith), (few_below 0x22 (omega arith), (few_below 0x23 (omega arith), (few_below 0x24 (omega arith), (few_below 0x25 (omega arith), (few_below 0x26 (omega arith), (few_below 0x27 (omega arith), (few_below 0x28 (omega arith), (few_below 0x29 (omega arith), (few_below 0x2a (omega arith), (few_below 0x2b (omega arith), (few_below 0x2c (omega arith), tt)))))))))))))))))))))))))))))))))))))))))))))

  rows_are_few : (t : ℕ) → rows_in rec t < 16777216
  rows_are_few t = let s = size t in let f = few_at counts few_counts t in omega (arith, s, f)

pub few_rows : (bs : List ℕ) (r : AsmRec) → HasRecord bs r → HasFewRows r
few_rows bs r has = subst HasFewRows (sym has.is) (rows_are_few bs has.meets)
