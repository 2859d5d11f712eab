-- The bytes of a file's field are as many as its type has.
use Rattle.std.proofs.Common.{◌≡◌, ℕ, zero, suc, ◌+◌, ◌-◌, ◌<◌, ◌≤◌, Bool, true, false, cond, List, [], ◌∷◌, ◌++◌, length, take, drop, min, map, Option, Some, None, refl, sym, ap, subst, ◌∙◌, arith}
use Rattle.std.specs.Prelude.{nat_le, if◌then◌else◌}
use Rattle.std.specs.Option.{option_and_then}
use Rattle.std.proofs.lemmas.Bool.{leb-true}
use Rattle.std.proofs.lemmas.List.{length-take, length-drop}
use Rattle.il_base.specs.declared.ids.BadAt.{BadAt}
use Rattle.il_base.specs.declared.cli_format.error.TablesError.{TablesError}
use Rattle.il_base.specs.declared.cli_format.error.TablesError.TheVariants.{Bad as Refused}
use Rattle.il_base.specs.cli_format.Demand.{Demand, first_fault, within}
use Rattle.il_base.specs.declared.cli_format.section.Section.{Section}
use Rattle.il_base.specs.cli_format.Image.{section_count, section_place, nth_section, sections_from, sections_of, covers, section_of, place_in, mapped, image_at, section_demands, sections_demands, signature_demands, magic_demands, directory_demands, header_demands, cli_demands, il_only_demands, metadata_demands, image_demands, metadata_of, metadata_place_of}
use Rattle.il_base.specs.cli_format.Metadata.{tables_demands}
use Rattle.il_base.proofs.lemmas.cli_format.Faults.{none_of_both, one_held, held_below}
use Rattle.il_base.specs.declared.world_model.known.Known.TheVariants.{Good}
use Rattle.il_base.specs.declared.world_model.types.ClassLayoutRow.{ClassLayoutRow}
use Rattle.il_base.specs.declared.world_model.members.FieldRow.{FieldRow}
use Rattle.il_base.specs.declared.world_model.extras.FieldRvaRow.{FieldRvaRow}
use Rattle.il_base.specs.declared.world_model.record.AsmRec.{AsmRec}
use Rattle.rules.specs.record_format.Cells.{count_of, number_in, token_in, first_rows}
use Rattle.rules.specs.record_format.Parts.{size_by, known_bytes, bytes_by}
use Rattle.rules.specs.record_format.Types.{class_layout_row}
use Rattle.rules.specs.record_format.Members.{field_row}
use Rattle.rules.specs.record_format.Others.{field_rva_row}
use Rattle.rules.specs.record_format.Record.{as_demand, record_demands, record_at}
use Rattle.file_laws.proofs.lemmas.layout_laws.FileDemands.{each_row}
use Rattle.merge_laws.proofs.lemmas.merged_record.Lists.{map_some, and_then_some}
use Rattle.merge_laws.specs.merged_loads.Laws.{IsOfFile}
use Rattle.merge_laws.proofs.lemmas.merged_loads.Lists.{Every, every_row}

-- bytes that are there are as many as the type has
abbrev pub IsSized : AsmRec → FieldRvaRow → Type 0
IsSized rec row = (bytes : List ℕ) → row.bytes ≡ Good bytes → size_by rec.class_layout rec.field row.field ≡ Some (length bytes)

-- ---- demands

unmapped_step : (b : Bool) (more : Option TablesError) (rest : Option BadAt) (e : BadAt) → (more ≡ None → rest ≡ None) → cond b more (Some (Refused e)) ≡ None → cond b rest (Some e) ≡ None
unmapped_step true more rest e h q = h q
unmapped_step false more rest e h q = absurd cc

unmapped : (ds : List (Demand BadAt)) → first_fault (map as_demand ds) ≡ None → first_fault ds ≡ None
unfolding first_fault
unmapped [] p = refl
unmapped (d ∷ ds) p = unmapped_step d.holds (first_fault (map as_demand ds)) (first_fault ds) d.refusal (unmapped ds) p

-- ---- sections

in_section : (bs : List ℕ) (n i rva : ℕ) (s : Section) → section_of (sections_from bs n i) rva ≡ Some s → (j : ℕ) × (j < i + n) × (nth_section bs j ≡ s)
unfolding section_of sections_from
in_section bs zero i rva s e = absurd (cc)
in_section bs (suc n) i rva s e = by_test (covers (nth_section bs i) rva) e (in_section bs n (i + 1) rva s)
  where
    by_test : (b : Bool) → (if b then Some (nth_section bs i) else section_of (sections_from bs n (i + 1)) rva) ≡ Some s
        → (section_of (sections_from bs n (i + 1)) rva ≡ Some s → (j : ℕ) × (j < i + 1 + n) × (nth_section bs j ≡ s)) → (j : ℕ) × (j < i + suc n) × (nth_section bs j ≡ s)
    by_test true f next = (i, omega arith, (cc))
    by_test false f next = let r = next f in let lt = r.1 in (r.0, omega arith, r.2)

module _ (bs : List ℕ) (meets : first_fault (record_demands bs) ≡ None) where
  image_met : first_fault (image_demands bs) ≡ None
  unfolding record_demands
  image_met = unmapped (image_demands bs) (none_of_both (map as_demand (image_demands bs)) (tables_demands (metadata_of bs) (metadata_place_of bs)) meets).0

  sections_met : first_fault (sections_demands bs) ≡ None
  unfolding image_demands header_demands
  sections_met =
      let one = none_of_both (header_demands bs ++ cli_demands bs ++ il_only_demands bs) (metadata_demands bs) image_met in
      let two = none_of_both (header_demands bs ++ cli_demands bs) (il_only_demands bs) one.0 in
      let three = none_of_both (header_demands bs) (cli_demands bs) two.0 in
      (none_of_both (signature_demands bs ++ magic_demands bs ++ directory_demands bs) (sections_demands bs) three.0).1

  raw_within : (j : ℕ) → j < section_count bs → (nth_section bs j).raw + (nth_section bs j).raw_size ≤ length bs
  unfolding sections_demands section_demands
  raw_within j lt =
      let held = held_below (section_demands bs) j (section_count bs) lt sections_met in
      let both = none_of_both (within bs (section_place bs j) 40) (within bs (nth_section bs j).raw (nth_section bs j).raw_size) held in
      leb-true ((nth_section bs j).raw + (nth_section bs j).raw_size) (length bs) (one_held _ _ both.1)

  place_by : (rva len : ℕ) (s : Section) (at : ℕ) → place_in rva len s ≡ Some at → (at + len ≤ s.raw + s.raw_size)
  unfolding place_in
  place_by rva len s at e = by_test (nat_le (rva - s.rva + len) s.raw_size) refl e
    where
      by_test : (b : Bool) → nat_le (rva - s.rva + len) s.raw_size ≡ b → (if b then Some (s.raw + (rva - s.rva)) else None) ≡ Some at → at + len ≤ s.raw + s.raw_size
      by_test true f h =
          let le = leb-true (rva - s.rva + len) s.raw_size f in
          let same : s.raw + (rva - s.rva) ≡ at = cc in
          omega arith
      by_test false f h = absurd (cc)

  mapped_within : (rva len at : ℕ) → mapped bs rva len ≡ Some at → at + len ≤ length bs
  unfolding mapped sections_of
  mapped_within rva len at e =
      let r = and_then_some (place_in rva len) (section_of (sections_from bs (section_count bs) 0) rva) at e in
      let j = in_section bs (section_count bs) 0 rva r.0 r.1 in
      let lt = j.1 in
      let le = place_by rva len r.0 at r.2 in
      let raw = subst (λ (s : Section). s.raw + s.raw_size ≤ length bs) j.2 (raw_within j.0 (omega arith)) in
      omega arith

  image_long : (rva len : ℕ) (bytes : List ℕ) → image_at bs rva len ≡ Some bytes → length bytes ≡ len
  unfolding image_at
  image_long rva len bytes e =
      let m = map_some (λ at. take len (drop at bs)) (mapped bs rva len) bytes e in
      let le = mapped_within rva len m.0 m.1 in
      ap length (sym m.2) ∙ length-take len (drop m.0 bs) ∙ ap (min len) (length-drop m.0 bs) ∙ omega arith

  known_some : (o : Option (List ℕ)) (bytes : List ℕ) → known_bytes o ≡ Good bytes → o ≡ Some bytes
  known_some None bytes e = absurd (cc)
  known_some (Some x) bytes e = cc

  sized_by : (rva : ℕ) (size : Option ℕ) (bytes : List ℕ) → bytes_by bs rva size ≡ Good bytes → size ≡ Some (length bytes)
  unfolding bytes_by
  sized_by rva size bytes e =
      let r = and_then_some (image_at bs rva) size bytes (known_some (option_and_then (image_at bs rva) size) bytes e) in
      r.1 ∙ ap (λ (n : ℕ). Some n) (sym (image_long rva r.0 bytes r.2))

  sized_row : (layouts : List ClassLayoutRow) (fields : List FieldRow) (r : ℕ) (bytes : List ℕ) → (field_rva_row bs (metadata_of bs) layouts fields r).bytes ≡ Good bytes
      → size_by layouts fields (field_rva_row bs (metadata_of bs) layouts fields r).field ≡ Some (length bytes)
  unfolding field_rva_row
  sized_row layouts fields r bytes e = sized_by (number_in (metadata_of bs) 0x1d 0 r) (size_by layouts fields (token_in (metadata_of bs) 0x1d 1 r)) bytes e

  read_sized : Every (IsSized (record_at bs)) (record_at bs).field_rva
  unfolding record_at
  read_sized =
      let m : List ℕ = metadata_of bs in
      let layouts : List ClassLayoutRow = first_rows (class_layout_row m) (count_of m 0x0f) in
      let fields : List FieldRow = first_rows (field_row m) (count_of m 0x04) in
      every_row (IsSized (record_at bs)) (record_at bs).field_rva (each_row (IsSized (record_at bs)) (field_rva_row bs m layouts fields) (count_of m 0x1d) (λ k lt. sized_row layouts fields (suc k)))

pub file_sized : (rec : AsmRec) → IsOfFile rec → Every (IsSized rec) rec.field_rva
file_sized rec file = subst (λ (r : AsmRec). Every (IsSized r) r.field_rva) (sym file.has.is) (read_sized file.file file.has.meets)
