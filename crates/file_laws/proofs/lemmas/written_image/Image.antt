-- An image that is laid out meets the demands on an image, and reads back.
use Rattle.std.proofs.Common.{◌≡◌, ℕ, ◌+◌, ◌≤◌, List, length, None, refl, arith}
use Rattle.std.specs.Prelude.{nat_le, not, bit_and, is_some, ◌==◌, ◌||◌}
use Rattle.std.proofs.lemmas.Bool.{le-leb}
use Rattle.il_base.specs.declared.ids.BadAt.{BadAt}
use Rattle.il_base.specs.declared.cli_format.section.Section.{Section}
use Rattle.il_base.specs.declared.reason.TheConstants.{NOT_PE, NO_CLI, NOT_IL_ONLY, NATIVE, BAD_RVA, TRUNCATED}
use Rattle.il_base.specs.cli_format.Demand.{Demand, first_fault, bad, within, number}
use Rattle.il_base.specs.cli_format.Image.{signature_place, optional_place, section_place, nth_section, is_wide, directory_count_place, directory_place, cli_place, cli_flags_of, metadata_place_in, mapped, signature_demands, magic_demands, directory_demands, section_demands, sections_demands, cli_demands, il_only_demands, metadata_demands, header_demands, image_demands}
use Rattle.il_base.proofs.lemmas.cli_format.Faults.{none_then, one_holds, none_below, none_more}
use Rattle.rules.specs.file_layout.Image.{Parts, image_bytes, image_length}
use Rattle.file_laws.specs.written_image.Written.{CanLay, ReadsBack}
use Rattle.file_laws.proofs.lemmas.written_image.Sizes.{image_size}
use Rattle.file_laws.proofs.lemmas.written_image.Headers.{Bounds, bounds, text_of, reloc_of, magic_is, signature_place_is, signature_is, section_count_is, optional_place_is, is_narrow, narrow_is, directory_count_place_is, directories_are, directory_place_is, cli_directory_is, first_place, second_place, first_section, second_section, subsystem_read}
use Rattle.file_laws.proofs.lemmas.written_image.Parts.{Read, cli_read, cli_mapped, cli_place_is, header_length_is, flags_read, entry_read, resources_read, no_fixups, no_native_header, metadata_mapped, metadata_place_is, metadata_read, code_read, bytes_read}

-- ---- one demand

lies : (bs : List ℕ) (at n : ℕ) → at + n ≤ length bs → first_fault (within bs at n) ≡ None
lies bs at n h = one_holds (nat_le (at + n) (length bs)) (bad (length bs) TRUNCATED) (le-leb (at + n) (length bs) h)

-- a part of the first 512 bytes
in_first : (p : Parts) (at place n : ℕ) → at ≡ place → place + n ≤ 0x200 → first_fault (within (image_bytes p) at n) ≡ None
in_first p at place n e h = lies (image_bytes p) at n (rw e (omega (arith, image_size p)))

-- ---- headers

signature_held : (p : Parts) → first_fault (signature_demands (image_bytes p)) ≡ None
unfolding signature_demands
signature_held p =
    let bs : List ℕ = image_bytes p in
    none_then _ _ (none_then _ _ (none_then _ _
    (one_holds (number 2 bs 0 == 0x5a4d) (bad 0 NOT_PE) (rw (magic_is p) refl))
    (in_first p 0x3c 0x3c 4 refl (omega arith)))
    (in_first p (signature_place bs) 0x80 4 (signature_place_is p) (omega arith)))
    (one_holds (number 4 bs (signature_place bs) == 0x4550) (bad (signature_place bs) NOT_PE) (rw (signature_place_is p, signature_is p) refl))

magic_held : (p : Parts) → first_fault (magic_demands (image_bytes p)) ≡ None
unfolding magic_demands
magic_held p =
    let bs : List ℕ = image_bytes p in
    none_then _ _
    (in_first p (optional_place bs) 0x98 2 (optional_place_is p) (omega arith))
    (one_holds (is_wide bs || (number 2 bs (optional_place bs) == 0x10b)) (bad (optional_place bs) NOT_PE) (rw (optional_place_is p, narrow_is p, is_narrow p) refl))

directory_held : (p : Parts) → first_fault (directory_demands (image_bytes p)) ≡ None
unfolding directory_demands
directory_held p =
    let bs : List ℕ = image_bytes p in
    none_then _ _ (none_then _ _ (none_then _ _
    (in_first p (directory_count_place bs) 0xf4 4 (directory_count_place_is p) (omega arith))
    (one_holds (nat_le 15 (number 4 bs (directory_count_place bs))) (bad (directory_count_place bs) NO_CLI) (rw (directory_count_place_is p, directories_are p) refl)))
    (in_first p (directory_place bs) 0x168 4 (directory_place_is p) (omega arith)))
    (one_holds (not (number 4 bs (directory_place bs) == 0)) (bad (directory_place bs) NO_CLI) (rw (directory_place_is p, cli_directory_is p) refl))

section_held : (p : Parts) (i place : ℕ) (s : Section) → section_place (image_bytes p) i ≡ place → place + 40 ≤ 0x200 → nth_section (image_bytes p) i ≡ s → s.raw + s.raw_size ≤ image_length p
    → first_fault (section_demands (image_bytes p) i) ≡ None
unfolding section_demands
section_held p i place s e h f room =
    none_then _ _ (in_first p (section_place (image_bytes p) i) place 40 e h)
    (rw f (lies (image_bytes p) s.raw s.raw_size (omega (arith, image_size p, room))))

sections_held : (p : Parts) → Bounds p → first_fault (sections_demands (image_bytes p)) ≡ None
unfolding sections_demands
sections_held p b =
    let demands : ℕ → List (Demand BadAt) = section_demands (image_bytes p) in
    let first = section_held p 0 0x178 (text_of p) (first_place p) (omega arith) (first_section p b) (omega arith) in
    let second = section_held p 1 0x1a0 (reloc_of p) (second_place p) (omega arith) (second_section p b) (omega arith) in
    rw (section_count_is p) (none_more demands 1 (none_more demands 0 (none_below demands) first) second)

headers_held : (p : Parts) → Bounds p → first_fault (header_demands (image_bytes p)) ≡ None
unfolding header_demands
headers_held p b = none_then _ _ (none_then _ _ (none_then _ _ (signature_held p) (magic_held p)) (directory_held p)) (sections_held p b)

-- ---- the CLI header

cli_held : (p : Parts) → Bounds p → first_fault (cli_demands (image_bytes p)) ≡ None
unfolding cli_demands
cli_held p b =
    let bs : List ℕ = image_bytes p in
    none_then _ _
    (one_holds (is_some (mapped bs (number 4 bs (directory_place bs)) 72)) (bad (directory_place bs) BAD_RVA) (rw (cli_mapped p b) refl))
    (one_holds (number 4 bs (cli_place bs) == 72) (bad (cli_place bs) NO_CLI) (rw (cli_place_is p b, header_length_is p) refl))

il_only_held : (p : Parts) → Bounds p → Read p → bit_and p.bits 1 ≡ 1 → bit_and p.bits 16 ≡ 0 → first_fault (il_only_demands (image_bytes p)) ≡ None
unfolding il_only_demands
il_only_held p b r il native =
    let bs : List ℕ = image_bytes p in
    none_then _ _ (none_then _ _ (none_then _ _
    (one_holds (bit_and (cli_flags_of bs) 1 == 1) (bad (cli_place bs + 16) NOT_IL_ONLY) (rw (flags_read p b r, il) refl))
    (one_holds (bit_and (cli_flags_of bs) 16 == 0) (bad (cli_place bs + 16) NATIVE) (rw (flags_read p b r, native) refl)))
    (one_holds (number 8 bs (cli_place bs + 48) == 0) (bad (cli_place bs + 48) NATIVE) (rw (cli_place_is p b, no_fixups p) refl)))
    (one_holds (number 8 bs (cli_place bs + 64) == 0) (bad (cli_place bs + 64) NATIVE) (rw (cli_place_is p b, no_native_header p) refl))

metadata_held : (p : Parts) → Bounds p → Read p → first_fault (metadata_demands (image_bytes p)) ≡ None
unfolding metadata_demands
metadata_held p b r = one_holds (is_some (metadata_place_in (image_bytes p))) (bad (cli_place (image_bytes p) + 8) BAD_RVA) (rw (metadata_mapped p b r) refl)

image_held : (p : Parts) → CanLay p → Bounds p → Read p → first_fault (image_demands (image_bytes p)) ≡ None
unfolding image_demands
image_held p can b r = none_then _ _ (none_then _ _ (none_then _ _ (headers_held p b) (cli_held p b)) (il_only_held p b r can.il_only can.not_native)) (metadata_held p b r)

-- ---- the law

pub image_law : (p : Parts) → CanLay p → ReadsBack p (image_bytes p)
image_law p can =
    let b = bounds p can.small in
    let r = cli_read p b can.bits can.entry in
    record {
      size = image_size p;
      demands = image_held p can b r;
      metadata = metadata_read p b r;
      place = metadata_place_is p b r;
      bits = flags_read p b r;
      entry = entry_read p b r;
      subsystem = subsystem_read p can.subsystem;
      resources = resources_read p b;
      code = code_read p b;
      bytes = bytes_read p b;
    }
