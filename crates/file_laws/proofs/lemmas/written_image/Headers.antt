-- What is read in the headers of an image that is laid out.
use Rattle.std.proofs.Common.{◌≡◌, ℕ, ◌+◌, ◌^◌, ◌<◌, ◌≤◌, false, List, [], ◌∷◌, ◌++◌, length, refl, ap, ◌∙◌, append_assoc, arith, length-append}
use Rattle.std.specs.Prelude.{codes}
use Rattle.il_base.specs.Bytes.{number_at}
use Rattle.il_base.specs.cli_format.Demand.{number}
use Rattle.il_base.specs.declared.cli_format.section.Section.{Section}
use Rattle.il_base.specs.cli_format.Image.{signature_place, optional_place, section_count, sections_place, is_wide, directory_count_place, directory_place, subsystem_of, section_place, section_at, nth_section, sections_from, sections_of}
use Rattle.rules.specs.file_layout.Bytes.{half, word, zeros, padded}
use Rattle.rules.specs.file_layout.Image.{Parts, dos_bytes, coff_bytes, optional_bytes, directories_bytes, section_header, section_headers, headers_bytes, text_section, reloc_section, image_bytes, image_length, text_size, text_raw, text_rva, reloc_rva, jump_rva}
use Rattle.file_laws.proofs.lemmas.written_image.Numbers.{number_front, number_back, number_middle, number_between}
use Rattle.file_laws.proofs.lemmas.written_image.Sizes.{dos_size, coff_size, optional_size, directories_size, section_headers_size, headers_size, aligned512, aligned8192}

-- ---- the places of the headers

pub in_headers : (p : Parts) (n at : ℕ) → at + n ≤ 0x200 → number n (image_bytes p) at ≡ number n (headers_bytes p) at
unfolding image_bytes
in_headers p n at h =
    let size = headers_size p in
    number_front n (headers_bytes p ++ padded 0x200 (text_section p)) (padded 0x200 (reloc_section p)) at (omega (arith, length-append (headers_bytes p) (padded 0x200 (text_section p))))
    ∙ number_front n (headers_bytes p) (padded 0x200 (text_section p)) at (omega arith)

in_dos : (p : Parts) (n at : ℕ) → at + n ≤ 128 → number n (image_bytes p) at ≡ number n dos_bytes at
unfolding headers_bytes
in_dos p n at h =
    let size = dos_size in
    in_headers p n at (omega arith)
    ∙ ap (λ (bs : List ℕ). number n bs at) (dos_first dos_bytes coff_bytes (optional_bytes p) (directories_bytes p) (section_headers p) (zeros 56))
    ∙ number_front n dos_bytes (coff_bytes ++ (optional_bytes p ++ (directories_bytes p ++ (section_headers p ++ zeros 56)))) at (omega arith)
  where
    dos_first : (a b c d e f : List ℕ) → ((((a ++ b) ++ c) ++ d) ++ e) ++ f ≡ a ++ (b ++ (c ++ (d ++ (e ++ f))))
    dos_first a b c d e f = simp append_assoc

in_coff : (p : Parts) (n k : ℕ) → k + n ≤ 24 → number n (image_bytes p) (128 + k) ≡ number n coff_bytes k
unfolding headers_bytes
in_coff p n k h =
    let before = dos_size in
    let size = coff_size in
    in_headers p n (128 + k) (omega arith)
    ∙ ap (λ (bs : List ℕ). number n bs (128 + k)) (coff_second dos_bytes coff_bytes (optional_bytes p) (directories_bytes p) (section_headers p) (zeros 56))
    ∙ number_middle n dos_bytes coff_bytes (optional_bytes p ++ (directories_bytes p ++ (section_headers p ++ zeros 56))) (128 + k) k (omega arith) (omega arith)
  where
    coff_second : (a b c d e f : List ℕ) → ((((a ++ b) ++ c) ++ d) ++ e) ++ f ≡ (a ++ b) ++ (c ++ (d ++ (e ++ f)))
    coff_second a b c d e f = simp append_assoc

in_optional : (p : Parts) (n k : ℕ) → k + n ≤ 96 → number n (image_bytes p) (152 + k) ≡ number n (optional_bytes p) k
unfolding headers_bytes
in_optional p n k h =
    let before = dos_size in
    let coff = coff_size in
    let size = optional_size p in
    in_headers p n (152 + k) (omega arith)
    ∙ ap (λ (bs : List ℕ). number n bs (152 + k)) (optional_third dos_bytes coff_bytes (optional_bytes p) (directories_bytes p) (section_headers p) (zeros 56))
    ∙ number_middle n (dos_bytes ++ coff_bytes) (optional_bytes p) (directories_bytes p ++ (section_headers p ++ zeros 56)) (152 + k) k (omega (arith, length-append dos_bytes coff_bytes)) (omega arith)
  where
    optional_third : (a b c d e f : List ℕ) → ((((a ++ b) ++ c) ++ d) ++ e) ++ f ≡ ((a ++ b) ++ c) ++ (d ++ (e ++ f))
    optional_third a b c d e f = simp append_assoc

in_directories : (p : Parts) (n k : ℕ) → k + n ≤ 128 → number n (image_bytes p) (248 + k) ≡ number n (directories_bytes p) k
unfolding headers_bytes
in_directories p n k h =
    let before = dos_size in
    let coff = coff_size in
    let optional = optional_size p in
    let size = directories_size p in
    in_headers p n (248 + k) (omega arith)
    ∙ ap (λ (bs : List ℕ). number n bs (248 + k)) (directories_fourth dos_bytes coff_bytes (optional_bytes p) (directories_bytes p) (section_headers p) (zeros 56))
    ∙ number_middle n ((dos_bytes ++ coff_bytes) ++ optional_bytes p) (directories_bytes p) (section_headers p ++ zeros 56) (248 + k) k (omega (arith, length-append dos_bytes coff_bytes, length-append (dos_bytes ++ coff_bytes) (optional_bytes p))) (omega arith)
  where
    directories_fourth : (a b c d e f : List ℕ) → ((((a ++ b) ++ c) ++ d) ++ e) ++ f ≡ (((a ++ b) ++ c) ++ d) ++ (e ++ f)
    directories_fourth a b c d e f = simp append_assoc

in_section_headers : (p : Parts) (n k : ℕ) → k + n ≤ 80 → number n (image_bytes p) (376 + k) ≡ number n (section_headers p) k
unfolding headers_bytes
in_section_headers p n k h =
    let before = dos_size in
    let coff = coff_size in
    let optional = optional_size p in
    let directories = directories_size p in
    let size = section_headers_size p in
    in_headers p n (376 + k) (omega arith)
    ∙ number_middle n (((dos_bytes ++ coff_bytes) ++ optional_bytes p) ++ directories_bytes p) (section_headers p) (zeros 56) (376 + k) k
    (omega (arith, length-append dos_bytes coff_bytes, length-append (dos_bytes ++ coff_bytes) (optional_bytes p), length-append ((dos_bytes ++ coff_bytes) ++ optional_bytes p) (directories_bytes p))) (omega arith)

-- ---- numbers that are always the same

pub magic_is : (p : Parts) → number 2 (image_bytes p) 0 ≡ 0x5a4d
unfolding number number_at dos_bytes
magic_is p = in_dos p 2 0 (omega arith) ∙ refl

pub signature_place_is : (p : Parts) → signature_place (image_bytes p) ≡ 0x80
unfolding signature_place number number_at dos_bytes
signature_place_is p = in_dos p 4 0x3c (omega arith) ∙ refl

pub signature_is : (p : Parts) → number 4 (image_bytes p) 0x80 ≡ 0x4550
unfolding number number_at coff_bytes
signature_is p = in_coff p 4 0 (omega arith) ∙ refl

pub sections_are_two : (p : Parts) → number 2 (image_bytes p) 0x86 ≡ 2
unfolding number number_at coff_bytes
sections_are_two p = in_coff p 2 6 (omega arith) ∙ refl

pub optional_length_is : (p : Parts) → number 2 (image_bytes p) 0x94 ≡ 0xe0
unfolding number number_at coff_bytes
optional_length_is p = in_coff p 2 20 (omega arith) ∙ refl

pub narrow_is : (p : Parts) → number 2 (image_bytes p) 0x98 ≡ 0x10b
unfolding number number_at optional_bytes
narrow_is p = in_optional p 2 0 (omega arith) ∙ refl

pub directories_are : (p : Parts) → number 4 (image_bytes p) 0xf4 ≡ 16
unfolding number number_at optional_bytes
directories_are p = in_optional p 4 92 (omega arith) ∙ refl

pub cli_directory_is : (p : Parts) → number 4 (image_bytes p) 0x168 ≡ 0x2008
unfolding number number_at directories_bytes
cli_directory_is p = in_directories p 4 112 (omega arith) ∙ refl

-- ---- the subsystem

subsystem_number : (a b : List ℕ) (x : ℕ) → length a ≡ 68 → x < 2 ^ 16 → number 2 ((a ++ half x) ++ b) 68 ≡ x
subsystem_number a b x e h = number_between 2 x a b 68 (omega arith) h

pub subsystem_is : (p : Parts) → p.subsystem < 2 ^ 16 → number 2 (image_bytes p) 0xdc ≡ p.subsystem
unfolding optional_bytes
subsystem_is p h =
    let first : List ℕ =
    half 0x10b ++ half 0x30 ++ word (text_raw p) ++ word 0x200 ++ word 0 ++ word (jump_rva p) ++ word text_rva ++ word (reloc_rva p)
    ++ word 0x400000 ++ word 0x2000 ++ word 0x200 ++ half 4 ++ half 0 ++ half 0 ++ half 0 ++ half 4 ++ half 0
    ++ word 0 ++ word (reloc_rva p + 0x2000) ++ word 0x200 ++ word 0 in
    let last : List ℕ = half 0x8540 ++ word 0x100000 ++ word 0x1000 ++ word 0x100000 ++ word 0x1000 ++ word 0 ++ word 16 in
    in_optional p 2 68 (omega arith) ∙ subsystem_number first last p.subsystem refl h

-- ---- sections

-- the four numbers of a section header that are read
pub header_numbers : (name : List ℕ) (size rva raw_size raw flags : ℕ) → length name ≡ 8 → size < 2 ^ 32 → rva < 2 ^ 32 → raw_size < 2 ^ 32 → raw < 2 ^ 32
    → (number 4 (section_header name size rva raw_size raw flags) 8 ≡ size) × (number 4 (section_header name size rva raw_size raw flags) 12 ≡ rva)
    × (number 4 (section_header name size rva raw_size raw flags) 16 ≡ raw_size) × (number 4 (section_header name size rva raw_size raw flags) 20 ≡ raw)
header_numbers name size rva raw_size raw flags e h1 h2 h3 h4 =
    let sizes = length-append name (word size) in
    let more = length-append (name ++ word size) (word rva) in
    let most = length-append (name ++ word size ++ word rva) (word raw_size) in (
      ap (λ (bs : List ℕ). number 4 bs 8) (one name (word size) (word rva) (word raw_size) (word raw) (zeros 12) (word flags)) ∙ number_between 4 size name (word rva ++ (word raw_size ++ (word raw ++ (zeros 12 ++ word flags)))) 8 (omega arith) h1,
      ap (λ (bs : List ℕ). number 4 bs 12) (two name (word size) (word rva) (word raw_size) (word raw) (zeros 12) (word flags)) ∙ number_between 4 rva (name ++ word size) (word raw_size ++ (word raw ++ (zeros 12 ++ word flags))) 12 (omega arith) h2,
      ap (λ (bs : List ℕ). number 4 bs 16) (three name (word size) (word rva) (word raw_size) (word raw) (zeros 12) (word flags)) ∙ number_between 4 raw_size (name ++ word size ++ word rva) (word raw ++ (zeros 12 ++ word flags)) 16 (omega arith) h3,
      ap (λ (bs : List ℕ). number 4 bs 20) (four name (word size) (word rva) (word raw_size) (word raw) (zeros 12) (word flags)) ∙ number_between 4 raw (name ++ word size ++ word rva ++ word raw_size) (zeros 12 ++ word flags) 20 (omega arith) h4,
    )
  where
    one : (name a b c d e f : List ℕ) → name ++ a ++ b ++ c ++ d ++ e ++ f ≡ (name ++ a) ++ (b ++ (c ++ (d ++ (e ++ f))))
    one name a b c d e f = simp append_assoc

    two : (name a b c d e f : List ℕ) → name ++ a ++ b ++ c ++ d ++ e ++ f ≡ ((name ++ a) ++ b) ++ (c ++ (d ++ (e ++ f)))
    two name a b c d e f = simp append_assoc

    three : (name a b c d e f : List ℕ) → name ++ a ++ b ++ c ++ d ++ e ++ f ≡ (((name ++ a) ++ b) ++ c) ++ (d ++ (e ++ f))
    three name a b c d e f = simp append_assoc

    four : (name a b c d e f : List ℕ) → name ++ a ++ b ++ c ++ d ++ e ++ f ≡ ((((name ++ a) ++ b) ++ c) ++ d) ++ (e ++ f)
    four name a b c d e f = simp append_assoc

-- the two sections
abbrev pub text_of : Parts → Section
text_of p = record { size = text_size p; rva = text_rva; raw_size = text_raw p; raw = 0x200 }

abbrev pub reloc_of : Parts → Section
reloc_of p = record { size = 12; rva = reloc_rva p; raw_size = 0x200; raw = 0x200 + text_raw p }

section_same : (bs : List ℕ) (h size rva raw_size raw : ℕ) → number 4 bs (h + 8) ≡ size → number 4 bs (h + 12) ≡ rva → number 4 bs (h + 16) ≡ raw_size → number 4 bs (h + 20) ≡ raw
    → section_at bs h ≡ record { size = size; rva = rva; raw_size = raw_size; raw = raw }
unfolding section_at
section_same bs h size rva raw_size raw a b c d = rw (a, b, c, d) refl

first_header : (p : Parts) (k : ℕ) → k + 4 ≤ 40 → number 4 (image_bytes p) (0x178 + k) ≡ number 4 (section_header (codes ".text" ++ zeros 3) (text_size p) text_rva (text_raw p) 0x200 0x60000020) k
unfolding section_headers
first_header p k h =
    in_section_headers p 4 k (omega arith)
    ∙ number_front 4 (section_header (codes ".text" ++ zeros 3) (text_size p) text_rva (text_raw p) 0x200 0x60000020) (section_header (codes ".reloc" ++ zeros 2) 12 (reloc_rva p) 0x200 (0x200 + text_raw p) 0x42000040) k h

second_header : (p : Parts) (k : ℕ) → k + 4 ≤ 40 → number 4 (image_bytes p) (0x1a0 + k) ≡ number 4 (section_header (codes ".reloc" ++ zeros 2) 12 (reloc_rva p) 0x200 (0x200 + text_raw p) 0x42000040) k
unfolding section_headers
second_header p k h =
    let place : 0x1a0 + k ≡ 376 + (40 + k) = omega arith in
    rw place (in_section_headers p 4 (40 + k) (omega arith))
    ∙ number_back 4 (section_header (codes ".text" ++ zeros 3) (text_size p) text_rva (text_raw p) 0x200 0x60000020) (section_header (codes ".reloc" ++ zeros 2) 12 (reloc_rva p) 0x200 (0x200 + text_raw p) 0x42000040) (40 + k) k refl h

-- how large the numbers of an image are that has less than 2^31 bytes
pub record Bounds (p : Parts) : Type 0 where
  pub text : text_size p ≤ text_raw p
  pub raw : text_raw p + 0x400 < 2 ^ 31
  pub reloc : (0x2000 + text_size p ≤ reloc_rva p) × (reloc_rva p < 2 ^ 32)

pub bounds : (p : Parts) → image_length p < 2 ^ 31 → Bounds p
bounds p h =
    let up = aligned512 (text_size p) in
    let next = aligned8192 (text_rva + text_size p) in
    record { text = omega arith; raw = omega arith; reloc = (omega arith, omega arith) }

pub text_header_is : (p : Parts) → Bounds p → section_at (image_bytes p) 0x178 ≡ text_of p
text_header_is p b =
    let read = header_numbers (codes ".text" ++ zeros 3) (text_size p) text_rva (text_raw p) 0x200 0x60000020 refl (omega (arith, b.text, b.raw)) (omega arith) (omega (arith, b.raw)) (omega arith) in
    section_same (image_bytes p) 0x178 (text_size p) text_rva (text_raw p) 0x200
    (first_header p 8 (omega arith) ∙ read.0) (first_header p 12 (omega arith) ∙ read.1) (first_header p 16 (omega arith) ∙ read.2) (first_header p 20 (omega arith) ∙ read.3)

pub reloc_header_is : (p : Parts) → Bounds p → section_at (image_bytes p) 0x1a0 ≡ reloc_of p
reloc_header_is p b =
    let read = header_numbers (codes ".reloc" ++ zeros 2) 12 (reloc_rva p) 0x200 (0x200 + text_raw p) 0x42000040 refl (omega arith) b.reloc.1 (omega arith) (omega (arith, b.raw)) in
    section_same (image_bytes p) 0x1a0 12 (reloc_rva p) 0x200 (0x200 + text_raw p)
    (second_header p 8 (omega arith) ∙ read.0) (second_header p 12 (omega arith) ∙ read.1) (second_header p 16 (omega arith) ∙ read.2) (second_header p 20 (omega arith) ∙ read.3)

-- ---- the same by the names that a reader gives them

pub optional_place_is : (p : Parts) → optional_place (image_bytes p) ≡ 0x98
unfolding optional_place
optional_place_is p = rw (signature_place_is p) refl

pub section_count_is : (p : Parts) → section_count (image_bytes p) ≡ 2
unfolding section_count
section_count_is p = rw (signature_place_is p) (sections_are_two p)

pub sections_place_is : (p : Parts) → sections_place (image_bytes p) ≡ 0x178
unfolding sections_place
sections_place_is p = rw (optional_place_is p, signature_place_is p, optional_length_is p) refl

pub is_narrow : (p : Parts) → is_wide (image_bytes p) ≡ false
unfolding is_wide
is_narrow p = rw (optional_place_is p, narrow_is p) refl

pub directory_count_place_is : (p : Parts) → directory_count_place (image_bytes p) ≡ 0xf4
unfolding directory_count_place
directory_count_place_is p = rw (optional_place_is p, is_narrow p) refl

pub directory_place_is : (p : Parts) → directory_place (image_bytes p) ≡ 0x168
unfolding directory_place
directory_place_is p = rw (directory_count_place_is p) refl

pub subsystem_read : (p : Parts) → p.subsystem < 2 ^ 16 → subsystem_of (image_bytes p) ≡ p.subsystem
unfolding subsystem_of
subsystem_read p h = rw (optional_place_is p) (subsystem_is p h)

pub first_place : (p : Parts) → section_place (image_bytes p) 0 ≡ 0x178
unfolding section_place
first_place p = rw (sections_place_is p) refl

pub second_place : (p : Parts) → section_place (image_bytes p) 1 ≡ 0x1a0
unfolding section_place
second_place p = rw (sections_place_is p) refl

pub first_section : (p : Parts) → Bounds p → nth_section (image_bytes p) 0 ≡ text_of p
unfolding nth_section
first_section p b = rw (first_place p) (text_header_is p b)

pub second_section : (p : Parts) → Bounds p → nth_section (image_bytes p) 1 ≡ reloc_of p
unfolding nth_section
second_section p b = rw (second_place p) (reloc_header_is p b)

two_sections : (bs : List ℕ) → sections_from bs 2 0 ≡ nth_section bs 0 ∷ nth_section bs 1 ∷ []
unfolding sections_from
two_sections bs = refl

pub sections_are : (p : Parts) → Bounds p → sections_of (image_bytes p) ≡ text_of p ∷ reloc_of p ∷ []
unfolding sections_of
sections_are p b = rw (section_count_is p, two_sections (image_bytes p), first_section p b, second_section p b) refl
