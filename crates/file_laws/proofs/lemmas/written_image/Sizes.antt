-- How many bytes the parts of an image have.
use Rattle.std.proofs.Common.{◌≡◌, ℕ, ◌+◌, ◌-◌, ◌<◌, ◌≤◌, List, ◌++◌, length, refl, ap, arith, length-append}
use Rattle.std.proofs.lemmas.List.{length-replicate}
use Rattle.rules.specs.file_layout.Bytes.{zeros, aligned, padded}
use Rattle.rules.specs.file_layout.Image.{Parts, import_bytes, jump_bytes, cli_header, text_section, reloc_section, dos_bytes, coff_bytes, optional_bytes, directories_bytes, section_headers, headers_bytes, image_bytes, text_size, text_raw, jump_rva, names_end, image_length}

pub aligned4 : (n : ℕ) → (n ≤ aligned 4 n) × (aligned 4 n < n + 4)
unfolding aligned
aligned4 n = (omega arith, omega arith)

pub aligned512 : (n : ℕ) → (n ≤ aligned 0x200 n) × (aligned 0x200 n < n + 0x200)
unfolding aligned
aligned512 n = (omega arith, omega arith)

pub aligned8192 : (n : ℕ) → (n ≤ aligned 0x2000 n) × (aligned 0x2000 n < n + 0x2000)
unfolding aligned
aligned8192 n = (omega arith, omega arith)

pub padded_size : (bs : List ℕ) → length (padded 0x200 bs) ≡ aligned 0x200 (length bs)
padded_size bs = let up = aligned512 (length bs) in omega (arith, length-append bs (zeros (aligned 0x200 (length bs) - length bs)), length-replicate {A = ℕ} (aligned 0x200 (length bs) - length bs) 0)

pub dos_size : length dos_bytes ≡ 128
unfolding dos_bytes
dos_size = refl

pub coff_size : length coff_bytes ≡ 24
unfolding coff_bytes
coff_size = refl

pub optional_size : (p : Parts) → length (optional_bytes p) ≡ 96
unfolding optional_bytes
optional_size p = refl

pub directories_size : (p : Parts) → length (directories_bytes p) ≡ 128
unfolding directories_bytes
directories_size p = refl

pub section_headers_size : (p : Parts) → length (section_headers p) ≡ 80
unfolding section_headers
section_headers_size p = refl

pub headers_size : (p : Parts) → length (headers_bytes p) ≡ 0x200
unfolding headers_bytes
headers_size p =
    simp length-append (omega (arith, dos_size, coff_size, optional_size p, directories_size p, section_headers_size p))

pub import_size : (p : Parts) → length (import_bytes p) ≡ 74
unfolding import_bytes
import_size p = refl

pub cli_size : (p : Parts) → length (cli_header p) ≡ 72
unfolding cli_header
cli_size p = refl

pub jump_size : length jump_bytes ≡ 6
unfolding jump_bytes
jump_size = refl

pub reloc_size : (p : Parts) → length (reloc_section p) ≡ 12
unfolding reloc_section
reloc_size p = refl

pub text_section_size : (p : Parts) → length (text_section p) ≡ text_size p
unfolding text_section
text_section_size p =
    let up = aligned4 (names_end p + 2) in
    simp length-append (omega (arith, cli_size p, import_size p, jump_size, length-replicate {A = ℕ} (jump_rva p - names_end p) 0))

reloc_raw : aligned 0x200 12 ≡ 0x200
unfolding aligned
reloc_raw = refl

pub image_size : (p : Parts) → length (image_bytes p) ≡ image_length p
unfolding image_bytes
image_size p =
    let up : aligned 0x200 12 ≡ 0x200 = reloc_raw in
    let text : aligned 0x200 (length (text_section p)) ≡ text_raw p = ap (aligned 0x200) (text_section_size p) in
    let reloc : aligned 0x200 (length (reloc_section p)) ≡ aligned 0x200 12 = ap (aligned 0x200) (reloc_size p) in
    omega (arith, length-append (headers_bytes p ++ padded 0x200 (text_section p)) (padded 0x200 (reloc_section p)), length-append (headers_bytes p) (padded 0x200 (text_section p)), headers_size p, padded_size (text_section p), padded_size (reloc_section p))
