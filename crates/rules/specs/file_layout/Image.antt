-- The image (II.25): PE32 with two sections, `.text` at RVA 2000 and file 200, and `.reloc` after it.
use Rattle.std.specs.Prelude.{ℕ, ◌+◌, ◌-◌, ◌*◌, ◌/◌, ◌%◌, List, ◌∷◌, ◌++◌, length, codes}
use Rattle.rules.specs.file_layout.Bytes.{half, word, zeros, aligned, padded}

-- the parts that an image is made of
pub record Parts : Type 0 where
  -- the flags of the CLI header (II.25.3.3.1) and the entry point's token
  pub bits : ℕ
  pub entry : ℕ
  -- the subsystem of the optional header (II.25.2.3.2)
  pub subsystem : ℕ
  -- bodies and field bytes, from RVA 2050 on
  pub code : List ℕ
  pub metadata : List ℕ

abbrev pub text_rva : ℕ
text_rva = 0x2000

-- the RVA of the code, after the import addresses (8 bytes) and the CLI header (72)
abbrev pub code_rva : ℕ
code_rva = 0x2050

abbrev pub metadata_rva : Parts → ℕ
metadata_rva p = code_rva + length p.code

-- ---- imports (II.25.3.1): `_CorExeMain` of `mscoree.dll`

abbrev pub imports_rva : Parts → ℕ
imports_rva p = metadata_rva p + length p.metadata

-- the RVA of the lookup table, after the import directory of 40 bytes; then come the table of 8, hint and name of 14, the library's
-- name of 12
abbrev pub lookup_rva : Parts → ℕ
lookup_rva p = imports_rva p + 40

abbrev pub hint_rva : Parts → ℕ
hint_rva p = lookup_rva p + 8

abbrev pub library_rva : Parts → ℕ
library_rva p = hint_rva p + 14

abbrev pub names_end : Parts → ℕ
names_end p = library_rva p + 12

-- the entry point: a jump through the import address, its first byte 2 before a multiple of 4
abbrev pub jump_rva : Parts → ℕ
jump_rva p = aligned 4 (names_end p + 2) - 2

-- the address that the jump has, for which `.reloc` has an entry
abbrev pub fixup_rva : Parts → ℕ
fixup_rva p = jump_rva p + 2

unfoldable pub import_bytes : Parts → List ℕ
import_bytes p =
    word (lookup_rva p) ++ word 0 ++ word 0 ++ word (library_rva p) ++ word text_rva ++ zeros 20
    ++ word (hint_rva p) ++ word 0
    ++ half 0 ++ (codes "_CorExeMain" ++ zeros 1)
    ++ (codes "mscoree.dll" ++ zeros 1)

unfoldable pub jump_bytes : List ℕ
jump_bytes = 0xff ∷ 0x25 ∷ word 0x402000

-- ---- the CLI header (II.25.3.3)

unfoldable pub cli_header : Parts → List ℕ
cli_header p = word 72 ++ half 2 ++ half 5 ++ word (metadata_rva p) ++ word (length p.metadata) ++ word p.bits ++ word p.entry ++ zeros 48

-- ---- sections

unfoldable pub text_section : Parts → List ℕ
text_section p =
    word (hint_rva p) ++ word 0 ++ cli_header p ++ p.code ++ p.metadata ++ import_bytes p ++ zeros (jump_rva p - names_end p) ++ jump_bytes

abbrev pub text_size : Parts → ℕ
text_size p = fixup_rva p + 4 - text_rva

abbrev pub text_raw : Parts → ℕ
text_raw p = aligned 0x200 (text_size p)

abbrev pub reloc_rva : Parts → ℕ
reloc_rva p = aligned 0x2000 (text_rva + text_size p)

-- one block with one entry of IMAGE_REL_BASED_HIGHLOW (II.25.3.2)
unfoldable pub reloc_section : Parts → List ℕ
reloc_section p = word (fixup_rva p / 0x1000 * 0x1000) ++ word 12 ++ half (0x3000 + fixup_rva p % 0x1000) ++ half 0

-- ---- headers (II.25.2)

-- the DOS header and stub (II.25.2.1)
unfoldable pub dos_bytes : List ℕ
dos_bytes =
    0x4d ∷ 0x5a ∷ 0x90 ∷ 0 ∷ 3 ∷ 0 ∷ 0 ∷ 0 ∷ 4 ∷ 0 ∷ 0 ∷ 0 ∷ 0xff ∷ 0xff ∷ 0 ∷ 0 ∷ 0xb8 ∷ 0 ∷ 0 ∷ 0 ∷ 0 ∷ 0 ∷ 0 ∷ 0 ∷ 0x40 ∷ 0 ∷ 0 ∷ 0
    ∷ (zeros 32 ++ word 0x80
    ++ 0x0e ∷ 0x1f ∷ 0xba ∷ 0x0e ∷ 0 ∷ 0xb4 ∷ 9 ∷ 0xcd ∷ 0x21 ∷ 0xb8 ∷ 1 ∷ 0x4c ∷ 0xcd ∷ 0x21
    ∷ (codes "This program cannot be run in DOS mode." ++ 0x0d ∷ 0x0d ∷ 0x0a ∷ 0x24 ∷ zeros 7))

-- the PE signature and the COFF header (II.25.2.2)
unfoldable pub coff_bytes : List ℕ
coff_bytes = word 0x4550 ++ half 0x14c ++ half 2 ++ zeros 12 ++ half 0xe0 ++ half 0x102

-- the fields of the optional header (II.25.2.3.1, II.25.2.3.2)
unfoldable pub optional_bytes : Parts → List ℕ
optional_bytes p =
    half 0x10b ++ half 0x30 ++ word (text_raw p) ++ word 0x200 ++ word 0 ++ word (jump_rva p) ++ word text_rva ++ word (reloc_rva p)
    ++ word 0x400000 ++ word 0x2000 ++ word 0x200 ++ half 4 ++ half 0 ++ half 0 ++ half 0 ++ half 4 ++ half 0
    ++ word 0 ++ word (reloc_rva p + 0x2000) ++ word 0x200 ++ word 0 ++ half p.subsystem ++ half 0x8540
    ++ word 0x100000 ++ word 0x1000 ++ word 0x100000 ++ word 0x1000 ++ word 0 ++ word 16

abbrev pub directory : ℕ → ℕ → List ℕ
directory rva size = word rva ++ word size

-- imports, relocations, import addresses and the CLI header (II.25.2.3.3)
unfoldable pub directories_bytes : Parts → List ℕ
directories_bytes p =
    zeros 8 ++ directory (imports_rva p) 0x4a ++ zeros 24 ++ directory (reloc_rva p) 12 ++ zeros 48
    ++ directory text_rva 8 ++ zeros 8 ++ directory 0x2008 72 ++ zeros 8

-- a section header (II.25.3); the name has its zeros
abbrev pub section_header : List ℕ → ℕ → ℕ → ℕ → ℕ → ℕ → List ℕ
section_header name size rva raw_size raw flags =
    name ++ word size ++ word rva ++ word raw_size ++ word raw ++ zeros 12 ++ word flags

unfoldable pub section_headers : Parts → List ℕ
section_headers p =
    section_header (codes ".text" ++ zeros 3) (text_size p) text_rva (text_raw p) 0x200 0x60000020
    ++ section_header (codes ".reloc" ++ zeros 2) 12 (reloc_rva p) 0x200 (0x200 + text_raw p) 0x42000040

unfoldable pub headers_bytes : Parts → List ℕ
headers_bytes p = dos_bytes ++ coff_bytes ++ optional_bytes p ++ directories_bytes p ++ section_headers p ++ zeros 56

unfoldable pub image_bytes : Parts → List ℕ
image_bytes p = headers_bytes p ++ padded 0x200 (text_section p) ++ padded 0x200 (reloc_section p)

-- the length of the image in bytes
abbrev pub image_length : Parts → ℕ
image_length p = 0x200 + text_raw p + 0x200
