-- The PE image of a file (II.25): where its headers, sections and directories are, and what it demands of them.
-- Everything is a function of the bytes; a number that would lie past their end counts as 0 here, and a demand
-- refuses such a file.
use Rattle.std.specs.Prelude.{ℕ, zero, suc, ◌+◌, ◌-◌, ◌*◌, Bool, nat_le, nat_lt, not, ◌==◌, ◌&&◌, ◌||◌, List, [], ◌∷◌, ◌++◌, take, drop, bit_and, Option, Some, None, unwrap_or, is_some, if◌then◌else◌}
use Rattle.std.specs.Option.{option_map, option_and_then}
use Rattle.il_base.specs.declared.ids.BadAt.{BadAt}
use Rattle.il_base.specs.declared.cli_format.section.Section.{Section}
use Rattle.il_base.specs.declared.reason.TheConstants.{NOT_PE, NO_CLI, NOT_IL_ONLY, NATIVE, BAD_RVA}
use Rattle.il_base.specs.cli_format.Demand.{Demand, demand, each_below, bad, number, within}

-- ---- headers (II.25.2)

-- the place of the PE signature, which the DOS header gives
unfoldable pub signature_place : List ℕ → ℕ
signature_place bs = number 4 bs 0x3c

-- the place of the optional header, after the signature and the COFF header of 20 bytes
unfoldable pub optional_place : List ℕ → ℕ
optional_place bs = signature_place bs + 24

-- the number of sections, and the place of the first section header
unfoldable pub section_count : List ℕ → ℕ
section_count bs = number 2 bs (signature_place bs + 6)

unfoldable pub sections_place : List ℕ → ℕ
sections_place bs = optional_place bs + number 2 bs (signature_place bs + 20)

-- the magic of PE32+, whose optional header has 16 bytes more before the number of its directories
unfoldable pub is_wide : List ℕ → Bool
is_wide bs = number 2 bs (optional_place bs) == 0x20b

-- the places of the number of directories and of directory 14, the CLI header's (II.25.2.3.3)
unfoldable pub directory_count_place : List ℕ → ℕ
directory_count_place bs = optional_place bs + (if is_wide bs then 108 else 92)

unfoldable pub directory_place : List ℕ → ℕ
directory_place bs = directory_count_place bs + 116

unfoldable pub subsystem_of : List ℕ → ℕ
subsystem_of bs = number 2 bs (optional_place bs + 68)

-- ---- sections (II.25.3)

-- the place of the header, of 40 bytes, of the section with a number, from 0
unfoldable pub section_place : List ℕ → ℕ → ℕ
section_place bs i = sections_place bs + 40 * i

unfoldable pub section_at : List ℕ → ℕ → Section
section_at bs h = record { size = number 4 bs (h + 8); rva = number 4 bs (h + 12); raw_size = number 4 bs (h + 16); raw = number 4 bs (h + 20) }

unfoldable pub nth_section : List ℕ → ℕ → Section
nth_section bs i = section_at bs (section_place bs i)

-- n sections from the one with a number
unfoldable pub sections_from : List ℕ → ℕ → ℕ → List Section
sections_from bs zero i = []
sections_from bs (suc n) i = nth_section bs i ∷ sections_from bs n (i + 1)

unfoldable pub sections_of : List ℕ → List Section
sections_of bs = sections_from bs (section_count bs) 0

-- whether an RVA lies in the section
unfoldable pub covers : Section → ℕ → Bool
covers s rva = nat_le s.rva rva && nat_lt rva (s.rva + s.size)

-- the first section in which an RVA lies
unfoldable pub section_of : List Section → ℕ → Option Section
section_of [] rva = None
section_of (s ∷ ss) rva = if covers s rva then Some s else section_of ss rva

-- the place of `length` bytes from an RVA in a section, where they lie in its raw bytes
unfoldable pub place_in : ℕ → ℕ → Section → Option ℕ
place_in rva len s = if nat_le (rva - s.rva + len) s.raw_size then Some (s.raw + (rva - s.rva)) else None

-- the place of `length` bytes from an RVA: in the first section that the RVA lies in, where they lie in its raw bytes
unfoldable pub mapped : List ℕ → ℕ → ℕ → Option ℕ
mapped bs rva len = option_and_then (place_in rva len) (section_of (sections_of bs) rva)

-- ---- the CLI header (II.25.3.3)

-- the place of the CLI header, 72 bytes from the RVA of directory 14
unfoldable pub cli_place : List ℕ → ℕ
cli_place bs = unwrap_or (mapped bs (number 4 bs (directory_place bs)) 72) 0

unfoldable pub cli_flags_of : List ℕ → ℕ
cli_flags_of bs = number 4 bs (cli_place bs + 16)

unfoldable pub entry_token_of : List ℕ → ℕ
entry_token_of bs = number 4 bs (cli_place bs + 20)

-- where the metadata lies, and its size
unfoldable pub metadata_size : List ℕ → ℕ
metadata_size bs = number 4 bs (cli_place bs + 12)

unfoldable pub metadata_place_in : List ℕ → Option ℕ
metadata_place_in bs = mapped bs (number 4 bs (cli_place bs + 8)) (metadata_size bs)

unfoldable pub metadata_place_of : List ℕ → ℕ
metadata_place_of bs = unwrap_or (metadata_place_in bs) 0

-- ---- what a reader of an image gives

-- the bytes that an RVA names
unfoldable pub image_at : List ℕ → ℕ → ℕ → Option (List ℕ)
image_at bs rva len = option_map (λ at. take len (drop at bs)) (mapped bs rva len)

-- the place of the byte that an RVA names
abbrev pub image_place : List ℕ → ℕ → Option ℕ
image_place bs rva = mapped bs rva 0

-- the bytes from an RVA to the end of its section's raw bytes
unfoldable pub tail_in : List ℕ → ℕ → Section → Option (List ℕ)
tail_in bs rva s = option_map (λ at. take (s.raw_size - (rva - s.rva)) (drop at bs)) (place_in rva 0 s)

unfoldable pub image_tail : List ℕ → ℕ → Option (List ℕ)
image_tail bs rva = option_and_then (tail_in bs rva) (section_of (sections_of bs) rva)

unfoldable pub metadata_of : List ℕ → List ℕ
metadata_of bs = take (metadata_size bs) (drop (metadata_place_of bs) bs)

-- the resources: there are none where their RVA is 0 or isn't mapped
unfoldable pub resources_of : List ℕ → Option (List ℕ)
resources_of bs =
    if number 4 bs (cli_place bs + 24) == 0 then None
    else image_at bs (number 4 bs (cli_place bs + 24)) (number 4 bs (cli_place bs + 28))

-- ---- demands

-- `MZ` at the front, and the PE signature where the DOS header says
unfoldable pub signature_demands : List ℕ → List (Demand BadAt)
signature_demands bs =
    demand (number 2 bs 0 == 0x5a4d) (bad 0 NOT_PE)
    ++ within bs 0x3c 4
    ++ within bs (signature_place bs) 4
    ++ demand (number 4 bs (signature_place bs) == 0x4550) (bad (signature_place bs) NOT_PE)

-- the optional header is there, with the magic of PE32 or PE32+
unfoldable pub magic_demands : List ℕ → List (Demand BadAt)
magic_demands bs =
    within bs (optional_place bs) 2
    ++ demand (is_wide bs || number 2 bs (optional_place bs) == 0x10b) (bad (optional_place bs) NOT_PE)

-- directory 14 is there, with an RVA
unfoldable pub directory_demands : List ℕ → List (Demand BadAt)
directory_demands bs =
    within bs (directory_count_place bs) 4
    ++ demand (nat_le 15 (number 4 bs (directory_count_place bs))) (bad (directory_count_place bs) NO_CLI)
    ++ within bs (directory_place bs) 4
    ++ demand (not (number 4 bs (directory_place bs) == 0)) (bad (directory_place bs) NO_CLI)

-- a section's header and its raw bytes are within the file
unfoldable pub section_demands : List ℕ → ℕ → List (Demand BadAt)
section_demands bs i = within bs (section_place bs i) 40 ++ within bs (nth_section bs i).raw (nth_section bs i).raw_size

unfoldable pub sections_demands : List ℕ → List (Demand BadAt)
sections_demands bs = each_below (section_demands bs) (section_count bs)

-- the CLI header is mapped, and its first number, cb, is its length
unfoldable pub cli_demands : List ℕ → List (Demand BadAt)
cli_demands bs =
    demand (is_some (mapped bs (number 4 bs (directory_place bs)) 72)) (bad (directory_place bs) BAD_RVA)
    ++ demand (number 4 bs (cli_place bs) == 72) (bad (cli_place bs) NO_CLI)

-- the image has IL only: COMIMAGE_FLAGS_ILONLY, not COMIMAGE_FLAGS_NATIVE_ENTRYPOINT, neither VTableFixups nor
-- ManagedNativeHeader (RVA and size are 0)
unfoldable pub il_only_demands : List ℕ → List (Demand BadAt)
il_only_demands bs =
    demand (bit_and (cli_flags_of bs) 1 == 1) (bad (cli_place bs + 16) NOT_IL_ONLY)
    ++ demand (bit_and (cli_flags_of bs) 16 == 0) (bad (cli_place bs + 16) NATIVE)
    ++ demand (number 8 bs (cli_place bs + 48) == 0) (bad (cli_place bs + 48) NATIVE)
    ++ demand (number 8 bs (cli_place bs + 64) == 0) (bad (cli_place bs + 64) NATIVE)

-- the metadata is mapped
unfoldable pub metadata_demands : List ℕ → List (Demand BadAt)
metadata_demands bs = demand (is_some (metadata_place_in bs)) (bad (cli_place bs + 8) BAD_RVA)

-- Everything that a file demands of its headers, in order.
unfoldable pub header_demands : List ℕ → List (Demand BadAt)
header_demands bs = signature_demands bs ++ magic_demands bs ++ directory_demands bs ++ sections_demands bs

-- Everything that a file demands of its image, in order.
unfoldable pub image_demands : List ℕ → List (Demand BadAt)
image_demands bs = header_demands bs ++ cli_demands bs ++ il_only_demands bs ++ metadata_demands bs
