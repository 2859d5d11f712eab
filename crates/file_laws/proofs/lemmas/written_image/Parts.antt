-- Where the parts of `.text` are found in an image that is laid out.
use Rattle.std.proofs.Common.{◌≡◌, ℕ, ◌+◌, ◌-◌, ◌^◌, ◌<◌, ◌≤◌, true, List, [], ◌∷◌, ◌++◌, length, take, drop, Some, None, refl, sym, ap, ◌∙◌, append_assoc, arith, length-append}
use Rattle.std.proofs.lemmas.Bool.{le-leb, lt-ltb}
use Rattle.std.proofs.lemmas.List.{append-nil}
use Rattle.il_base.specs.Bytes.{number_at}
use Rattle.il_base.specs.cli_format.Demand.{number}
use Rattle.il_base.specs.declared.cli_format.section.Section.{Section}
use Rattle.il_base.specs.cli_format.Image.{directory_place, covers, section_of, sections_of, place_in, mapped, cli_place, cli_flags_of, entry_token_of, metadata_size, metadata_place_in, metadata_place_of, metadata_of, image_at, tail_in, image_tail, resources_of}
use Rattle.rules.specs.file_layout.Bytes.{half, word, zeros, aligned, padded}
use Rattle.rules.specs.file_layout.Image.{Parts, headers_bytes, cli_header, import_bytes, jump_bytes, text_section, reloc_section, image_bytes, text_size, text_raw, text_rva, code_rva, metadata_rva, hint_rva, jump_rva, names_end}
use Rattle.file_laws.proofs.lemmas.written_image.Numbers.{number_front, number_middle, number_between, part_between, tail_between}
use Rattle.file_laws.proofs.lemmas.written_image.Sizes.{headers_size, cli_size, aligned4}
use Rattle.file_laws.proofs.lemmas.written_image.Headers.{Bounds, text_of, reloc_of, sections_are, directory_place_is, cli_directory_is}

-- ---- RVAs

covered : (s : Section) (rva : ℕ) → s.rva ≤ rva → rva < s.rva + s.size → covers s rva ≡ true
unfolding covers
covered s rva low high = rw (le-leb s.rva rva low, lt-ltb rva (s.rva + s.size) high) refl

first_of_two : (s t : Section) (rva : ℕ) → covers s rva ≡ true → section_of (s ∷ t ∷ []) rva ≡ Some s
unfolding section_of
first_of_two s t rva c = rw c refl

placed : (s : Section) (rva len : ℕ) → rva - s.rva + len ≤ s.raw_size → place_in rva len s ≡ Some (s.raw + (rva - s.rva))
unfolding place_in
placed s rva len h = rw (le-leb (rva - s.rva + len) s.raw_size h) refl

pub section_is : (p : Parts) → Bounds p → (rva : ℕ) → text_rva ≤ rva → rva < text_rva + text_size p → section_of (sections_of (image_bytes p)) rva ≡ Some (text_of p)
section_is p b rva low high = rw (sections_are p b) (first_of_two (text_of p) (reloc_of p) rva (covered (text_of p) rva low high))

pub mapped_is : (p : Parts) → Bounds p → (rva len : ℕ) → text_rva ≤ rva → rva < text_rva + text_size p → rva - text_rva + len ≤ text_raw p → mapped (image_bytes p) rva len ≡ Some (0x200 + (rva - text_rva))
unfolding mapped
mapped_is p b rva len low high room = rw (section_is p b rva low high) (placed (text_of p) rva len room)

-- ---- the parts of the section

-- the bytes before the CLI header, and those after the metadata
abbrev pub before_cli : Parts → List ℕ
before_cli p = headers_bytes p ++ (word (hint_rva p) ++ word 0)

abbrev pub behind_metadata : Parts → List ℕ
behind_metadata p = import_bytes p ++ (zeros (jump_rva p - names_end p) ++ (jump_bytes ++ (zeros (aligned 0x200 (length (text_section p)) - length (text_section p)) ++ padded 0x200 (reloc_section p))))

parts : (h a b c d e f g i j k : List ℕ) → h ++ (a ++ b ++ c ++ d ++ e ++ f ++ g ++ i ++ j) ++ k ≡ ((h ++ (a ++ b)) ++ c) ++ (d ++ (e ++ (f ++ (g ++ (i ++ (j ++ k))))))
parts h a b c d e f g i j k = simp append_assoc

text_parts : (p : Parts) → text_section p ≡ word (hint_rva p) ++ word 0 ++ cli_header p ++ p.code ++ p.metadata ++ import_bytes p ++ zeros (jump_rva p - names_end p) ++ jump_bytes
unfolding text_section
text_parts p = refl

joined : (p : Parts) → image_bytes p ≡ headers_bytes p ++ (text_section p ++ zeros (aligned 0x200 (length (text_section p)) - length (text_section p))) ++ padded 0x200 (reloc_section p)
unfolding image_bytes
joined p = refl

pub image_parts : (p : Parts) → image_bytes p ≡ (before_cli p ++ cli_header p) ++ (p.code ++ (p.metadata ++ behind_metadata p))
image_parts p =
    let end : List ℕ = zeros (aligned 0x200 (length (text_section p)) - length (text_section p)) in
    joined p
    ∙ ap (λ (t : List ℕ). headers_bytes p ++ (t ++ end) ++ padded 0x200 (reloc_section p)) (text_parts p)
    ∙ parts (headers_bytes p) (word (hint_rva p)) (word 0) (cli_header p) p.code p.metadata (import_bytes p) (zeros (jump_rva p - names_end p)) jump_bytes end (padded 0x200 (reloc_section p))

before_cli_size : (p : Parts) → length (before_cli p) ≡ 0x208
before_cli_size p = omega (arith, headers_size p, length-append (headers_bytes p) (word (hint_rva p) ++ word 0))

pub before_code_size : (p : Parts) → length (before_cli p ++ cli_header p) ≡ 0x250
before_code_size p = omega (arith, before_cli_size p, cli_size p, length-append (before_cli p) (cli_header p))

-- ---- the CLI header

pub in_cli : (p : Parts) (n k : ℕ) → k + n ≤ 72 → number n (image_bytes p) (0x208 + k) ≡ number n (cli_header p) k
in_cli p n k h =
    let before = before_cli_size p in
    let size = cli_size p in
    ap (λ (bs : List ℕ). number n bs (0x208 + k)) (image_parts p)
    ∙ number_middle n (before_cli p) (cli_header p) (p.code ++ (p.metadata ++ behind_metadata p)) (0x208 + k) k (omega arith) (omega arith)

pub header_length_is : (p : Parts) → number 4 (image_bytes p) 0x208 ≡ 72
unfolding number number_at cli_header
header_length_is p = in_cli p 4 0 (omega arith) ∙ refl

pub no_resources : (p : Parts) → number 4 (image_bytes p) (0x208 + 24) ≡ 0
unfolding number number_at cli_header
no_resources p = in_cli p 4 24 (omega arith) ∙ refl

pub no_fixups : (p : Parts) → number 8 (image_bytes p) (0x208 + 48) ≡ 0
unfolding number number_at cli_header
no_fixups p = in_cli p 8 48 (omega arith) ∙ refl

pub no_native_header : (p : Parts) → number 8 (image_bytes p) (0x208 + 64) ≡ 0
unfolding number number_at cli_header
no_native_header p = in_cli p 8 64 (omega arith) ∙ refl

abbrev cli_first : List ℕ
cli_first = word 72 ++ half 2 ++ half 5

cli_parts : (p : Parts) → cli_header p ≡ cli_first ++ word (metadata_rva p) ++ word (length p.metadata) ++ word p.bits ++ word p.entry ++ zeros 48
unfolding cli_header
cli_parts p = refl

-- the four numbers of the CLI header that an image chooses
cli_numbers : (first last : List ℕ) (rva size bits entry : ℕ) → length first ≡ 8 → rva < 2 ^ 32 → size < 2 ^ 32 → bits < 2 ^ 32 → entry < 2 ^ 32
    → (number 4 (first ++ word rva ++ word size ++ word bits ++ word entry ++ last) 8 ≡ rva) × (number 4 (first ++ word rva ++ word size ++ word bits ++ word entry ++ last) 12 ≡ size)
    × (number 4 (first ++ word rva ++ word size ++ word bits ++ word entry ++ last) 16 ≡ bits) × (number 4 (first ++ word rva ++ word size ++ word bits ++ word entry ++ last) 20 ≡ entry)
cli_numbers first last rva size bits entry e h1 h2 h3 h4 =
    let one = length-append first (word rva) in
    let two = length-append (first ++ word rva) (word size) in
    let three = length-append (first ++ word rva ++ word size) (word bits) in
    let four = length-append (first ++ word rva ++ word size ++ word bits) (word entry) in (
      number_front 4 (first ++ word rva ++ word size ++ word bits ++ word entry) last 8 (omega arith)
          ∙ number_front 4 (first ++ word rva ++ word size ++ word bits) (word entry) 8 (omega arith)
          ∙ number_front 4 (first ++ word rva ++ word size) (word bits) 8 (omega arith)
          ∙ number_between 4 rva first (word size) 8 (omega arith) h1,
      number_front 4 (first ++ word rva ++ word size ++ word bits ++ word entry) last 12 (omega arith)
          ∙ number_front 4 (first ++ word rva ++ word size ++ word bits) (word entry) 12 (omega arith)
          ∙ number_between 4 size (first ++ word rva) (word bits) 12 (omega arith) h2,
      number_front 4 (first ++ word rva ++ word size ++ word bits ++ word entry) last 16 (omega arith)
          ∙ number_between 4 bits (first ++ word rva ++ word size) (word entry) 16 (omega arith) h3,
      number_between 4 entry (first ++ word rva ++ word size ++ word bits) last 20 (omega arith) h4,
    )

-- what is read of it
pub record Read (p : Parts) : Type 0 where
  pub rva : number 4 (image_bytes p) (0x208 + 8) ≡ metadata_rva p
  pub size : number 4 (image_bytes p) (0x208 + 12) ≡ length p.metadata
  pub bits : number 4 (image_bytes p) (0x208 + 16) ≡ p.bits
  pub entry : number 4 (image_bytes p) (0x208 + 20) ≡ p.entry

-- the code and the metadata lie in the section
pub text_holds : (p : Parts) → metadata_rva p + length p.metadata < text_rva + text_size p
text_holds p = let up = aligned4 (names_end p + 2) in omega arith

pub cli_read : (p : Parts) → Bounds p → p.bits < 2 ^ 32 → p.entry < 2 ^ 32 → Read p
cli_read p b bits entry =
    let room = text_holds p in
    let rva_small : metadata_rva p < 2 ^ 32 = omega (arith, b.text, b.raw) in
    let size_small : length p.metadata < 2 ^ 32 = omega (arith, b.text, b.raw) in
    let read = cli_numbers cli_first (zeros 48) (metadata_rva p) (length p.metadata) p.bits p.entry refl rva_small size_small bits entry in
    record {
      rva = in_cli p 4 8 (omega arith) ∙ ap (λ (bs : List ℕ). number 4 bs 8) (cli_parts p) ∙ read.0;
      size = in_cli p 4 12 (omega arith) ∙ ap (λ (bs : List ℕ). number 4 bs 12) (cli_parts p) ∙ read.1;
      bits = in_cli p 4 16 (omega arith) ∙ ap (λ (bs : List ℕ). number 4 bs 16) (cli_parts p) ∙ read.2;
      entry = in_cli p 4 20 (omega arith) ∙ ap (λ (bs : List ℕ). number 4 bs 20) (cli_parts p) ∙ read.3;
    }

-- ---- the same by the names that a reader gives them

pub cli_mapped : (p : Parts) → Bounds p → mapped (image_bytes p) (number 4 (image_bytes p) (directory_place (image_bytes p))) 72 ≡ Some 0x208
cli_mapped p b =
    let room = text_holds p in
    let within : 0x2008 - text_rva + 72 ≤ text_raw p = omega (arith, b.text) in
    rw (directory_place_is p, cli_directory_is p) (mapped_is p b 0x2008 72 (omega arith) (omega arith) within)

pub cli_place_is : (p : Parts) → Bounds p → cli_place (image_bytes p) ≡ 0x208
unfolding cli_place
cli_place_is p b = rw (cli_mapped p b) refl

pub flags_read : (p : Parts) → Bounds p → Read p → cli_flags_of (image_bytes p) ≡ p.bits
unfolding cli_flags_of
flags_read p b r = rw (cli_place_is p b) r.bits

pub entry_read : (p : Parts) → Bounds p → Read p → entry_token_of (image_bytes p) ≡ p.entry
unfolding entry_token_of
entry_read p b r = rw (cli_place_is p b) r.entry

pub resources_read : (p : Parts) → Bounds p → resources_of (image_bytes p) ≡ None
unfolding resources_of
resources_read p b = rw (cli_place_is p b, no_resources p) refl

-- ---- metadata

pub metadata_size_is : (p : Parts) → Bounds p → Read p → metadata_size (image_bytes p) ≡ length p.metadata
unfolding metadata_size
metadata_size_is p b r = rw (cli_place_is p b) r.size

metadata_rva_is : (p : Parts) → Bounds p → Read p → number 4 (image_bytes p) (cli_place (image_bytes p) + 8) ≡ metadata_rva p
metadata_rva_is p b r = rw (cli_place_is p b) r.rva

pub metadata_mapped : (p : Parts) → Bounds p → Read p → metadata_place_in (image_bytes p) ≡ Some (0x200 + (metadata_rva p - text_rva))
unfolding metadata_place_in
metadata_mapped p b r =
    let room = text_holds p in
    let within : metadata_rva p - text_rva + length p.metadata ≤ text_raw p = omega (arith, b.text) in
    rw (metadata_rva_is p b r, metadata_size_is p b r) (mapped_is p b (metadata_rva p) (length p.metadata) (omega arith) (omega arith) within)

pub metadata_place_is : (p : Parts) → Bounds p → Read p → metadata_place_of (image_bytes p) ≡ 0x200 + (metadata_rva p - text_rva)
unfolding metadata_place_of
metadata_place_is p b r = rw (metadata_mapped p b r) refl

metadata_between : (a b c d : List ℕ) → a ++ (b ++ (c ++ d)) ≡ ((a ++ b) ++ c) ++ d
metadata_between a b c d = simp append_assoc

metadata_there : (p : Parts) (at : ℕ) → at ≡ 0x200 + (metadata_rva p - text_rva) → take (length p.metadata) (drop at (image_bytes p)) ≡ p.metadata
metadata_there p at e =
    let start = before_code_size p in
    let place : at ≡ length ((before_cli p ++ cli_header p) ++ p.code) = omega (arith, length-append (before_cli p ++ cli_header p) p.code) in
    ap (λ (bs : List ℕ). take (length p.metadata) (drop at bs)) (image_parts p ∙ metadata_between (before_cli p ++ cli_header p) p.code p.metadata (behind_metadata p))
    ∙ part_between ((before_cli p ++ cli_header p) ++ p.code) p.metadata (behind_metadata p) at place

pub metadata_read : (p : Parts) → Bounds p → Read p → metadata_of (image_bytes p) ≡ p.metadata
unfolding metadata_of
metadata_read p b r = rw (metadata_size_is p b r, metadata_place_is p b r) (metadata_there p (0x200 + (metadata_rva p - text_rva)) refl)

-- ---- code

-- some bytes of the code between others
code_between : (a b c d e : List ℕ) → a ++ ((b ++ c ++ d) ++ e) ≡ ((a ++ b) ++ c) ++ (d ++ e)
code_between a b c d e = simp append_assoc

code_parts : (p : Parts) (before here after : List ℕ) → p.code ≡ before ++ here ++ after
    → image_bytes p ≡ (((before_cli p ++ cli_header p) ++ before) ++ here) ++ (after ++ (p.metadata ++ behind_metadata p))
code_parts p before here after split =
    image_parts p
    ∙ ap (λ (code : List ℕ). (before_cli p ++ cli_header p) ++ (code ++ (p.metadata ++ behind_metadata p))) split
    ∙ code_between (before_cli p ++ cli_header p) before here after (p.metadata ++ behind_metadata p)

before_here : (p : Parts) (before : List ℕ) → length ((before_cli p ++ cli_header p) ++ before) ≡ 0x250 + length before
before_here p before = omega (arith, before_code_size p, length-append (before_cli p ++ cli_header p) before)

bytes_there : (p : Parts) (before here after : List ℕ) → p.code ≡ before ++ here ++ after → (at : ℕ) → at ≡ 0x250 + length before → take (length here) (drop at (image_bytes p)) ≡ here
bytes_there p before here after split at e =
    ap (λ (bs : List ℕ). take (length here) (drop at bs)) (code_parts p before here after split)
    ∙ part_between ((before_cli p ++ cli_header p) ++ before) here (after ++ (p.metadata ++ behind_metadata p)) at (omega (arith, before_here p before))

bytes_are : (bs : List ℕ) (rva len at : ℕ) (here : List ℕ) → mapped bs rva len ≡ Some at → take len (drop at bs) ≡ here → image_at bs rva len ≡ Some here
unfolding image_at
bytes_are bs rva len at here e f = rw (e, f) refl

pub bytes_read : (p : Parts) → Bounds p → (before here after : List ℕ) → p.code ≡ before ++ here ++ after → image_at (image_bytes p) (code_rva + length before) (length here) ≡ Some here
bytes_read p b before here after split =
    let room = text_holds p in
    let sizes : length p.code ≡ length before + length here + length after = ap length split ∙ length-append (before ++ here) after ∙ ap (λ (n : ℕ). n + length after) (length-append before here) in
    let place = mapped_is p b (code_rva + length before) (length here) (omega arith) (omega arith) (omega (arith, b.text)) in
    bytes_are (image_bytes p) (code_rva + length before) (length here) (0x200 + (code_rva + length before - text_rva)) here place
    (bytes_there p before here after split (0x200 + (code_rva + length before - text_rva)) (omega arith))

tail_there : (p : Parts) (before after : List ℕ) → p.code ≡ before ++ after → (at k : ℕ) → at ≡ 0x250 + length before → length after ≤ k
    → (rest : List ℕ) × (take k (drop at (image_bytes p)) ≡ after ++ rest)
tail_there p before after split at k e room =
    let found = tail_between ((before_cli p ++ cli_header p) ++ before) after ([] ++ (p.metadata ++ behind_metadata p)) at k (omega (arith, before_here p before)) room in
    (found.0, ap (λ (bs : List ℕ). take k (drop at bs)) (code_parts p before after [] (split ∙ sym (append-nil (before ++ after)))) ∙ found.1)

tail_is : (bs : List ℕ) (rva : ℕ) (s : Section) (at : ℕ) (tail : List ℕ) → section_of (sections_of bs) rva ≡ Some s → place_in rva 0 s ≡ Some at → take (s.raw_size - (rva - s.rva)) (drop at bs) ≡ tail → image_tail bs rva ≡ Some tail
unfolding image_tail tail_in
tail_is bs rva s at tail e f g = rw (e, f, g) refl

pub code_read : (p : Parts) → Bounds p → (before after : List ℕ) → p.code ≡ before ++ after → (rest : List ℕ) × (image_tail (image_bytes p) (code_rva + length before) ≡ Some (after ++ rest))
code_read p b before after split =
    let room = text_holds p in
    let sizes : length p.code ≡ length before + length after = ap length split ∙ length-append before after in
    let in_section = section_is p b (code_rva + length before) (omega arith) (omega arith) in
    let in_raw = placed (text_of p) (code_rva + length before) 0 (omega (arith, b.text)) in
    let found = tail_there p before after split (0x200 + (code_rva + length before - text_rva)) (text_raw p - (code_rva + length before - text_rva)) (omega arith) (omega (arith, b.text)) in
    (found.0, tail_is (image_bytes p) (code_rva + length before) (text_of p) (0x200 + (code_rva + length before - text_rva)) (after ++ found.0) in_section in_raw found.1)
