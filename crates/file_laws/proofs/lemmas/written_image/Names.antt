-- The header of a stream reads back as its offset, its size and its name (II.24.2.2).
use Rattle.std.proofs.Common.{◌≡◌, ℕ, ◌+◌, ◌-◌, ◌%◌, ◌^◌, ◌<◌, ◌≤◌, Bool, true, List, [], ◌++◌, length, take, drop, refl, sym, ap, ◌∙◌, append_assoc, arith, length-append}
use Rattle.std.specs.Prelude.{codes, ◌==◌}
use Rattle.std.specs.List.{position_or_len}
use Rattle.std.proofs.lemmas.Bool.{le-leb, lt-ltb}
use Rattle.std.proofs.lemmas.List.{drop-drop}
use Rattle.std.proofs.Math.Seq.{drop-append_seam}
use Rattle.il_base.specs.declared.cli_format.stream.StreamName.{StreamName}
use Rattle.il_base.specs.declared.cli_format.stream.StreamName.TheVariants.{Tables, Strings, UserStrings, Guids, Blobs}
use Rattle.il_base.specs.cli_format.Demand.{number}
use Rattle.il_base.specs.cli_format.Streams.{named, name_length, padding_length, header_size, stream_at, zeros as all_zeros}
use Rattle.il_base.specs.cli_format.Metadata.{header_fits}
use Rattle.rules.specs.file_layout.Bytes.{word, zeros}
use Rattle.file_laws.proofs.lemmas.written_image.Numbers.{number_middle, number_between, number_front}

abbrev is_zero : ℕ → Bool
is_zero b = b == 0

-- a name with its zeros, as it is read where other bytes stand after it
pub record Named (name : List ℕ) (count padding : ℕ) (stream : StreamName) : Type 0 where
  pub size : length name ≡ count + padding
  pub short : count ≤ 32
  pub pads : 4 - count % 4 ≡ padding
  pub first : (post : List ℕ) → position_or_len is_zero (take 33 (name ++ post)) ≡ count
  pub room : (post : List ℕ) → count < length (take 33 (name ++ post))
  pub names : (post : List ℕ) → named (take count (name ++ post)) ≡ stream
  pub filled : (post : List ℕ) → all_zeros (take padding (drop count (name ++ post))) ≡ true

pub tables_name : Named (codes "#~" ++ zeros 2) 2 2 Tables
unfolding all_zeros
tables_name = record { size = refl; short = omega arith; pads = refl; first = λ post. refl; room = λ post. omega arith; names = λ post. refl; filled = λ post. refl }

pub strings_name : Named (codes "#Strings" ++ zeros 4) 8 4 Strings
unfolding all_zeros
strings_name = record { size = refl; short = omega arith; pads = refl; first = λ post. refl; room = λ post. omega arith; names = λ post. refl; filled = λ post. refl }

pub users_name : Named (codes "#US" ++ zeros 1) 3 1 UserStrings
unfolding all_zeros
users_name = record { size = refl; short = omega arith; pads = refl; first = λ post. refl; room = λ post. omega arith; names = λ post. refl; filled = λ post. refl }

pub guids_name : Named (codes "#GUID" ++ zeros 3) 5 3 Guids
unfolding all_zeros
guids_name = record { size = refl; short = omega arith; pads = refl; first = λ post. refl; room = λ post. omega arith; names = λ post. refl; filled = λ post. refl }

pub blobs_name : Named (codes "#Blob" ++ zeros 3) 5 3 Blobs
unfolding all_zeros
blobs_name = record { size = refl; short = omega arith; pads = refl; first = λ post. refl; room = λ post. omega arith; names = λ post. refl; filled = λ post. refl }

-- ---- a header between other bytes

-- what is read of the header at a place
pub record Header (bs : List ℕ) (h at size length_read : ℕ) (stream : StreamName) : Type 0 where
  pub whole : header_size bs h ≡ length_read
  pub fields : stream_at bs h ≡ record { name = stream; offset = at; size = size }
  pub fits : header_fits bs h ≡ true

name_place : (pre a b name post : List ℕ) (at : ℕ) → at ≡ length pre + length a + length b → drop at ((pre ++ (a ++ b ++ name)) ++ post) ≡ name ++ post
name_place pre a b name post at e =
    let place : at ≡ length ((pre ++ a) ++ b) = omega (arith, length-append (pre ++ a) b, length-append pre a) in
    ap (λ (bs : List ℕ). drop at bs) (regrouped pre a b name post) ∙ rw place (drop-append_seam ((pre ++ a) ++ b) (name ++ post))
  where
    regrouped : (pre a b name post : List ℕ) → (pre ++ (a ++ b ++ name)) ++ post ≡ ((pre ++ a) ++ b) ++ (name ++ post)
    regrouped pre a b name post = simp append_assoc

-- the length of a name
name_length_is : (bs : List ℕ) (h count padding : ℕ) (name post : List ℕ) (stream : StreamName) → Named name count padding stream → drop (h + 8) bs ≡ name ++ post → name_length bs h ≡ count
unfolding name_length
name_length_is bs h count padding name post stream n e = rw (e, n.first post, lt-ltb count (length (take 33 (name ++ post))) (n.room post)) refl

padding_length_is : (bs : List ℕ) (h count padding : ℕ) → 4 - count % 4 ≡ padding → name_length bs h ≡ count → padding_length bs h ≡ padding
unfolding padding_length
padding_length_is bs h count padding p e = rw e p

header_size_is : (bs : List ℕ) (h count padding : ℕ) → name_length bs h ≡ count → padding_length bs h ≡ padding → header_size bs h ≡ 8 + count + padding
unfolding header_size
header_size_is bs h count padding e p = rw (e, p) refl

fields_are : (bs : List ℕ) (h count at size : ℕ) (name post : List ℕ) (stream : StreamName) → name_length bs h ≡ count → drop (h + 8) bs ≡ name ++ post → named (take count (name ++ post)) ≡ stream
    → number 4 bs h ≡ at → number 4 bs (h + 4) ≡ size → stream_at bs h ≡ record { name = stream; offset = at; size = size }
unfolding stream_at
fields_are bs h count at size name post stream e d n a s = rw (e, d, n, a, s) refl

drop_on : (bs xs : List ℕ) (a b : ℕ) → drop a bs ≡ xs → drop (a + b) bs ≡ drop b xs
drop_on bs xs a b e = sym (drop-drop b a bs) ∙ ap (drop b) e

header_fits_is : (bs : List ℕ) (h count padding : ℕ) (name post : List ℕ) (stream : StreamName) → Named name count padding stream → name_length bs h ≡ count → padding_length bs h ≡ padding → header_size bs h ≡ 8 + count + padding
    → drop (h + 8) bs ≡ name ++ post → h + (8 + count + padding) ≤ length bs → header_fits bs h ≡ true
unfolding header_fits
header_fits_is bs h count padding name post stream n e p w d room =
    let behind : drop (h + 8 + count) bs ≡ drop count (name ++ post) = drop_on bs (name ++ post) (h + 8) count d in
    rw (w, e, p, behind, le-leb (h + (8 + count + padding)) (length bs) room, le-leb count 32 n.short, n.filled post) refl

pub read_header : (bs pre name post : List ℕ) (h at size count padding : ℕ) (stream : StreamName) → Named name count padding stream
    → bs ≡ (pre ++ (word at ++ word size ++ name)) ++ post → h ≡ length pre → at < 2 ^ 32 → size < 2 ^ 32 → Header bs h at size (8 + count + padding) stream
read_header bs pre name post h at size count padding stream n shape place at_small size_small =
    let header : List ℕ = word at ++ word size ++ name in
    let first : length (word at ++ word size) ≡ 8 = refl in
    let long : length header ≡ 8 + count + padding = omega (arith, length-append (word at ++ word size) name, n.size) in
    let room : h + (8 + count + padding) ≤ length bs = omega (arith, ap length shape, length-append (pre ++ header) post, length-append pre header) in
    let at_read : number 4 bs h ≡ at =
    ap (λ (xs : List ℕ). number 4 xs h) shape
    ∙ number_middle 4 pre header post h 0 (omega arith) (omega arith)
    ∙ number_front 4 (word at ++ word size) name 0 (omega arith)
    ∙ number_between 4 at [] (word size) 0 refl at_small in
    let size_read : number 4 bs (h + 4) ≡ size =
    ap (λ (xs : List ℕ). number 4 xs (h + 4)) shape
    ∙ number_middle 4 pre header post (h + 4) 4 (omega arith) (omega arith)
    ∙ number_between 4 size (word at) name 4 refl size_small in
    let rest : drop (h + 8) bs ≡ name ++ post = ap (λ (xs : List ℕ). drop (h + 8) xs) shape ∙ name_place pre (word at) (word size) name post (h + 8) (omega arith) in
    let count_is = name_length_is bs h count padding name post stream n rest in
    let padding_is = padding_length_is bs h count padding n.pads count_is in
    let whole_is = header_size_is bs h count padding count_is padding_is in
    record {
      whole = whole_is;
      fields = fields_are bs h count at size name post stream count_is rest (n.names post) at_read size_read;
      fits = header_fits_is bs h count padding name post stream n count_is padding_is whole_is rest room;
    }
