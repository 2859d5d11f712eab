-- What the files of a run or of a trim are: the world that they make, or the first limit or demand that they don't meet.
use Rattle.std.specs.Prelude.{◌≡◌, ℕ, suc, ◌+◌, ◌≤◌, ◌++◌, nat_le, List, [], ◌∷◌, length, map, Option, Some, None, Result, Ok, Err, slice_get, unwrap_or, Bool, true, false}
use Rattle.std.specs.Option.{is_some}
use Rattle.il_base.specs.declared.ids.BadAt.{BadAt}
use Rattle.il_base.specs.declared.limit.TheConstants as limit
use Rattle.il_base.specs.declared.table.TheConstants.{METHOD_DEF}
use Rattle.il_base.specs.declared.cli_format.error.TablesError.{TablesError}
use Rattle.il_base.specs.declared.cli_format.error.TablesError.TheVariants as unread
use Rattle.il_base.specs.cli_format.Demand.{first_fault}
use Rattle.il_base.specs.declared.world_model.record.AsmRec.{AsmRec}
use Rattle.il_base.specs.declared.world_model.world.World.{World}
use Rattle.il_base.specs.world_model.Tokens.{index_in}
use Rattle.il_base.specs.world_model.Worlds.{row_below}
use Rattle.rules.specs.record_format.Record.{record_demands, record_at, place_of_row}
use Rattle.rules.specs.declared.link_rules.link_error.LinkError.{LinkError}
use Rattle.rules.specs.declared.link_rules.link_error.LinkError.TheVariants as unlinked
use Rattle.rules.specs.link_rules.Linked.{link_fault_of, world_of}
use Rattle.inputs.specs.declared.error.InputError.{InputError}
use Rattle.inputs.specs.declared.error.InputError.TheVariants.{Limit, BadFile, NoEntry, NoMemory}

-- the first that is there
abbrev pub or_fault : Option InputError → Option InputError → Option InputError
or_fault (Some e) later = Some e
or_fault None later = later

abbrev pub unless : Bool → InputError → Option InputError
unless true e = None
unless false e = Some e

-- ---- limits

abbrev pub count_fault : List (List ℕ) → Option InputError
count_fault files = unless (nat_le (length files) 64) (Limit limit.FILES (length files))

-- of the first file that is too long
unfoldable pub length_fault : List (List ℕ) → Option InputError
length_fault [] = None
length_fault (f ∷ fs) = or_fault (unless (nat_le (length f) 67108864) (Limit limit.FILE_LENGTH (length f))) (length_fault fs)

-- the sum of the lengths
unfoldable pub bytes_of : List (List ℕ) → ℕ
bytes_of [] = 0
bytes_of (f ∷ fs) = length f + bytes_of fs

abbrev pub sum_fault : List (List ℕ) → Option InputError
sum_fault files = unless (nat_le (bytes_of files) 536870912) (Limit limit.TOTAL_LENGTH (bytes_of files))

abbrev pub limit_fault : List (List ℕ) → Option InputError
limit_fault files = or_fault (count_fault files) (or_fault (length_fault files) (sum_fault files))

-- ---- records

abbrev pub unread_as : ℕ → Option TablesError → Option InputError
unread_as i None = None
unread_as i (Some (unread.Bad at)) = Some (BadFile i at)
unread_as i (Some (unread.Rows n)) = Some (Limit limit.ROWS n)
unread_as i (Some unread.NoMemory) = Some NoMemory

-- the first demand that a file doesn't meet, file by file, of which the first has the number i
unfoldable pub record_fault : ℕ → List (List ℕ) → Option InputError
record_fault i [] = None
record_fault i (f ∷ fs) = or_fault (unread_as i (first_fault (record_demands f))) (record_fault (suc i) fs)

abbrev pub records : List (List ℕ) → List AsmRec
records files = map record_at files

-- ---- linking

abbrev pub offset_in : ℕ → Option (List ℕ) → ℕ
offset_in token None = 0
offset_in token (Some f) = unwrap_or (place_of_row f token) 0

-- the offset of a row in the file of a number, 0 where no row is named
abbrev pub row_offset : List (List ℕ) → ℕ → ℕ → ℕ
row_offset files i token = offset_in token (slice_get files i)

abbrev pub unlinked_as : List (List ℕ) → Option LinkError → Option InputError
unlinked_as files None = None
unlinked_as files (Some (unlinked.Bad i why token)) = Some (BadFile i (record { offset = row_offset files i token; why = why }))
unlinked_as files (Some unlinked.NoMemory) = Some NoMemory

abbrev pub linking_fault : List (List ℕ) → Option InputError
linking_fault files = unlinked_as files (link_fault_of (records files))

-- ---- the entry point (II.25.3.3.2)

abbrev pub names_method : AsmRec → ℕ → Bool
names_method rec token = is_some (row_below (length rec.method_def) (index_in METHOD_DEF token))

-- of the first record
abbrev pub entry_fault : List AsmRec → Option InputError
entry_fault [] = None
entry_fault (rec ∷ recs) = unless (names_method rec rec.entry) (NoEntry rec.entry)

-- ---- all of them, in their order

abbrev pub input_fault : List (List ℕ) → Option InputError
input_fault files =
    or_fault (limit_fault files) (or_fault (record_fault 0 files) (or_fault (linking_fault files) (entry_fault (records files))))

-- what files are taken as: the world of their records, or the first that they don't meet; want of memory is free
abbrev pub Takes : List (List ℕ) → Result World InputError → Type 0
Takes files (Ok w) = (input_fault files ≡ None) × (w ≡ world_of (records files))
Takes files (Err NoMemory) = Unit {0}
Takes files (Err e) = input_fault files ≡ Some e

-- ---- parts of it, as the code looks at them

-- a look that passes, or the fault that it finds; want of memory is free
abbrev pub Passes : Option InputError → Result Unit InputError → Type 0
Passes fault (Ok tt) = fault ≡ None
Passes fault (Err NoMemory) = Unit {0}
Passes fault (Err e) = fault ≡ Some e

-- no file is too long
unfoldable pub AreShort : List (List ℕ) → Type 0
AreShort [] = Unit {0}
AreShort (f ∷ fs) = (length f ≤ 67108864) × AreShort fs

abbrev pub Grows : Option InputError → List AsmRec → List AsmRec → List AsmRec → Result Unit InputError → Type 0
Grows fault more old new (Ok tt) = (fault ≡ None) × (new ≡ old ++ more)
Grows fault more old new (Err NoMemory) = Unit {0}
Grows fault more old new (Err e) = fault ≡ Some e

abbrev pub ReadsOne : ℕ → List ℕ → List AsmRec → List AsmRec → Result Unit InputError → Type 0
ReadsOne i f old new r = Grows (unread_as i (first_fault (record_demands f))) (record_at f ∷ []) old new r

abbrev pub Reads : ℕ → List (List ℕ) → List AsmRec → List AsmRec → Result Unit InputError → Type 0
Reads i files old new r = Grows (record_fault i files) (records files) old new r

abbrev pub ReadsAll : List (List ℕ) → Result (List AsmRec) InputError → Type 0
ReadsAll files (Ok recs) = (record_fault 0 files ≡ None) × (recs ≡ records files)
ReadsAll files (Err NoMemory) = Unit {0}
ReadsAll files (Err e) = record_fault 0 files ≡ Some e

-- what a link of their records answers
abbrev pub LinksFiles : List (List ℕ) → Result World InputError → Type 0
LinksFiles files (Ok w) = (linking_fault files ≡ None) × (w ≡ world_of (records files))
LinksFiles files (Err NoMemory) = Unit {0}
LinksFiles files (Err e) = linking_fault files ≡ Some e
