-- The status lines and the codes that the program ends with.
use Rattle.std.specs.Prelude.{ℕ, ◌+◌, ◌/◌, ◌%◌, List, [], ◌∷◌, ◌++◌, codes, nat_lt, ◌==◌, if◌then◌else◌}
use Rattle.std.specs.Fmt.{decimal, signed_decimal}
use Rattle.il_base.specs.declared.ids.BadAt.{BadAt}
use Rattle.il_base.specs.declared.ids.Place.{Place}
use Rattle.status_lines.specs.declared.status.Status.{Status}
use Rattle.status_lines.specs.declared.status.Status.TheVariants.{Done, Ended, BadWords, BadFile, Outside, Unresolved, NotYet, Collision, BadDescriptor, Limit, NoEntry, ReadFault, WriteFault, NoMemory, Threw, Spent, Stopped, Stuck}

-- a lower-case hexadecimal digit
abbrev pub hex_digit : ℕ → ℕ
hex_digit n = if nat_lt n 10 then 48 + n else 87 + n

-- 8 lower-case hexadecimal digits
unfoldable pub hex8 : ℕ → List ℕ
hex8 n =
    hex_digit (n / 268435456 % 16) ∷ hex_digit (n / 16777216 % 16) ∷ hex_digit (n / 1048576 % 16) ∷ hex_digit (n / 65536 % 16)
    ∷ hex_digit (n / 4096 % 16) ∷ hex_digit (n / 256 % 16) ∷ hex_digit (n / 16 % 16) ∷ hex_digit (n % 16) ∷ []

-- ASM:TOKEN:OFFSET, with the assembly's name
unfoldable pub place_text : List ℕ → Place → List ℕ
place_text asm p = (((asm ++ codes ":") ++ hex8 p.token) ++ codes ":") ++ hex8 p.offset

abbrev pub ended : List ℕ → List ℕ
ended text = text ++ 10 ∷ []

-- the name of what is outside the profile (`il_base::outside`)
unfoldable pub what_text : ℕ → List ℕ
what_text what =
    if what == 1 then codes "Float"
    else if what == 2 then codes "Instruction"
    else if what == 3 then codes "Platform"
    else if what == 4 then codes "Filter"
    else if what == 5 then codes "Signature"
    else if what == 6 then codes "Layout"
    else if what == 7 then codes "InterfaceBody"
    else if what == 8 then codes "GlobalMember"
    else if what == 9 then codes "ModuleInitializer"
    else if what == 10 then codes "IdentityReader"
    else if what == 11 then codes "Body"
    else if what == 12 then codes "Stack"
    else if what == 13 then codes "Attribute"
    else if what == 14 then codes "Variance"
    else codes "FieldData"

-- the name of what fails in a file
unfoldable pub why_text : ℕ → List ℕ
why_text why =
    if why == 1 then codes "NotPe"
    else if why == 2 then codes "NoCli"
    else if why == 3 then codes "NotIlOnly"
    else if why == 4 then codes "Native"
    else if why == 5 then codes "Truncated"
    else if why == 6 then codes "BadRva"
    else if why == 7 then codes "BadRoot"
    else if why == 8 then codes "BadStream"
    else if why == 9 then codes "BadHeap"
    else if why == 10 then codes "UnknownTable"
    else if why == 11 then codes "RowOutOfRange"
    else if why == 12 then codes "ListOrder"
    else if why == 13 then codes "SortOrder"
    else if why == 14 then codes "DuplicateAssembly"
    else if why == 15 then codes "CyclicTypes"
    else if why == 16 then codes "CyclicNesting"
    else codes "DuplicateMember"

-- ASM:TOKEN:OFFSET WHAT
abbrev pub outside_text : List ℕ → Place → ℕ → List ℕ
outside_text asm place what = (place_text asm place ++ codes " ") ++ what_text what

-- NAME OFFSET WHY
abbrev pub bad_text : List ℕ → BadAt → List ℕ
bad_text word at = (((word ++ codes " ") ++ decimal at.offset) ++ codes " ") ++ why_text at.why

-- NAME OFFSET
abbrev pub descriptor_text : List ℕ → ℕ → List ℕ
descriptor_text word offset = (word ++ codes " ") ++ decimal offset

-- WHICH FOUND
abbrev pub limit_text : ℕ → ℕ → List ℕ
limit_text which found = (decimal which ++ codes " ") ++ decimal found

-- KIND: MESSAGE
abbrev pub threw_text : List ℕ → List ℕ → List ℕ
threw_text kind message = (kind ++ codes ": ") ++ message

-- the line of a status, with the name of the assembly that a place is in and the word of the file, or for a collision the text of
-- its two types
abbrev pub line_of : List ℕ → List ℕ → Status → List ℕ
line_of asm word Done = codes "done\n"
line_of asm word (BadFile file at) = ended (codes "bad file " ++ bad_text word at)
line_of asm word (Outside place what) = ended (codes "outside " ++ outside_text asm place what)
line_of asm word (Unresolved place) = ended (codes "unresolved " ++ place_text asm place)
line_of asm word (NotYet file) = ended (codes "not yet " ++ word)
line_of asm word (Collision first second) = ended (codes "collision " ++ word)
line_of asm word (BadDescriptor source offset) = ended (codes "bad descriptor " ++ descriptor_text word offset)
line_of asm word (Limit which found) = ended (codes "limit " ++ limit_text which found)
line_of asm word (Ended code) = ended (codes "ended " ++ signed_decimal code)
line_of asm word (BadWords place) = ended (codes "bad words " ++ decimal place)
line_of asm word (NoEntry token) = ended (codes "no entry " ++ hex8 token)
line_of asm word ReadFault = codes "read fault\n"
line_of asm word WriteFault = codes "write fault\n"
line_of asm word NoMemory = codes "no memory\n"
line_of asm word (Threw kind message) = ended (codes "threw " ++ threw_text kind message)
line_of asm word (Spent steps) = ended (codes "spent " ++ decimal steps)
line_of asm word (Stopped place) = ended (codes "stopped " ++ place_text asm place)
line_of asm word (Stuck place) = ended (codes "stuck " ++ place_text asm place)

abbrev pub code_of : Status → ℕ
code_of Done = 0
code_of (Ended code) = 0
code_of (BadFile file at) = 3
code_of (Outside place what) = 4
code_of (Unresolved place) = 5
code_of (Collision first second) = 6
code_of (BadDescriptor source offset) = 7
code_of (Limit which found) = 8
code_of (BadWords place) = 2
code_of ReadFault = 9
code_of WriteFault = 10
code_of NoMemory = 11
code_of (NoEntry token) = 12
code_of (Threw kind message) = 20
code_of (Spent steps) = 21
code_of (Stopped place) = 22
code_of (Stuck place) = 23
code_of (NotYet file) = 30
