-- The parts of rows that have a meaning of their own, or none: signatures (II.23.2), method bodies (II.25.4), the bytes of
-- fields (II.22.18). `bs` are the bytes of the file.
use Rattle.std.specs.Prelude.{ℕ, ◌+◌, ◌-◌, List, [], ◌∷◌, Bool, false, nat_le, nat_lt, ◌&&◌, ◌||◌, ◌==◌, Option, Some, None, find, slice_get, Result, Ok, Err, if◌then◌else◌}
use Rattle.std.specs.Option.{option_and_then}
use Rattle.il_base.specs.declared.element.TheConstants as element
use Rattle.il_base.specs.declared.table.TheConstants.{FIELD}
use Rattle.il_base.specs.declared.sig.Sig.{Sig}
use Rattle.il_base.specs.declared.sig.Sig.TheVariants.{Prim, Named}
use Rattle.il_base.specs.declared.body.Body.{Body}
use Rattle.il_base.specs.declared.world_model.known.Known.{Known}
use Rattle.il_base.specs.declared.world_model.known.Known.TheVariants.{Good, Bad}
use Rattle.il_base.specs.declared.world_model.known.BadKind.TheVariants.{Outside}
use Rattle.il_base.specs.declared.world_model.expr.MemberSig.{MemberSig}
use Rattle.il_base.specs.declared.world_model.expr.MemberSig.TheVariants as member
use Rattle.il_base.specs.declared.world_model.types.ClassLayoutRow.{ClassLayoutRow}
use Rattle.il_base.specs.declared.world_model.members.FieldRow.{FieldRow}
use Rattle.il_base.specs.world_model.Tokens.{index_in}
use Rattle.il_base.specs.blob_grammar.Reading.{field_of_blob, method_of_blob}
use Rattle.il_base.specs.declared.body_grammar.body.Fault.{Fault}
use Rattle.il_base.specs.declared.body_grammar.body.Header.{Header}
use Rattle.il_base.specs.declared.outside.TheConstants.{BODY}
use Rattle.il_base.specs.body_grammar.Bodies.{body_at, header_at, header_size}
use Rattle.il_base.specs.cli_format.Image.{image_at, image_tail}

-- ---- signatures

-- what a signature's blob gives: a value, or what is bad there
abbrev pub known_of : {A : Type 0} → Result A (ℕ × ℕ) → Known A
known_of (Ok x) = Good x
known_of (Err fault) = Bad (Outside fault.1)

abbrev pub known_map : {A B : Type 0} → (A → B) → Known A → Known B
known_map f (Good x) = Good (f x)
known_map f (Bad why) = Bad why

-- a member reference's signature is a field's where its first byte is FIELD, else a method's (II.23.2.4, II.23.2.2)
abbrev pub begins_field : List ℕ → Bool
begins_field [] = false
begins_field (b ∷ bs) = b == 6

unfoldable pub member_of_blob : List ℕ → Known MemberSig
member_of_blob bs =
    if begins_field bs then known_map member.Field (known_of (field_of_blob bs)) else known_map member.Method (known_of (method_of_blob bs))

-- ---- method bodies

abbrev pub body_of_reading : Result (Body × ℕ) Fault → Known Body
body_of_reading (Ok x) = Good x.0
body_of_reading (Err f) = Bad (Outside f.what)

-- the body at an address; where there are no bytes there is a bad one
abbrev pub body_in : Option (List ℕ) → Known Body
body_in None = Bad (Outside BODY)
body_in (Some tail) = body_of_reading (body_at tail)

-- the body at an RVA; None where the RVA is 0
unfoldable pub body_by : List ℕ → ℕ → Option (Known Body)
body_by bs rva = if rva == 0 then None else Some (body_in (image_tail bs rva))

-- The IL offset of a fault: that of its instruction, and 0 for a fault in the header or in the handlers.
abbrev pub offset_behind : Header → ℕ → ℕ
offset_behind h at =
    if nat_le (header_size h.tiny) at && nat_lt at (header_size h.tiny + h.size) then at - header_size h.tiny else 0

abbrev pub offset_by : Result Header Fault → ℕ → ℕ
offset_by (Ok h) at = offset_behind h at
offset_by (Err f) at = 0

abbrev pub fault_offset : List ℕ → Result (Body × ℕ) Fault → ℕ
fault_offset tail (Ok x) = 0
fault_offset tail (Err f) = offset_by (header_at tail) f.at

abbrev pub offset_in : Option (List ℕ) → ℕ
offset_in None = 0
offset_in (Some tail) = fault_offset tail (body_at tail)

-- the IL offset of a bad body's fault, and 0 where there is none
unfoldable pub bad_offset : List ℕ → ℕ → ℕ
bad_offset bs rva = if rva == 0 then 0 else offset_in (image_tail bs rva)

-- ---- the bytes of fields

-- the size of a primitive in bytes (II.23.1.16); a native integer has none in a file
unfoldable pub primitive_size : ℕ → Option ℕ
primitive_size k =
    if k == element.BOOLEAN || k == element.I1 || k == element.U1 then Some 1
    else if k == element.CHAR || k == element.I2 || k == element.U2 then Some 2
    else if k == element.I4 || k == element.U4 then Some 4
    else if k == element.I8 || k == element.U8 then Some 8
    else None

abbrev pub class_size : Option ClassLayoutRow → Option ℕ
class_size None = None
class_size (Some row) = Some row.class_size

-- the ClassSize of a type by its token (II.22.8)
abbrev pub layout_size : List ClassLayoutRow → ℕ → Option ℕ
layout_size layouts token = class_size (find (λ row. row.parent == token) layouts)

abbrev pub size_of_type : List ClassLayoutRow → Sig → Option ℕ
size_of_type layouts (Prim k) = primitive_size k
size_of_type layouts (Named value token) = layout_size layouts token
size_of_type layouts _ = None

abbrev pub size_of_field : List ClassLayoutRow → FieldRow → Option ℕ
size_of_field layouts f = elim f.signature [ Good s ↦ size_of_type layouts s | Bad why ↦ None ]

-- the size of a field's bytes by the field's token
abbrev pub size_by : List ClassLayoutRow → List FieldRow → ℕ → Option ℕ
size_by layouts fields token =
    option_and_then (size_of_field layouts) (option_and_then (slice_get fields) (index_in FIELD token))

-- field bytes without a size, or that aren't there
abbrev pub field_data : ℕ
field_data = 15

abbrev pub known_bytes : Option (List ℕ) → Known (List ℕ)
known_bytes None = Bad (Outside field_data)
known_bytes (Some bytes) = Good bytes

-- the bytes of a field from an RVA, as many as its type has
unfoldable pub bytes_by : List ℕ → ℕ → Option ℕ → Known (List ℕ)
bytes_by bs rva size = known_bytes (option_and_then (image_at bs rva) size)
