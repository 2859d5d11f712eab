-- The texts that `ldstr` names in bodies (III.4.16), and the embedded descriptor.
use Rattle.std.specs.Prelude.{ℕ, zero, suc, ◌+◌, ◌*◌, ◌%◌, Bool, true, false, ◌==◌, ◌&&◌, ◌||◌, List, [], ◌∷◌, ◌++◌, length, codes, bytes_eq, find, min, Option, Some, None, if◌then◌else◌}
use Rattle.std.specs.Option.{option_and_then}
use Rattle.std.specs.List.{list_any}
use Rattle.il_base.specs.Bytes.{number_at, bytes_at}
use Rattle.il_base.specs.declared.body.Body.{Body}
use Rattle.il_base.specs.declared.body.Form.{Form}
use Rattle.il_base.specs.declared.body.Form.TheVariants as form
use Rattle.il_base.specs.declared.body.Instr.{Instr}
use Rattle.il_base.specs.declared.body.Operand.{Operand}
use Rattle.il_base.specs.declared.body.Operand.TheVariants as operand
use Rattle.il_base.specs.cli_format.Heaps.{user_string_of}
use Rattle.il_base.specs.declared.world_model.known.Known.{Known}
use Rattle.il_base.specs.declared.world_model.known.Known.TheVariants.{Good, Bad}
use Rattle.il_base.specs.declared.world_model.members.MethodDefRow.{MethodDefRow}
use Rattle.il_base.specs.declared.world_model.extras.ManifestResourceRow.{ManifestResourceRow}
use Rattle.il_base.specs.declared.world_model.record.UserText.{UserText}

-- ---- texts of `ldstr`

-- the token of a text at an offset of `#US`
abbrev pub user_token : ℕ → ℕ
user_token at = 0x70000000 + at

abbrev pub is_token : ℕ → Operand → Bool
is_token token (operand.Token t) = t == token
is_token token _ = false

abbrev pub is_ldstr : Form → Bool
is_ldstr form.LdStr = true
is_ldstr _ = false

-- whether an instruction is an `ldstr` of a token
unfoldable pub loads : ℕ → Instr → Bool
loads token i = is_ldstr i.form && is_token token i.operand

abbrev pub body_loads : ℕ → Option (Known Body) → Bool
body_loads token None = false
body_loads token (Some (Good b)) = list_any (loads token) b.code
body_loads token (Some (Bad why)) = false

-- whether a body of these methods has an `ldstr` of a token
unfoldable pub is_loaded : List MethodDefRow → ℕ → Bool
is_loaded methods token = list_any (λ m. body_loads token m.body) methods

-- UTF-16 units, the lower byte first; a last byte alone isn't a unit
unfoldable pub units_of : List ℕ → List ℕ
units_of [] = []
units_of (a ∷ []) = []
units_of (a ∷ b ∷ bs) = (a + 256 * b) ∷ units_of bs

-- an item has an odd number of bytes or none; its last byte isn't looked at (II.24.2.4)
abbrev pub text_of_item : ℕ → List ℕ → Option UserText
text_of_item at item =
    if length item == 0 || length item % 2 == 1 then Some (record { token = user_token at; text = units_of item }) else None

unfoldable pub user_text_at : List ℕ → ℕ → Option UserText
user_text_at user at = option_and_then (text_of_item at) (user_string_of user at)

abbrev pub and_text : List UserText → Option UserText → List UserText
and_text texts None = texts
and_text texts (Some t) = texts ++ t ∷ []

abbrev pub text_if_loaded : List ℕ → List MethodDefRow → ℕ → Option UserText
text_if_loaded user methods at = if is_loaded methods (user_token at) then user_text_at user at else None

-- the texts below an offset that a body loads, each once
unfoldable pub texts_below : List ℕ → List MethodDefRow → ℕ → List UserText
texts_below user methods zero = []
texts_below user methods (suc n) = and_text (texts_below user methods n) (text_if_loaded user methods n)

-- the offsets of `#US` that a token can have, which have 24 bits
abbrev pub text_offsets : List ℕ → ℕ
text_offsets user = min (length user) 0x1000000

abbrev pub all_texts : List ℕ → List MethodDefRow → List UserText
all_texts user methods = texts_below user methods (text_offsets user)

-- ---- the embedded descriptor

abbrev pub is_descriptor : ManifestResourceRow → Bool
is_descriptor row = bytes_eq row.name (codes "ILLink.Descriptors.xml") && row.implementation == 0

-- so many bytes after their number of four bytes, where they lie within the resources
unfoldable pub resource_at : List ℕ → ℕ → Option (List ℕ)
resource_at resources at = option_and_then (λ n. bytes_at resources (at + 4) n) (number_at 4 resources at)

abbrev pub resource_of : List ℕ → Option ManifestResourceRow → Option (List ℕ)
resource_of resources None = None
resource_of resources (Some row) = resource_at resources row.offset

-- the first resource of that name, by the resources of the image
abbrev pub descriptor_in : List ManifestResourceRow → Option (List ℕ) → Option (List ℕ)
descriptor_in rows None = None
descriptor_in rows (Some resources) = resource_of resources (find is_descriptor rows)
