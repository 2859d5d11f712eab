-- The full name of a type and the row of its encloser, by which types are told apart.
use Rattle.std.specs.Prelude.{ℕ, List, ◌++◌, ◌&&◌, Bool, true, false, Option, Some, None}
use Rattle.std.specs.List.{flat_map}
use Rattle.std.specs.Hash as fed
use Rattle.il_base.specs.world_model.Core.{same_name}
use Rattle.rules.specs.link_rules.Types.{same_place}
use Rattle.rules.specs.type_rules.Texts.{full_name_of}
use Rattle.type_names.specs.declared.full_name.FullName.{FullName}

abbrev pub name_of : FullName → List ℕ
name_of f = full_name_of f.namespace.now f.name.now

abbrev pub same_full_name : FullName → FullName → Bool
same_full_name a b = same_name (name_of a) (name_of b) && same_place a.around b.around

-- what is hashed: the encloser, and the name byte by byte
abbrev pub hashed_name : List ℕ → fed.HashWrites
hashed_name name = flat_map fed.u8 name

abbrev pub hashed : FullName → fed.HashWrites
hashed f = fed.option fed.u32 f.around ++ hashed_name (name_of f)

-- what a name that passes a test adds
abbrev pub row_if : Bool → ℕ → Option ℕ
row_if true row = Some row
row_if false row = None
