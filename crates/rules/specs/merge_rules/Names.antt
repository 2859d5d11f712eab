-- New names of types. Kept top-level types of two assemblies can't both keep one full name: the later one is renamed `<ASM>NAME`, with the
-- name of its assembly in angle brackets, and a number after that where this name is taken too. A type that is public or shown
-- can't be renamed, so the first such type is a collision with the earlier type.
use Rattle.std.specs.Prelude.{ℕ, zero, suc, ◌+◌, List, [], ◌∷◌, ◌++◌, length, codes, Option, Some, None, find, ◌==◌, ◌&&◌, ◌||◌, Bool, true, false, not, if◌then◌else◌}
use Rattle.std.specs.List.{list_any, filter}
use Rattle.std.specs.Option.{option_map, option_and_then}
use Rattle.std.specs.Fmt.{decimal}
use Rattle.il_base.specs.declared.ids.TypeId.{TypeId}
use Rattle.il_base.specs.declared.type_flags.TheConstants as flag
use Rattle.il_base.specs.Flags.{access_of}
use Rattle.il_base.specs.declared.world_model.types.TypeDefRow.{TypeDefRow}
use Rattle.il_base.specs.declared.world_model.record.AsmRec.{AsmRec}
use Rattle.il_base.specs.world_model.Core.{same_name}
use Rattle.il_base.specs.world_model.Worlds.{type_id}
use Rattle.rules.specs.declared.link_rules.row_at.RowAt.{RowAt}
use Rattle.rules.specs.link_rules.Types.{encloser}
use Rattle.rules.specs.link_rules.Cycles.{listed}
use Rattle.rules.specs.link_rules.Faults.{own_name}
use Rattle.rules.specs.type_rules.Texts.{full_name, full_name_of}
use Rattle.rules.specs.type_rules.Rows.{rec_at, type_row_at}

-- ---- top-level types

abbrev pub is_top_level : List AsmRec → RowAt → Bool
is_top_level recs at = list_any (λ (rec : AsmRec). elim (encloser rec at.row) [ None ↦ true | Some k ↦ false ]) (listed (rec_at recs at))

abbrev pub flat : {A : Type 0} → Option (List A) → List A
flat None = []
flat (Some xs) = xs

-- a type's namespace, a full stop and its name, as the inputs have them
abbrev pub old_name : List AsmRec → RowAt → List ℕ
old_name recs at = flat (option_map full_name (type_row_at recs at))

abbrev pub assembly_name : List AsmRec → RowAt → List ℕ
assembly_name recs at = flat (option_map own_name (rec_at recs at))

-- ---- new names

-- a type with the name that it has in the output, without its namespace
pub record NewName : Type 0 where
  pub typ : RowAt
  pub name : List ℕ

abbrev pub namespace_of : List AsmRec → RowAt → List ℕ
namespace_of recs at = flat (option_map (λ (t : TypeDefRow). t.namespace) (type_row_at recs at))

abbrev pub name_of : List AsmRec → RowAt → List ℕ
name_of recs at = flat (option_map (λ (t : TypeDefRow). t.name) (type_row_at recs at))

abbrev pub renamed : List AsmRec → RowAt → List ℕ
renamed recs at = codes "<" ++ assembly_name recs at ++ codes ">" ++ name_of recs at

-- a name with a number after it; with 0 the name alone
abbrev pub numbered_name : List ℕ → ℕ → List ℕ
numbered_name name zero = name
numbered_name name (suc n) = name ++ decimal (suc n)

-- the name with the first number that makes it free, of at most n numbers from this one on
abbrev pub free_from : (List ℕ → Bool) → List ℕ → ℕ → ℕ → List ℕ
free_from taken name k zero = numbered_name name k
free_from taken name k (suc n) = if taken (numbered_name name k) then free_from taken name (suc k) n else numbered_name name k

-- ---- the types in order

-- whether an earlier kept type of another assembly has a type's full name
abbrev pub is_rival : List AsmRec → RowAt → RowAt → Bool
is_rival recs at earlier = not (earlier.asm == at.asm) && same_name (old_name recs earlier) (old_name recs at)

abbrev pub rival : List AsmRec → List RowAt → RowAt → Option RowAt
rival recs earlier at = if is_top_level recs at then find (is_rival recs at) (filter (is_top_level recs) earlier) else None

-- whether a kept top-level type has this name, old or new
abbrev pub has_name : List AsmRec → List RowAt → List NewName → List ℕ → Bool
has_name recs kept names full =
    list_any (λ at. same_name (old_name recs at) full) (filter (is_top_level recs) kept)
    || list_any (λ (n : NewName). same_name (full_name_of (namespace_of recs n.typ) n.name) full) names

-- no more numbers are taken than there are kept types and new names
abbrev pub fresh_name : List AsmRec → List RowAt → List NewName → RowAt → List ℕ
fresh_name recs kept names at =
    free_from (λ name. has_name recs kept names (full_name_of (namespace_of recs at) name)) (renamed recs at) 0 (length kept + length names)

abbrev pub named_by : List AsmRec → List RowAt → List NewName → RowAt → Option RowAt → List NewName
named_by recs kept names at None = names
named_by recs kept names at (Some r) = names ++ record { typ = at; name = fresh_name recs kept names at } ∷ []

abbrev pub names_from : List AsmRec → List RowAt → List RowAt → List NewName → List RowAt → List NewName
names_from recs kept earlier names [] = names
names_from recs kept earlier names (at ∷ rest) =
    names_from recs kept (earlier ++ at ∷ []) (named_by recs kept names at (rival recs earlier at)) rest

-- the types that get a new name, in order, of these kept types
unfoldable pub new_names : List AsmRec → List RowAt → List NewName
new_names recs kept = names_from recs kept [] [] kept

-- ---- collisions

-- whether a top-level type is public (II.23.1.15)
abbrev pub is_public : List AsmRec → RowAt → Bool
is_public recs at = list_any (λ (t : TypeDefRow). access_of t.flags == flag.PUBLIC) (listed (type_row_at recs at))

-- two types of which the second can't be renamed
pub record Collision : Type 0 where
  pub first : RowAt
  pub second : RowAt

abbrev pub collides : List AsmRec → (TypeId → Bool) → RowAt → RowAt → Option Collision
collides recs shown at r = if is_public recs at || shown (type_id recs at.asm at.row) then Some (record { first = r; second = at }) else None

abbrev pub or_later : Option Collision → Option Collision → Option Collision
or_later None later = later
or_later (Some c) later = Some c

abbrev pub collision_from : List AsmRec → (TypeId → Bool) → List RowAt → List RowAt → Option Collision
collision_from recs shown earlier [] = None
collision_from recs shown earlier (at ∷ rest) =
    or_later (option_and_then (collides recs shown at) (rival recs earlier at)) (collision_from recs shown (earlier ++ at ∷ []) rest)

-- the first kept type that needs a new name and is public or shown, with the first kept type of another assembly of its name
unfoldable pub collision : List AsmRec → (TypeId → Bool) → List RowAt → Option Collision
collision recs shown kept = collision_from recs shown [] kept
