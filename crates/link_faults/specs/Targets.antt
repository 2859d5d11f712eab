-- The definitions of types and of the types that tokens name, as ids, by the links of type tokens.
use Rattle.std.specs.Prelude.{ℕ, ◌+◌, List, Option, Some, None, nat_lt, if◌then◌else◌}
use Rattle.std.specs.Option.{option_and_then}
use Rattle.il_base.specs.declared.ids.TypeId.{TypeId}
use Rattle.il_base.specs.declared.world_model.expr.TypeExpr.{TypeExpr}
use Rattle.il_base.specs.declared.world_model.record.AsmRec.{AsmRec}
use Rattle.il_base.specs.declared.world_model.world.TypeLink.{TypeLink}
use Rattle.il_base.specs.world_model.Worlds.{known_or, type_link_at, rows_before, types_in}
use Rattle.rules.specs.declared.link_rules.row_at.RowAt.{RowAt}
use Rattle.rules.specs.link_rules.Members.{type_count, owner_of, only_named, good_type}

abbrev pub id_of : List AsmRec → RowAt → ℕ
id_of all at = rows_before types_in all at.asm + at.row

-- the type that a token of an assembly names, where it names one
abbrev pub linked : List AsmRec → List TypeLink → ℕ → ℕ → Option TypeExpr
linked all links a token = good_type (known_or (type_link_at all links a token))

-- an id, where there is such a type
abbrev pub id_below : ℕ → TypeId → Option ℕ
id_below count t = if nat_lt t.0 count then Some t.0 else None

-- the id of the definition of a type
abbrev pub target_of : List AsmRec → TypeExpr → Option ℕ
target_of all e = option_and_then (id_below (type_count all)) (owner_of all e)

abbrev pub target_at : List AsmRec → List TypeLink → ℕ → ℕ → Option ℕ
target_at all links a token = option_and_then (target_of all) (linked all links a token)

-- the id of the definition that a token names, where it names a class or an interface
abbrev pub named_target_at : List AsmRec → List TypeLink → ℕ → ℕ → Option ℕ
named_target_at all links a token = option_and_then (target_of all) (only_named (linked all links a token))
