-- The types that references name, by the chain of their scopes.
use Rattle.std.specs.Prelude.{◌≡◌, ℕ, List, [], ◌∷◌, map, Option, slice_get}
use Rattle.std.specs.Option.{option_and_then, option_copied}
use Rattle.il_base.specs.declared.world_model.types.TypeRefRow.{TypeRefRow}
use Rattle.il_base.specs.declared.world_model.record.AsmRec.{AsmRec}
use Rattle.rules.specs.declared.link_rules.row_at.RowAt.{RowAt}
use Rattle.rules.specs.link_rules.Types as types
use Rattle.resolver.specs.declared.type_links.references.Way.{Way}

-- the type of a reference in an assembly
abbrev pub scope_type : List AsmRec → ℕ → AsmRec → Option TypeRefRow → Option RowAt
scope_type all a rec top = option_and_then (types.type_of_scope all a rec) top

-- the type of the first reference of a chain, by the type at its end
abbrev pub come_down : List AsmRec → List TypeRefRow → Option RowAt → Option RowAt
come_down all [] around = around
come_down all (row ∷ rows) around = types.nested_type all row.namespace row.name (come_down all rows around)

-- a chain leads to the type that the row names
abbrev pub LeadsTo : AsmRec → ℕ → Way → Type 0
LeadsTo rec k c =
    (all : List AsmRec) (a : ℕ)
    → types.ref_at all a rec k ≡ come_down all (map (λ row. row.now) c.nested.items) (scope_type all a rec (option_copied c.top))

-- the definition that a token of an assembly names
abbrev pub definition_at : List AsmRec → ℕ → ℕ → Option RowAt
definition_at all a token = option_and_then (λ (rec : AsmRec). types.definition_at all a rec token) (slice_get all a)
