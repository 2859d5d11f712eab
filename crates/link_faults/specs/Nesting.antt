-- The graph of enclosers.
use Rattle.std.specs.Prelude.{◌≡◌, ℕ, suc, ◌<◌, List}
use Rattle.il_base.specs.declared.table.TheConstants.{TYPE_DEF}
use Rattle.il_base.specs.declared.world_model.types.NestedClassRow.{NestedClassRow}
use Rattle.il_base.specs.world_model.Tokens.{token_of}
use Rattle.rules.specs.link_rules.Types.{encloser_in}
use Rattle.rules.specs.link_rules.Cycles.{listed}
use Rattle.link_faults.specs.Graphs.{next_in}

-- the graph has an edge from each type that a token can name to its encloser by these rows
abbrev pub IsAround : List NestedClassRow → List (List ℕ) → Type 0
IsAround rows graph = (k : ℕ) → suc k < 16777216 → next_in graph k ≡ listed (encloser_in (token_of TYPE_DEF (suc k)) rows)
