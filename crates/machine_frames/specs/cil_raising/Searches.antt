-- What a search over frames finds.
use Rattle.std.specs.Prelude.{ℕ, List, [], ◌∷◌}
use Rattle.il_base.specs.declared.cil_values.state.State.{State}
use Rattle.il_base.specs.declared.cil_values.frame.Frame.{Frame}
use Rattle.rules.specs.step_rules.Next.{Next}
use Rattle.rules.specs.step_rules.Queries.{Queries}
use Rattle.rules.specs.step_rules.Words.{object_at}
use Rattle.rules.specs.step_rules.Objects.{threw}
use Rattle.rules.specs.step_rules.Raising.{Found, nothing_found, bad_clause, by_clause, search}
use Rattle.machine_frames.specs.declared.cil_raising.search.Look.{Look}
use Rattle.machine_frames.specs.declared.cil_raising.search.Look.TheVariants as saw
use Rattle.machine_frames.specs.declared.cil_raising.search.Hit as code
use Rattle.machine_frames.specs.declared.cil_raising.search.Hit.TheVariants as look

-- what a frame has for an exception
abbrev pub found_by : code.Hit → Found
found_by look.Nothing = nothing_found
found_by look.BadClause = bad_clause
found_by (look.ByClause n) = by_clause n

-- what a catch clause says, at its place, before the clauses after it
abbrev pub look_by : Look → ℕ → Found → Found
look_by saw.Passes n rest = rest
look_by saw.Bad n rest = bad_clause
look_by saw.Catches n rest = by_clause n

-- the search over the frames that are left
unfoldable pub search_on : Queries → ℕ → ℕ → List ℕ → State → List Frame → Next
search_on q first a later s [] = threw q s (object_at s a)
search_on q first a later s (f ∷ fs) = search q first a later s f fs
