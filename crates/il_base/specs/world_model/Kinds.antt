-- The kinds of links of a world, each with its rows in an assembly.
use Rattle.std.specs.Prelude.{ℕ, List, Option, slice_get}
use Rattle.std.specs.Option.{option_and_then}
use Rattle.il_base.specs.declared.world_model.links.LinkKind.{LinkKind}
use Rattle.il_base.specs.declared.world_model.links.LinkKind.TheVariants as kind
use Rattle.il_base.specs.declared.world_model.record.AsmRec.{AsmRec}
use Rattle.il_base.specs.world_model.Worlds.{type_rows, type_row, method_rows, method_row, field_rows, field_row, link_place}

-- how many rows of an assembly have links of a kind
abbrev pub rows_in : LinkKind → AsmRec → ℕ
rows_in kind.Type = type_rows
rows_in kind.Method = method_rows
rows_in kind.Field = field_rows

-- the place of a token's link among those of its assembly
abbrev pub row_in : LinkKind → AsmRec → ℕ → Option ℕ
row_in kind.Type = type_row
row_in kind.Method = method_row
row_in kind.Field = field_row

-- the link of a token among all links of its kind
abbrev pub link_in : {A : Type 0} → LinkKind → List AsmRec → List A → ℕ → ℕ → Option A
link_in k recs links a token = option_and_then (slice_get links) (link_place (rows_in k) (row_in k) recs a token)
