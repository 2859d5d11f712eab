-- A table that II.22 doesn't have isn't sorted.
use Rattle.std.proofs.Common.{sym}
use Rattle.std.proofs.lemmas.List.{get_or_past}
use Rattle.il_base.specs.declared.cli_format.key.SortKey.TheVariants.{Unsorted}
use Rattle.il_base.specs.declared.cli_format.key.TheConstants.{SORT_KEYS}
use Rattle.il_base.specs.cli_format.Columns.{sort_key_of}
use Rattle.il_base.proofs.cli_format.key.sort_key.Goals as goal

pub returns-else-table-lt45 : goal.returns-else-table-lt45
unfolding sort_key_of
returns-else-table-lt45 c = sym (get_or_past SORT_KEYS c.args.table Unsorted c.if-table-lt45.false)
