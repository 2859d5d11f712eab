use Rattle.std.proofs.Common.{◌≡◌, map, take}
use Rattle.token_keys.specs.signature_rows.Rows.{locals_row_by}
use Rattle.token_keys.proofs.signature_rows.locals.locals_rows.Given as goal

abbrev pub invariant-loop-list : goal.invariant-loop-list
invariant-loop-list l = l.rows ≡ map (locals_row_by l.tokens) (take l.list-index l.lists)
