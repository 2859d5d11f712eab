-- The row that was kept, or else the one that the rest has.
use Rattle.std.proofs.Common.{◌≡◌, drop}
use Rattle.std.specs.HashMap.{get}
use Rattle.rules.specs.link_rules.Types.{or_else}
use Rattle.rules.specs.type_rules.Searches.{named_from, named_within}
use Rattle.type_names.specs.declared.full_name.FullName.{FullName}
use Rattle.type_names.specs.FullNames.{name_of, same_full_name}
use Rattle.type_names.proofs.rows.TypeRows.of.Given as goal

abbrev pub invariant-loop-i : goal.invariant-loop-i
invariant-loop-i l = (q : FullName) →
    or_else (get same_full_name l.rows q) (named_from l.rec q.around (name_of q) l.i (drop l.i l.rec.type_def)) ≡ named_within l.rec q.around (name_of q)
