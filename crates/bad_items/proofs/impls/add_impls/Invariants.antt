use Rattle.std.proofs.Common.{◌≡◌, ◌++◌, drop}
use Rattle.rules.specs.type_rules.Rows.{each_from}
use Rattle.base_laws.specs.flaw_laws.Listed.{impl_flaws_in}
use Rattle.bad_items.specs.Programs.{recs_in, has}
use Rattle.bad_items.proofs.impls.add_impls.Given as goal

abbrev pub invariant-loop-a : goal.invariant-loop-a
invariant-loop-a l =
    l.flaws ++ each_from (impl_flaws_in (recs_in l.program) (has l.program)) l.a (drop l.a l.all) ≡ l.initial.flaws ++ each_from (impl_flaws_in (recs_in l.program) (has l.program)) 0 l.all
