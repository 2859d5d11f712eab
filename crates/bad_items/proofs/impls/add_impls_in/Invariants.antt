use Rattle.std.proofs.Common.{◌≡◌, ◌++◌, drop}
use Rattle.rules.specs.type_rules.Rows.{each_from}
use Rattle.mark_parts.specs.mark_tables.Assemblies.{rec_of}
use Rattle.base_laws.specs.flaw_laws.Listed.{impl_flaws_by}
use Rattle.bad_items.specs.Programs.{recs_in, has}
use Rattle.bad_items.proofs.impls.add_impls_in.Given as goal

abbrev pub invariant-loop-k : goal.invariant-loop-k
invariant-loop-k l =
    l.flaws ++ each_from (impl_flaws_by (recs_in l.program) (has l.program) l.place (rec_of l.asm)) l.k (drop l.k l.rows)
    ≡ l.initial.flaws ++ each_from (impl_flaws_by (recs_in l.program) (has l.program) l.place (rec_of l.asm)) 0 l.rows
