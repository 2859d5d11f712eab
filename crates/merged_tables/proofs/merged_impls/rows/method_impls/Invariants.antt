use Rattle.std.proofs.Common.{◌≡◌, ◌++◌, drop}
use Rattle.mark_parts.specs.mark_tables.Assemblies.{all_of}
use Rattle.merge_plan.specs.Kept.{all_from, kept_by}
use Rattle.merged_tables.specs.merged_impls.Impls.{impls_in}
use Rattle.merged_tables.proofs.merged_impls.rows.method_impls.Given as goal

abbrev pub invariant-loop-a : goal.invariant-loop-a
invariant-loop-a l =
    l.rows.items ++ all_from (impls_in (all_of l.marker) (kept_by l.kept) l.tables l.tokens) l.a (drop l.a l.rec-items) ≡ all_from (impls_in (all_of l.marker) (kept_by l.kept) l.tables l.tokens) 0 l.rec-items
