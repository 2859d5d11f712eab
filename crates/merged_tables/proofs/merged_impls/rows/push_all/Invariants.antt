use Rattle.std.proofs.Common.{◌≡◌, ◌++◌, drop}
use Rattle.std.specs.List.{flat_map}
use Rattle.mark_parts.specs.mark_tables.Assemblies.{recs_of, place_of, rec_of}
use Rattle.merge_plan.specs.Kept.{kept_by}
use Rattle.merged_tables.specs.merged_impls.Impls.{impl_of}
use Rattle.merged_tables.proofs.merged_impls.rows.push_all.Given as goal

abbrev pub invariant-loop-row : goal.invariant-loop-row
invariant-loop-row l =
    l.rows.items ++ flat_map (impl_of l.recs (kept_by l.kept) l.tables l.tokens (recs_of l.asm) (place_of l.asm) (rec_of l.asm)) (drop l.row-index l.row-items)
    ≡ l.initial.rows.items ++ flat_map (impl_of l.recs (kept_by l.kept) l.tables l.tokens (recs_of l.asm) (place_of l.asm) (rec_of l.asm)) l.row-items
