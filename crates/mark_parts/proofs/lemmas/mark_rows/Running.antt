-- How many rows of a run there are.
use Rattle.std.proofs.Common.{◌≡◌, ℕ, ◌-◌, ◌+◌, min, List, take, drop, length, length-drop, ap, ◌∙◌}
use Rattle.std.proofs.lemmas.List.{length-take}
use Rattle.il_base.specs.declared.world_model.record.AsmRec.{AsmRec}
use Rattle.type_tables.specs.declared.member_search.owners.Run.{Run}
use Rattle.mark_parts.specs.declared.mark_rows.runs.Members.{Members}
use Rattle.mark_parts.specs.declared.mark_rows.runs.Members.TheVariants as members
use Rattle.mark_parts.specs.mark_rows.Runs.{count_in, run_length}

in_list : {A : Type 0} (first end : ℕ) (rows : List A) → length (take (end - first) (drop (first - 1) rows)) ≡ min (end - first) (length rows - (first - 1))
in_list first end rows = length-take (end - first) (drop (first - 1) rows) ∙ ap (min (end - first)) (length-drop (first - 1) rows)

pub as_long : (m : Members) (rec : AsmRec) (run : Run) → run_length m rec run ≡ min (run.end - run.first) (count_in m rec - (run.first - 1))
as_long members.Method rec run = in_list run.first run.end rec.method_def
as_long members.Field rec run = in_list run.first run.end rec.field
as_long members.Property rec run = in_list run.first run.end rec.property
as_long members.Event rec run = in_list run.first run.end rec.event
