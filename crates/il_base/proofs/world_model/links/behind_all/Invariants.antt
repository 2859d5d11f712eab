use Rattle.std.proofs.Common.{◌≡◌, drop, sum_by}
use Rattle.il_base.specs.world_model.Kinds.{rows_in}
use Rattle.il_base.proofs.world_model.links.behind_all.Given as goal

abbrev pub invariant-loop-rec : goal.invariant-loop-rec
invariant-loop-rec g l = drop (sum_by (rows_in l.kind) (drop l.rec-index l.recs)) l.rest ≡ drop (sum_by (rows_in l.kind) l.recs) l.links
