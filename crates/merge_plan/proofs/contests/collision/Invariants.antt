use Rattle.std.proofs.Common.{◌≡◌, drop}
use Rattle.merge_plan.specs.Contests.{collision_by, shown_by}
use Rattle.merge_plan.proofs.contests.collision.Given as goal

abbrev pub invariant-loop-contest : goal.invariant-loop-contest
invariant-loop-contest l = collision_by l.recs (shown_by l.shown) (drop l.contest-index l.contests) ≡ collision_by l.recs (shown_by l.shown) l.contests
