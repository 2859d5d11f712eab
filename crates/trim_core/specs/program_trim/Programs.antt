-- A program to be trimmed, with its plan and its flaws.
use Rattle.std.specs.Prelude.{◌≡◌, ℕ, Bool, List, Option, Some, None, Result}
use Rattle.il_base.specs.declared.ids.TypeId.{TypeId}
use Rattle.il_base.specs.declared.ids.Place.{Place}
use Rattle.il_base.specs.declared.world_model.known.BadKind.{BadKind}
use Rattle.il_base.specs.declared.world_model.known.BadKind.TheVariants.{Unresolved, Outside, Over}
use Rattle.il_base.specs.declared.world_model.record.AsmRec.{AsmRec}
use Rattle.rules.specs.link_rules.Linked.{IsWorld}
use Rattle.rules.specs.mark_rules.Marking.{Marks}
use Rattle.rules.specs.mark_rules.NotYet.{IsFirstNotYet}
use Rattle.bad_items.specs.declared.mark_flaws.flaw.Flaw.{Flaw}
use Rattle.marking.specs.declared.marked.Marked.{Marked}
use Rattle.marking.specs.Holding.{IsMarked}
use Rattle.rules.specs.merge_rules.Names.{Collision, collision}
use Rattle.rules.specs.merge_rules.Numbers.{Kept, kept_types}
use Rattle.rules.specs.merge_rules.Restricted.{restricted}
use Rattle.merge_plan.specs.declared.outcome.Plan.{Plan}
use Rattle.merge_plan.specs.declared.outcome.PlanError.{PlanError}
use Rattle.merge_plan.specs.declared.outcome.PlanError.TheVariants as error
use Rattle.merge_plan.specs.Plans.{id_of}
use Rattle.restrict.specs.Plans.{HasNewNames}
use Rattle.trim_core.specs.declared.program_trim.answers.ProgramTrim.{ProgramTrim}
use Rattle.trim_core.specs.declared.program_trim.answers.TrimFault.{TrimFault}
use Rattle.trim_core.specs.declared.program_trim.answers.TrimFault.TheVariants as refusal
use Rattle.trim_core.specs.declared.program_trim.program.Program.{Program}
use Rattle.trim_core.specs.program_trim.Trim.{IsKeptSet, IsCollision, HasNoFlaw, IsFollowed, LeftIsSpelled, TrimsWorld}

abbrev pub recs_of : Program → List AsmRec
recs_of p = p.world.now.recs

abbrev pub IsLinked : Program → Type 0
IsLinked p = IsWorld p.world.now

abbrev pub IsGood : Program → Type 0
IsGood p = HasNoFlaw (recs_of p) p.entry p.roots.now

abbrev pub HasFirstNotYet : Program → Option ℕ → Type 0
HasFirstNotYet p file = IsFirstNotYet (recs_of p) (Marks (recs_of p) p.entry p.roots.now) file

abbrev pub FollowsAll : Program → Type 0
FollowsAll p = IsFollowed (recs_of p) p.entry p.roots.now

abbrev pub IsSpelled : Program → Type 0
IsSpelled p = LeftIsSpelled (recs_of p) p.entry p.roots.now p.internal

abbrev pub HasMarks : Program → Marked → Type 0
HasMarks p m = IsMarked (recs_of p) p.entry p.roots.now m

abbrev pub Keeps : Program → Kept → Type 0
Keeps p kept = IsKeptSet (recs_of p) p.entry p.roots.now kept

abbrev pub Collides : Program → Kept → Option Collision → Type 0
Collides p kept answer = IsCollision (recs_of p) p.entry p.roots.now kept answer

-- the plan has the new names
abbrev pub Names : Program → Kept → Plan → Type 0
Names p kept plan = HasNewNames (recs_of p) kept plan × (plan.internal ≡ p.internal)

abbrev pub Leaves : Program → Kept → AsmRec → Type 0
Leaves p kept left = restricted p.internal (recs_of p) kept ≡ Some left

abbrev pub Trims : Program → Result ProgramTrim TrimFault → Type 0
Trims p result = TrimsWorld (recs_of p) p.entry p.roots.now p.internal result

-- ---- plans

pub record IsPlan (recs : List AsmRec) (seen : TypeId → Bool) (internal : Bool) (kept : Kept) (plan : Plan) : Type 0 where
  pub unique : collision recs seen (kept_types recs kept) ≡ None
  pub names : HasNewNames recs kept plan
  pub same : plan.internal ≡ internal

-- the types of a collision, by their ids
pub record IsFirst (recs : List AsmRec) (seen : TypeId → Bool) (kept : Kept) (first second : TypeId) : Type 0 where
  pub both : Collision
  pub is : collision recs seen (kept_types recs kept) ≡ Some both
  pub first_is : first ≡ id_of recs both.first
  pub second_is : second ≡ id_of recs both.second

-- a refusal of a plan names the first collision; want of memory has no cause
abbrev pub IsInTheWay : List AsmRec → (TypeId → Bool) → Kept → PlanError → Type 0
IsInTheWay recs seen kept (error.Collision first second) = IsFirst recs seen kept first second
IsInTheWay recs seen kept error.NoMemory = Unit {0}

-- ---- flaws

abbrev pub place_of : Flaw → Place
place_of f = record { asm = f.asm; token = f.token; offset = f.offset }

abbrev pub refusal_by : Place → BadKind → TrimFault
refusal_by place Unresolved = refusal.Unresolved place
refusal_by place (Outside what) = refusal.Outside place what
refusal_by place (Over which found) = refusal.Limit which found
