-- The answer of planning.
use Rattle.std.specs.Prelude.{◌≡◌, Bool, List, Some, None, map}
use Rattle.il_base.specs.declared.ids.TypeId.{TypeId}
use Rattle.il_base.specs.declared.world_model.record.AsmRec.{AsmRec}
use Rattle.il_base.specs.world_model.Worlds.{type_id}
use Rattle.rules.specs.declared.link_rules.row_at.RowAt.{RowAt}
use Rattle.rules.specs.merge_rules.Names as names
use Rattle.rules.specs.merge_rules.Names.{Collision, collision, new_names}
use Rattle.merge_plan.specs.declared.outcome.NewName.{NewName}
use Rattle.merge_plan.specs.declared.outcome.PlanError.{PlanError}
use Rattle.merge_plan.specs.declared.outcome.PlanError.TheVariants as error
use Rattle.merge_plan.specs.declared.outcome.Planned.{Planned}
use Rattle.merge_plan.specs.declared.outcome.Planned.TheVariants as planned

abbrev pub id_of : List AsmRec → RowAt → TypeId
id_of recs at = type_id recs at.asm at.row

-- a type with its new name, by its id
abbrev pub named : List AsmRec → names.NewName → NewName
named recs n = record { typ = id_of recs n.typ; name = n.name }

abbrev pub collided : List AsmRec → Collision → Planned
collided recs c = planned.Collision (id_of recs c.first) (id_of recs c.second)

-- the first collision, or else the new names
abbrev pub planned_by : Bool → List AsmRec → (TypeId → Bool) → List RowAt → Planned
planned_by internal recs shown kept =
    elim (collision recs shown kept) [ Some c ↦ collided recs c | None ↦ planned.Plan (record { names = map (named recs) (new_names recs kept); internal = internal }) ]

-- a refusal names the first collision; want of memory has no cause
abbrev pub IsRefusal : Planned → PlanError → Type 0
IsRefusal wanted (error.Collision first second) = wanted ≡ planned.Collision first second
IsRefusal wanted error.NoMemory = Unit {0}
