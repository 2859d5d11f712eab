-- The plan of a merge.
use Rattle.std.specs.Prelude.{◌≡◌, List, map}
use Rattle.il_base.specs.declared.world_model.record.AsmRec.{AsmRec}
use Rattle.rules.specs.merge_rules.Numbers.{Kept, kept_types}
use Rattle.rules.specs.merge_rules.Names.{new_names}
use Rattle.merge_plan.specs.declared.outcome.Plan.{Plan}
use Rattle.merge_plan.specs.Plans.{named}

-- the plan has the new names of the kept types, as each plan has that `merge_plan::plan` answers for them
abbrev pub HasNewNames : List AsmRec → Kept → Plan → Type 0
HasNewNames recs kept plan = plan.names ≡ map (named recs) (new_names recs (kept_types recs kept))
