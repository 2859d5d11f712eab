-- Why the values of a body have no flow: the depths of its stack disagree (III.1.7.4), or it is over the limit. A body without depths
-- isn't counted for the limit.
use Rattle.std.specs.Prelude.{ℕ, List, [], ◌∷◌, nat_le, Option, if◌then◌else◌}
use Rattle.std.specs.List.{flat_map}
use Rattle.il_base.specs.declared.ids.TypeId.{TypeId}
use Rattle.il_base.specs.declared.outside.TheConstants.{STACK}
use Rattle.il_base.specs.declared.limit.TheConstants.{FLOW}
use Rattle.il_base.specs.declared.world_model.known.BadKind.{BadKind}
use Rattle.il_base.specs.declared.world_model.known.BadKind.TheVariants.{Outside, Over}
use Rattle.il_base.specs.declared.world_model.record.AsmRec.{AsmRec}
use Rattle.rules.specs.declared.link_rules.row_at.RowAt.{RowAt}
use Rattle.rules.specs.link_rules.Cycles.{listed}
use Rattle.rules.specs.flow_rules.Methods.{Setting, setting_at}
use Rattle.rules.specs.flow_rules.Exits.{exits_of}
use Rattle.rules.specs.flow_rules.Flows.{most_work, owner_at}
use Rattle.rules.specs.flow_rules.Rounds.{has_depths}
use Rattle.rules.specs.site_rules.Items.{work_in}

abbrev pub over_limit : ℕ → List BadKind
over_limit work = if nat_le work most_work then [] else Over FLOW work ∷ []

abbrev pub flow_faults : List AsmRec → Option TypeId → Setting → List BadKind
flow_faults recs owner s = if has_depths (exits_of recs s) s.body.max_stack then over_limit (work_in recs owner s) else Outside STACK ∷ []

-- none for a method without a body, or whose body, signature or locals have no reading
unfoldable pub faults_of_flow : List AsmRec → RowAt → List BadKind
faults_of_flow recs at = flat_map (flow_faults recs (owner_at recs at)) (listed (setting_at recs at))
