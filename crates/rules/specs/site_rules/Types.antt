-- The sites of a type, of its fields, interface rows, properties and events, and of its methods without a body: generic arguments for
-- annotated parameters. Constraints, MethodImpl rows and attributes have none.
use Rattle.std.specs.Prelude.{List, ◌++◌, Option, Some, None, Bool, true, false}
use Rattle.std.specs.List.{flat_map, list_any, filter}
use Rattle.il_base.specs.declared.ids.TypeId.{TypeId}
use Rattle.il_base.specs.declared.world_model.members.MethodDefRow.{MethodDefRow}
use Rattle.il_base.specs.declared.world_model.known.Known.{Known}
use Rattle.il_base.specs.declared.body.Body.{Body}
use Rattle.il_base.specs.declared.world_model.record.AsmRec.{AsmRec}
use Rattle.rules.specs.declared.link_rules.row_at.RowAt.{RowAt}
use Rattle.rules.specs.link_rules.Members.{type_home}
use Rattle.rules.specs.link_rules.Cycles.{listed}
use Rattle.rules.specs.type_rules.Slots.{method_row_at}
use Rattle.rules.specs.type_rules.Rows.{rec_at, fields_of_type, methods_of_type}
use Rattle.rules.specs.mark_rules.Naming.{Part}
use Rattle.rules.specs.mark_rules.Types.{extends_of, parts_of_field, parts_of_impl}
use Rattle.rules.specs.mark_rules.Properties.{parts_of_property, parts_of_event}
use Rattle.rules.specs.mark_rules.Members.{properties_of_type, events_of_type, impls_of_type}
use Rattle.rules.specs.declared.site_rules.site.Site.{Site}
use Rattle.rules.specs.site_rules.Arguments.{sites_of_parts}
use Rattle.rules.specs.site_rules.Bodies.{head_parts}

abbrev pub is_bodiless : Option (Known Body) → Bool
is_bodiless None = true
is_bodiless (Some b) = false

abbrev pub has_no_body : List AsmRec → RowAt → Bool
has_no_body recs at = list_any (λ (m : MethodDefRow). is_bodiless m.body) (listed (method_row_at recs at))

-- what a type extends
abbrev pub base_parts : List AsmRec → RowAt → List Part
base_parts recs at = flat_map (extends_of recs at) (listed (rec_at recs at))

-- the parts of what a type has, methods with a body aside
unfoldable pub parts_in_type : List AsmRec → RowAt → List Part
parts_in_type recs at =
    base_parts recs at
    ++ (flat_map (parts_of_field recs) (fields_of_type recs at)
    ++ (flat_map (parts_of_impl recs) (impls_of_type recs at)
    ++ (flat_map (parts_of_property recs) (properties_of_type recs at)
    ++ (flat_map (parts_of_event recs) (events_of_type recs at)
    ++ flat_map (head_parts recs) (filter (has_no_body recs) (methods_of_type recs at))))))

abbrev pub sites_in_type : List AsmRec → TypeId → RowAt → List Site
sites_in_type recs t at = sites_of_parts recs at.asm (Some t) (parts_in_type recs at)

-- the sites of a type; none for one that isn't there
unfoldable pub type_sites : List AsmRec → TypeId → List Site
type_sites recs t = flat_map (sites_in_type recs t) (listed (type_home recs t))
