-- The sites of what a token of an operand names, by what it can name.
use Rattle.std.specs.Prelude.{ℕ, List, [], Option, Some, None, if◌then◌else◌}
use Rattle.il_base.specs.declared.ids.TypeId.{TypeId}
use Rattle.il_base.specs.declared.ids.Place.{Place}
use Rattle.il_base.specs.declared.world_model.expr.TypeExpr.{TypeExpr}
use Rattle.il_base.specs.declared.world_model.expr.MethodUse.{MethodUse}
use Rattle.il_base.specs.declared.world_model.expr.FieldUse.{FieldUse}
use Rattle.il_base.specs.declared.world_model.record.AsmRec.{AsmRec}
use Rattle.rules.specs.link_rules.Signatures.{token_type}
use Rattle.rules.specs.mark_rules.Naming.{method_named, field_named}
use Rattle.rules.specs.mark_rules.Bodies.{is_field_token, is_method_token}
use Rattle.mark_parts.specs.declared.forms.Names.{Names}
use Rattle.mark_parts.specs.declared.forms.Names.TheVariants as names
use Rattle.rules.specs.flow_rules.Counts.{good_one}
use Rattle.rules.specs.declared.site_rules.site.Site.{Site}
use Rattle.rules.specs.site_rules.Arguments.{type_argument_sites, of_method}

abbrev pub method_if : List AsmRec → Option TypeId → Place → Option MethodUse → List Site
method_if recs owner place None = []
method_if recs owner place (Some u) = of_method recs owner place u

abbrev pub field_if : List AsmRec → Option TypeId → Place → Option FieldUse → List Site
field_if recs owner place None = []
field_if recs owner place (Some u) = type_argument_sites recs owner place u.owner

abbrev pub type_if : List AsmRec → Option TypeId → Place → Option TypeExpr → List Site
type_if recs owner place None = []
type_if recs owner place (Some e) = type_argument_sites recs owner place e

abbrev pub any_sites : List AsmRec → ℕ → AsmRec → Option TypeId → Place → ℕ → List Site
any_sites recs a rec owner place token =
    if is_field_token rec token then field_if recs owner place (good_one (field_named recs a rec token))
    else if is_method_token token then method_if recs owner place (good_one (method_named recs a rec token))
    else type_if recs owner place (good_one (token_type recs a rec token))

unfoldable pub sites_by : List AsmRec → ℕ → AsmRec → Option TypeId → Place → Names → ℕ → List Site
sites_by recs a rec owner place names.Method token = method_if recs owner place (good_one (method_named recs a rec token))
sites_by recs a rec owner place names.Field token = field_if recs owner place (good_one (field_named recs a rec token))
sites_by recs a rec owner place names.Any token = any_sites recs a rec owner place token
sites_by recs a rec owner place names.Text token = []
sites_by recs a rec owner place names.Type token = type_if recs owner place (good_one (token_type recs a rec token))
