-- What an instruction refers to, by what its token names.
use Rattle.std.specs.Prelude.{ℕ, List, [], if◌then◌else◌}
use Rattle.il_base.specs.declared.body.Instr.{Instr}
use Rattle.il_base.specs.declared.body.Handler.{Handler}
use Rattle.il_base.specs.declared.world_model.record.AsmRec.{AsmRec}
use Rattle.rules.specs.mark_rules.Bodies.{is_catch}
use Rattle.mark_parts.specs.declared.forms.Names.{Names}
use Rattle.mark_parts.specs.declared.forms.Names.TheVariants as names
use Rattle.rules.specs.merge_rules.Order.{Met, met_token, met_callee, met_field_token, met_any, met_operand}

-- `met_by_form` by what the token names
unfoldable pub met_by_names : List AsmRec → ℕ → AsmRec → Names → ℕ → List Met
met_by_names recs a rec names.Method token = met_callee recs a rec token
met_by_names recs a rec names.Field token = met_field_token recs a rec token
met_by_names recs a rec names.Any token = met_any recs a rec token
met_by_names recs a rec names.Text token = []
met_by_names recs a rec names.Type token = met_token recs a rec token

abbrev pub met_instr : List AsmRec → ℕ → AsmRec → Instr → List Met
met_instr recs a rec i = met_operand recs a rec i.form i.operand

abbrev pub met_handler : List AsmRec → ℕ → AsmRec → Handler → List Met
met_handler recs a rec h = if is_catch h then met_token recs a rec h.token else []
