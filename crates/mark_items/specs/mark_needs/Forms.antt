-- Which type an instruction makes or shows, by its form.
use Rattle.std.specs.Prelude.{ℕ, List, [], ◌==◌, if◌then◌else◌}
use Rattle.il_base.specs.declared.ids.TypeId.{TypeId}
use Rattle.il_base.specs.declared.body.Form.{Form}
use Rattle.il_base.specs.declared.body.Form.TheVariants as form
use Rattle.il_base.specs.declared.opcode.TheConstants.{CONSTRAINED}
use Rattle.il_base.specs.declared.world_model.record.AsmRec.{AsmRec}
use Rattle.rules.specs.link_rules.Signatures.{token_type}
use Rattle.rules.specs.mark_rules.Facts.{Fact}
use Rattle.rules.specs.mark_rules.Naming.{of_known, method_named}
use Rattle.rules.specs.mark_rules.Calls.{makes_type}
use Rattle.rules.specs.mark_rules.Shown.{known_types, made_types, handled}
use Rattle.mark_items.specs.declared.mark_needs.forms.Shows.{Shows}
use Rattle.mark_items.specs.declared.mark_needs.forms.Shows.TheVariants as shows

unfoldable pub shows_of : Form → Shows
shows_of form.NewObj = shows.Owner
shows_of form.Box = shows.Operand
shows_of form.NewArr = shows.Operand
shows_of form.LdToken = shows.Handle
shows_of form.Prefix = shows.Constrained
shows_of _ = shows.Nothing

-- `makes_by` of a token, and `shown_by`, by what the token shows
unfoldable pub made_as : List AsmRec → ℕ → AsmRec → Shows → ℕ → List Fact
made_as recs a rec shows.Owner token = of_known (makes_type recs) (method_named recs a rec token)
made_as recs a rec _ token = []

unfoldable pub shown_as : List AsmRec → ℕ → AsmRec → ℕ → Shows → ℕ → List TypeId
shown_as recs a rec opcode shows.Owner token = made_types (method_named recs a rec token)
shown_as recs a rec opcode shows.Operand token = known_types (token_type recs a rec token)
shown_as recs a rec opcode shows.Handle token = handled recs a rec token
shown_as recs a rec opcode shows.Constrained token = if opcode == CONSTRAINED then known_types (token_type recs a rec token) else []
shown_as recs a rec opcode shows.Nothing token = []
