-- The kind of item that the token of an instruction names, by the instruction's form.
use Rattle.std.specs.Prelude.{ℕ, List, [], ◌∷◌}
use Rattle.il_base.specs.declared.body.Form.{Form}
use Rattle.il_base.specs.declared.body.Form.TheVariants as form
use Rattle.il_base.specs.declared.world_model.record.AsmRec.{AsmRec}
use Rattle.rules.specs.mark_rules.Naming.{Part, type_token_part, method_token_part, field_token_part}
use Rattle.rules.specs.mark_rules.Bodies.{any_token_part, text_parts}
use Rattle.mark_parts.specs.declared.forms.Names.{Names}
use Rattle.mark_parts.specs.declared.forms.Names.TheVariants as names

unfoldable pub names_of : Form → Names
names_of form.Call = names.Method
names_of form.NewObj = names.Method
names_of form.Field = names.Field
names_of form.LdToken = names.Any
names_of form.LdStr = names.Text
names_of _ = names.Type

-- `token_parts`, by the kind of item that the token names
unfoldable pub parts_by : List AsmRec → ℕ → AsmRec → ℕ → ℕ → Names → ℕ → List Part
parts_by recs a rec place offset names.Method token = method_token_part recs a rec place offset token ∷ []
parts_by recs a rec place offset names.Field token = field_token_part recs a rec place offset token ∷ []
parts_by recs a rec place offset names.Any token = any_token_part recs a rec place offset token ∷ []
parts_by recs a rec place offset names.Text token = text_parts rec place offset token
parts_by recs a rec place offset names.Type token = type_token_part recs a rec place offset token ∷ []
