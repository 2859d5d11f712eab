-- `ldstr` (III.4.16): one object for each text.
use Rattle.std.specs.Prelude.{◌∷◌}
use Rattle.il_base.specs.declared.cil_values.value.Value.TheVariants as value
use Rattle.il_base.specs.declared.cil_values.resolved.Use.TheVariants.{Text as text}
use Rattle.rules.specs.step_rules.Words.{Form, stuck, known, goes}
use Rattle.rules.specs.step_rules.Objects.{interned}

unfoldable pub load_string : Form
load_string q here i s =
    elim i.operand [ text units ↦ known units s (λ us. interned us s (λ a t. goes here i (value.Object a ∷ t.top.stack) t)) | _ ↦ stuck s ]
