-- Whether a user string is there, by the rows of a group.
use Rattle.std.proofs.Common.{◌≡◌, ℕ, List, Bool, true, false, refl}
use Rattle.std.specs.Prelude.{◌==◌, if◌then◌else◌}
use Rattle.std.specs.List.{list_any}
use Rattle.il_base.specs.declared.world_model.record.UserText.{UserText}
use Rattle.il_base.specs.declared.world_model.record.AsmRec.{AsmRec}
use Rattle.type_tables.specs.declared.groups.Groups.{Groups}
use Rattle.type_tables.specs.Groups.{rows_with, AreGroups}
use Rattle.type_tables.proofs.Grouped.{any_grouped}
use Rattle.rules.specs.mark_rules.Bodies.{is_text_of}
use Rattle.mark_parts.specs.mark_tables.Owners.{text_tokens}
use Rattle.mark_parts.specs.Items.{is_text_at}

itself : (b : Bool) → b ≡ (if b then true else false)
itself true = refl
itself false = refl

pub texts_grouped : (rec : AsmRec) (groups : Groups) → AreGroups (text_tokens rec) groups → (token : ℕ) → list_any (is_text_at rec) (rows_with groups token) ≡ list_any (is_text_of token) rec.user
texts_grouped rec groups are token =
    any_grouped (λ (t : UserText). t.token) token rec.user groups are (λ t. true) (is_text_of token) (λ t. itself (t.token == token))
