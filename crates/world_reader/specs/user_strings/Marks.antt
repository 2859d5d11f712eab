-- A flag for each offset of `#US` that a token can have: whether a body has an `ldstr` of it (III.4.16).
use Rattle.std.specs.Prelude.{ℕ, zero, suc, ◌-◌, Bool, true, false, nat_lt, nat_le, slice_set, List, [], ◌∷◌, length, get_or, replicate, Option, Some, None, if◌then◌else◌}
use Rattle.il_base.specs.declared.body.Body.{Body}
use Rattle.il_base.specs.declared.body.Instr.{Instr}
use Rattle.il_base.specs.declared.body.Operand.{Operand}
use Rattle.il_base.specs.declared.body.Operand.TheVariants as operand
use Rattle.il_base.specs.declared.world_model.known.Known.{Known}
use Rattle.il_base.specs.declared.world_model.known.Known.TheVariants.{Good, Bad}
use Rattle.il_base.specs.declared.world_model.members.MethodDefRow.{MethodDefRow}
use Rattle.il_base.specs.declared.world_model.record.UserText.{UserText}
use Rattle.rules.specs.record_format.Texts.{is_ldstr, user_text_at, and_text}

abbrev pub marked_at : List Bool → ℕ → List Bool
marked_at marks k = if nat_lt k (length marks) then slice_set marks k true else marks

abbrev pub marked_by_operand : List Bool → Operand → List Bool
marked_by_operand marks (operand.Token t) = if nat_le 0x70000000 t then marked_at marks (t - 0x70000000) else marks
marked_by_operand marks _ = marks

unfoldable pub marked_by : List Bool → Instr → List Bool
marked_by marks i = if is_ldstr i.form then marked_by_operand marks i.operand else marks

abbrev pub marked_in : List Bool → List Instr → List Bool
marked_in marks [] = marks
marked_in marks (i ∷ is) = marked_in (marked_by marks i) is

abbrev pub marked_body : List Bool → Option (Known Body) → List Bool
marked_body marks None = marks
marked_body marks (Some (Good b)) = marked_in marks b.code
marked_body marks (Some (Bad why)) = marks

abbrev pub marked : List Bool → List MethodDefRow → List Bool
marked marks [] = marks
marked marks (m ∷ ms) = marked (marked_body marks m.body) ms

-- the flags of the offsets below a number
abbrev pub marks_of : ℕ → List MethodDefRow → List Bool
marks_of n methods = marked (replicate n false) methods

-- the texts at the marked offsets below a number
unfoldable pub texts_marked : List ℕ → List Bool → ℕ → List UserText
texts_marked user marks zero = []
texts_marked user marks (suc n) =
    and_text (texts_marked user marks n) (if get_or marks n false then user_text_at user n else None)
