-- What instructions show.
use Rattle.std.specs.Prelude.{ℕ, List}
use Rattle.il_base.specs.declared.ids.TypeId.{TypeId}
use Rattle.il_base.specs.declared.body.Instr.{Instr}
use Rattle.il_base.specs.declared.world_model.record.AsmRec.{AsmRec}
use Rattle.rules.specs.mark_rules.Shown.{shown_in}

abbrev pub shown_instruction : List AsmRec → ℕ → AsmRec → Instr → List TypeId
shown_instruction recs a rec i = shown_in recs a rec i i.operand
