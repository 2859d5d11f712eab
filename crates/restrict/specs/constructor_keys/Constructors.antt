-- A constructor that names nothing, by the key of its parent.
use Rattle.std.specs.Prelude.{ℕ, List, Option}
use Rattle.std.specs.Option.{option_map}
use Rattle.il_base.specs.declared.sig.MethodSig.{MethodSig}
use Rattle.il_base.specs.declared.world_model.members.MemberRefRow.{MemberRefRow}
use Rattle.il_base.specs.declared.world_model.record.AsmRec.{AsmRec}
use Rattle.rules.specs.mark_rules.Attributes.{ref_sig}
use Rattle.rules.specs.merge_rules.Keys.{TypeKey, MethodKey, absent_method, good, world_method_sig}

abbrev pub absent_with : List AsmRec → ℕ → AsmRec → MemberRefRow → TypeKey → Option MethodKey
absent_with recs a rec row p = option_map (λ (s : MethodSig). absent_method p row.name (world_method_sig recs a rec s)) (good (ref_sig row))
