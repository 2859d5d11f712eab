-- The key of a row of MethodSpec by the key of its method.
use Rattle.std.specs.Prelude.{ℕ, List, Option}
use Rattle.std.specs.Option.{option_map}
use Rattle.il_base.specs.declared.sig.Sig.{Sig}
use Rattle.il_base.specs.declared.world_model.members.MethodSpecRow.{MethodSpecRow}
use Rattle.il_base.specs.declared.world_model.record.AsmRec.{AsmRec}
use Rattle.rules.specs.merge_rules.Keys.{good, world_sigs, MethodKey, InstanceKey}

abbrev pub made_instance : List AsmRec → ℕ → AsmRec → MethodSpecRow → MethodKey → Option InstanceKey
made_instance recs a rec row m = option_map (λ (args : List Sig). record { method = m; args = world_sigs recs a rec args }) (good row.instantiation)
