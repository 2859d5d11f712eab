-- Where the core library's types and methods stand in a world.
use Rattle.std.specs.Prelude.{◌≡◌, ◌+◌, ◌-◌, ◌<◌, List, length}
use Rattle.il_base.specs.declared.world_model.record.AsmRec.{AsmRec}
use Rattle.il_base.specs.world_model.Worlds.{rows_before, types_in}
use Rattle.il_base.specs.declared.core_table.names.CoreName.TheVariants as core
use Rattle.rules.specs.view_rules.Answers.{core_method_id}
use Rattle.cil_world.specs.declared.world_types.core_rows.CoreRows.{CoreRows}

pub record AreCoreRows (recs : List AsmRec) (c : CoreRows) : Type 0 where
  pub types : c.types ≡ rows_before types_in recs (length recs - 1)
  -- no id of a type of the core library needs more than 32 bits
  pub room : c.types + 255 < 4294967296
  pub to_string : c.to_string ≡ core_method_id recs core.ToString
  pub equals : c.equals ≡ core_method_id recs core.Equals
