-- What the rows of MethodImpl name is there.
use Rattle.std.specs.Prelude.{List, IsTrue}
use Rattle.std.specs.List.{Contains}
use Rattle.std.specs.Option.{is_some}
use Rattle.il_base.specs.declared.world_model.record.AsmRec.{AsmRec}
use Rattle.rules.specs.mark_rules.Places.{row_of}
use Rattle.rules.specs.mark_rules.BadItems.{ImplRow, impl_rows}

-- the class of each row and the method of its body are rows of the world
abbrev pub RowsThere : List AsmRec → Type 0
RowsThere recs = (r : ImplRow) → Contains (impl_rows recs) r → IsTrue (is_some (row_of recs r.class)) × IsTrue (is_some (row_of recs r.body))
