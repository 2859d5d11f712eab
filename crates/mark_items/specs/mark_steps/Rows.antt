-- What a marked row needs, kind by kind.
use Rattle.std.specs.Prelude.{List, ◌++◌}
use Rattle.il_base.specs.declared.world_model.record.AsmRec.{AsmRec}
use Rattle.rules.specs.declared.link_rules.row_at.RowAt.{RowAt}
use Rattle.rules.specs.mark_rules.Facts.{Fact}
use Rattle.rules.specs.mark_rules.Types.{type_needs, layout_needs, field_needs}
use Rattle.rules.specs.mark_rules.Calls.{method_needs, makes, overrides_of, method_starts, field_starts}
use Rattle.rules.specs.mark_rules.Properties.{accessed}

abbrev pub type_row_needs : List AsmRec → RowAt → List Fact
type_row_needs recs at = type_needs recs at ++ layout_needs recs at

abbrev pub method_call_needs : List AsmRec → RowAt → List Fact
method_call_needs recs at = method_needs recs at ++ makes recs at ++ overrides_of recs at

abbrev pub method_row_needs : List AsmRec → RowAt → List Fact
method_row_needs recs at = method_needs recs at ++ makes recs at ++ overrides_of recs at ++ method_starts recs at ++ accessed recs at

abbrev pub field_row_needs : List AsmRec → RowAt → List Fact
field_row_needs recs at = field_needs recs at ++ field_starts recs at
