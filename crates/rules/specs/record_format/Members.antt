-- The rows on members (II.22). `bs` are the bytes of the file, `m` those of its metadata; rows are counted from 1.
use Rattle.std.specs.Prelude.{ℕ, List}
use Rattle.il_base.specs.declared.table.TheConstants.{FIELD, METHOD_DEF, PARAM, MEMBER_REF, STAND_ALONE_SIG, EVENT_MAP, EVENT, PROPERTY_MAP, PROPERTY, METHOD_SEMANTICS, METHOD_IMPL, METHOD_SPEC}
use Rattle.il_base.specs.declared.world_model.members.FieldRow.{FieldRow}
use Rattle.il_base.specs.declared.world_model.members.MethodDefRow.{MethodDefRow}
use Rattle.il_base.specs.declared.world_model.members.ParamRow.{ParamRow}
use Rattle.il_base.specs.declared.world_model.members.MemberRefRow.{MemberRefRow}
use Rattle.il_base.specs.declared.world_model.members.MethodSpecRow.{MethodSpecRow}
use Rattle.il_base.specs.declared.world_model.members.StandAloneSigRow.{StandAloneSigRow}
use Rattle.il_base.specs.declared.world_model.members.PropertyRow.{PropertyRow}
use Rattle.il_base.specs.declared.world_model.members.PropertyMapRow.{PropertyMapRow}
use Rattle.il_base.specs.declared.world_model.members.EventRow.{EventRow}
use Rattle.il_base.specs.declared.world_model.members.EventMapRow.{EventMapRow}
use Rattle.il_base.specs.declared.world_model.members.MethodSemanticsRow.{MethodSemanticsRow}
use Rattle.il_base.specs.declared.world_model.members.MethodImplRow.{MethodImplRow}
use Rattle.il_base.specs.blob_grammar.Reading.{field_of_blob, method_of_blob, property_of_blob, locals_of_blob, instance_of_blob}
use Rattle.rules.specs.record_format.Cells.{number_in, text_in, blob_in, token_in, run_end}
use Rattle.rules.specs.record_format.Parts.{known_of, member_of_blob, body_by, bad_offset}

unfoldable pub field_row : List ℕ → ℕ → FieldRow
field_row m r = record { flags = number_in m FIELD 0 r; name = text_in m FIELD 1 r; signature = known_of (field_of_blob (blob_in m FIELD 2 r)) }

unfoldable pub method_def_row : List ℕ → List ℕ → ℕ → MethodDefRow
method_def_row bs m r = record {
  rva = number_in m METHOD_DEF 0 r;
  impl_flags = number_in m METHOD_DEF 1 r;
  flags = number_in m METHOD_DEF 2 r;
  name = text_in m METHOD_DEF 3 r;
  signature = known_of (method_of_blob (blob_in m METHOD_DEF 4 r));
  param_list_first = number_in m METHOD_DEF 5 r;
  param_list_end = run_end m METHOD_DEF 5 PARAM r;
  body = body_by bs (number_in m METHOD_DEF 0 r);
  bad_at = bad_offset bs (number_in m METHOD_DEF 0 r);
}

unfoldable pub param_row : List ℕ → ℕ → ParamRow
param_row m r = record { flags = number_in m PARAM 0 r; sequence = number_in m PARAM 1 r; name = text_in m PARAM 2 r }

unfoldable pub member_ref_row : List ℕ → ℕ → MemberRefRow
member_ref_row m r = record { class = token_in m MEMBER_REF 0 r; name = text_in m MEMBER_REF 1 r; signature = member_of_blob (blob_in m MEMBER_REF 2 r) }

unfoldable pub stand_alone_sig_row : List ℕ → ℕ → StandAloneSigRow
stand_alone_sig_row m r = record { signature = known_of (locals_of_blob (blob_in m STAND_ALONE_SIG 0 r)) }

unfoldable pub event_map_row : List ℕ → ℕ → EventMapRow
event_map_row m r = record { parent = token_in m EVENT_MAP 0 r; event_list_first = number_in m EVENT_MAP 1 r; event_list_end = run_end m EVENT_MAP 1 EVENT r }

unfoldable pub event_row : List ℕ → ℕ → EventRow
event_row m r = record { event_flags = number_in m EVENT 0 r; name = text_in m EVENT 1 r; event_type = token_in m EVENT 2 r }

unfoldable pub property_map_row : List ℕ → ℕ → PropertyMapRow
property_map_row m r = record { parent = token_in m PROPERTY_MAP 0 r; property_list_first = number_in m PROPERTY_MAP 1 r; property_list_end = run_end m PROPERTY_MAP 1 PROPERTY r }

unfoldable pub property_row : List ℕ → ℕ → PropertyRow
property_row m r = record { flags = number_in m PROPERTY 0 r; name = text_in m PROPERTY 1 r; signature = known_of (property_of_blob (blob_in m PROPERTY 2 r)) }

unfoldable pub method_semantics_row : List ℕ → ℕ → MethodSemanticsRow
method_semantics_row m r = record { semantics = number_in m METHOD_SEMANTICS 0 r; method = token_in m METHOD_SEMANTICS 1 r; association = token_in m METHOD_SEMANTICS 2 r }

unfoldable pub method_impl_row : List ℕ → ℕ → MethodImplRow
method_impl_row m r = record { class = token_in m METHOD_IMPL 0 r; body = token_in m METHOD_IMPL 1 r; declaration = token_in m METHOD_IMPL 2 r }

unfoldable pub method_spec_row : List ℕ → ℕ → MethodSpecRow
method_spec_row m r = record { method = token_in m METHOD_SPEC 0 r; instantiation = known_of (instance_of_blob (blob_in m METHOD_SPEC 1 r)) }
