-- The rows that belong to members (II.22). `bs` are the bytes of the file, `m` those of its metadata; rows are counted from 1.
use Rattle.std.specs.Prelude.{ℕ, List}
use Rattle.il_base.specs.declared.table.TheConstants.{CONSTANT, CUSTOM_ATTRIBUTE, FIELD_MARSHAL, DECL_SECURITY, FIELD_LAYOUT, IMPL_MAP, FIELD_RVA, FILE, MANIFEST_RESOURCE}
use Rattle.il_base.specs.declared.world_model.types.ClassLayoutRow.{ClassLayoutRow}
use Rattle.il_base.specs.declared.world_model.members.FieldRow.{FieldRow}
use Rattle.il_base.specs.declared.world_model.extras.ConstantRow.{ConstantRow}
use Rattle.il_base.specs.declared.world_model.extras.CustomAttributeRow.{CustomAttributeRow}
use Rattle.il_base.specs.declared.world_model.extras.FieldMarshalRow.{FieldMarshalRow}
use Rattle.il_base.specs.declared.world_model.extras.DeclSecurityRow.{DeclSecurityRow}
use Rattle.il_base.specs.declared.world_model.extras.FieldLayoutRow.{FieldLayoutRow}
use Rattle.il_base.specs.declared.world_model.extras.FieldRvaRow.{FieldRvaRow}
use Rattle.il_base.specs.declared.world_model.extras.ImplMapRow.{ImplMapRow}
use Rattle.il_base.specs.declared.world_model.extras.ManifestResourceRow.{ManifestResourceRow}
use Rattle.il_base.specs.declared.world_model.extras.FileRow.{FileRow}
use Rattle.rules.specs.record_format.Cells.{number_in, text_in, blob_in, token_in}
use Rattle.rules.specs.record_format.Parts.{bytes_by, size_by}

-- the padding beside the type isn't looked at
unfoldable pub constant_row : List ℕ → ℕ → ConstantRow
constant_row m r = record { kind = number_in m CONSTANT 0 r; parent = token_in m CONSTANT 2 r; value = blob_in m CONSTANT 3 r }

unfoldable pub custom_attribute_row : List ℕ → ℕ → CustomAttributeRow
custom_attribute_row m r = record { parent = token_in m CUSTOM_ATTRIBUTE 0 r; ctor = token_in m CUSTOM_ATTRIBUTE 1 r; value = blob_in m CUSTOM_ATTRIBUTE 2 r }

unfoldable pub field_marshal_row : List ℕ → ℕ → FieldMarshalRow
field_marshal_row m r = record { parent = token_in m FIELD_MARSHAL 0 r; native_type = blob_in m FIELD_MARSHAL 1 r }

unfoldable pub decl_security_row : List ℕ → ℕ → DeclSecurityRow
decl_security_row m r = record { action = number_in m DECL_SECURITY 0 r; parent = token_in m DECL_SECURITY 1 r; permission_set = blob_in m DECL_SECURITY 2 r }

unfoldable pub field_layout_row : List ℕ → ℕ → FieldLayoutRow
field_layout_row m r = record { offset = number_in m FIELD_LAYOUT 0 r; field = token_in m FIELD_LAYOUT 1 r }

unfoldable pub impl_map_row : List ℕ → ℕ → ImplMapRow
impl_map_row m r = record {
  mapping_flags = number_in m IMPL_MAP 0 r;
  member_forwarded = token_in m IMPL_MAP 1 r;
  import_name = text_in m IMPL_MAP 2 r;
  import_scope = token_in m IMPL_MAP 3 r;
}

-- the FieldRVA row, by the rows of ClassLayout and of Field, which say how many bytes a field has
unfoldable pub field_rva_row : List ℕ → List ℕ → List ClassLayoutRow → List FieldRow → ℕ → FieldRvaRow
field_rva_row bs m layouts fields r = record {
  rva = number_in m FIELD_RVA 0 r;
  field = token_in m FIELD_RVA 1 r;
  bytes = bytes_by bs (number_in m FIELD_RVA 0 r) (size_by layouts fields (token_in m FIELD_RVA 1 r));
}

unfoldable pub file_row : List ℕ → ℕ → FileRow
file_row m r = record { flags = number_in m FILE 0 r; name = text_in m FILE 1 r; hash_value = blob_in m FILE 2 r }

unfoldable pub manifest_resource_row : List ℕ → ℕ → ManifestResourceRow
manifest_resource_row m r = record {
  offset = number_in m MANIFEST_RESOURCE 0 r;
  flags = number_in m MANIFEST_RESOURCE 1 r;
  name = text_in m MANIFEST_RESOURCE 2 r;
  implementation = token_in m MANIFEST_RESOURCE 3 r;
}
