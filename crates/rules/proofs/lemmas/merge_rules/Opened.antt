-- Everything that an example computes with, opened by one name.
use Rattle.il_base.specs.declared.world_model.expr.TypeExpr as TypeExpr
use Rattle.il_base.specs.declared.sig.Sig as SigType
use denote.Hole.Carrier as Carrier
use Rattle.rules.specs.merge_rules.Numbers as Numbers
use Rattle.rules.specs.merge_rules.Names as Names
use Rattle.rules.specs.merge_rules.Absent as Absent
use Rattle.rules.specs.merge_rules.Keys as Keys
use Rattle.rules.specs.merge_rules.Order as Order
use Rattle.rules.specs.merge_rules.Refs as Refs
use Rattle.rules.specs.merge_rules.Sorted as Sorted
use Rattle.rules.specs.merge_rules.Rows as Rows
use Rattle.rules.specs.merge_rules.Attributes as Attributes
use Rattle.rules.specs.merge_rules.Moved as Moved
use Rattle.rules.specs.merge_rules.Restricted as Restricted
use Rattle.rules.specs.mark_rules.Places as MarkPlaces
use Rattle.rules.specs.mark_rules.Naming as MarkNaming
use Rattle.rules.specs.mark_rules.Members as MarkMembers
use Rattle.rules.specs.mark_rules.Attributes as MarkAttributes
use Rattle.rules.specs.link_rules.Types as LinkTypes
use Rattle.rules.specs.link_rules.Signatures as LinkSignatures
use Rattle.rules.specs.link_rules.Members as LinkMembers
use Rattle.rules.specs.link_rules.Cycles as LinkCycles
use Rattle.rules.specs.link_rules.Faults as LinkFaults
use Rattle.rules.specs.type_rules.Rows as TypeRows
use Rattle.rules.specs.type_rules.Texts as TypeTexts
use Rattle.rules.specs.type_rules.Slots as TypeSlots
use Rattle.il_base.specs.world_model.Core as WorldmodelCore
use Rattle.il_base.specs.world_model.Worlds as WorldmodelWorlds
use Rattle.il_base.specs.world_model.Exprs as WorldmodelExprs
use Rattle.rules.specs.file_layout.Bytes as FilelayoutBytes
use Rattle.rules.specs.file_layout.Bodies as FilelayoutBodies
use Rattle.rules.specs.file_layout.Heaps as FilelayoutHeaps
use Rattle.rules.specs.file_layout.Interning as FilelayoutInterning
use Rattle.rules.specs.file_layout.Image as FilelayoutImage
use Rattle.il_base.specs.cli_format.Tokens as CliformatTokens
use Rattle.il_base.specs.body_grammar.BodySpelling as BodygrammarBodySpelling
use Rattle.il_base.specs.body_grammar.Opcodes as BodygrammarOpcodes

unfoldable pub opened : Unit {0}
unfolding Numbers.kept_types Numbers.kept_methods Numbers.kept_fields Numbers.kept_properties Numbers.kept_events Numbers.kept_impls Names.new_names Names.collision Absent.reads_same Absent.absent_type Absent.absent_row Keys.class_number Keys.world_sig Keys.made_sig Keys.same_sig Keys.same_sigs Keys.type_key Keys.expr_key Keys.method_key Keys.field_key Keys.instance_key Order.met_by_types Refs.numbers_in Refs.scope_type Refs.with_scopes Refs.type_refs Refs.type_specs Refs.member_refs Refs.method_specs Refs.locals_sigs Refs.scope_of Refs.assembly_refs Refs.type_token Refs.key_token Refs.method_token Refs.field_token Refs.instance_token Refs.locals_token Refs.new_sig Refs.type_ref_rows Refs.type_spec_rows Refs.member_ref_rows Refs.method_spec_rows Refs.locals_rows Sorted.put_all Rows.run_at Rows.kept_params Rows.kept_interfaces Rows.kept_generic_params Rows.kept_constraints Rows.kept_row_token Attributes.may_refer Attributes.constructor_key Attributes.kept_attributes Attributes.met_by_attributes Moved.moved_type Moved.moved_callee Moved.moved_field Moved.kept_texts Moved.moved_locals Moved.moved_body Restricted.with_rvas Restricted.placed_bytes Restricted.output_of Restricted.restricted MarkPlaces.row_of MarkPlaces.is_core MarkNaming.types_in MarkNaming.method_named MarkNaming.field_named MarkMembers.constructors_by MarkMembers.methods_by MarkMembers.fields_by MarkMembers.properties_of_type MarkMembers.events_of_type MarkMembers.properties_by MarkMembers.events_by MarkMembers.whole_within MarkMembers.nested_by MarkMembers.impls_by MarkMembers.members_by MarkAttributes.attributes_of MarkAttributes.enum_size MarkAttributes.path_within MarkAttributes.enums_from MarkAttributes.kind_of MarkAttributes.value_of MarkAttributes.arg_types MarkAttributes.value_types MarkAttributes.attribute_needs LinkTypes.assembly_named LinkTypes.encloser LinkTypes.type_in LinkTypes.forwarded_to LinkTypes.top_type LinkTypes.ends_at LinkTypes.ref_type LinkTypes.ref_definition LinkTypes.added_type LinkTypes.definition_at LinkTypes.added_by LinkSignatures.definition_expr LinkSignatures.named_type LinkSignatures.token_type LinkSignatures.method_type LinkSignatures.subst_method LinkSignatures.same_method_type LinkMembers.home_from LinkMembers.owner_of LinkMembers.args_of LinkMembers.is_named LinkMembers.base_of LinkMembers.bases_from LinkMembers.type_count LinkMembers.method_of_type LinkMembers.field_of_type LinkMembers.search LinkMembers.open_parent LinkMembers.find_method LinkMembers.find_field LinkMembers.param_count LinkMembers.own_type LinkMembers.method_def_use LinkMembers.field_def_use LinkMembers.method_ref_use LinkMembers.field_ref_use LinkMembers.generic_method LinkMembers.method_spec_use LinkCycles.led_to LinkCycles.is_on_cycle LinkCycles.is_interface LinkCycles.interfaces_at LinkCycles.base_rows LinkCycles.interface_rows LinkCycles.is_value_type LinkCycles.values_in LinkCycles.field_values LinkFaults.duplicate_assembly LinkFaults.is_cyclic_type LinkFaults.cyclic_types LinkFaults.cyclic_nesting LinkFaults.first_repeat LinkFaults.repeated_type LinkFaults.repeated_field LinkFaults.repeated_method LinkFaults.duplicate_member LinkFaults.link_fault TypeRows.methods_of_type TypeRows.fields_of_type TypeTexts.row_name TypeTexts.definition_text TypeTexts.text TypeSlots.match_in TypeSlots.nearest TypeSlots.inherited TypeSlots.slot_within TypeSlots.slot_of WorldmodelCore.is_core_name WorldmodelWorlds.rows_before WorldmodelWorlds.type_row WorldmodelWorlds.method_row WorldmodelWorlds.field_row WorldmodelWorlds.link_place WorldmodelWorlds.type_link_at WorldmodelWorlds.added_link_at WorldmodelWorlds.method_at WorldmodelWorlds.field_at WorldmodelWorlds.prims WorldmodelWorlds.prim_of WorldmodelWorlds.core_types WorldmodelWorlds.prim_type WorldmodelWorlds.named_in WorldmodelWorlds.definition_of WorldmodelWorlds.definition_named WorldmodelWorlds.modifier_named WorldmodelWorlds.sig_expr WorldmodelWorlds.expr_by WorldmodelExprs.subst WorldmodelExprs.levels WorldmodelExprs.same_expr WorldmodelExprs.same_exprs FilelayoutBytes.aligned FilelayoutBodies.body_behind FilelayoutBodies.code_behind FilelayoutBodies.rvas_behind FilelayoutHeaps.strings_heap FilelayoutHeaps.string_place FilelayoutHeaps.blobs_heap FilelayoutHeaps.blob_place FilelayoutHeaps.guids_heap FilelayoutHeaps.guid_number FilelayoutHeaps.is_special FilelayoutHeaps.user_item FilelayoutHeaps.users_heap FilelayoutHeaps.user_place FilelayoutHeaps.heap_bits FilelayoutInterning.added FilelayoutInterning.added_all FilelayoutInterning.place_among FilelayoutImage.import_bytes FilelayoutImage.jump_bytes FilelayoutImage.cli_header FilelayoutImage.text_section FilelayoutImage.reloc_section FilelayoutImage.dos_bytes FilelayoutImage.coff_bytes FilelayoutImage.optional_bytes FilelayoutImage.directories_bytes FilelayoutImage.section_headers FilelayoutImage.headers_bytes FilelayoutImage.image_bytes CliformatTokens.coded_of BodygrammarBodySpelling.operand_bytes BodygrammarBodySpelling.opcode_bytes BodygrammarBodySpelling.instr_bytes BodygrammarBodySpelling.section_head BodygrammarBodySpelling.header_bytes BodygrammarBodySpelling.IsOperand BodygrammarOpcodes.variables BodygrammarOpcodes.constants BodygrammarOpcodes.branches BodygrammarOpcodes.arithmetic BodygrammarOpcodes.objects BodygrammarOpcodes.arrays BodygrammarOpcodes.indirect BodygrammarOpcodes.kind_of BodygrammarOpcodes.is_float TypeExpr.out-TypeExpr TypeExpr.roll-TypeExpr SigType.out-Sig SigType.roll-Sig Carrier.out
opened = tt
