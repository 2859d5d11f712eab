-- Everything that an example computes with, opened by one name.
use Rattle.std.specs.Int.{int_wrap}
use Rattle.il_base.specs.declared.world_model.expr.TypeExpr as TypeExpr
use Rattle.il_base.specs.declared.sig.Sig as SigType
use denote.Hole.Carrier as Carrier
use Rattle.rules.specs.view_rules.Members as Members
use Rattle.rules.specs.view_rules.Code as Code
use Rattle.rules.specs.view_rules.Methods as Methods
use Rattle.rules.specs.view_rules.Layouts as Layouts
use Rattle.rules.specs.view_rules.Answers as Answers
use Rattle.rules.specs.step_rules.Closing as StepClosing
use Rattle.rules.specs.step_rules.Stores as StepStores
use Rattle.rules.specs.step_rules.Integers as StepIntegers
use Rattle.rules.specs.type_rules.Searches as TypeSearches
use Rattle.rules.specs.type_rules.Initializers as TypeInitializers
use Rattle.rules.specs.type_rules.Dispatch as TypeDispatch
use Rattle.rules.specs.mark_rules.Places as MarkPlaces
use Rattle.rules.specs.mark_rules.Naming as MarkNaming
use Rattle.rules.specs.mark_rules.Members as MarkMembers
use Rattle.rules.specs.mark_rules.Attributes as MarkAttributes
use Rattle.rules.specs.link_rules.Types as LinkTypes
use Rattle.rules.specs.link_rules.Signatures as LinkSignatures
use Rattle.rules.specs.link_rules.Members as LinkMembers
use Rattle.rules.specs.link_rules.Cycles as LinkCycles
use Rattle.rules.specs.link_rules.Faults as LinkFaults
use Rattle.rules.specs.type_rules.Rows as TypeRows
use Rattle.rules.specs.type_rules.Texts as TypeTexts
use Rattle.rules.specs.type_rules.Slots as TypeSlots
use Rattle.il_base.specs.world_model.Core as WorldmodelCore
use Rattle.il_base.specs.world_model.Worlds as WorldmodelWorlds
use Rattle.il_base.specs.world_model.Exprs as WorldmodelExprs

unfoldable pub opened : Unit {0}
unfolding int_wrap Members.core_call Members.core_type_row Members.object_method Code.instruction_of Code.clause_of Code.code_of Methods.method_query Methods.field_query Methods.head_query Layouts.shape_within Layouts.shape_query Layouts.cells_query Answers.answers_query Answers.queries_of StepClosing.is_void StepClosing.closed_return StepClosing.closed_slot StepClosing.closed_cell_by StepClosing.closed StepClosing.closed_element StepClosing.closed_signature StepClosing.callee_of StepClosing.closed_method_use StepClosing.closed_use StepClosing.accessed_use StepClosing.closed_field StepStores.parts_of StepStores.fits StepStores.all_fit StepStores.zero_of StepStores.is_reference StepStores.is_value StepStores.access_of StepStores.element_access StepStores.allows StepStores.loaded StepStores.stored StepIntegers.low StepIntegers.fits_signed StepIntegers.width_of StepIntegers.cut StepIntegers.number StepIntegers.worth StepIntegers.held_number StepIntegers.shown TypeSearches.nested_along TypeSearches.type_along TypeSearches.find_type TypeSearches.fields_found TypeSearches.overrides TypeSearches.methods_found TypeSearches.properties_found TypeSearches.events_found TypeSearches.members_named TypeInitializers.is_void TypeInitializers.initializer TypeDispatch.impl_in TypeDispatch.slot_in TypeDispatch.class_dispatch TypeDispatch.implied TypeDispatch.chosen TypeDispatch.interface_method TypeDispatch.interface_dispatch TypeDispatch.dispatch MarkPlaces.row_of MarkPlaces.is_core MarkNaming.types_in MarkNaming.method_named MarkNaming.field_named MarkMembers.constructors_by MarkMembers.methods_by MarkMembers.fields_by MarkMembers.properties_of_type MarkMembers.events_of_type MarkMembers.properties_by MarkMembers.events_by MarkMembers.whole_within MarkMembers.nested_by MarkMembers.impls_by MarkMembers.members_by MarkAttributes.attributes_of MarkAttributes.enum_size MarkAttributes.path_within MarkAttributes.enums_from MarkAttributes.is_core_ref_within MarkAttributes.kind_of MarkAttributes.value_of MarkAttributes.arg_types MarkAttributes.value_types MarkAttributes.attribute_needs LinkTypes.assembly_named LinkTypes.encloser LinkTypes.type_in LinkTypes.forwarded_to LinkTypes.top_type LinkTypes.ends_at LinkTypes.ref_type LinkTypes.ref_definition LinkTypes.added_type LinkTypes.definition_at LinkTypes.added_by LinkSignatures.definition_expr LinkSignatures.named_type LinkSignatures.token_type LinkSignatures.method_type LinkSignatures.subst_method LinkSignatures.same_method_type LinkMembers.home_from LinkMembers.owner_of LinkMembers.args_of LinkMembers.is_named LinkMembers.base_of LinkMembers.bases_from LinkMembers.type_count LinkMembers.method_of_type LinkMembers.field_of_type LinkMembers.search LinkMembers.open_parent LinkMembers.find_method LinkMembers.find_field LinkMembers.param_count LinkMembers.own_type LinkMembers.method_def_use LinkMembers.field_def_use LinkMembers.method_ref_use LinkMembers.field_ref_use LinkMembers.generic_method LinkMembers.method_spec_use LinkCycles.led_to LinkCycles.is_on_cycle LinkCycles.is_interface LinkCycles.interfaces_at LinkCycles.base_rows LinkCycles.interface_rows LinkCycles.is_value_type LinkCycles.values_in LinkCycles.field_values LinkFaults.duplicate_assembly LinkFaults.is_cyclic_type LinkFaults.cyclic_types LinkFaults.cyclic_nesting LinkFaults.first_repeat LinkFaults.repeated_type LinkFaults.repeated_field LinkFaults.repeated_method LinkFaults.duplicate_member LinkFaults.link_fault TypeRows.methods_of_type TypeRows.fields_of_type TypeTexts.row_name TypeTexts.definition_text TypeTexts.text TypeSlots.match_in TypeSlots.nearest TypeSlots.inherited TypeSlots.slot_within TypeSlots.slot_of WorldmodelCore.is_core_name WorldmodelWorlds.rows_before WorldmodelWorlds.type_row WorldmodelWorlds.method_row WorldmodelWorlds.field_row WorldmodelWorlds.link_place WorldmodelWorlds.type_link_at WorldmodelWorlds.added_link_at WorldmodelWorlds.method_at WorldmodelWorlds.field_at WorldmodelWorlds.prims WorldmodelWorlds.prim_of WorldmodelWorlds.core_types WorldmodelWorlds.prim_type WorldmodelWorlds.named_in WorldmodelWorlds.definition_of WorldmodelWorlds.definition_named WorldmodelWorlds.modifier_named WorldmodelWorlds.sig_expr WorldmodelWorlds.expr_by WorldmodelExprs.same_exprs TypeExpr.out-TypeExpr TypeExpr.roll-TypeExpr SigType.out-Sig SigType.roll-Sig Carrier.out
opened = tt
