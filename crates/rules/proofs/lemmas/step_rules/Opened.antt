-- Everything that an example computes with, opened by one name.
use Rattle.std.specs.Int.{int_wrap}
use Rattle.std.specs.Str.{chars}
use Rattle.std.specs.Char.Utf16.{utf16_chars}
use Rattle.il_base.specs.declared.world_model.expr.TypeExpr as TypeExpr
use Rattle.il_base.specs.declared.cil_values.value.Value as ValueType
use denote.Hole.Carrier as Carrier
use lib.Utf8 as Utf8
use Rattle.rules.specs.step_rules.Arrays as Arrays
use Rattle.rules.specs.step_rules.Branches as Branches
use Rattle.rules.specs.step_rules.Calls as Calls
use Rattle.rules.specs.step_rules.Closing as Closing
use Rattle.rules.specs.step_rules.Comparisons as Comparisons
use Rattle.rules.specs.step_rules.Core as Core
use Rattle.rules.specs.step_rules.CoreArrays as CoreArrays
use Rattle.rules.specs.step_rules.CoreConsole as CoreConsole
use Rattle.rules.specs.step_rules.CoreFields as CoreFields
use Rattle.rules.specs.step_rules.CoreInvoking as CoreInvoking
use Rattle.rules.specs.step_rules.CoreMaking as CoreMaking
use Rattle.rules.specs.step_rules.CoreMembers as CoreMembers
use Rattle.rules.specs.step_rules.CoreObjects as CoreObjects
use Rattle.rules.specs.step_rules.CoreTexts as CoreTexts
use Rattle.rules.specs.step_rules.CoreTypes as CoreTypes
use Rattle.rules.specs.step_rules.CoreWords as CoreWords
use Rattle.rules.specs.step_rules.Dispatch as Dispatch
use Rattle.rules.specs.step_rules.Fields as Fields
use Rattle.rules.specs.step_rules.Frames as Frames
use Rattle.rules.specs.step_rules.Indirect as Indirect
use Rattle.rules.specs.step_rules.Input as Input
use Rattle.rules.specs.step_rules.Integers as Integers
use Rattle.rules.specs.step_rules.Numbers as Numbers
use Rattle.rules.specs.step_rules.Objects as Objects
use Rattle.rules.specs.step_rules.Places as Places
use Rattle.rules.specs.step_rules.Raising as Raising
use Rattle.rules.specs.step_rules.Returns as Returns
use Rattle.rules.specs.step_rules.Run as Run
use Rattle.rules.specs.step_rules.Slots as Slots
use Rattle.rules.specs.step_rules.Step as Step
use Rattle.rules.specs.step_rules.Stores as Stores
use Rattle.rules.specs.step_rules.Texts as Texts
use Rattle.rules.specs.step_rules.Throws as Throws
use Rattle.rules.specs.step_rules.Types as Types
use Rattle.rules.specs.step_rules.Words as Words

unfoldable pub opened : Unit {0}
unfolding Arrays.count_of Arrays.new_array_form Arrays.vector_of Arrays.index_in Arrays.load_access Arrays.store_access Arrays.element_form Branches.branch Branches.truth Branches.test_of Branches.branch_if Branches.switch Calls.invoke Calls.begun_for Calls.call Calls.new_object Calls.prefix Closing.is_void Closing.closed_return Closing.closed_slot Closing.closed_cell_by Closing.closed Closing.closed_element Closing.closed_signature Closing.callee_of Closing.closed_method_use Closing.closed_use Closing.accessed_use Closing.closed_field Comparisons.numbers Comparisons.compares Comparisons.same_place Comparisons.compared Comparisons.test Core.simple Core.calls_slot Core.print_object Core.equal_form Core.create_form Core.create_of_form Core.own_member Core.reflected_member Core.calls_for Core.invoke_form Core.property_get_form Core.property_set_form Core.field_form Core.member Core.member_of Core.core_call CoreArrays.array_length_form CoreArrays.elements_of CoreArrays.fill_array_form CoreConsole.printed_bytes CoreConsole.print_form CoreConsole.line_end_form CoreConsole.read_unit_form CoreConsole.line_of CoreConsole.read_line_form CoreMaking.is_open CoreMaking.creates CoreMaking.create_with CoreMaking.create_of_with CoreMembers.member_by CoreInvoking.called_for CoreInvoking.is_refused CoreInvoking.invocable CoreInvoking.args_as CoreInvoking.with_args CoreFields.field_get_form CoreFields.field_set_form CoreObjects.halt CoreObjects.idle_form CoreObjects.type_name_form CoreObjects.same_form CoreObjects.text_of_number CoreObjects.number_text_form CoreObjects.number_is_form CoreObjects.int_equals_form CoreObjects.int_compare_form CoreObjects.exception_text_form CoreObjects.exception_inner_form CoreObjects.exception_parameter_form CoreObjects.get_message_form CoreObjects.get_inner_form CoreTexts.string_length_form CoreTexts.string_unit_form CoreTexts.string_index_form CoreTexts.string_concat_form CoreTexts.string_from_form CoreTexts.string_part_form CoreTexts.string_itself_form CoreTexts.string_same_form CoreTexts.string_other_form CoreTexts.string_is_form CoreTexts.string_is_empty_form CoreTexts.units_order CoreTexts.string_compare_form CoreTexts.digits_from CoreTexts.parsed CoreTexts.int_parse_form CoreTypes.typed_by CoreWords.core_this CoreWords.core_args CoreWords.checked Dispatch.dispatched Dispatch.found_from Dispatch.this_for Fields.static_type Fields.with_static Fields.struct_cell Fields.field_place Fields.field_form Frames.zero_locals Frames.enter Frames.definition_of Frames.head_of Frames.initializer Frames.init_of Frames.started Indirect.through Indirect.load_access Indirect.store_access Indirect.indirect Input.char_at Input.decoded_after Integers.low Integers.fits_signed Integers.width_of Integers.cut Integers.number Integers.worth Integers.held_number Integers.shown Numbers.arithmetic Numbers.shift_count Numbers.shifted Numbers.shift Numbers.comparison Numbers.binary Numbers.unary_of Numbers.unary Numbers.conversion Numbers.operand_of Numbers.has_number Numbers.converted Numbers.convert Objects.type_of Objects.units_of_bytes Objects.bytes_of_units Objects.made_text Objects.text_object Objects.interned Objects.own_message Objects.parameter_message Objects.default_message Objects.message_of Objects.new_exception Objects.wrapping Places.cell_place Places.cell_of Places.with_cell Places.value_in Places.put_in Places.frame_with Places.with_frame Places.has_ended Places.global_of Places.with_global Places.place_value Places.with_place Places.at_place Places.put_at Raising.places_of Raising.still_running Raising.handler_begins Raising.left_in Raising.unwind_to Raising.clause_for Raising.found_in Raising.wrapper Raising.search Raising.throw Raising.raise Returns.returned Returns.entry_begins Returns.return Run.run Run.beginning Run.run_from Slots.this_type Slots.arg_type Slots.local_type Slots.load_arg Slots.load_local Slots.address_arg Slots.address_local Slots.store_arg Slots.store_local Slots.nop Slots.load_null Slots.load_int32 Slots.load_int64 Slots.duplicate Slots.pop Step.effect Step.execute Step.step Stores.parts_of Stores.fits Stores.all_fit Stores.zero_of Stores.is_reference Stores.is_value Stores.access_of Stores.element_access Stores.allows Stores.loaded Stores.stored Texts.load_string Throws.innermost_from Throws.reason_of Throws.throw_form Throws.may_leave Throws.crossed Throws.leave_through Throws.leave Throws.end_finally Types.cast Types.box Types.unbox Types.closed_handle Types.load_token Words.taken Words.args_of Words.here_of Words.instruction_at Words.may_go Words.branches Words.goes_with int_wrap chars utf16_chars TypeExpr.out-TypeExpr TypeExpr.roll-TypeExpr ValueType.out-Value ValueType.roll-Value Carrier.out Utf8.encode
opened = tt
