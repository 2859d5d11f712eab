use Rattle.rules.proofs.lemmas.view_rules.Computed as computed
use Rattle.rules.proofs.view_rules.shapes.Goals as goal

pub returns-clause-class_shape : goal.returns-clause-class_shape
returns-clause-class_shape c = computed.class_shape

pub returns-clause-struct_shape : goal.returns-clause-struct_shape
returns-clause-struct_shape c = computed.struct_shape

pub returns-clause-enum_shape : goal.returns-clause-enum_shape
returns-clause-enum_shape c = computed.enum_shape

pub returns-clause-enum_of_enum : goal.returns-clause-enum_of_enum
returns-clause-enum_of_enum c = computed.enum_of_enum

pub returns-clause-too_deep : goal.returns-clause-too_deep
returns-clause-too_deep c = computed.too_deep

pub returns-clause-number : goal.returns-clause-number
returns-clause-number c = computed.number
