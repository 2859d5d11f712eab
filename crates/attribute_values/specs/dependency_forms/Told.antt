-- Dependencies as the definitions of marking have them.
use Rattle.rules.specs.mark_rules.Annotations as rules
use Rattle.attribute_values.specs.declared.dependency_forms.dependency.Sought.{Sought}
use Rattle.attribute_values.specs.declared.dependency_forms.dependency.Sought.TheVariants.{OwnType, TypeArgument, TypeText}
use Rattle.attribute_values.specs.declared.dependency_forms.dependency.Dependency.{Dependency}

abbrev pub sought_told : Sought → rules.Sought
sought_told OwnType = rules.own_type
sought_told (TypeArgument text) = rules.type_argument text
sought_told (TypeText text asm) = rules.type_text text asm

abbrev pub dependency_told : Dependency → rules.Dependency
dependency_told d = record { sought = sought_told d.sought; member = d.member; kinds = d.kinds }
