-- What may have an annotation, as the definitions have it.
use Rattle.rules.specs.mark_rules.Annotations as rules
use Rattle.site_kinds.specs.declared.annotation_flags.holder.Holder.{Holder}
use Rattle.site_kinds.specs.declared.annotation_flags.holder.Holder.TheVariants as holder

abbrev pub holder_told : Holder → rules.Holder
holder_told (holder.Parameter at n) = rules.Holder.parameter at n
holder_told (holder.Return at) = rules.Holder.return_value at
holder_told (holder.Field at) = rules.Holder.field at
holder_told (holder.TypeParameter at n) = rules.Holder.type_parameter at n
holder_told (holder.MethodParameter at n) = rules.Holder.method_parameter at n
