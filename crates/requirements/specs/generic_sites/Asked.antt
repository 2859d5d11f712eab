-- What generic parameters of types and methods ask for.
use Rattle.std.specs.Prelude.{ℕ, List}
use Rattle.il_base.specs.declared.world_model.record.AsmRec.{AsmRec}
use Rattle.rules.specs.declared.site_rules.target.Target.{Target}
use Rattle.rules.specs.declared.site_rules.target.Target.TheVariants as target
use Rattle.rules.specs.site_rules.Kinds.{type_kinds, method_kinds}
use Rattle.requirements.specs.declared.generic_sites.arguments.Generic.{Generic}
use Rattle.requirements.specs.declared.generic_sites.arguments.Generic.TheVariants as generic

abbrev pub target_of : Generic → ℕ → Target
target_of (generic.Type t) k = target.TypeArg t k
target_of (generic.Method m) k = target.MethodArg m k

abbrev pub asked_kinds : List AsmRec → Generic → ℕ → ℕ
asked_kinds recs (generic.Type t) k = type_kinds recs t k
asked_kinds recs (generic.Method m) k = method_kinds recs m k
