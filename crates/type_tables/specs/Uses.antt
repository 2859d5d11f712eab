-- The method that a MethodDef or MemberRef token names.
use Rattle.std.specs.Prelude.{ℕ, List, Option, slice_get}
use Rattle.std.specs.Option.{option_and_then}
use Rattle.il_base.specs.declared.world_model.record.AsmRec.{AsmRec}
use Rattle.il_base.specs.declared.world_model.expr.MethodUse.{MethodUse}
use Rattle.rules.specs.link_rules.Members.{generic_method}
use Rattle.rules.specs.type_rules.Dispatch.{good_use}

-- the method that a token of an assembly names; any other token names none
abbrev pub use_in : List AsmRec → ℕ → ℕ → Option MethodUse
use_in recs a token = option_and_then (λ rec. good_use (generic_method recs a rec token)) (slice_get recs a)
