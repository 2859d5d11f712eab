-- The laws on forms and on closed types.
use Rattle.std.specs.Prelude.{◌≡◌, ℕ, List, Some, IsTrue}
use Rattle.il_base.specs.declared.world_model.expr.TypeExpr.{TypeExpr}
use Rattle.il_base.specs.world_model.Exprs.{subst}
use Rattle.rules.specs.step_rules.Closing.{plain}
use Rattle.rules.specs.step_rules.Frames.{definition_of}
use Rattle.rules.specs.step_rules.Slots.{nop, load_null, duplicate, pop, load_int32, load_int64, load_arg, load_local, address_arg, address_local, store_arg, store_local}
use Rattle.rules.specs.change_rules.Change.{Keep}
use Rattle.rules.specs.change_rules.Keeps.{makes_expr, news_expr, begins_expr}
use Rattle.rules.specs.change_rules.Lock.{FormLocks}

-- arguments, locals, constants, the evaluation stack
pub record SlotsLock : Type 0 where
  pub nop : FormLocks nop
  pub load_null : FormLocks load_null
  pub load_int32 : FormLocks load_int32
  pub load_int64 : FormLocks load_int64
  pub duplicate : FormLocks duplicate
  pub pop : FormLocks pop
  pub load_arg : FormLocks load_arg
  pub load_local : FormLocks load_local
  pub address_arg : FormLocks address_arg
  pub address_local : FormLocks address_local
  pub store_arg : FormLocks store_arg
  pub store_local : FormLocks store_local

-- with arguments put in, and without modifiers
abbrev pub MadeStay : Type 0
MadeStay = (k : Keep) (targs margs : List TypeExpr) (e : TypeExpr) → IsTrue (news_expr k e) → IsTrue (makes_expr k (plain (subst targs margs e)))

abbrev pub BegunStay : Type 0
BegunStay = (k : Keep) (targs margs : List TypeExpr) (e : TypeExpr) (t : ℕ) → IsTrue (begins_expr k e) → definition_of (plain (subst targs margs e)) ≡ Some t → IsTrue (k.begun t)
