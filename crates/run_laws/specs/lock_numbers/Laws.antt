-- The laws on numbers and branches.
use Rattle.rules.specs.step_rules.Branches.{branch, branch_if, switch}
use Rattle.rules.specs.step_rules.Numbers.{binary, unary, convert}
use Rattle.rules.specs.change_rules.Lock.{FormLocks}

pub record NumbersLock : Type 0 where
  pub branch : FormLocks branch
  pub branch_if : FormLocks branch_if
  pub switch : FormLocks switch
  pub binary : FormLocks binary
  pub unary : FormLocks unary
  pub convert : FormLocks convert
