-- The law on members of the core library: all but those that search.
use Rattle.std.specs.Prelude.{◌≡◌, false}
use Rattle.il_base.specs.declared.cil_values.core_call.CoreCall.{CoreCall}
use Rattle.rules.specs.step_rules.Core.{member}
use Rattle.rules.specs.step_rules.CoreSearches.{searches}
use Rattle.rules.specs.change_rules.Lock.{CoreLocks}

abbrev pub MembersLock : Type 0
MembersLock = (c : CoreCall) → searches c ≡ false → CoreLocks (member c)
