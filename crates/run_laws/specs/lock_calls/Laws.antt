-- The laws on calls.
use Rattle.il_base.specs.declared.body.Form.TheVariants as form
use Rattle.rules.specs.step_rules.Calls.{call, new_object, prefix}
use Rattle.rules.specs.step_rules.Returns.{return}
use Rattle.rules.specs.change_rules.Lock.{FormLocks}
use Rattle.run_laws.specs.lock_types.Forms.{LocksOf}

pub record CallsLock : Type 0 where
  pub call : FormLocks call
  pub new_object : LocksOf form.NewObj new_object
  pub prefix : LocksOf form.Prefix prefix
  pub return : FormLocks return
