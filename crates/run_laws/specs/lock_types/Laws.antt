-- The laws on types and vectors.
use Rattle.il_base.specs.declared.body.Form.TheVariants as form
use Rattle.rules.specs.step_rules.Types.{cast, box, unbox, load_token}
use Rattle.rules.specs.step_rules.Arrays.{new_array_form, element_form}
use Rattle.rules.specs.change_rules.Lock.{FormLocks}
use Rattle.run_laws.specs.lock_types.Forms.{LocksOf}

pub record TypesLock : Type 0 where
  pub cast : FormLocks cast
  pub box : LocksOf form.Box box
  pub unbox : FormLocks unbox
  pub load_token : LocksOf form.LdToken load_token
  pub new_array_form : LocksOf form.NewArr new_array_form
  pub element_form : FormLocks element_form
