-- The laws on fields and texts.
use Rattle.rules.specs.step_rules.Texts.{load_string}
use Rattle.rules.specs.step_rules.Fields.{field_form}
use Rattle.rules.specs.change_rules.Lock.{FormLocks}

pub record FieldsLock : Type 0 where
  pub load_string : FormLocks load_string
  pub field_form : FormLocks field_form
