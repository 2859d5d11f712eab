-- Accesses as the code has them.
use Rattle.rules.specs.step_rules.Stores as stores
use Rattle.machine_words.specs.declared.cil_stores.access.Access.{Access}
use Rattle.machine_words.specs.declared.cil_stores.access.Access.TheVariants.{ByCode, ByReference, ByType}

-- which places an instruction takes
abbrev pub access_in : Access → stores.Access
access_in (ByCode code) = stores.by_code code
access_in ByReference = stores.by_reference
access_in (ByType e) = stores.by_type e
