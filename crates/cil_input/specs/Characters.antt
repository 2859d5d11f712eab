-- Characters as the definition has them.
use Rattle.rules.specs.step_rules.Input.{Decoded}
use Rattle.cil_input.specs.declared.character.Character as code

abbrev pub decoded_by : code.Character → Decoded
decoded_by c = record { char = c.code; more = c.more }
