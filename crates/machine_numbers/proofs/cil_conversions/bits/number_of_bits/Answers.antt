use Rattle.std.proofs.Common.{◌<◌, ◌^◌, FitsSigned, rules, ap, ◌∙◌}
use Rattle.std.specs.Int.{w64}
use Rattle.std.proofs.lemmas.Int.{to_z-of_z}
use Rattle.rules.specs.step_rules.Integers.{number}
use Rattle.machine_numbers.proofs.lemmas.cil_conversions.Conversions.{number_of_bits}
use Rattle.machine_numbers.proofs.cil_conversions.bits.number_of_bits.Goals as goal

pub returns : goal.returns
returns c =
    let h : c.args.n < 2 ^ 64 = search rules in
    let f : FitsSigned w64 c.cast_signed.result = record { sfits = c.cast_signed.type_inv } in
    c.number.ensures ∙ ap (number c.args.to) (to_z-of_z w64 c.cast_signed.result f ∙ c.cast_signed.ensures) ∙ number_of_bits c.args.to c.args.n h
