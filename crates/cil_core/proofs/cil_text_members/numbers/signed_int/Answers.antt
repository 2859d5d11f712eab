use Rattle.std.proofs.Common.{◌∙◌, sym, ap}
use Rattle.std.specs.Prelude.{ℕ, Option}
use Rattle.std.specs.Option.{option_map}
use Rattle.cil_core.specs.cil_text_members.Parsed.{as_int, signed}
use Rattle.cil_core.proofs.lemmas.cil_text_members.Ints.{near}
use Rattle.cil_core.proofs.cil_text_members.numbers.signed_int.Goals as goal

pub returns-in-Some : goal.returns-in-Some
returns-in-Some c =
    λ d e. c.fitting.ensures ∙ ap (λ (x : Option ℕ). as_int (option_map (signed c.args.negative) x)) (sym c.in-Some.is ∙ e) ∙ near c.args.negative d
