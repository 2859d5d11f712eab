use Rattle.std.proofs.Common.{sym, ◌∙◌}
use Rattle.token_keys.proofs.lemmas.type_numbers.Prims.{prim_none, prim_some}
use Rattle.token_keys.proofs.type_numbers.numbers.number_of_prim.Goals as goal

pub returns-in_ok-number-in-Ok-Some : goal.returns-in_ok-number-in-Ok-Some
returns-in_ok-number-in-Ok-Some c = c.in_ok-number-in-Ok-Some.ensures ∙ prim_some c.args.recs.now c.args.code c.in-Ok-Some.id (sym c.in-Ok-Some.ensures.ok ∙ c.in-Ok-Some.field-0-is)

pub returns-in-Ok-None : goal.returns-in-Ok-None
returns-in-Ok-None c = prim_none c.args.recs.now c.args.code (sym c.in-Ok-None.ensures.ok ∙ c.in-Ok-None.field-0-is)
