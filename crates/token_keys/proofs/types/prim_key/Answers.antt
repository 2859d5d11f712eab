use Rattle.std.proofs.Common.{sym, ◌∙◌}
use Rattle.token_keys.proofs.Prims.{prim_none, prim_some}
use Rattle.token_keys.proofs.types.prim_key.Goals as goal

pub returns-in-Ok-Some : goal.returns-in-Ok-Some
returns-in-Ok-Some c = prim_some c.args.recs.now c.args.code c.in-Ok-Some.id (sym c.in-Ok-Some.ensures.ok ∙ c.in-Ok-Some.field-0-is)

pub returns-in-Ok-None : goal.returns-in-Ok-None
returns-in-Ok-None c = prim_none c.args.recs.now c.args.code (sym c.in-Ok-None.ensures.ok ∙ c.in-Ok-None.field-0-is)
