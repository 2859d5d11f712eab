use Rattle.std.proofs.Common.{length, refl}
use Rattle.token_keys.proofs.lemmas.copied_attributes.Walk.{found, not_found}
use Rattle.token_keys.proofs.copied_attributes.references.ref_step.Goals as goal

pub returns-in-Some : goal.returns-in-Some
returns-in-Some c =
    λ outer. found c.args.index.now.all.now c.args.a c.args.rec.now c.requires.stands c.args.k c.in_ok-def.def c.in-Some.def (length c.args.index.now.all.now) outer c.in_ok-def.ensures c.in-Some.is refl

pub returns-in-None : goal.returns-in-None
returns-in-None c =
    λ outer. not_found c.args.index.now.all.now c.args.a c.args.rec.now c.requires.stands c.args.k c.in_ok-def.def c.scope_step.result outer c.in_ok-def.ensures c.in-None.is c.scope_step.ensures
