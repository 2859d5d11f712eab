use Rattle.std.proofs.Common.{◌∙◌}
use Rattle.machine_objects.proofs.lemmas.cil_fields.Kept.{kept}
use Rattle.machine_objects.proofs.cil_fields.static_fields.puts_global.Goals as goal

pub returns : goal.returns
returns c = λ vs.
    c.goes.ensures ∙ kept c.args.body.now c.args.i.now c.args.st.now c.with_global.new.st c.args.a.now.id c.args.a.now.owner c.args.w.now vs c.in_ok-with_global.ensures
