use Rattle.std.proofs.Common.{◌∙◌, sym, ap}
use Rattle.std.specs.Prelude.{Some}
use Rattle.il_base.specs.declared.cil_values.object.Obj.{Obj}
use Rattle.cil_core.proofs.lemmas.cil_console_members.FillLemmas.{object_filled}
use Rattle.cil_core.proofs.cil_console_members.arrays.fill_object.Goals as goal

pub returns : goal.returns
returns g c =
    object_filled c.fill_by-out.result (g.Q.Answers.queries c.args.q.now) c.args.st.now c.fill_by-out.new.st c.args.at c.args.field c.in-Array.of c.in_ok-of.of c.in-Array.cells
    c.len-count.result (sym c.in-Some.ensures.value ∙ ap (λ (o : Obj). Some o) c.in-Array.is) c.in_ok-of.ensures c.len-count.ensures c.fill_by-out.ensures
