use Rattle.std.proofs.Common.{ap, ◌∙◌}
use Rattle.std.proofs.lemmas.Result.{on_ok_weaker}
use Rattle.link_faults.specs.Values.{held_in}
use Rattle.link_faults.proofs.HeldLayers.{none_held, not_flagged, inst_not_held, inst_held, held_prim, held_def, held_array, held_by_ref, held_var, held_mvar}
use Rattle.link_faults.proofs.held.+holding.Goals as goal

pub add_held-returns-else-has_flag : goal.add_held-returns-else-has_flag
add_held-returns-else-has_flag t c =
    none_held _ _ (ap (held_in c.args.values.now) c.in-Def.is ∙ held_def c.args.values.now c.in-Def.id ∙ not_flagged c.args.values.now c.in-Def.id.0 c.if-has_flag.ensures)

pub add_held-returns-in_ok-push-in-Inst : goal.add_held-returns-in_ok-push-in-Inst
add_held-returns-in_ok-push-in-Inst t c =
    on_ok_weaker c.add_all_held.result
    (λ e. rw c.in-Inst.is (inst_held c.args.values.now c.in-Inst.id c.in-Inst.args c.as_slice.result.now c.args.held.now c.push-then-has_flag-2.new.self c.add_all_held.new.held c.if-has_flag-2.ensures c.in_ok-push-in-Inst.ensures.ok c.as_slice.ensures e))
    c.add_all_held.ensures

pub add_held-returns-else-has_flag-2 : goal.add_held-returns-else-has_flag-2
add_held-returns-else-has_flag-2 t c =
    none_held _ _ (ap (held_in c.args.values.now) c.in-Inst.is ∙ inst_not_held c.args.values.now c.in-Inst.id c.in-Inst.args c.if-has_flag-2.ensures)

pub add_held-returns-in-Prim : goal.add_held-returns-in-Prim
add_held-returns-in-Prim t c = none_held _ _ (ap (held_in c.args.values.now) c.in-Prim.is ∙ held_prim c.args.values.now c.in-Prim.field-0)

pub add_held-returns-in-Array : goal.add_held-returns-in-Array
add_held-returns-in-Array t c = none_held _ _ (ap (held_in c.args.values.now) c.in-Array.is ∙ held_array c.args.values.now c.in-Array.field-0)

pub add_held-returns-in-ByRef : goal.add_held-returns-in-ByRef
add_held-returns-in-ByRef t c = none_held _ _ (ap (held_in c.args.values.now) c.in-ByRef.is ∙ held_by_ref c.args.values.now c.in-ByRef.field-0)

pub add_held-returns-in-Var : goal.add_held-returns-in-Var
add_held-returns-in-Var t c = none_held _ _ (ap (held_in c.args.values.now) c.in-Var.is ∙ held_var c.args.values.now c.in-Var.field-0)

pub add_held-returns-in-MVar : goal.add_held-returns-in-MVar
add_held-returns-in-MVar t c = none_held _ _ (ap (held_in c.args.values.now) c.in-MVar.is ∙ held_mvar c.args.values.now c.in-MVar.field-0)
