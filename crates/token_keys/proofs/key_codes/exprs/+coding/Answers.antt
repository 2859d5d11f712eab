use Rattle.std.proofs.Common.{[], ◌∷◌, ◌++◌, ap, ◌∙◌}
use Rattle.il_base.specs.declared.world_model.expr.TypeExpr.{TypeExpr}
use Rattle.link_faults.specs.Codes.{bit, type_code}
use Rattle.link_faults.proofs.CodeLayers.{code_mod, behind, array_added, by_ref_added, inst_added}
use Rattle.token_keys.proofs.key_codes.exprs.+coding.Goals as goal

pub add_expr-returns-in_ok-add_expr-in-Array : goal.add_expr-returns-in_ok-add_expr-in-Array
add_expr-returns-in_ok-add_expr-in-Array t c =
    rw c.in-Array.is (array_added c.args.code.now.items c.push.new.self.items c.add_expr.new.code.items c.in-Array.inner c.get.result.now
    c.in_ok-push-in-Array.ensures.items c.get.ensures c.in_ok-add_expr-in-Array.ensures)

pub add_expr-returns-in_ok-add_expr-in-ByRef : goal.add_expr-returns-in_ok-add_expr-in-ByRef
add_expr-returns-in_ok-add_expr-in-ByRef t c =
    rw c.in-ByRef.is (by_ref_added c.args.code.now.items c.push-in-ByRef.new.self.items c.add_expr-in-ByRef.new.code.items c.in-ByRef.inner c.get-in-ByRef.result.now
    c.in_ok-push-in-ByRef.ensures.items c.get-in-ByRef.ensures c.in_ok-add_expr-in-ByRef.ensures)

pub add_expr-returns-in_ok-add_exprs-in-Inst : goal.add_expr-returns-in_ok-add_exprs-in-Inst
add_expr-returns-in_ok-add_exprs-in-Inst t c =
    rw c.in-Inst.is (inst_added c.args.code.now.items c.add_pair-in-Inst.new.code.items c.add_count.new.code.items c.add_exprs.new.code.items c.in-Inst.id c.len.result c.in-Inst.args c.as_slice.result.now
    c.len.ensures c.in_ok-add_pair-in-Inst.ensures c.in_ok-add_count-in-Inst.ensures c.as_slice.ensures c.in_ok-add_exprs-in-Inst.ensures)

pub add_expr-returns-in_ok-add_expr-in-Mod : goal.add_expr-returns-in_ok-add_expr-in-Mod
add_expr-returns-in_ok-add_expr-in-Mod t c =
    rw c.in-Mod.is (behind c.args.code.now.items (7 ∷ bit c.in-Mod.required ∷ c.in-Mod.by.0 ∷ []) c.add_flagged.new.code.items (type_code c.in-Mod.inner) c.add_expr-in-Mod.new.code.items _
    c.in_ok-add_flagged-in-Mod.ensures (c.in_ok-add_expr-in-Mod.ensures ∙ ap (λ (e : TypeExpr). c.add_flagged.new.code.items ++ type_code e) c.get-in-Mod.ensures)
    (code_mod c.in-Mod.required c.in-Mod.by c.in-Mod.inner))
