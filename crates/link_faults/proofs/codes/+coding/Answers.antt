use Rattle.std.proofs.lemmas.Result.{on_ok_weaker}
use Rattle.link_faults.proofs.CodeLayers.{array_added, by_ref_added, mod_added, inst_added}
use Rattle.link_faults.proofs.codes.+coding.Goals as goal

pub add_type-returns-in_ok-add_count-in-Inst : goal.add_type-returns-in_ok-add_count-in-Inst
add_type-returns-in_ok-add_count-in-Inst t c =
    on_ok_weaker c.add_types.result
    (λ e. rw c.in-Inst.is (inst_added c.args.code.now c.add_pair-in-Inst.new.code c.add_count.new.code c.add_types.new.code c.in-Inst.id c.len.result c.in-Inst.args c.as_slice.result.now
    c.len.ensures c.in_ok-add_pair-in-Inst.ensures c.in_ok-add_count-in-Inst.ensures c.as_slice.ensures e))
    c.add_types.ensures

pub add_type-returns-in_ok-push-in-Array : goal.add_type-returns-in_ok-push-in-Array
add_type-returns-in_ok-push-in-Array t c =
    on_ok_weaker c.add_type.result
    (λ e. rw c.in-Array.is (array_added c.args.code.now c.push.new.self c.add_type.new.code c.in-Array.inner c.get.result.now c.in_ok-push-in-Array.ensures.ok c.get.ensures e))
    c.add_type.ensures

pub add_type-returns-in_ok-push-in-ByRef : goal.add_type-returns-in_ok-push-in-ByRef
add_type-returns-in_ok-push-in-ByRef t c =
    on_ok_weaker c.add_type-in-ByRef.result
    (λ e. rw c.in-ByRef.is (by_ref_added c.args.code.now c.push-in-ByRef.new.self c.add_type-in-ByRef.new.code c.in-ByRef.inner c.get-in-ByRef.result.now c.in_ok-push-in-ByRef.ensures.ok c.get-in-ByRef.ensures e))
    c.add_type-in-ByRef.ensures

pub add_type-returns-in_ok-push-in-Mod : goal.add_type-returns-in_ok-push-in-Mod
add_type-returns-in_ok-push-in-Mod t c =
    on_ok_weaker c.add_type-in-Mod.result
    (λ e. rw c.in-Mod.is (mod_added c.args.code.now c.add_pair-in-Mod.new.code c.push-in-Mod.new.self c.add_type-in-Mod.new.code c.in-Mod.required c.bit.result c.in-Mod.by c.in-Mod.inner c.get-in-Mod.result.now
    c.bit.ensures c.in_ok-add_pair-in-Mod.ensures c.in_ok-push-in-Mod.ensures.ok c.get-in-Mod.ensures e))
    c.add_type-in-Mod.ensures
