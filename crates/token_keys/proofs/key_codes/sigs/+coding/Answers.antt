use Rattle.std.proofs.Common.{[], ◌∷◌}
use Rattle.link_faults.specs.Codes.{bit}
use Rattle.token_keys.proofs.lemmas.key_codes.SigCodes.{code_array, code_by_ref, code_mod, code_pinned, inner_added, inst_added}
use Rattle.token_keys.proofs.key_codes.sigs.+coding.Goals as goal

pub add_sig-returns-in_ok-add_sig-in-Array : goal.add_sig-returns-in_ok-add_sig-in-Array
add_sig-returns-in_ok-add_sig-in-Array t c =
    rw c.in-Array.is (inner_added c.args.code.now.items (2 ∷ []) c.push.new.self.items c.add_sig.new.code.items _ c.in-Array.inner c.get.result.now
    c.in_ok-push-in-Array.ensures.items c.get.ensures c.in_ok-add_sig-in-Array.ensures (code_array c.in-Array.inner))

pub add_sig-returns-in_ok-add_sig-in-ByRef : goal.add_sig-returns-in_ok-add_sig-in-ByRef
add_sig-returns-in_ok-add_sig-in-ByRef t c =
    rw c.in-ByRef.is (inner_added c.args.code.now.items (3 ∷ []) c.push-in-ByRef.new.self.items c.add_sig-in-ByRef.new.code.items _ c.in-ByRef.inner c.get-in-ByRef.result.now
    c.in_ok-push-in-ByRef.ensures.items c.get-in-ByRef.ensures c.in_ok-add_sig-in-ByRef.ensures (code_by_ref c.in-ByRef.inner))

pub add_sig-returns-in_ok-add_each-in-Inst : goal.add_sig-returns-in_ok-add_each-in-Inst
add_sig-returns-in_ok-add_each-in-Inst t c =
    rw c.in-Inst.is (inst_added c.args.code.now.items c.add_flagged-in-Inst.new.code.items c.add_count.new.code.items c.add_each.new.code.items c.in-Inst.value c.in-Inst.token c.len.result c.in-Inst.args c.as_slice.result.now
    c.len.ensures c.in_ok-add_flagged-in-Inst.ensures c.in_ok-add_count-in-Inst.ensures c.as_slice.ensures c.in_ok-add_each-in-Inst.ensures)

pub add_sig-returns-in_ok-add_sig-in-Mod : goal.add_sig-returns-in_ok-add_sig-in-Mod
add_sig-returns-in_ok-add_sig-in-Mod t c =
    rw c.in-Mod.is (inner_added c.args.code.now.items (7 ∷ bit c.in-Mod.required ∷ c.in-Mod.token ∷ []) c.add_flagged-in-Mod.new.code.items c.add_sig-in-Mod.new.code.items _ c.in-Mod.inner c.get-in-Mod.result.now
    c.in_ok-add_flagged-in-Mod.ensures c.get-in-Mod.ensures c.in_ok-add_sig-in-Mod.ensures (code_mod c.in-Mod.required c.in-Mod.token c.in-Mod.inner))

pub add_sig-returns-in_ok-add_sig-in-Pinned : goal.add_sig-returns-in_ok-add_sig-in-Pinned
add_sig-returns-in_ok-add_sig-in-Pinned t c =
    rw c.in-Pinned.is (inner_added c.args.code.now.items (8 ∷ []) c.push-in-Pinned.new.self.items c.add_sig-in-Pinned.new.code.items _ c.in-Pinned.inner c.get-in-Pinned.result.now
    c.in_ok-push-in-Pinned.ensures.items c.get-in-Pinned.ensures c.in_ok-add_sig-in-Pinned.ensures (code_pinned c.in-Pinned.inner))
