use Rattle.token_keys.proofs.lemmas.sig_numbers.NumberLayers.{in_prim, in_var, in_mvar, none_added, inst_added, mod_added}
use Rattle.token_keys.proofs.sig_numbers.numbers.+numbering.Goals as goal

pub add_numbers-returns-in-Prim : goal.add_numbers-returns-in-Prim
add_numbers-returns-in-Prim t c = rw c.in-Prim.is (none_added c.args.numbers.now.items _ (in_prim c.in-Prim.field-0))

pub add_numbers-returns-in-Var : goal.add_numbers-returns-in-Var
add_numbers-returns-in-Var t c = rw c.in-Var.is (none_added c.args.numbers.now.items _ (in_var c.in-Var.field-0))

pub add_numbers-returns-in-MVar : goal.add_numbers-returns-in-MVar
add_numbers-returns-in-MVar t c = rw c.in-MVar.is (none_added c.args.numbers.now.items _ (in_mvar c.in-MVar.field-0))

pub add_numbers-returns-in_ok-add_each-in-Inst : goal.add_numbers-returns-in_ok-add_each-in-Inst
add_numbers-returns-in_ok-add_each-in-Inst t c =
    rw c.in-Inst.is (inst_added c.args.numbers.now.items c.push-in-Inst.new.self.items c.add_each.new.numbers.items c.in-Inst.value c.in-Inst.token c.in-Inst.args c.as_slice.result.now
    c.as_slice.ensures c.in_ok-push-in-Inst.ensures.items c.in_ok-add_each-in-Inst.ensures)

pub add_numbers-returns-in_ok-add_numbers-in-Mod : goal.add_numbers-returns-in_ok-add_numbers-in-Mod
add_numbers-returns-in_ok-add_numbers-in-Mod t c =
    rw c.in-Mod.is (mod_added c.args.numbers.now.items c.push-in-Mod.new.self.items c.add_numbers-in-Mod.new.numbers.items c.in-Mod.required c.in-Mod.token c.in-Mod.inner c.get-in-Mod.result.now
    c.get-in-Mod.ensures c.in_ok-push-in-Mod.ensures.items c.in_ok-add_numbers-in-Mod.ensures)
