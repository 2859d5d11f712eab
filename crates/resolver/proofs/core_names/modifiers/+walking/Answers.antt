use Rattle.std.proofs.Common.{sym, append_assoc, ◌∙◌}
use Rattle.std.proofs.lemmas.List.{append-nil}
use Rattle.resolver.proofs.lemmas.core_names.Layers.{of_prim, of_named, of_var, of_mvar, of_mod}
use Rattle.resolver.proofs.core_names.modifiers.+walking.Goals as goal

pub in_type-returns-in-Prim : goal.in_type-returns-in-Prim
in_type-returns-in-Prim t c = rw (c.in-Prim.is, of_prim c.in-Prim.field-0) (sym (append-nil c.args.tokens.now.items))

pub in_type-returns-in-Named : goal.in_type-returns-in-Named
in_type-returns-in-Named t c = rw (c.in-Named.is, of_named c.in-Named.value c.in-Named.token) (sym (append-nil c.args.tokens.now.items))

pub in_type-returns-in-Var : goal.in_type-returns-in-Var
in_type-returns-in-Var t c = rw (c.in-Var.is, of_var c.in-Var.field-0) (sym (append-nil c.args.tokens.now.items))

pub in_type-returns-in-MVar : goal.in_type-returns-in-MVar
in_type-returns-in-MVar t c = rw (c.in-MVar.is, of_mvar c.in-MVar.field-0) (sym (append-nil c.args.tokens.now.items))

pub in_type-returns-in_ok-in_type-in-Mod : goal.in_type-returns-in_ok-in_type-in-Mod
in_type-returns-in_ok-in_type-in-Mod t c =
    rw (c.in-Mod.is, of_mod c.in-Mod.required c.in-Mod.token c.in-Mod.inner)
    (c.in_ok-in_type-in-Mod.ensures ∙ rw (c.in_ok-push-in-Mod.ensures.items, c.get-in-Mod.ensures) (simp append_assoc))
