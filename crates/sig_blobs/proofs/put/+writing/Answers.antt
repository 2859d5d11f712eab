use Rattle.std.proofs.Common.{sym, subst, arith}
use Rattle.sig_blobs.specs.Answers.{HasSpelling}
use Rattle.sig_blobs.proofs.Layers.{bytes_primitive, bytes_named, bytes_vector, bytes_reference, bytes_pinned, bytes_modified, bytes_instance, bytes_var, bytes_mvar}
use Rattle.sig_blobs.proofs.Spelled.{array_inside, by_ref_inside, pin_inside, mod_inside, inst_inside, var_inside, mvar_inside}
use Rattle.sig_blobs.proofs.put.+writing.Goals as goal

pub put_type-put_holder-requires : goal.put_type-put_holder-requires
put_type-put_holder-requires t c =
    let h = array_inside c.args.room c.args.s.now c.requires c.in-Array.inner c.in-Array.is in
    (omega (arith, h.deep), rw (c.saturating_sub-below.ensures, c.get.ensures) h.inside)

pub put_type-put_holder-requires-in-ByRef : goal.put_type-put_holder-requires-in-ByRef
put_type-put_holder-requires-in-ByRef t c =
    let h = by_ref_inside c.args.room c.args.s.now c.requires c.in-ByRef.inner c.in-ByRef.is in
    (omega (arith, h.deep), rw (c.saturating_sub-below.ensures, c.get-in-ByRef.ensures) h.inside)

pub put_type-put_holder-requires-in-Pinned : goal.put_type-put_holder-requires-in-Pinned
put_type-put_holder-requires-in-Pinned t c =
    let h = pin_inside c.args.room c.args.s.now c.requires c.in-Pinned.inner c.in-Pinned.is in
    (omega (arith, h.deep), rw (c.saturating_sub-below.ensures, c.get-in-Pinned.ensures) h.inside)

pub put_type-put_modified-requires : goal.put_type-put_modified-requires
put_type-put_modified-requires t c =
    let h = mod_inside c.args.room c.args.s.now c.requires c.in-Mod.required c.in-Mod.token c.in-Mod.inner c.in-Mod.is in
    (omega (arith, h.deep), rw (c.saturating_sub-below.ensures, c.get-in-Mod.ensures) h.inside)

pub put_type-put_instance-requires : goal.put_type-put_instance-requires
put_type-put_instance-requires t c =
    let h = inst_inside c.args.room c.args.s.now c.requires c.in-Inst.value c.in-Inst.token c.in-Inst.args c.in-Inst.is in
    (omega (arith, h.deep), rw (c.saturating_sub-below.ensures, c.as_slice.ensures) h.inside)

pub put_type-put_indexed-requires : goal.put_type-put_indexed-requires
put_type-put_indexed-requires t c = var_inside c.args.room c.args.s.now c.requires c.in-Var.n c.in-Var.is

pub put_type-put_indexed-requires-in-MVar : goal.put_type-put_indexed-requires-in-MVar
put_type-put_indexed-requires-in-MVar t c = mvar_inside c.args.room c.args.s.now c.requires c.in-MVar.n c.in-MVar.is

pub put_type-returns-in_ok-push-in-Prim-clause-ok : goal.put_type-returns-in_ok-push-in-Prim-clause-ok
put_type-returns-in_ok-push-in-Prim-clause-ok t c = rw (c.in-Prim.is, bytes_primitive c.in-Prim.byte) c.in_ok-push-in-Prim.ensures.items

pub put_type-returns-in-Named-clause-ok : goal.put_type-returns-in-Named-clause-ok
put_type-returns-in-Named-clause-ok t c = rw (c.in-Named.is, bytes_named c.in-Named.value c.in-Named.token, ← c.class_of.ensures) c.put_tokened.ensures.ok

pub put_type-returns-in-Array-clause-ok : goal.put_type-returns-in-Array-clause-ok
put_type-returns-in-Array-clause-ok t c = rw (c.in-Array.is, bytes_vector c.in-Array.inner, ← c.get.ensures) c.put_holder.ensures.ok

pub put_type-returns-in-ByRef-clause-ok : goal.put_type-returns-in-ByRef-clause-ok
put_type-returns-in-ByRef-clause-ok t c = rw (c.in-ByRef.is, bytes_reference c.in-ByRef.inner, ← c.get-in-ByRef.ensures) c.put_holder-in-ByRef.ensures.ok

pub put_type-returns-in-Pinned-clause-ok : goal.put_type-returns-in-Pinned-clause-ok
put_type-returns-in-Pinned-clause-ok t c = rw (c.in-Pinned.is, bytes_pinned c.in-Pinned.inner, ← c.get-in-Pinned.ensures) c.put_holder-in-Pinned.ensures.ok

pub put_type-returns-in-Inst-clause-ok : goal.put_type-returns-in-Inst-clause-ok
put_type-returns-in-Inst-clause-ok t c = rw (c.in-Inst.is, bytes_instance c.in-Inst.value c.in-Inst.token c.in-Inst.args, ← c.as_slice.ensures) c.put_instance.ensures.ok

pub put_type-returns-in-Var-clause-ok : goal.put_type-returns-in-Var-clause-ok
put_type-returns-in-Var-clause-ok t c = rw (c.in-Var.is, bytes_var c.in-Var.n) c.put_indexed.ensures.ok

pub put_type-returns-in-MVar-clause-ok : goal.put_type-returns-in-MVar-clause-ok
put_type-returns-in-MVar-clause-ok t c = rw (c.in-MVar.is, bytes_mvar c.in-MVar.n) c.put_indexed-in-MVar.ensures.ok

pub put_type-returns-in-Mod-clause-ok : goal.put_type-returns-in-Mod-clause-ok
put_type-returns-in-Mod-clause-ok t c = rw (c.in-Mod.is, bytes_modified c.in-Mod.required c.in-Mod.token c.in-Mod.inner, ← c.get-in-Mod.ensures) c.put_modified.ensures.ok

pub put_types-put_type-requires : goal.put_types-put_type-requires
put_types-put_type-requires t c =
    (omega arith, subst (HasSpelling c.args.room) (sym c.one-item.is) (c.requires c.loop-one.one-index c.one-item.result c.loop-one-test.true))
