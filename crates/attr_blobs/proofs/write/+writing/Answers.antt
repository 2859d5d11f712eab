use Rattle.std.proofs.Common.{◌≡◌, ◌++◌, Some, None, length, min, ap, ◌∙◌, rules}
use Rattle.byteorder.specs.Endian.{little_bytes}
use Rattle.attr_blobs.specs.declared.value.Arg.{Arg}
use Rattle.attr_blobs.specs.declared.value.Arg.TheVariants as a
use Rattle.attr_blobs.specs.Writing.{arg_bytes, vector_bytes, element_of}
use Rattle.attr_blobs.proofs.Layers.{arg_number, arg_text, arg_typ, arg_boxed, arg_vector, both}
use Rattle.attr_blobs.proofs.write.+writing.Goals as goal

pub put_arg-returns-in-Number-clause-ok : goal.put_arg-returns-in-Number-clause-ok
put_arg-returns-in-Number-clause-ok t c = rw (c.in-Number.is, arg_number c.in-Number.n c.args.kind.now) (search rules)

pub put_arg-returns-in-Text-clause-ok : goal.put_arg-returns-in-Text-clause-ok
put_arg-returns-in-Text-clause-ok t c = rw (c.in-Text.is, arg_text c.in-Text.text c.args.kind.now) c.put_text_or_null.ensures.ok

pub put_arg-returns-in-Typ-clause-ok : goal.put_arg-returns-in-Typ-clause-ok
put_arg-returns-in-Typ-clause-ok t c = rw (c.in-Typ.is, arg_typ c.in-Typ.name c.args.kind.now) c.put_text_or_null-in-Typ.ensures.ok

pub put_arg-returns-in_ok-put_kind-in-Boxed-clause-ok : goal.put_arg-returns-in_ok-put_kind-in-Boxed-clause-ok
put_arg-returns-in_ok-put_kind-in-Boxed-clause-ok t c =
    rw (c.in-Boxed.is, arg_boxed c.in-Boxed.inner c.in-Boxed.value c.args.kind.now, ← c.get.ensures)
    (both c.put_arg.result c.args.out.now.items c.put_kind.new.out.items c.put_arg.new.out.items _ _ c.in_ok-put_kind-in-Boxed.ensures.ok c.put_arg.ensures.ok)

pub put_arg-returns-in_ok-extend_from_slice-in-None-clause-ok : goal.put_arg-returns-in_ok-extend_from_slice-in-None-clause-ok
put_arg-returns-in_ok-extend_from_slice-in-None-clause-ok t c =
    let k : c.in-List.list ≡ None = c.in-None.is in
    let e : arg_bytes c.args.arg.now c.args.kind.now ≡ vector_bytes None (element_of c.args.kind.now)
    = ap (λ (v : Arg). arg_bytes v c.args.kind.now) (c.in-List.is ∙ ap a.List k) ∙ arg_vector None c.args.kind.now in
    rw e c.in_ok-extend_from_slice-in-None.ensures.items

pub put_arg-returns-in_ok-put_sized-in-Some-clause-ok : goal.put_arg-returns-in_ok-put_sized-in-Some-clause-ok
put_arg-returns-in_ok-put_sized-in-Some-clause-ok t c =
    let k : c.in-List.list ≡ Some c.in-Some.args = c.in-Some.is in
    let e : arg_bytes c.args.arg.now c.args.kind.now ≡ vector_bytes (Some c.in-Some.args) (element_of c.args.kind.now)
    = ap (λ (v : Arg). arg_bytes v c.args.kind.now) (c.in-List.is ∙ ap a.List k) ∙ arg_vector (Some c.in-Some.args) c.args.kind.now in
    let n : c.put_sized-in-Some.new.out.items ≡ c.args.out.now.items ++ little_bytes 4 (min (length c.in-Some.args) 4294967294) = search rules in
    let s : c.as_slice.result.now ≡ c.in-Some.args = c.as_slice.ensures in
    let w : c.element_of.result.now ≡ element_of c.args.kind.now = c.element_of.ensures in
    let h = both c.put_args.result c.args.out.now.items c.put_sized-in-Some.new.out.items c.put_args.new.out.items _ _ n c.put_args.ensures.ok in
    let i = rw w at h in
    let j = rw s at i in
    rw e j
