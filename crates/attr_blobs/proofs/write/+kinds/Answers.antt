use Rattle.attr_blobs.proofs.Layers.{kind_prim, kind_text, kind_typ, kind_boxed, kind_enum, kind_list}
use Rattle.attr_blobs.proofs.write.+kinds.Goals as goal

pub put_kind-returns-in_ok-push-in-Prim-clause-ok : goal.put_kind-returns-in_ok-push-in-Prim-clause-ok
put_kind-returns-in_ok-push-in-Prim-clause-ok t c = rw (c.in-Prim.is, kind_prim c.in-Prim.element) c.in_ok-push-in-Prim.ensures.items

pub put_kind-returns-in_ok-push-in-Text-clause-ok : goal.put_kind-returns-in_ok-push-in-Text-clause-ok
put_kind-returns-in_ok-push-in-Text-clause-ok t c = rw (c.in-Text.is, kind_text) c.in_ok-push-in-Text.ensures.items

pub put_kind-returns-in_ok-push-in-Typ-clause-ok : goal.put_kind-returns-in_ok-push-in-Typ-clause-ok
put_kind-returns-in_ok-push-in-Typ-clause-ok t c = rw (c.in-Typ.is, kind_typ) c.in_ok-push-in-Typ.ensures.items

pub put_kind-returns-in_ok-push-in-Boxed-clause-ok : goal.put_kind-returns-in_ok-push-in-Boxed-clause-ok
put_kind-returns-in_ok-push-in-Boxed-clause-ok t c = rw (c.in-Boxed.is, kind_boxed) c.in_ok-push-in-Boxed.ensures.items

pub put_kind-returns-in-Enum-clause-ok : goal.put_kind-returns-in-Enum-clause-ok
put_kind-returns-in-Enum-clause-ok t c = rw (c.in-Enum.is, kind_enum c.in-Enum.name c.in-Enum.size, ← c.as_slice.ensures) c.put_enum.ensures.ok

pub put_kind-returns-in-List-clause-ok : goal.put_kind-returns-in-List-clause-ok
put_kind-returns-in-List-clause-ok t c = rw (c.in-List.is, kind_list c.in-List.inner, ← c.get.ensures) c.put_list.ensures.ok
