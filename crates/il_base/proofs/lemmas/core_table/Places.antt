-- The method at a place among those of a type that the search has come to.
use Rattle.std.proofs.Common.{◌≡◌, ℕ, ◌<◌, ◌+◌, List, ◌∷◌, length, drop, get_or, slice_get, Option, refl, sym}
use Rattle.std.proofs.lemmas.Bool.{lt-ltb}
use Rattle.std.proofs.lemmas.List.{drop_more}
use Rattle.il_base.specs.declared.core_table.kinds.OwnedMethod.{OwnedMethod}
use Rattle.il_base.specs.declared.core_table.shape.CoreMethod.{CoreMethod}
use Rattle.il_base.specs.declared.core_table.shape.CoreType.{CoreType}
use Rattle.il_base.specs.core_table.Kinds.{member_in, owned}
use Rattle.il_base.specs.core_table.Members.{methods_of}

pub head_has :
    (t : CoreType) (ts : List CoreType) (at : ℕ)
    → at < length (methods_of t.members)
    → owned t.name (slice_get (methods_of t.members) at) ≡ member_in (t ∷ ts) at
unfolding member_in
head_has t ts at here = rw (lt-ltb at (length (methods_of t.members)) here) refl

pub found_here :
    (ts : List CoreType) (i at : ℕ) (d : CoreType) (ms : List CoreMethod) (out : Option OwnedMethod)
    → i < length ts
    → ms ≡ methods_of (get_or ts i d).members
    → at < length ms
    → out ≡ owned (get_or ts i d).name (slice_get ms at)
    → out ≡ member_in (drop i ts) at
found_here ts i at d ms out within of here is =
    rw (drop_more ts i d within, is, of) (head_has (get_or ts i d) (drop (i + 1) ts) at (rw (sym of) here))
