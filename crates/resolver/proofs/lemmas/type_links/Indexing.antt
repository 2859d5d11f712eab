-- The index of an assembly among all.
use Rattle.std.proofs.Common.{◌≡◌, ℕ, zero, suc, ◌+◌, ◌<◌, List, [], ◌∷◌, ◌++◌, length, take, get_or, Option, Some, None, refl, sym, ap, subst, ◌∙◌, Bor}
use Rattle.std.specs.Prelude.{slice_get, MatchOption}
use Rattle.std.specs.List.{AllZip}
use Rattle.std.specs.Option.{option_map, option_and_then, option_copied}
use Rattle.std.proofs.lemmas.Option.{slice_get-map}
use Rattle.std.proofs.lemmas.List.{take_more}
use Rattle.il_base.specs.declared.world_model.assemblies.AssemblyRefRow.{AssemblyRefRow}
use Rattle.il_base.specs.declared.world_model.record.AsmRec.{AsmRec}
use Rattle.rules.specs.link_rules.Types.{forwarded_to, assembly_named}
use Rattle.rules.specs.link_rules.Types as types
use Rattle.resolver.specs.declared.type_links.names.TypeName.{TypeName}
use Rattle.resolver.specs.declared.type_links.index.AsmIndex.{AsmIndex}
use Rattle.resolver.specs.declared.type_links.index.TypeIndex.{TypeIndex}
use Rattle.resolver.specs.type_links.Nesting.{encloser_by}
use Rattle.resolver.specs.type_links.Forwarding.{inner}
use Rattle.resolver.specs.type_links.Index.{type_by, forwarder_by, assembly_by, IsIndexOf, IsIndex, IsAsm, type_at, encloser_at, forwarded_at, assembly_at}

-- ---- related lists

pub zip_push : {A B : Type 0} (P : A → B → Type 0) (xs : List A) (ys : List B) (x : A) (y : B) → AllZip P xs ys → P x y → AllZip P (xs ++ x ∷ []) (ys ++ y ∷ [])
zip_push P [] [] x y all p = (p, tt)
zip_push P [] (z ∷ ys) x y all p = absurd all
zip_push P (w ∷ xs) [] x y all p = absurd all
zip_push P (w ∷ xs) (z ∷ ys) x y all p = (all.0, zip_push P xs ys x y all.1 p)

-- the step of a loop over the first list
pub zip_more : {A B : Type 0} (P : A → B → Type 0) (xs : List A) (i : ℕ) (x : A) → i < length xs → x ≡ get_or xs i x → (ys : List B) (y : B) → AllZip P (take i xs) ys → P x y
    → (new : List B) → new ≡ ys ++ y ∷ [] → AllZip P (take (i + 1) xs) new
zip_more P xs i x below is ys y all p new e =
    let front : take (i + 1) xs ≡ take i xs ++ x ∷ [] = take_more xs i x below ∙ ap (λ (z : _). take i xs ++ z ∷ []) (sym is) in
    rw (front, e) (zip_push P (take i xs) ys x y all p)

pub zip_none : {A B : Type 0} (P : A → B → Type 0) (xs : List A) (ys : List B) → AllZip P xs ys → (k : ℕ) → slice_get ys k ≡ None → slice_get xs k ≡ None
zip_none P [] ys all k e = refl
zip_none P (x ∷ xs) [] all k e = absurd all
zip_none P (x ∷ xs) (y ∷ ys) all zero e = cc
zip_none P (x ∷ xs) (y ∷ ys) all (suc k) e = zip_none P xs ys all.1 k e

pub zip_some : {A B : Type 0} (P : A → B → Type 0) (xs : List A) (ys : List B) → AllZip P xs ys → (k : ℕ) (y : B) → slice_get ys k ≡ Some y → (x : A) × (slice_get xs k ≡ Some x) × P x y
zip_some P [] [] all k y e = cc
zip_some P [] (z ∷ ys) all k y e = absurd all
zip_some P (x ∷ xs) [] all k y e = absurd all
zip_some P (x ∷ xs) (z ∷ ys) all zero y e = let same : z ≡ y = cc in (x, refl, subst (λ (w : _). P x w) same all.0)
zip_some P (x ∷ xs) (z ∷ ys) all (suc k) y e = zip_some P xs ys all.1 k y e

pub asm_none : (index : TypeIndex) → IsIndex index → (a : ℕ) → slice_get index.asms a ≡ None → slice_get index.all.now a ≡ None
asm_none index is a e = zip_none (IsIndexOf index.all.now) index.all.now index.asms is a e

pub asm_some : (index : TypeIndex) → IsIndex index → (a : ℕ) (x : AsmIndex) → slice_get index.asms a ≡ Some x → IsAsm index.all.now a x
asm_some index is a x e =
    let found = zip_some (IsIndexOf index.all.now) index.all.now index.asms is a x e in record { rec = found.0; stands = found.1; says = found.2 }

-- ---- what the index of an assembly says

pub type_is : (all : List AsmRec) (a : ℕ) (x : AsmIndex) → IsAsm all a x → (around : Option ℕ) (name : TypeName) → type_by x around name ≡ type_at all a around name
type_is all a x is around name = rw is.stands (is.says.types (record { around = around; name = name }))

pub encloser_is : (all : List AsmRec) (a : ℕ) (x : AsmIndex) → IsAsm all a x → (k : ℕ) → encloser_by x.enclosers k ≡ encloser_at all a k
encloser_is all a x is k = rw is.stands (is.says.enclosers k)

named_row : (all : List AsmRec) (o : Option AssemblyRefRow)
    → inner (option_map (λ (row : AssemblyRefRow). assembly_named all row.name) o) ≡ option_and_then (λ (row : AssemblyRefRow). assembly_named all row.name) o
named_row all None = refl
named_row all (Some row) = refl

assembly_in : (all : List AsmRec) (rec : AsmRec) (x : AsmIndex) → IsIndexOf all rec x → (k : ℕ) → assembly_by x k ≡ types.assembly_at all rec k
assembly_in all rec x is k =
    ap (λ (os : List (Option ℕ)). inner (slice_get os k)) is.assemblies
    ∙ ap inner (slice_get-map (λ (row : AssemblyRefRow). assembly_named all row.name) rec.assembly_ref k)
    ∙ named_row all (slice_get rec.assembly_ref k)

pub assembly_is : (all : List AsmRec) (a : ℕ) (x : AsmIndex) → IsAsm all a x → (k : ℕ) → assembly_by x k ≡ assembly_at all a k
assembly_is all a x is k = rw is.stands (assembly_in all is.rec x is.says k)

pub forwarded_none : (all : List AsmRec) (a : ℕ) (x : AsmIndex) → IsAsm all a x → (name : TypeName) → None ≡ forwarder_by x name → None ≡ forwarded_at all a name
unfolding forwarded_to
forwarded_none all a x is name e = let none = e ∙ is.says.forwarders name in rw (is.stands, sym none) refl

pub forwarded_some : (all : List AsmRec) (a : ℕ) (x : AsmIndex) → IsAsm all a x → (name : TypeName) (k : ℕ) → Some k ≡ forwarder_by x name → assembly_by x k ≡ forwarded_at all a name
unfolding forwarded_to
forwarded_some all a x is name k e = let some = e ∙ is.says.forwarders name in rw (is.stands, sym some) (assembly_in all is.rec x is.says k)

pub asm_found : (index : TypeIndex) → IsIndex index → (a : ℕ) (r : Option (Bor AsmIndex)) → option_copied r ≡ slice_get index.asms a
    → MatchOption r (slice_get index.all.now a ≡ None) (λ x. IsAsm index.all.now a x.now)
asm_found index is a None e = asm_none index is a (sym e)
asm_found index is a (Some x) e = asm_some index is a x.now (sym e)
