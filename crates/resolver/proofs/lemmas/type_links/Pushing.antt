-- Links that are put at the end.
use Rattle.std.proofs.Common.{◌≡◌, ℕ, zero, suc, ◌+◌, ◌<◌, ◌≤◌, List, [], ◌∷◌, ◌++◌, length, map, take, get_or, Some, refl, sym, ap, ◌∙◌, arith, append_assoc}
use Rattle.std.specs.Prelude.{slice_get}
use Rattle.std.specs.List.{range_with_len}
use Rattle.std.proofs.lemmas.List.{length-append, take_more, take_all, length-take-le, append-nil}
use Rattle.std.proofs.lemmas.List.FromFn.{map-range_with_len_more}
use Rattle.il_base.specs.declared.world_model.record.AsmRec.{AsmRec}
use Rattle.il_base.specs.declared.world_model.world.TypeLink.{TypeLink}
use Rattle.il_base.specs.world_model.Worlds.{rows_before, type_rows, names_by}
use Rattle.rules.specs.link_rules.Signatures.{names_at}
use Rattle.rules.specs.link_rules.Faults.{numbered}
use Rattle.rules.specs.link_rules.Linked.{types_of, links_from}
use Rattle.base_laws.specs.link_laws.Parts.{refs_of, defs_of, specs_of}
use Rattle.base_laws.proofs.lemmas.link_laws.Lists.{get_front, get_behind}
use Rattle.base_laws.proofs.lemmas.link_laws.SignatureNames.{same_signature}
use Rattle.base_laws.proofs.lemmas.link_laws.Tell.{three_parts, long_refs, long_defs, long_types, same_names}
use Rattle.resolver.specs.type_links.Linking.{TellsSignatures, links_before}

-- ---- numbered rows, and the links of several assemblies

pub numbered_push : {A B : Type 0} (f : ℕ → A → B) (i : ℕ) (xs : List A) (x : A) (j : ℕ) → i + length xs ≡ j → numbered f i (xs ++ x ∷ []) ≡ numbered f i xs ++ f j x ∷ []
numbered_push f i [] x j at = let e : i ≡ j = omega (arith, at) in ap (λ (n : ℕ). f n x ∷ []) e
numbered_push f i (y ∷ xs) x j at = ap (λ (ys : _). f i y ∷ ys) (numbered_push f (suc i) xs x j (omega (arith, at)))

-- the step of a loop over the rows
pub numbered_more : {A B : Type 0} (f : ℕ → A → B) (xs : List A) (i : ℕ) (x : A) → i < length xs → x ≡ get_or xs i x → numbered f 0 (take (i + 1) xs) ≡ numbered f 0 (take i xs) ++ f i x ∷ []
numbered_more f xs i x below is =
    ap (numbered f 0) (take_more xs i x below ∙ ap (λ (z : _). take i xs ++ z ∷ []) (sym is)) ∙ numbered_push f 0 (take i xs) x i (omega (arith, length-take-le i xs (omega arith)))

pub links_push : {A : Type 0} (links : ℕ → AsmRec → List A) (i : ℕ) (recs : List AsmRec) (rec : AsmRec) (j : ℕ) → i + length recs ≡ j
    → links_from links i (recs ++ rec ∷ []) ≡ links_from links i recs ++ links j rec
links_push links i [] rec j at = let e : i ≡ j = omega (arith, at) in append-nil (links i rec) ∙ ap (λ (n : ℕ). links n rec) e
links_push links i (r ∷ recs) rec j at = ap (λ (xs : _). links i r ++ xs) (links_push links (suc i) recs rec j (omega (arith, at))) ∙ sym (append_assoc (links i r) (links_from links (suc i) recs) (links j rec))

pub links_more : (all : List AsmRec) (i : ℕ) (rec : AsmRec) → i < length all → rec ≡ get_or all i rec → links_before all (i + 1) ≡ links_before all i ++ types_of all i rec
links_more all i rec below is =
    ap (links_from (types_of all) 0) (take_more all i rec below ∙ ap (λ (z : AsmRec). take i all ++ z ∷ []) (sym is))
    ∙ links_push (types_of all) 0 (take i all) rec i (omega (arith, length-take-le i all (omega arith)))

-- ---- what is there before the TypeSpec rows

long_before : (all recs : List AsmRec) (i a : ℕ) → length (links_from (types_of all) i (take a recs)) ≡ rows_before type_rows recs a
unfolding rows_before
long_before all recs i zero = refl
long_before all [] i (suc a) = refl
long_before all (r ∷ recs) i (suc a) =
    length-append (types_of all i r) (links_from (types_of all) (suc i) (take a recs))
    ∙ rw (long_types all i r, long_before all recs (suc i) a) refl

pub tells_before : (all : List AsmRec) (a : ℕ) (rec : AsmRec) → slice_get all a ≡ Some rec → (links more : List TypeLink)
    → links ≡ links_before all a ++ refs_of all a rec ++ defs_of all a rec → TellsSignatures all (links ++ more) a rec
tells_before all a rec is links more e = same_signature (names_by all (links ++ more) a) (names_at all a rec) (same_names all (links ++ more) a rec is at)
  where
    before : List TypeLink
    before = links_before all a

    refs : List TypeLink
    refs = refs_of all a rec

    defs : List TypeLink
    defs = defs_of all a rec

    at : (k : ℕ) → k < length rec.type_ref + length rec.type_def → slice_get (links ++ more) (rows_before type_rows all a + k) ≡ slice_get (types_of all a rec) k
    at k below =
        let long : rows_before type_rows all a + k ≡ length before + k = ap (λ (n : ℕ). n + k) (sym (long_before all all 0 a)) in
        let joined : links ++ more ≡ before ++ (refs ++ defs ++ more) =
        ap (λ (xs : List TypeLink). xs ++ more) (e ∙ append_assoc before refs defs) ∙ append_assoc before (refs ++ defs) more in
        let within : k < length (refs ++ defs) = rw (length-append refs defs, long_refs all a rec, long_defs all a rec) below in
        let whole : types_of all a rec ≡ refs ++ defs ++ specs_of all a rec = three_parts all a rec ∙ sym (append_assoc refs defs (specs_of all a rec)) in
        ap (slice_get (links ++ more)) long ∙ ap (λ (xs : List TypeLink). slice_get xs (length before + k)) joined
        ∙ get_behind before (refs ++ defs ++ more) k ∙ get_front (refs ++ defs) more k within
        ∙ sym (ap (λ (xs : List TypeLink). slice_get xs k) whole ∙ get_front (refs ++ defs) (specs_of all a rec) k within)

-- ---- one link more

pub one_more : {A : Type 0} (before done more new : List A) (x : A) → done ≡ before ++ more → new ≡ done ++ x ∷ [] → (next : List A) → next ≡ more ++ x ∷ [] → new ≡ before ++ next
one_more {A = A} before done more new x e f next g = f ∙ ap (λ (xs : List A). xs ++ x ∷ []) e ∙ append_assoc before more (x ∷ []) ∙ ap (λ (xs : List A). before ++ xs) (sym g)

pub ranged_more : {A : Type 0} (f : ℕ → A) (before done new : List A) (k : ℕ) (x : A) → done ≡ before ++ map f (range_with_len 0 k) → new ≡ done ++ x ∷ [] → x ≡ f k → new ≡ before ++ map f (range_with_len 0 (k + 1))
ranged_more {A = A} f before done new k x e g is =
    one_more before done (map f (range_with_len 0 k)) new (f k) e (g ∙ ap (λ (y : A). done ++ y ∷ []) is) (map f (range_with_len 0 (k + 1))) (map-range_with_len_more f 0 k k (omega arith))

-- the links of an assembly, in three parts
pub whole_links : (all : List AsmRec) (a : ℕ) (rec : AsmRec) (old one two three : List TypeLink) → one ≡ old ++ refs_of all a rec → two ≡ one ++ defs_of all a rec → three ≡ two ++ specs_of all a rec
    → three ≡ old ++ types_of all a rec
whole_links all a rec old one two three e f g =
    let refs = refs_of all a rec in
    let defs = defs_of all a rec in
    let specs = specs_of all a rec in
    g ∙ ap (λ (xs : List TypeLink). xs ++ specs) (f ∙ ap (λ (xs : List TypeLink). xs ++ defs) e ∙ append_assoc old refs defs)
    ∙ append_assoc old (refs ++ defs) specs ∙ ap (λ (xs : List TypeLink). old ++ xs) (append_assoc refs defs specs ∙ sym (three_parts all a rec))

-- at the end of the loop over the assemblies
pub links_all : (all : List AsmRec) (i : ℕ) (links : List TypeLink) → length all ≤ i → links ≡ links_before all i → links ≡ links_from (types_of all) 0 all
links_all all i links past e = e ∙ ap (links_from (types_of all) 0) (take_all i all past)
