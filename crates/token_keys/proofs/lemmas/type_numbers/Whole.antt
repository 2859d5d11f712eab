-- A map that has the numbers of all rows of TypeRef and TypeDef has that of every token.
use Rattle.std.proofs.Common.{◌≡◌, ℕ, List, length, Bool, true, false, Some, refl, ap, ◌∙◌, sym}
use Rattle.std.specs.Prelude.{slice_get, if◌then◌else◌}
use Rattle.il_base.specs.declared.world_model.record.AsmRec.{AsmRec}
use Rattle.token_keys.specs.declared.type_numbers.maps.Stand.{Stand}
use Rattle.token_keys.specs.declared.type_numbers.maps.Stand.TheVariants.{Class, Modifier}
use Rattle.token_keys.specs.type_numbers.Filled.{covers, number_by}
use Rattle.token_keys.proofs.lemmas.type_numbers.Unnamed.{no_class, no_mark}

pub none_else : (s : Stand) (recs : List AsmRec) (a : ℕ) (rec : AsmRec) → slice_get recs a ≡ Some rec → (q : ℕ) → covers 1 (length rec.type_ref) q ≡ false → covers 2 (length rec.type_def) q ≡ false
    → number_by s recs a rec q ≡ 0
none_else Class recs a rec here q e f = no_class recs a rec here q e f
none_else Modifier recs a rec here q e f = no_mark recs a rec here q e f

one_by : (number : ℕ) (b d : Bool) → (b ≡ false → d ≡ false → number ≡ 0) → (if d then number else (if b then number else 0)) ≡ number
one_by number b true none = refl
one_by number true false none = refl
one_by number false false none = sym (none refl refl)

pub whole : (f : ℕ → ℕ) (rec : AsmRec) (empty mid after : ℕ → ℕ) → ((q : ℕ) → empty q ≡ 0) → ((q : ℕ) → mid q ≡ (if covers 1 (length rec.type_ref) q then f q else empty q))
    → ((q : ℕ) → after q ≡ (if covers 2 (length rec.type_def) q then f q else mid q)) → ((q : ℕ) → covers 1 (length rec.type_ref) q ≡ false → covers 2 (length rec.type_def) q ≡ false → f q ≡ 0)
    → (q : ℕ) → after q ≡ f q
whole f rec empty mid after none first second zeros q =
    second q
    ∙ ap (λ (n : ℕ). if covers 2 (length rec.type_def) q then f q else n) (first q ∙ ap (λ (n : ℕ). if covers 1 (length rec.type_ref) q then f q else n) (none q))
    ∙ one_by (f q) (covers 1 (length rec.type_ref) q) (covers 2 (length rec.type_def) q) (zeros q)
