-- The first place of a text, as a loop finds it.
use Rattle.std.proofs.Common.{◌≡◌, ℕ, ◌+◌, ◌<◌, true, false, List, [], ◌∷◌, length, drop, get_or, Option, Some, None, refl, sym, ap, subst, ◌∙◌, arith, add-one, zero-add, drop-cons}
use Rattle.std.specs.Option.{option_map}
use Rattle.descriptor_file.specs.Values.{begins}
use Rattle.descriptor_file.specs.Tokens.{place_of}

-- the list from a place on is an element and the rest
pub dropped : (bs : List ℕ) (i : ℕ) → i < length bs → drop i bs ≡ get_or bs i 0 ∷ drop (i + 1) bs
dropped bs i h = rw add-one (drop-cons bs i 0 h)

here : (text bs : List ℕ) (b : ℕ) → begins text (b ∷ bs) ≡ true → place_of text (b ∷ bs) ≡ Some 0
unfolding place_of
here text bs b e = rw e refl

later : (text bs : List ℕ) (b : ℕ) → begins text (b ∷ bs) ≡ false → place_of text (b ∷ bs) ≡ option_map (λ n. n + 1) (place_of text bs)
unfolding place_of
later text bs b e = rw e refl

shifted : (o : Option ℕ) (i : ℕ) → option_map (λ n. n + i) (option_map (λ n. n + 1) o) ≡ option_map (λ n. n + (i + 1)) o
shifted None i = refl
shifted (Some n) i = let e : (n + 1) + i ≡ n + (i + 1) = omega arith in ap (λ (x : ℕ). Some x) e

pub found : (text bs : List ℕ) (i : ℕ) → i < length bs → place_of text bs ≡ option_map (λ n. n + i) (place_of text (drop i bs))
    → begins text (drop i bs) ≡ true → Some i ≡ place_of text bs
found text bs i h inv e =
    let d : drop i bs ≡ get_or bs i 0 ∷ drop (i + 1) bs = dropped bs i h in
    let f : place_of text (drop i bs) ≡ Some 0 = subst (λ (xs : List ℕ). place_of text xs ≡ Some 0) (sym d) (here text (drop (i + 1) bs) (get_or bs i 0) (subst (λ (xs : List ℕ). begins text xs ≡ true) d e)) in
    sym (inv ∙ ap (λ (o : Option ℕ). option_map (λ n. n + i) o) f ∙ ap (λ (x : ℕ). Some x) (zero-add i))

pub past : (text bs : List ℕ) (i : ℕ) → i < length bs → place_of text bs ≡ option_map (λ n. n + i) (place_of text (drop i bs))
    → begins text (drop i bs) ≡ false → place_of text bs ≡ option_map (λ n. n + (i + 1)) (place_of text (drop (i + 1) bs))
past text bs i h inv e =
    let d : drop i bs ≡ get_or bs i 0 ∷ drop (i + 1) bs = dropped bs i h in
    let f : place_of text (drop i bs) ≡ option_map (λ n. n + 1) (place_of text (drop (i + 1) bs)) =
    subst (λ (xs : List ℕ). place_of text xs ≡ option_map (λ n. n + 1) (place_of text (drop (i + 1) bs))) (sym d)
    (later text (drop (i + 1) bs) (get_or bs i 0) (subst (λ (xs : List ℕ). begins text xs ≡ false) d e)) in
    inv ∙ ap (λ (o : Option ℕ). option_map (λ n. n + i) o) f ∙ shifted (place_of text (drop (i + 1) bs)) i

pub dropped_all : (bs : List ℕ) → drop (length bs) bs ≡ []
dropped_all [] = refl
dropped_all (b ∷ bs) = dropped_all bs

nowhere : (text : List ℕ) → place_of text [] ≡ None
unfolding place_of
nowhere text = refl

pub none : (text bs : List ℕ) → place_of text bs ≡ option_map (λ n. n + length bs) (place_of text (drop (length bs) bs)) → None ≡ place_of text bs
none text bs inv = sym (inv ∙ ap (λ (xs : List ℕ). option_map (λ n. n + length bs) (place_of text xs)) (dropped_all bs) ∙ ap (λ (o : Option ℕ). option_map (λ n. n + length bs) o) (nowhere text))
