-- The look-up among stretches in order, and the stretches of sections.
use Rattle.std.proofs.Common.{◌≡◌, ℕ, zero, suc, ◌+◌, ◌-◌, ◌<◌, ◌≤◌, Bool, true, false, cond, List, [], ◌∷◌, length, Option, Some, None, refl, ◌∙◌, ap, arith, get_or}
use Rattle.std.specs.Prelude.{nat_le, nat_lt, ◌&&◌}
use Rattle.std.specs.Option.{option_or}
use Rattle.std.specs.List.Sorted.{IsNonDecreasingBy}
use Rattle.std.proofs.lemmas.Bool.Decides.{nat_tests}
use Rattle.il_base.specs.declared.cli_format.section.Section.{Section}
use Rattle.il_base.specs.cli_format.Image.{nth_section, sections_from, section_of, sections_of, section_count, covers}
use Rattle.pe_image.specs.declared.stretches.Stretch.{Stretch}
use Rattle.pe_image.specs.Stretches.{found, AreAscending, AreOf, overlay}
use Rattle.pe_image.proofs.Layers.{overlay_found, overlay_order}

-- ---- stretches in order

begins_behind : (low : ℕ) (xs : List Stretch) (j : ℕ) (d : Stretch) → AreAscending low xs → j < length xs → low ≤ (get_or xs j d).from
unfolding AreAscending
begins_behind low [] j d o l = absurd (omega arith)
begins_behind low (x ∷ xs) zero d o l = o.0
begins_behind low (x ∷ xs) (suc j) d o l = let h = begins_behind x.from xs j d o.1 (omega arith) in omega (arith, h, o.0)

pub in_order : (low : ℕ) (xs : List Stretch) → AreAscending low xs → IsNonDecreasingBy (λ x. x.from) xs
unfolding AreAscending
in_order low [] o i j d l m = absurd (omega arith)
in_order low (x ∷ xs) o zero zero d l m = omega arith
in_order low (x ∷ xs) o zero (suc j) d l m = begins_behind x.from xs j d o.1 (omega arith)
in_order low (x ∷ xs) o (suc i) zero d l m = absurd (omega arith)
in_order low (x ∷ xs) o (suc i) (suc j) d l m = in_order x.from xs o.1 i j d (omega arith) (omega arith)

here : {A : Type 0} (r n : ℕ) (x y : A) → r < n → cond (nat_lt r n) x y ≡ x
here r n x y h = grind (arith, nat_tests)

behind : {A : Type 0} (r n : ℕ) (x y : A) → n ≤ r → cond (nat_lt r n) x y ≡ y
behind r n x y h = grind (arith, nat_tests)

-- no stretch begins at the RVA or before it
pub found_before : (s : Option Section) (xs : List Stretch) (r : ℕ) → ((i : ℕ) (d : Stretch) → i < length xs → r < (get_or xs i d).from) → found s xs r ≡ s
unfolding found
found_before s [] r h = refl
found_before s (x ∷ xs) r h = here r x.from _ _ (h 0 x (omega arith))

-- the stretches up to number m begin at the RVA or before it, and the others after it
pub found_at : (s : Option Section) (xs : List Stretch) (r m : ℕ) (d : Stretch) → m < length xs
    → ((i : ℕ) (d : Stretch) → i < m + 1 → (get_or xs i d).from ≤ r)
    → ((i : ℕ) (d : Stretch) → m + 1 ≤ i → i < length xs → r < (get_or xs i d).from)
    → found s xs r ≡ (get_or xs m d).section
unfolding found
found_at s [] r m d l b a = absurd (omega arith)
found_at s (x ∷ xs) r zero d l b a =
    behind r x.from _ _ (b 0 x (omega arith)) ∙ found_before x.section xs r (λ i d h. a (suc i) d (omega arith) (omega arith))
found_at s (x ∷ xs) r (suc m) d l b a =
    behind r x.from _ _ (b 0 x (omega arith))
    ∙ found_at x.section xs r m d (omega arith) (λ i d h. b (suc i) d (omega arith)) (λ i d g h. a (suc i) d (omega arith) (omega arith))

-- ---- the stretches of sections

covered_case : (a e r : ℕ) (s : Section) → a ≤ e → cond (nat_lt r a) None (cond (nat_lt r e) (Some s) None) ≡ cond (nat_le a r && nat_lt r e) (Some s) None
covered_case a e r s h = grind (arith, nat_tests)

pub one_shown : (s : Section) (r : ℕ)
    → found None (record { from = s.rva; section = Some s } ∷ record { from = s.rva + s.size; section = None } ∷ []) r ≡ cond (covers s r) (Some s) None
unfolding found covers
one_shown s r = covered_case s.rva (s.rva + s.size) r s (omega arith)

pub one_order : (x y : Stretch) → x.from ≤ y.from → AreAscending 0 (x ∷ y ∷ [])
unfolding AreAscending
one_order x y h = (omega arith, (h, tt))

none_of : (bs : List ℕ) (i : ℕ) → AreOf bs 0 i []
unfolding found sections_from section_of AreAscending
none_of bs i = record { shown = λ r. refl; order = tt }

pub of_none : (bs : List ℕ) (n i : ℕ) (xs : List Stretch) → n ≡ 0 → xs ≡ [] → AreOf bs n i xs
of_none bs n i xs e f = rw (e, f) (none_of bs i)

one_of : (bs : List ℕ) (i : ℕ) (xs : List Stretch) → ((r : ℕ) → found None xs r ≡ cond (covers (nth_section bs i) r) (Some (nth_section bs i)) None)
    → AreAscending 0 xs → AreOf bs 1 i xs
unfolding sections_from section_of
one_of bs i xs h o = record { shown = h; order = o }

pub of_one : (bs : List ℕ) (n i : ℕ) (s : Section) (xs : List Stretch) → n ≡ 1 → s ≡ nth_section bs i
    → ((r : ℕ) → found None xs r ≡ cond (covers s r) (Some s) None) → AreAscending 0 xs → AreOf bs n i xs
of_one bs n i s xs e f h o = let k = rw f at h in rw e (one_of bs i xs k o)

or_step : (b : Bool) (s : Section) (x y : Option Section) → option_or (cond b (Some s) x) y ≡ cond b (Some s) (option_or x y)
or_step true s x y = refl
or_step false s x y = refl

split : (bs : List ℕ) (h m i r : ℕ) → option_or (section_of (sections_from bs h i) r) (section_of (sections_from bs m (i + h)) r) ≡ section_of (sections_from bs (h + m) i) r
unfolding sections_from section_of
split bs zero m i r = let z : i + 0 ≡ i = omega arith in let y : 0 + m ≡ m = omega arith in rw (z, y) refl
split bs (suc h) m i r =
    let z : suc h + m ≡ suc (h + m) = omega arith in
    let y : i + suc h ≡ i + 1 + h = omega arith in
    rw (z, y) (or_step (covers (nth_section bs i) r) (nth_section bs i) (section_of (sections_from bs h (i + 1)) r) (section_of (sections_from bs m (i + 1 + h)) r)
    ∙ ap (λ (x : Option Section). cond (covers (nth_section bs i) r) (Some (nth_section bs i)) x) (split bs h m (i + 1) r))

both_of : (bs : List ℕ) (n h i : ℕ) (xs ys : List Stretch) → h ≤ n → AreOf bs h i xs → AreOf bs (n - h) (i + h) ys → AreOf bs n i (overlay None xs None ys)
both_of bs n h i xs ys l p q = record {
  shown = λ r.
      let z : h + (n - h) ≡ n = omega arith in
      overlay_found None None xs ys r ∙ ap (λ (x : Option Section). option_or x (found None ys r)) (p.shown r)
      ∙ ap (λ (x : Option Section). option_or (section_of (sections_from bs h i) r) x) (q.shown r)
      ∙ split bs h (n - h) i r ∙ ap (λ (k : ℕ). section_of (sections_from bs k i) r) z;
  order = overlay_order None None xs ys 0 p.order q.order;
}

pub of_both : (bs : List ℕ) (n h i : ℕ) (xs ys all : List Stretch) → h ≤ n → AreOf bs h i xs → AreOf bs (n - h) (i + h) ys → all ≡ overlay None xs None ys → AreOf bs n i all
of_both bs n h i xs ys all l p q e = rw e (both_of bs n h i xs ys l p q)

-- ---- the section that is found

pub shown_all : (bs : List ℕ) (xs : List Stretch) (r : ℕ) → AreOf bs (section_count bs) 0 xs → found None xs r ≡ section_of (sections_of bs) r
unfolding sections_of
shown_all bs xs r h = h.shown r

pub order_of : (bs : List ℕ) (n i : ℕ) (xs : List Stretch) → AreOf bs n i xs → AreAscending 0 xs
order_of bs n i xs h = h.order

pub ruleset looking = (one_shown, one_order, of_none, of_one, of_both, shown_all, order_of)
