-- The depths of a body by rounds are those by walks.
use Rattle.std.proofs.Common.{◌≡◌, ℕ, zero, suc, ◌+◌, ◌<◌, Bool, true, false, List, [], ◌∷◌, length, map, Option, Some, None, inl, inr, refl, sym, ap, subst, ◌∙◌, arith}
use Rattle.std.specs.Prelude.{◌==◌, ◌&&◌, ◌||◌, not, slice_get, if◌then◌else◌}
use Rattle.std.specs.Bool.{Decides}
use Rattle.std.specs.List.{Contains, list_all, range_with_len}
use Rattle.std.proofs.lemmas.Bool.{eqb-true, eq-eqb}
use Rattle.rules.specs.declared.flow_rules.exit.Exit.{Exit}
use Rattle.rules.specs.flow_rules.Depths.{entered, is_wrong, is_wrong_at, Reaches, IsBad, depth_at, AreDepths}
use Rattle.rules.specs.flow_rules.Rounds.{same_find, entered_after, places_found, agree, is_right_find, has_depths, depth_found, depths_found}
use Rattle.base_laws.proofs.lemmas.type_laws.Within.{In}
use Rattle.base_laws.proofs.lemmas.type_laws.Reaching.{Leads, found, Led, led}
use Rattle.base_laws.proofs.lemmas.walk_laws.Finds.{contains}
use Rattle.flow_laws.specs.Laws.{DepthsFound, NoDepthsFound}
use Rattle.flow_laws.proofs.lemmas.Closing.{Closed, closed}

-- ---- lists and tests

pub contained : {A : Type 0} (xs : List A) (x : A) → Contains xs x → In x xs
contained [] x c = absurd (let lt = c.1 in omega arith)
contained (y ∷ xs) x (zero, lt, is) = inl (sym is)
contained (y ∷ xs) x (suc n, lt, is) = inr (contained xs x (n, omega arith, is))

pub both_true : (a b : Bool) → a ≡ true → b ≡ true → (a && b) ≡ true
both_true true true e f = refl
both_true true false e f = absurd (cc)
both_true false b e f = absurd (cc)

pub each_true : (a b : Bool) → (a && b) ≡ true → (a ≡ true) × (b ≡ true)
each_true true true e = (refl, refl)
each_true true false e = absurd (cc)
each_true false b e = absurd (cc)

pub all_pass : {A : Type 0} (p : A → Bool) (xs : List A) → ((x : A) → In x xs → p x ≡ true) → list_all p xs ≡ true
all_pass p [] h = refl
all_pass p (x ∷ xs) h = both_true (p x) (list_all p xs) (h x (inl refl)) (all_pass p xs (λ y i. h y (inr i)))

pub passes : {A : Type 0} (p : A → Bool) (xs : List A) → list_all p xs ≡ true → (x : A) → In x xs → p x ≡ true
passes p [] e x h = absurd h
passes p (y ∷ xs) e x (inl f) = ap p f ∙ (each_true (p y) (list_all p xs) e).0
passes p (y ∷ xs) e x (inr h) = passes p xs (each_true (p y) (list_all p xs) e).1 x h

below_get : {A : Type 0} (xs : List A) (i : ℕ) (x : A) → slice_get xs i ≡ Some x → i < length xs
below_get [] i x e = absurd (cc)
below_get (y ∷ xs) zero x e = omega arith
below_get (y ∷ xs) (suc i) x e = let h : i < length xs = below_get xs i x e in omega arith

pub below_depth : (ds : List (Option ℕ)) (i d : ℕ) → depth_at ds i ≡ Some d → i < length ds
below_depth [] i d e = absurd (cc)
below_depth (x ∷ ds) zero d e = omega arith
below_depth (x ∷ ds) (suc i) d e = let h : i < length ds = below_depth ds i d e in omega arith

-- ---- finds

find_is : (x y : ℕ × ℕ) → same_find x y ≡ true → x ≡ y
find_is (a, b) (c, d) e =
    let h : ((a == c) ≡ true) × ((b == d) ≡ true) = each_true (a == c) (b == d) e in
    let f : a ≡ c = eqb-true a c h.0 in
    let g : b ≡ d = eqb-true b d h.1 in
    λ i. (f i, g i)

find_itself : (x y : ℕ × ℕ) → x ≡ y → same_find x y ≡ true
find_itself (a, b) (c, d) e =
    let f : a ≡ c = λ i. (e i).0 in
    let g : b ≡ d = λ i. (e i).1 in
    both_true (a == c) (b == d) (eq-eqb a c f) (eq-eqb b d g)

pub find_decides : (x y : ℕ × ℕ) → Decides (same_find x y) (x ≡ y)
find_decides x y = (find_is x y, find_itself x y)

-- ---- the depth that is found for an instruction

found_by : (x : ℕ × ℕ) (xs : List (ℕ × ℕ)) (i d : ℕ) (b : Bool) → (x.0 == i) ≡ b → ((y : ℕ × ℕ) → In y (x ∷ xs) → y.0 ≡ i → y.1 ≡ d) → (In (i, d) xs → depth_found xs i ≡ Some d) → In (i, d) (x ∷ xs)
    → (if b then Some x.1 else depth_found xs i) ≡ Some d
found_by x xs i d true is only more h = ap (λ (n : ℕ). Some n) (only x (inl refl) (eqb-true x.0 i is))
found_by x xs i d false is only more (inl e) = let same : x.0 ≡ i = λ j. (sym e j).0 in let yes : (x.0 == i) ≡ true = eq-eqb x.0 i same in absurd (cc)
found_by x xs i d false is only more (inr h) = more h

depth_is_found : (xs : List (ℕ × ℕ)) (i d : ℕ) → ((y : ℕ × ℕ) → In y xs → y.0 ≡ i → y.1 ≡ d) → In (i, d) xs → depth_found xs i ≡ Some d
depth_is_found [] i d only h = absurd h
depth_is_found (x ∷ xs) i d only h = found_by x xs i d (x.0 == i) refl only (depth_is_found xs i d (λ y k. only y (inr k))) h

none_by : (x : ℕ × ℕ) (xs : List (ℕ × ℕ)) (i : ℕ) (b : Bool) → (x.0 == i) ≡ b → (x.0 ≡ i → ⊥) → depth_found xs i ≡ None → (if b then Some x.1 else depth_found xs i) ≡ None
none_by x xs i true is never more = absurd (never (eqb-true x.0 i is))
none_by x xs i false is never more = more

none_is_found : (xs : List (ℕ × ℕ)) (i : ℕ) → ((y : ℕ × ℕ) → In y xs → y.0 ≡ i → ⊥) → depth_found xs i ≡ None
none_is_found [] i never = refl
none_is_found (x ∷ xs) i never = none_by x xs i (x.0 == i) refl (never x (inl refl)) (none_is_found xs i (λ y h. never y (inr h)))

-- a list of depths, one by one
each_depth : (f : ℕ → Option ℕ) (ds : List (Option ℕ)) (k : ℕ) → ((j : ℕ) → f (k + j) ≡ depth_at ds j) → map f (range_with_len k (length ds)) ≡ ds
each_depth f [] k h = refl
each_depth f (d ∷ ds) k h =
    let here : k + 0 ≡ k = omega arith in
    let first : f k ≡ d = ap f (sym here) ∙ h 0 in
    let rest : map f (range_with_len (k + 1) (length ds)) ≡ ds = each_depth f ds (k + 1) (λ j. let e : k + 1 + j ≡ k + suc j = omega arith in ap f e ∙ h (suc j)) in
    λ i. first i ∷ rest i

-- ---- walks and finds

module _ (exits : List Exit) where
  reaches_by : (k : ℕ) (x y : ℕ × ℕ) → Reaches exits x.0 x.1 → Leads (entered_after exits) k x y → Reaches exits y.0 y.1
  reaches_by zero x y r l = subst (λ (z : ℕ × ℕ). Reaches exits z.0 z.1) l r
  reaches_by (suc k) x y r l = reaches_by k l.0 y (Reaches.goes r (contains (entered exits x.0 x.1) l.0 l.1)) l.2

  from_start : (y : ℕ × ℕ) (l : Led same_find find_decides (entered_after exits) ((0, 0) ∷ []) y) → In l.from ((0, 0) ∷ []) → Reaches exits y.0 y.1
  from_start y l (inl e) = reaches_by l.steps l.from y (subst (λ (z : ℕ × ℕ). Reaches exits z.0 z.1) (sym e) Reaches.start) l.leads
  from_start y l (inr h) = absurd h

  find_reached : (x : ℕ × ℕ) → In x (places_found exits) → Reaches exits x.0 x.1
  unfolding places_found
  find_reached x h = let l = led same_find find_decides (entered_after exits) (length exits) ((0, 0) ∷ []) x h in from_start x l l.is

  start_found : In (0, 0) (places_found exits)
  unfolding places_found
  start_found = found same_find find_decides (entered_after exits) (length exits) 0 (0, 0) (0, 0) ((0, 0) ∷ []) (omega arith) (inl refl) refl

  finds_closed : ((x : ℕ × ℕ) → In x (places_found exits) → x.0 < length exits) → ((x y : ℕ × ℕ) → In x (places_found exits) → In y (places_found exits) → x.0 ≡ y.0 → x ≡ y) → Closed (entered_after exits) (places_found exits)
  unfolding places_found
  finds_closed fits one = closed same_find find_decides (entered_after exits) (λ x. x.0) (length exits) ((0, 0) ∷ []) fits one

  module _ (whole : Closed (entered_after exits) (places_found exits)) where
    reached_found : {i d : ℕ} → Reaches exits i d → In (i, d) (places_found exits)
    reached_found Reaches.start = start_found
    reached_found (Reaches.goes {i} {d} {j} {f} r c) = whole (i, d) (j, f) (reached_found r) (contained (entered exits i d) (j, f) c)

  -- ---- a body that has depths by its walks

  module _ (most : ℕ) (ds : List (Option ℕ)) (is : AreDepths exits most ds) where
    depth_of_find : (x : ℕ × ℕ) → In x (places_found exits) → depth_at ds x.0 ≡ Some x.1
    depth_of_find x h = (is.reached x.0 x.1).1 (find_reached x h)

    fits : (x : ℕ × ℕ) → In x (places_found exits) → x.0 < length exits
    fits x h = subst (λ (n : ℕ). x.0 < n) is.one_each (below_depth ds x.0 x.1 (depth_of_find x h))

    one_by : (x y : ℕ × ℕ) → x.0 ≡ y.0 → depth_at ds x.0 ≡ Some x.1 → depth_at ds y.0 ≡ Some y.1 → x ≡ y
    one_by (a, b) (c, d) e f g =
        let h : Some b ≡ Some d = sym f ∙ ap (depth_at ds) e ∙ g in
        let k : b ≡ d = cc in
        λ i. (e i, k i)

    one : (x y : ℕ × ℕ) → In x (places_found exits) → In y (places_found exits) → x.0 ≡ y.0 → x ≡ y
    one x y h g e = one_by x y e (depth_of_find x h) (depth_of_find y g)

    whole : Closed (entered_after exits) (places_found exits)
    whole = finds_closed fits one

    not_wrong : (x : ℕ × ℕ) → In x (places_found exits) → (b : Bool) → is_wrong exits most x.0 x.1 ≡ b → not b ≡ true
    not_wrong x h true e = absurd (is.right (IsBad.wrong (find_reached x h) e))
    not_wrong x h false e = refl

    agree_by : (x y : ℕ × ℕ) → In x (places_found exits) → In y (places_found exits) → (b : Bool) → (x.0 == y.0) ≡ b → (not b || x.1 == y.1) ≡ true
    agree_by x y h g true e = let same : x ≡ y = one x y h g (eqb-true x.0 y.0 e) in eq-eqb x.1 y.1 (λ i. (same i).1)
    agree_by x y h g false e = refl

    right : (x : ℕ × ℕ) → In x (places_found exits) → is_right_find exits most x ≡ true
    right x h =
        both_true (not (is_wrong exits most x.0 x.1)) (list_all (agree x) (places_found exits)) (not_wrong x h (is_wrong exits most x.0 x.1) refl)
        (all_pass (agree x) (places_found exits) (λ y g. agree_by x y h g (x.0 == y.0) refl))

    has : has_depths exits most ≡ true
    unfolding has_depths
    has = all_pass (is_right_find exits most) (places_found exits) right

    found_one : (i : ℕ) (o : Option ℕ) → depth_at ds i ≡ o → depth_found (places_found exits) i ≡ o
    found_one i (Some d) e =
        depth_is_found (places_found exits) i d
        (λ y h f.
        let a : depth_at ds i ≡ Some y.1 = ap (depth_at ds) (sym f) ∙ depth_of_find y h in
        let b : Some y.1 ≡ Some d = sym a ∙ e in cc)
        (reached_found whole ((is.reached i d).0 e))
    found_one i None e =
        none_is_found (places_found exits) i
        (λ y h f. let a : depth_at ds i ≡ Some y.1 = ap (depth_at ds) (sym f) ∙ depth_of_find y h in let b : Some y.1 ≡ None = sym a ∙ e in cc)

    found_all : depths_found exits ≡ ds
    unfolding depths_found
    found_all =
        ap (λ (n : ℕ). map (depth_found (places_found exits)) (range_with_len 0 n)) (sym is.one_each)
        ∙ each_depth (depth_found (places_found exits)) ds 0 (λ j. let e : 0 + j ≡ j = omega arith in ap (depth_found (places_found exits)) e ∙ found_one j (depth_at ds j) refl)

  -- ---- a body that has depths by rounds

  module _ (most : ℕ) (is : has_depths exits most ≡ true) where
    right_find : (x : ℕ × ℕ) → In x (places_found exits) → is_right_find exits most x ≡ true
    unfolding has_depths
    right_find x h = passes (is_right_find exits most) (places_found exits) is x h

    right_parts : (x : ℕ × ℕ) → In x (places_found exits) → (not (is_wrong exits most x.0 x.1) ≡ true) × (list_all (agree x) (places_found exits) ≡ true)
    right_parts x h = each_true (not (is_wrong exits most x.0 x.1)) (list_all (agree x) (places_found exits)) (right_find x h)

    not_true : (b : Bool) → not b ≡ true → b ≡ false
    not_true true e = absurd (cc)
    not_true false e = refl

    never_wrong : (x : ℕ × ℕ) → In x (places_found exits) → is_wrong exits most x.0 x.1 ≡ false
    never_wrong x h = not_true (is_wrong exits most x.0 x.1) (right_parts x h).0

    there_by : (i d : ℕ) (o : Option Exit) → slice_get exits i ≡ o → is_wrong_at (length exits) most d o ≡ false → i < length exits
    there_by i d None e f = absurd (cc)
    there_by i d (Some x) e f = below_get exits i x e

    fits_too : (x : ℕ × ℕ) → In x (places_found exits) → x.0 < length exits
    fits_too x h = there_by x.0 x.1 (slice_get exits x.0) refl (never_wrong x h)

    same_depth : (x y : ℕ × ℕ) → x.0 ≡ y.0 → agree x y ≡ true → x.1 ≡ y.1
    same_depth x y e a = by_test (x.0 == y.0) (eq-eqb x.0 y.0 e) a
      where
        by_test : (b : Bool) → b ≡ true → (not b || x.1 == y.1) ≡ true → x.1 ≡ y.1
        by_test true f g = eqb-true x.1 y.1 g
        by_test false f g = absurd (cc)

    agrees : (x y : ℕ × ℕ) → In x (places_found exits) → In y (places_found exits) → x.0 ≡ y.0 → x.1 ≡ y.1
    agrees x y h g e = same_depth x y e (passes (agree x) (places_found exits) (right_parts x h).1 y g)

    pair_is : (x y : ℕ × ℕ) → x.0 ≡ y.0 → x.1 ≡ y.1 → x ≡ y
    pair_is (a, b) (c, d) e f = λ i. (e i, f i)

    whole_too : Closed (entered_after exits) (places_found exits)
    whole_too = finds_closed fits_too (λ x y h g e. pair_is x y e (agrees x y h g e))

    never_bad : IsBad exits most → ⊥
    never_bad (IsBad.wrong {i} {d} r w) = let f = never_wrong (i, d) (reached_found whole_too r) in cc
    never_bad (IsBad.apart {i} {d} {f} r s ne) = ne (agrees (i, d) (i, f) (reached_found whole_too r) (reached_found whole_too s) refl)

  none_when_bad : (most : ℕ) (b : Bool) → has_depths exits most ≡ b → IsBad exits most → b ≡ false
  none_when_bad most false e bad = refl
  none_when_bad most true e bad = absurd (never_bad most e bad)

pub depths_are_found : DepthsFound
depths_are_found exits most ds is = (has exits most ds is, found_all exits most ds is)

pub no_depths_are_found : NoDepthsFound
no_depths_are_found exits most bad = none_when_bad exits most (has_depths exits most) refl bad
