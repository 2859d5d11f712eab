-- Lists that have each source once.
use Rattle.std.proofs.Common.{◌≡◌, ℕ, zero, suc, ◌+◌, ◌<◌, ◌≤◌, length-append, List, [], ◌∷◌, ◌++◌, length, arith, refl, sym, ap, ◌∙◌, subst, ◌⊎◌, inl, inr, Bool, true, false, cond, ◌&&◌, ◌||◌, nat_eq, eqb-true, eq-eqb}
use Rattle.std.specs.Prelude.{Option, Some, slice_get, ◌==◌, if◌then◌else◌}
use Rattle.std.specs.List.{Contains, list_any, position_from}
use Rattle.std.specs.Cmp.Lexicographic.{pointwise, same_text}
use Rattle.std.proofs.lemmas.List.Elements.{Contains-append_left, Contains-push, Contains-push_cases}
use Rattle.il_base.specs.declared.ids.TypeId.{TypeId}
use Rattle.il_base.specs.declared.ids.MethodId.{MethodId}
use Rattle.il_base.specs.declared.ids.FieldId.{FieldId}
use Rattle.il_base.specs.world_model.Core.{same_name}
use Rattle.rules.specs.link_rules.Cycles.{add_new, add_all}
use Rattle.value_flow.proofs.lemmas.slot_flow.Lists.{tail_contains}
use Rattle.rules.specs.declared.flow_rules.source.Source.{Source}
use Rattle.rules.specs.declared.flow_rules.source.Source.TheVariants as source
use Rattle.rules.specs.flow_rules.Sources.{same_source}

-- ---- equality of sources

both_true : (a b : Bool) → a ≡ true → b ≡ true → (a && b) ≡ true
both_true true true x y = refl
both_true true false x y = absurd (cc)
both_true false b x y = absurd (cc)

each_true : (a b : Bool) → (a && b) ≡ true → (a ≡ true) × (b ≡ true)
each_true true true e = (refl, refl)
each_true true false e = absurd (cc)
each_true false b e = absurd (cc)

name_itself : (xs : List ℕ) → same_name xs xs ≡ true
name_itself [] = refl
name_itself (x ∷ xs) = both_true (nat_eq x x) (pointwise nat_eq xs xs) (eq-eqb x x refl) (name_itself xs)

typ : ℕ → TypeId
typ n = record { 0 = n }

pub itself : (s : Source) → same_source s s ≡ true
itself (source.KnownType t) = eq-eqb t.0 t.0 refl
itself (source.KnownHandle t) = eq-eqb t.0 t.0 refl
itself (source.KnownText x) = name_itself x
itself source.Null = refl
itself (source.Parameter n) = eq-eqb n n refl
itself (source.Return m) = eq-eqb m.0 m.0 refl
itself (source.Field f) = eq-eqb f.0 f.0 refl
itself (source.TypeParam t n) = both_true (t.0 == t.0) (n == n) (eq-eqb t.0 t.0 refl) (eq-eqb n n refl)
itself (source.MethodParam n) = eq-eqb n n refl
itself source.Opaque = refl

same_type : (t u : TypeId) → (t.0 == u.0) ≡ true → t ≡ u
same_type t u e = let n : t.0 ≡ u.0 = eqb-true t.0 u.0 e in λ i. record { 0 = n i }

same_method : (t u : MethodId) → (t.0 == u.0) ≡ true → t ≡ u
same_method t u e = let n : t.0 ≡ u.0 = eqb-true t.0 u.0 e in λ i. record { 0 = n i }

same_field : (t u : FieldId) → (t.0 == u.0) ≡ true → t ≡ u
same_field t u e = let n : t.0 ≡ u.0 = eqb-true t.0 u.0 e in λ i. record { 0 = n i }

same_param : (t u : TypeId) (n m : ℕ) → (t.0 == u.0) ≡ true → (n == m) ≡ true → source.TypeParam t n ≡ source.TypeParam u m
same_param t u n m e f = let a : t ≡ u = same_type t u e in let b : n ≡ m = eqb-true n m f in λ i. source.TypeParam (a i) (b i)

pub same_is : (a b : Source) → same_source a b ≡ true → a ≡ b
same_is (source.KnownType t) (source.KnownType u) e = ap (λ (x : TypeId). source.KnownType x) (same_type t u e)
same_is (source.KnownHandle t) (source.KnownHandle u) e = ap (λ (x : TypeId). source.KnownHandle x) (same_type t u e)
same_is (source.KnownText x) (source.KnownText y) e = ap (λ (z : List ℕ). source.KnownText z) (same_text x y (sym e))
same_is source.Null source.Null e = refl
same_is (source.Parameter n) (source.Parameter m) e = ap (λ (x : ℕ). source.Parameter x) (eqb-true n m e)
same_is (source.Return m) (source.Return n) e = ap (λ (x : MethodId). source.Return x) (same_method m n e)
same_is (source.Field f) (source.Field g) e = ap (λ (x : FieldId). source.Field x) (same_field f g e)
same_is (source.TypeParam t n) (source.TypeParam u m) e =
    let h : ((t.0 == u.0) ≡ true) × ((n == m) ≡ true) = each_true (t.0 == u.0) (n == m) e in same_param t u n m h.0 h.1
same_is (source.MethodParam n) (source.MethodParam m) e = ap (λ (x : ℕ). source.MethodParam x) (eqb-true n m e)
same_is source.Opaque source.Opaque e = refl
same_is _ _ e = absurd (cc)

-- ---- among a list

or_left : (a b : Bool) → a ≡ true → (a || b) ≡ true
or_left true b e = refl
or_left false b e = absurd (cc)

or_right : (a b : Bool) → b ≡ true → (a || b) ≡ true
or_right true b e = refl
or_right false true e = refl
or_right false false e = absurd (cc)

either_true : (a b : Bool) → (a || b) ≡ true → (a ≡ true) ⊎ (b ≡ true)
either_true true b e = inl refl
either_true false b e = inr e

found_by : (x y : Source) (ys : List Source) → (list_any (same_source x) ys ≡ true → Contains ys x) → (same_source x y ≡ true) ⊎ (list_any (same_source x) ys ≡ true) → Contains (y ∷ ys) x
found_by x y ys next (inl e) = (0, omega arith, sym (same_is x y e))
found_by x y ys next (inr e) = tail_contains y ys x (next e)

any_found : (x : Source) (ys : List Source) → list_any (same_source x) ys ≡ true → Contains ys x
any_found x [] e = absurd (cc)
any_found x (y ∷ ys) e = found_by x y ys (any_found x ys) (either_true (same_source x y) (list_any (same_source x) ys) e)

any_there : (x : Source) (ys : List Source) (i : ℕ) → slice_get ys i ≡ Some x → list_any (same_source x) ys ≡ true
any_there x [] i e = absurd (cc)
any_there x (y ∷ ys) zero e =
    let same : y ≡ x = cc in
    or_left (same_source x y) (list_any (same_source x) ys) (subst (λ (z : Source). same_source x z ≡ true) (sym same) (itself x))
any_there x (y ∷ ys) (suc i) e = or_right (same_source x y) (list_any (same_source x) ys) (any_there x ys i e)

-- ---- each once

unfoldable pub Distinct : List Source → Type 0
Distinct xs = (i j : ℕ) (s : Source) → slice_get xs i ≡ Some s → slice_get xs j ≡ Some s → i ≡ j

-- a place in a list with one more at its end
end_or_before : (xs : List Source) (x s : Source) (i : ℕ) → slice_get (xs ++ x ∷ []) i ≡ Some s → (slice_get xs i ≡ Some s) ⊎ ((i ≡ length xs) × (x ≡ s))
end_or_before [] x s zero e = inr (refl, cc)
end_or_before [] x s (suc i) e = absurd (cc)
end_or_before (y ∷ xs) x s zero e = inl e
end_or_before (y ∷ xs) x s (suc i) e = next (end_or_before xs x s i e)
  where
    next : (slice_get xs i ≡ Some s) ⊎ ((i ≡ length xs) × (x ≡ s)) → (slice_get xs i ≡ Some s) ⊎ ((suc i ≡ suc (length xs)) × (x ≡ s))
    next (inl h) = inl h
    next (inr h) = inr (ap suc h.0, h.1)

module _ (xs : List Source) (x : Source) (d : Distinct xs) (new : list_any (same_source x) xs ≡ false) where
  never_before : (i : ℕ) (s : Source) → slice_get xs i ≡ Some s → x ≡ s → ⊥
  never_before i s e same =
      let there : list_any (same_source x) xs ≡ true = any_there x xs i (e ∙ ap (λ (y : Source). Some y) (sym same)) in cc

  both_places : (i j : ℕ) (s : Source) → (slice_get xs i ≡ Some s) ⊎ ((i ≡ length xs) × (x ≡ s)) → (slice_get xs j ≡ Some s) ⊎ ((j ≡ length xs) × (x ≡ s)) → i ≡ j
  unfolding Distinct
  both_places i j s (inl a) (inl b) = d i j s a b
  both_places i j s (inl a) (inr b) = absurd (never_before i s a b.1)
  both_places i j s (inr a) (inl b) = absurd (never_before j s b a.1)
  both_places i j s (inr a) (inr b) = a.0 ∙ sym b.0

  distinct_more : Distinct (xs ++ x ∷ [])
  unfolding Distinct
  distinct_more = λ i j s a b. both_places i j s (end_or_before xs x s i a) (end_or_before xs x s j b)

added_by : (xs : List Source) (x : Source) (b : Bool) → list_any (same_source x) xs ≡ b → Distinct xs → Distinct (if b then xs else xs ++ x ∷ [])
added_by xs x true e d = d
added_by xs x false e d = distinct_more xs x d e

added_distinct : (xs : List Source) (x : Source) → Distinct xs → Distinct (add_new same_source xs x)
added_distinct xs x d = added_by xs x (list_any (same_source x) xs) refl d

pub all_distinct : (xs ys : List Source) → Distinct xs → Distinct (add_all same_source xs ys)
all_distinct xs [] d = d
all_distinct xs (y ∷ ys) d = all_distinct (add_new same_source xs y) ys (added_distinct xs y d)

pub none_distinct : Distinct []
unfolding Distinct
none_distinct = λ i j s a b. absurd (cc)

-- ---- the same sources

stays_by : (xs : List Source) (x s : Source) (b : Bool) → Contains xs s → Contains (if b then xs else xs ++ x ∷ []) s
stays_by xs x s true c = c
stays_by xs x s false c = Contains-append_left xs (x ∷ []) s c

comes_by : (xs : List Source) (x : Source) (b : Bool) → list_any (same_source x) xs ≡ b → Contains (if b then xs else xs ++ x ∷ []) x
comes_by xs x true e = any_found x xs e
comes_by xs x false e = Contains-push xs x

pub old_stays : (xs ys : List Source) (s : Source) → Contains xs s → Contains (add_all same_source xs ys) s
old_stays xs [] s c = c
old_stays xs (y ∷ ys) s c = old_stays (add_new same_source xs y) ys s (stays_by xs y s (list_any (same_source y) xs) c)

pub new_comes : (xs ys : List Source) (s : Source) → Contains ys s → Contains (add_all same_source xs ys) s
new_comes xs [] s (k, inside, e) = absurd (omega arith)
new_comes xs (y ∷ ys) s (zero, inside, e) =
    old_stays (add_new same_source xs y) ys s (subst (λ (z : Source). Contains (add_new same_source xs y) z) e (comes_by xs y (list_any (same_source y) xs) refl))
new_comes xs (y ∷ ys) s (suc k, inside, e) = new_comes (add_new same_source xs y) ys s (k, omega arith, e)

came_by : (xs : List Source) (x s : Source) (b : Bool) → Contains (if b then xs else xs ++ x ∷ []) s → Contains xs s ⊎ (x ≡ s)
came_by xs x s true c = inl c
came_by xs x s false c = Contains-push_cases xs x s c

from_head : (xs : List Source) (y : Source) (ys : List Source) (s : Source) → Contains xs s ⊎ (y ≡ s) → Contains xs s ⊎ Contains (y ∷ ys) s
from_head xs y ys s (inl c) = inl c
from_head xs y ys s (inr e) = inr (0, omega arith, e)

from_either : (xs : List Source) (y : Source) (ys : List Source) (s : Source) → Contains (add_new same_source xs y) s ⊎ Contains ys s → Contains xs s ⊎ Contains (y ∷ ys) s
from_either xs y ys s (inl c) = from_head xs y ys s (came_by xs y s (list_any (same_source y) xs) c)
from_either xs y ys s (inr c) = inr (tail_contains y ys s c)

pub only_those : (xs ys : List Source) (s : Source) → Contains (add_all same_source xs ys) s → Contains xs s ⊎ Contains ys s
only_those xs [] s c = inl c
only_those xs (y ∷ ys) s c = from_either xs y ys s (only_those (add_new same_source xs y) ys s c)

-- lists one after the other
pub all_append : (xs ys zs : List Source) → add_all same_source xs (ys ++ zs) ≡ add_all same_source (add_all same_source xs ys) zs
all_append xs [] zs = refl
all_append xs (y ∷ ys) zs = all_append (add_new same_source xs y) ys zs

-- the length doesn't fall
longer_by : (xs : List Source) (x : Source) (b : Bool) → length xs ≤ length (if b then xs else xs ++ x ∷ [])
longer_by xs x true = omega arith
longer_by xs x false = let e : length (xs ++ x ∷ []) ≡ length xs + 1 = length-append xs (x ∷ []) in omega arith

pub longer : (xs ys : List Source) → length xs ≤ length (add_all same_source xs ys)
longer xs [] = omega arith
longer xs (y ∷ ys) =
    let a : length xs ≤ length (add_new same_source xs y) = longer_by xs y (list_any (same_source y) xs) in
    let b : length (add_new same_source xs y) ≤ length (add_all same_source (add_new same_source xs y) ys) = longer (add_new same_source xs y) ys in omega arith

-- ---- the place of a source

-- where the first that is the same stands
pub record PlaceOf (xs : List Source) (s : Source) (k : ℕ) : Type 0 where
  pub place : ℕ
  pub found : position_from (same_source s) k xs ≡ Some (k + place)
  pub there : slice_get xs place ≡ Some s

head_found : (b : Bool) (k : ℕ) (o : Option ℕ) → b ≡ true → cond b (Some k) o ≡ Some k
head_found true k o e = refl
head_found false k o e = absurd (cc)

tail_found : (b : Bool) (k : ℕ) (o : Option ℕ) → b ≡ false → cond b (Some k) o ≡ o
tail_found true k o e = absurd (cc)
tail_found false k o e = refl

place_by : (x : Source) (xs : List Source) (s : Source) (k : ℕ) (b : Bool) → same_source s x ≡ b → (Contains xs s → PlaceOf xs s (k + 1)) → Contains (x ∷ xs) s → PlaceOf (x ∷ xs) s k
place_by x xs s k true e next c =
    let z : k ≡ k + 0 = omega arith in
    record { place = 0; found = head_found (same_source s x) k (position_from (same_source s) (k + 1) xs) e ∙ ap (λ (n : ℕ). Some n) z; there = ap (λ (y : Source). Some y) (sym (same_is s x e)) }
place_by x xs s k false e next (zero, inside, g) =
    let t : same_source s x ≡ true = subst (λ (y : Source). same_source s y ≡ true) (sym g) (itself s) in absurd (cc)
place_by x xs s k false e next (suc n, inside, g) = later (next (n, omega arith, g))
  where
    later : PlaceOf xs s (k + 1) → PlaceOf (x ∷ xs) s k
    later p = let z : k + 1 + p.place ≡ k + suc p.place = omega arith in
        record { place = suc p.place; found = tail_found (same_source s x) k (position_from (same_source s) (k + 1) xs) e ∙ p.found ∙ ap (λ (m : ℕ). Some m) z; there = p.there }

pub place_of : (xs : List Source) (s : Source) (k : ℕ) → Contains xs s → PlaceOf xs s k
place_of [] s k (n, inside, e) = absurd (omega arith)
place_of (x ∷ xs) s k c = place_by x xs s k (same_source s x) refl (place_of xs s (k + 1)) c

below_by : (b : Bool) (k n len : ℕ) (o : Option ℕ) → (o ≡ Some n → n < k + 1 + len) → cond b (Some k) o ≡ Some n → n < k + suc len
below_by true k n len o next e = let same : k ≡ n = cc in omega arith
below_by false k n len o next e = let h : n < k + 1 + len = next e in omega arith

pub position_below : {A : Type 0} (t : A → Bool) (k : ℕ) (xs : List A) (n : ℕ) → position_from t k xs ≡ Some n → n < k + length xs
position_below t k [] n e = absurd (cc)
position_below t k (x ∷ xs) n e = below_by (t x) k n (length xs) (position_from t (k + 1) xs) (position_below t (k + 1) xs n) e
