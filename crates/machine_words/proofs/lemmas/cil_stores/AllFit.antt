-- Values that fit their slots, one after the other.
use Rattle.std.proofs.Common.{◌≡◌, ◌∙◌, refl, sym, ap, ℕ, zero, suc, ◌+◌, ◌<◌, ◌≤◌, List, [], ◌∷◌, ◌++◌, length, get_or, take, drop, slice_set, append_assoc, append-nil, length-set, arith}
use Rattle.std.specs.Prelude.{Option, Some, None}
use Rattle.std.proofs.lemmas.List.{take_more_set, take-set, take_all, drop-set-lt, drop_more, drop_all}
use Rattle.il_base.specs.declared.world_model.expr.TypeExpr.{TypeExpr}
use Rattle.il_base.specs.declared.cil_values.value.Value.{Value}
use Rattle.rules.specs.step_rules.Queries.{Queries}
use Rattle.rules.specs.step_rules.Closing.{front}
use Rattle.rules.specs.step_rules.Stores.{fits, all_fit}
use Rattle.machine_words.specs.cil_stores.Fitted.{after}

-- what it comes to, where the first i are kept already
abbrev pub kept_to : Queries → List TypeExpr → List Value → ℕ → Option (List Value)
kept_to q es vs i = after (take i vs) (all_fit q (drop i es) (drop i vs))

at_first : {A : Type 0} (x : Option (List A)) → after [] x ≡ x
at_first None = refl
at_first (Some xs) = refl

pub begins : (q : Queries) (es : List TypeExpr) (vs : List Value) → kept_to q es vs 0 ≡ all_fit q es vs
begins q es vs = at_first (all_fit q es vs)

one_more : {A : Type 0} (kept : List A) (w : A) (x : Option (List A)) → after (kept ++ w ∷ []) x ≡ after kept (front (Some w) x)
one_more kept w None = refl
one_more {A = A} kept w (Some xs) = ap (λ (ys : List A). Some ys) (append_assoc kept (w ∷ []) xs)

nothing : {A : Type 0} (kept : List A) (x : Option (List A)) → after kept (front None x) ≡ None
nothing kept None = refl
nothing kept (Some xs) = refl

front_of : {A : Type 0} (xs : List A) (i : ℕ) (x : A) → i < length xs → x ≡ get_or xs i x → drop i xs ≡ x ∷ drop (i + 1) xs
front_of {A = A} xs i x p e = drop_more xs i x p ∙ ap (λ (y : A). y ∷ drop (i + 1) xs) (sym e)

opened : (q : Queries) (e : TypeExpr) (es : List TypeExpr) (v : Value) (vs : List Value) → all_fit q (e ∷ es) (v ∷ vs) ≡ front (fits q e v) (all_fit q es vs)
unfolding all_fit
opened q e es v vs = refl

pub goes : (q : Queries) (es : List TypeExpr) (vs : List Value) (i : ℕ) (e : TypeExpr) (v w u : Value) → i < length es → i < length vs
    → e ≡ get_or es i e → v ≡ get_or vs i v → fits q e v ≡ Some w
    → kept_to q es (slice_set (slice_set vs i u) i w) (i + 1) ≡ kept_to q es vs i
goes q es vs i e v w u p r is_e is_v fit =
    let long : i < length (slice_set vs i u) = rw (length-set vs i u) r in
    let taken : take (i + 1) (slice_set (slice_set vs i u) i w) ≡ take i vs ++ w ∷ [] =
    take_more_set (slice_set vs i u) i w long ∙ ap (λ (xs : List Value). xs ++ w ∷ []) (take-set vs i u) in
    let left : drop (i + 1) (slice_set (slice_set vs i u) i w) ≡ drop (i + 1) vs =
    drop-set-lt (i + 1) (slice_set vs i u) i w (omega arith) ∙ drop-set-lt (i + 1) vs i u (omega arith) in
    rw (taken, left, front_of es i e p is_e, front_of vs i v r is_v, opened q e (drop (i + 1) es) v (drop (i + 1) vs), fit)
    (one_more (take i vs) w (all_fit q (drop (i + 1) es) (drop (i + 1) vs)))

pub unfit : (q : Queries) (es : List TypeExpr) (vs : List Value) (i : ℕ) (e : TypeExpr) (v : Value) → i < length es → i < length vs
    → e ≡ get_or es i e → v ≡ get_or vs i v → fits q e v ≡ None → kept_to q es vs i ≡ None
unfit q es vs i e v p r is_e is_v fit =
    rw (front_of es i e p is_e, front_of vs i v r is_v, opened q e (drop (i + 1) es) v (drop (i + 1) vs), fit)
    (nothing (take i vs) (all_fit q (drop (i + 1) es) (drop (i + 1) vs)))

no_value : (q : Queries) (e : TypeExpr) (es : List TypeExpr) → all_fit q (e ∷ es) [] ≡ None
unfolding all_fit
no_value q e es = refl

no_slot : (q : Queries) (v : Value) (vs : List Value) → all_fit q [] (v ∷ vs) ≡ None
unfolding all_fit
no_slot q v vs = refl

none_left : (q : Queries) → all_fit q [] [] ≡ Some []
unfolding all_fit
none_left q = refl

pub short : (q : Queries) (es : List TypeExpr) (vs : List Value) (i : ℕ) (e : TypeExpr) → i < length es → length vs ≤ i → kept_to q es vs i ≡ None
short q es vs i e p r = rw (drop_more es i e p, drop_all i vs r, no_value q (get_or es i e) (drop (i + 1) es)) refl

long_from : (q : Queries) (vs : List Value) (i : ℕ) → i < length vs → all_fit q [] (drop i vs) ≡ None
long_from q [] i p = absurd (omega (arith, p))
long_from q (v ∷ vs) zero p = no_slot q v vs
long_from q (v ∷ vs) (suc i) p = long_from q vs i (omega (arith, p))

pub long : (q : Queries) (es : List TypeExpr) (vs : List Value) (i : ℕ) → i ≤ length es → length es ≤ i → length es < length vs → kept_to q es vs i ≡ None
long q es vs i h k p = rw (drop_all i es k, long_from q vs i (omega (arith, h, p))) refl

pub whole : (q : Queries) (es : List TypeExpr) (vs : List Value) (i : ℕ) → length es ≤ i → length vs ≤ length es → kept_to q es vs i ≡ Some vs
whole q es vs i k p =
    let r : length vs ≤ i = omega (arith, k, p) in
    rw (drop_all i es k, drop_all i vs r, take_all i vs r, none_left q) (ap (λ (xs : List Value). Some xs) (append-nil vs))
