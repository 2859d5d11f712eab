-- Tests, and look-ups in a list.
use Rattle.std.proofs.Common.{◌≡◌, ◌⊎◌, inl, inr, ℕ, zero, suc, ◌<◌, ◌≤◌, Bool, true, false, ◌&&◌, ◌||◌, ◌==◌, List, [], ◌∷◌, length, Option, Some, refl, sym, ap, ◌∙◌, arith}
use Rattle.std.specs.List.{slice_get, Contains}
use Rattle.std.proofs.lemmas.Bool.{leb-true, eqb-true, eqb-false}
use Rattle.std.proofs.lemmas.Option.{slice_get_cases}
use Rattle.il_base.specs.declared.body_grammar.body.Range.{Range}
use Rattle.il_base.specs.body_grammar.HandlerRules.{lies_in, is_same}
use Rattle.il_code.specs.declared.blocks.Block.{Block}

-- ---- tests

pub both_true : (s t : Bool) → (s && t) ≡ true → (s ≡ true) × (t ≡ true)
both_true true t h = (refl, h)
both_true false t h = absurd cc

pub either_true : (s t : Bool) → (s || t) ≡ true → (s ≡ true) ⊎ (t ≡ true)
either_true true t h = inl refl
either_true false t h = inr h

pub lies : (r s : Range) → lies_in r s ≡ true → (s.from ≤ r.from) × (r.to ≤ s.to)
lies r s h = let p = both_true _ _ h in (leb-true s.from r.from p.0, leb-true r.to s.to p.1)

pub same : (r s : Range) → is_same r s ≡ true → (r.from ≡ s.from) × (r.to ≡ s.to)
same r s h = let p = both_true _ _ h in (eqb-true r.from s.from p.0, eqb-true r.to s.to p.1)

both_false : (x y u v : ℕ) → ((x == y) && (u == v)) ≡ false → x ≡ y → u ≡ v → ⊥
both_false x y u v h e f =
    let G : Bool → Type 0 = λ t. (x == y) ≡ t → (t && (u == v)) ≡ false → ⊥ in
    (elim (x == y) as G [ true ↦ λ k l. eqb-false u v l f | false ↦ λ k l. eqb-false x y k e ]) refl h

pub differ : (r s : Range) → is_same r s ≡ false → r.from ≡ s.from → r.to ≡ s.to → ⊥
differ r s h = both_false r.from s.from r.to s.to h

-- ---- look-ups

abbrev pub just : {A : Type 0} → A → Option A
just x = Some x

pub some_is : {A : Type 0} (x y : A) → just x ≡ just y → x ≡ y
some_is x y e = cc

pub there : {A : Type 0} (xs : List A) (i : ℕ) → i < length xs → (x : A) × (slice_get xs i ≡ Some x)
there xs i lt =
    let c = slice_get_cases xs i in
    elim c.1 [ inl h ↦ (h.0, h.2) | inr h ↦ absurd (let k = h.0 in omega arith) ]

pub one_look : {A : Type 0} (xs : List A) (i j : ℕ) (x y : A) → i ≡ j → slice_get xs i ≡ Some x → slice_get xs j ≡ Some y → x ≡ y
one_look {A = A} xs i j x y e h k = some_is x y (sym h ∙ ap (slice_get xs) e ∙ k)

-- ---- membership

pub in_cons : {A : Type 0} (y : A) (ys : List A) (x : A) → Contains (y ∷ ys) x → (y ≡ x) ⊎ Contains ys x
in_cons y ys x (zero, lt, e) = inl e
in_cons y ys x (suc k, lt, e) = inr (k, omega arith, e)

pub in_front : {A : Type 0} (x : A) (xs : List A) → Contains (x ∷ xs) x
in_front x xs = (0, omega arith, refl)

pub in_rest : {A : Type 0} (y : A) (ys : List A) (x : A) → Contains ys x → Contains (y ∷ ys) x
in_rest y ys x (k, lt, e) = (suc k, omega arith, e)

pub in_none : {A : Type 0} (x : A) → Contains [] x → ⊥
in_none x (k, lt, e) = omega arith

-- ---- what a look-up gives after the end

abbrev pub no_block : Block
no_block = record { range = record { from = 0; to = 0 }; handler = record { from = 0; to = 0 }; clause = 0; is_try = false; shares = false }
