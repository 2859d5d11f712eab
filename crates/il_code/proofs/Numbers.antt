-- The numbers of the blocks that have begun.
use Rattle.std.proofs.Common.{◌≡◌, ◌⊎◌, inl, inr, ℕ, ◌+◌, ◌<◌, ◌≤◌, List, [], ◌∷◌, get_or, Option, Some, None, IfSome, IfNone, Bor, sym, ap, subst, ◌∙◌, arith}
use Rattle.std.specs.List.{slice_get, Contains}
use Rattle.std.specs.List.Sorted.{IsPermutation}
use Rattle.std.proofs.lemmas.Bool.{cases_lt}
use Rattle.std.proofs.lemmas.List.Sorted.{Contains-permutation, IsPermutation-sym}
use Rattle.il_code.specs.declared.blocks.Block.{Block}
use Rattle.il_code.specs.Around.{AreNumbers, IsGreatest}
use Rattle.std.specs.Option.{option_copied}
use Rattle.il_code.proofs.Looks.{just, some_is, one_look, in_cons, in_front, in_rest, in_none}

pub no_numbers : (f : Block → ℕ) (blocks : List Block) (place : ℕ) → AreNumbers f blocks 0 place []
no_numbers f blocks place = record {
  all = λ q a lt e l. absurd (omega arith);
  only = λ x c. absurd (in_none x c);
}

-- one block more has begun
pub numbers_more : (f : Block → ℕ) (blocks : List Block) (n place : ℕ) (b : Block) (old new : List (ℕ × ℕ)) → slice_get blocks n ≡ Some b → IsPermutation ((f b, b.range.to) ∷ old) new
    → AreNumbers f blocks n place old → AreNumbers f blocks (n + 1) place new
numbers_more f blocks n place b old new e moved are =
    let back = IsPermutation-sym ((f b, b.range.to) ∷ old) new moved in
    record {
      all = λ q a lt g l.
          elim (cases_lt q n) [
            | inl less ↦ Contains-permutation _ new (f a, a.range.to) moved (in_rest (f b, b.range.to) old (f a, a.range.to) (are.all q a less g l))
            | inr le ↦
                let k : b ≡ a = one_look blocks n q b a (omega arith) e g in
                subst (λ (c : Block). Contains new (f c, c.range.to)) k (Contains-permutation _ new (f b, b.range.to) moved (in_front (f b, b.range.to) old))
          ];
      only = λ x c.
          elim (in_cons (f b, b.range.to) old x (Contains-permutation new _ x back c)) [
            | inl is ↦ (n, b, omega arith, e, sym is)
            | inr d ↦ let r = are.only x d in (r.0, r.1, (let lt = r.2 in omega arith), r.3, r.4)
          ];
    }

-- those that end after a later place
pub numbers_later : (f : Block → ℕ) (blocks : List Block) (n place later : ℕ) (pairs : List (ℕ × ℕ)) → place ≤ later → AreNumbers f blocks n place pairs → AreNumbers f blocks n later pairs
numbers_later f blocks n place later pairs le are = record {
  all = λ q a lt e l. are.all q a lt e (omega arith);
  only = are.only;
}

-- numbers of blocks that have ended go
pub numbers_left : (f : Block → ℕ) (blocks : List Block) (n place : ℕ) (old new : List (ℕ × ℕ)) → ((x : ℕ × ℕ) → Contains old x → place < x.1 → Contains new x) → ((x : ℕ × ℕ) → Contains new x → Contains old x)
    → AreNumbers f blocks n place old → AreNumbers f blocks n place new
numbers_left f blocks n place old new kept was are = record {
  all = λ q a lt e l. kept (f a, a.range.to) (are.all q a lt e l) l;
  only = λ x c. are.only x (was x c);
}

pub greatest_of : (f : Block → ℕ) (blocks : List Block) (n place g : ℕ) (pairs : List (ℕ × ℕ)) → AreNumbers f blocks n place pairs → ((x : ℕ × ℕ) → Contains pairs x → x.0 ≤ g)
    → (g ≡ 0) ⊎ ((x : ℕ × ℕ) × Contains pairs x × (place < x.1) × (x.0 ≡ g)) → IsGreatest f blocks n place g
greatest_of f blocks n place g pairs are bound is = record {
  bound = λ q a lt e l. bound (f a, a.range.to) (are.all q a lt e l);
  is = elim is [
    | inl zero ↦ inl zero
    | inr (x, c, l, same) ↦
        let r = are.only x c in
        inr (r.0, r.1, r.2, r.3, subst (λ (y : ℕ × ℕ). place < y.1) r.4 l, sym (ap (λ (y : ℕ × ℕ). y.0) r.4) ∙ same)
  ];
}

-- ---- a heap whose greatest pair goes

pub top_is : (r : Option (Bor (ℕ × ℕ))) (t : ℕ × ℕ) (pairs : List (ℕ × ℕ)) → option_copied r ≡ just t → IfSome r (λ x. x.now ≡ get_or pairs 0 x.now) → t ≡ get_or pairs 0 t
top_is (Some x) t pairs e h = let k : x.now ≡ t = some_is x.now t e in subst (λ (y : ℕ × ℕ). y ≡ get_or pairs 0 y) k h
top_is None t pairs e h = absurd cc

pub rest_kept : (old new : List (ℕ × ℕ)) (r : Option (ℕ × ℕ)) (t : ℕ × ℕ) (place : ℕ) → t ≡ get_or old 0 t → t.1 ≤ place → IfSome r (λ x. x ≡ get_or old 0 x) → IfSome r (λ x. IsPermutation old (x ∷ new)) → IfNone r (new ≡ old)
    → (x : ℕ × ℕ) → Contains old x → place < x.1 → Contains new x
rest_kept [] new r t place e l top moved none x c lt = absurd (in_none x c)
rest_kept (z ∷ old) new None t place e l top moved none x c lt = subst (λ (p : List (ℕ × ℕ)). Contains p x) (sym none) c
rest_kept (z ∷ old) new (Some y) t place e l top moved none x c lt =
    elim (in_cons y new x (Contains-permutation (z ∷ old) (y ∷ new) x moved c)) [
      | inl is ↦ let k : t ≡ x = e ∙ sym top ∙ is in absurd (let m = subst (λ (p : ℕ × ℕ). p.1 ≤ place) k l in omega arith)
      | inr d ↦ d
    ]

pub rest_was : (old new : List (ℕ × ℕ)) (r : Option (ℕ × ℕ)) → IfSome r (λ x. IsPermutation old (x ∷ new)) → IfNone r (new ≡ old) → (x : ℕ × ℕ) → Contains new x → Contains old x
rest_was old new None moved none x c = subst (λ (p : List (ℕ × ℕ)). Contains p x) none c
rest_was old new (Some y) moved none x c = Contains-permutation (y ∷ new) old x (IsPermutation-sym old (y ∷ new) moved) (in_rest y new x c)

pub the_same : (old new : List (ℕ × ℕ)) (m n : ℕ) (r : Option (ℕ × ℕ)) → IfNone r ((new ≡ old) × (m ≡ n)) → IfNone r (new ≡ old)
the_same old new m n (Some x) h = h
the_same old new m n None h = h.0
