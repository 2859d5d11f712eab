-- Marks of the nodes that were found.
use Rattle.std.proofs.Common.{◌≡◌, ℕ, ◌<◌, Bool, true, false, nat_eq, nat_lt, List, [], ◌∷◌, ◌++◌, length, get_or, slice_set, ◌⊎◌, inl, inr, refl, sym, ap, subst, ◌∙◌, arith, get_or-set_same, get_or-set_other}
use Rattle.std.specs.Prelude.{if◌then◌else◌, ◌||◌}
use Rattle.std.specs.List.{list_any}
use Rattle.std.proofs.lemmas.Bool.{cases_eq, eq-eqb, ne_eqb, or_left, or_right, ltb-true, ltb-false}
use Rattle.std.proofs.lemmas.List.{length-set}
use Rattle.std.proofs.lemmas.List.Folds.{list_any-append}
use Rattle.link_faults.specs.Graphs.{marked, AreMarked}

-- no node is among none
pub unmarked : (marks : List Bool) → ((k : ℕ) → get_or marks k false ≡ false) → AreMarked marks []
unmarked marks h k lt = h k

or_false : (b : Bool) → (b || false) ≡ b
or_false true = refl
or_false false = refl

module _ (nodes : List ℕ) (node : ℕ) where
  -- a node is among some and itself
  among_same : (k : ℕ) → node ≡ k → list_any (nat_eq k) (nodes ++ node ∷ []) ≡ true
  among_same k e =
      list_any-append (nat_eq k) nodes (node ∷ []) ∙ or_right (list_any (nat_eq k) nodes) (list_any (nat_eq k) (node ∷ [])) (or_left (nat_eq k node) false (eq-eqb k node (sym e)))

  -- and another isn't through it
  among_other : (k : ℕ) → (k ≡ node → ⊥) → list_any (nat_eq k) (nodes ++ node ∷ []) ≡ list_any (nat_eq k) nodes
  among_other k n =
      list_any-append (nat_eq k) nodes (node ∷ []) ∙ ap (λ (b : Bool). list_any (nat_eq k) nodes || (b || false)) (ne_eqb k node n) ∙ or_false (list_any (nat_eq k) nodes)

  module _ (marks : List Bool) (are : AreMarked marks nodes) where
    set_at : (k : ℕ) → node < length marks → k < length marks → (node ≡ k) ⊎ (node ≡ k → ⊥) → get_or (slice_set marks node true) k false ≡ list_any (nat_eq k) (nodes ++ node ∷ [])
    set_at k lt le (inl e) = rw (← e) (get_or-set_same marks node true false lt ∙ sym (among_same node refl))
    set_at k lt le (inr n) =
        get_or-set_other marks node k true false (λ e. n (sym e)) ∙ are k le ∙ sym (among_other k (λ e. n (sym e)))

    outside : (k : ℕ) → nat_lt node (length marks) ≡ false → k < length marks → (node ≡ k) ⊎ (node ≡ k → ⊥) → get_or marks k false ≡ list_any (nat_eq k) (nodes ++ node ∷ [])
    outside k f le (inl e) = absurd (omega (arith, le, e, ltb-false node (length marks) f))
    outside k f le (inr n) = are k le ∙ sym (among_other k (λ e. n (sym e)))

    marked_by : (b : Bool) → nat_lt node (length marks) ≡ b → AreMarked (if b then slice_set marks node true else marks) (nodes ++ node ∷ [])
    marked_by true f k lt = set_at k (ltb-true node (length marks) f) (omega (arith, lt, length-set marks node true)) (cases_eq node k)
    marked_by false f k lt = outside k f lt (cases_eq node k)

    -- a node more, with its mark
    pub put_marked : (new : List Bool) (more : List ℕ) → new ≡ marked marks node → more ≡ nodes ++ node ∷ [] → AreMarked new more
    put_marked new more e f =
        subst (λ (xs : List Bool). AreMarked xs more) (sym e) (subst (λ (ys : List ℕ). AreMarked (marked marks node) ys) (sym f) (marked_by (nat_lt node (length marks)) refl))

pub itself : (x : ℕ) → nat_eq x x ≡ true
itself x = eq-eqb x x refl
