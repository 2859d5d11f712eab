-- What nodes lead to after a change to the graph.
use Rattle.std.proofs.Common.{◌≡◌, ℕ, zero, suc, ◌<◌, ◌==◌, ◌⊎◌, inl, inr, List, [], ◌∷◌, ◌++◌, length, get_or, slice_set, refl, sym, ap, ◌∙◌, get_or-set_same, get_or-set_other}
use Rattle.std.specs.Prelude.{if◌then◌else◌}
use Rattle.std.proofs.lemmas.Bool.{cases_eq, eq-eqb, ne_eqb}
use Rattle.std.proofs.lemmas.Option.{unwrap_or-slice_get}
use Rattle.link_faults.specs.Graphs.{next_in}

-- a node more, which leads to nothing
pub next_push : (graph : List (List ℕ)) (node : ℕ) → next_in (graph ++ [] ∷ []) node ≡ next_in graph node
next_push [] zero = refl
next_push [] (suc node) = refl
next_push (led ∷ graph) zero = refl
next_push (led ∷ graph) (suc node) = next_push graph node

module _ (graph : List (List ℕ)) (k node : ℕ) (led : List ℕ) (lt : k < length graph) where
  at_set : (k ≡ node) ⊎ (k ≡ node → ⊥) → get_or (slice_set graph k led) node [] ≡ (if k == node then led else get_or graph node [])
  at_set (inl e) = rw (eq-eqb k node e, ← e) (get_or-set_same graph k led [] lt)
  at_set (inr n) = rw (ne_eqb k node n) (get_or-set_other graph k node led [] (λ e. n (sym e)))

  -- a node leads to others
  pub next_set : next_in (slice_set graph k led) node ≡ (if k == node then led else next_in graph node)
  next_set =
      unwrap_or-slice_get (slice_set graph k led) node [] ∙ at_set (cases_eq k node)
      ∙ ap (λ (xs : List ℕ). if k == node then led else xs) (sym (unwrap_or-slice_get graph node []))
