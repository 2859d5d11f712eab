-- Where no node leads to a greater level, one that leads to smaller levels alone is on no cycle.
use Rattle.std.proofs.Common.{◌≡◌, ℕ, zero, suc, ◌+◌, ◌<◌, ◌≤◌, Bool, true, false, nat_eq, List, [], ◌∷◌, refl, sym, subst, ◌∙◌, arith}
use Rattle.std.specs.List.{list_all}
use Rattle.std.proofs.lemmas.Bool.{and_parts, and_from, leb-true, le-leb}
use Rattle.rules.specs.link_rules.Cycles.{led_to, is_on_cycle}
use Rattle.link_faults.specs.Graphs.{next_in, rank_of, is_lower, is_within, never_up, AreLevels}
use Rattle.link_faults.proofs.Each.{Each, each_led}
use Rattle.link_faults.proofs.Ranked.{IsBelow, lower_each, none_same}

-- ---- no levels

none_within : (level : ℕ) (nodes : List ℕ) → list_all (is_within [] level) nodes ≡ true
none_within level [] = refl
none_within level (node ∷ nodes) = and_from (is_within [] level node) (list_all (is_within [] level) nodes) (le-leb 0 level (omega arith)) (none_within level nodes)

none_up : (node : ℕ) (graph : List (List ℕ)) → never_up [] node graph ≡ true
none_up node [] = refl
none_up node (led ∷ graph) = and_from (list_all (is_within [] (rank_of [] node)) led) (never_up [] (suc node) graph) (none_within (rank_of [] node) led) (none_up (suc node) graph)

-- each node's level is 0
pub no_levels : (levels : List ℕ) (graph : List (List ℕ)) → levels ≡ [] → AreLevels levels graph
no_levels levels graph e = subst (λ (xs : List ℕ). AreLevels xs graph) (sym e) (none_up 0 graph)

pub same_levels : (levels now : List ℕ) (graph led : List (List ℕ)) → now ≡ levels → led ≡ graph → AreLevels levels graph → AreLevels now led
same_levels levels now graph led e f are = subst (λ (xs : List ℕ). AreLevels xs led) (sym e) (subst (λ (g : List (List ℕ)). AreLevels levels g) (sym f) are)

-- ---- levels

module _ (levels : List ℕ) where
  within_each : (most level : ℕ) (nodes : List ℕ) → list_all (is_within levels level) nodes ≡ true → level < most → Each (IsBelow levels most) nodes
  within_each most level [] e lt = tt
  within_each most level (node ∷ nodes) e lt =
      let p = and_parts (is_within levels level node) (list_all (is_within levels level) nodes) e in
      let le : rank_of levels node ≤ level = leb-true (rank_of levels node) level p.0 in
      (omega arith, within_each most level nodes p.1 lt)

  next_within : (k : ℕ) (graph : List (List ℕ)) (node : ℕ) → never_up levels k graph ≡ true → list_all (is_within levels (rank_of levels (k + node))) (next_in graph node) ≡ true
  next_within k [] node e = refl
  next_within k (led ∷ graph) zero e =
      let z : k + 0 ≡ k = omega arith in
      rw z ((and_parts (list_all (is_within levels (rank_of levels k)) led) (never_up levels (suc k) graph) e).0)
  next_within k (led ∷ graph) (suc node) e =
      let z : k + suc node ≡ suc k + node = omega arith in
      rw z (next_within (suc k) graph node ((and_parts (list_all (is_within levels (rank_of levels k)) led) (never_up levels (suc k) graph) e).1))

  leads_within : (most : ℕ) (graph : List (List ℕ)) (node : ℕ) → AreLevels levels graph → rank_of levels node < most → Each (IsBelow levels most) (next_in graph node)
  leads_within most graph node e lt =
      let z : 0 + node ≡ node = omega arith in
      let n : list_all (is_within levels (rank_of levels node)) (next_in graph node) ≡ true = rw z at (next_within 0 graph node e) in
      within_each most (rank_of levels node) (next_in graph node) n lt

  pub free : (graph : List (List ℕ)) (steps node : ℕ) (b : Bool) → AreLevels levels graph → b ≡ list_all (is_lower levels (rank_of levels node)) (next_in graph node) → b ≡ true
      → false ≡ is_on_cycle nat_eq (next_in graph) steps node
  unfolding is_on_cycle
  free graph steps node b e f h =
      let most = rank_of levels node in
      sym (none_same levels node (led_to nat_eq (next_in graph) steps (next_in graph node))
      (each_led (IsBelow levels most) nat_eq (next_in graph) steps (next_in graph node) (λ x lt. leads_within most graph x e lt) (lower_each levels most most (next_in graph node) (sym f ∙ h) (omega arith))))
