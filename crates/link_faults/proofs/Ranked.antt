-- Where each node leads to smaller ranks alone, none is on a cycle.
use Rattle.std.proofs.Common.{◌≡◌, ℕ, zero, suc, ◌+◌, ◌<◌, true, false, nat_eq, List, [], ◌∷◌, refl, ap, arith}
use Rattle.std.specs.List.{list_any, list_all}
use Rattle.std.proofs.lemmas.Bool.{and_parts, ltb-true, ne_eqb, or_from}
use Rattle.rules.specs.link_rules.Cycles.{led_to, is_on_cycle}
use Rattle.link_faults.specs.Graphs.{next_in, rank_of, is_lower, goes_down, IsAcyclic}
use Rattle.link_faults.proofs.Each.{Each, each_led}

module _ (ranks : List ℕ) where
  abbrev pub IsBelow : ℕ → ℕ → Type 0
  IsBelow rank node = rank_of ranks node < rank

  pub lower_each : (most rank : ℕ) (nodes : List ℕ) → list_all (is_lower ranks rank) nodes ≡ true → rank < suc most → Each (IsBelow most) nodes
  lower_each most rank [] e le = tt
  lower_each most rank (node ∷ nodes) e le =
      let p = and_parts (is_lower ranks rank node) (list_all (is_lower ranks rank) nodes) e in
      let lt : rank_of ranks node < rank = ltb-true (rank_of ranks node) rank p.0 in
      (omega arith, lower_each most rank nodes p.1 le)

  next_lower : (k : ℕ) (graph : List (List ℕ)) (node : ℕ) → goes_down ranks k graph ≡ true → list_all (is_lower ranks (rank_of ranks (k + node))) (next_in graph node) ≡ true
  next_lower k [] node e = refl
  next_lower k (led ∷ graph) zero e =
      let z : k + 0 ≡ k = omega arith in
      rw z ((and_parts (list_all (is_lower ranks (rank_of ranks k)) led) (goes_down ranks (suc k) graph) e).0)
  next_lower k (led ∷ graph) (suc node) e =
      let z : k + suc node ≡ suc k + node = omega arith in
      rw z (next_lower (suc k) graph node ((and_parts (list_all (is_lower ranks (rank_of ranks k)) led) (goes_down ranks (suc k) graph) e).1))

  pub none_same : (node : ℕ) (nodes : List ℕ) → Each (IsBelow (rank_of ranks node)) nodes → list_any (nat_eq node) nodes ≡ false
  none_same node [] e = refl
  none_same node (other ∷ nodes) e =
      or_from (nat_eq node other) (list_any (nat_eq node) nodes)
      (ne_eqb node other (λ f. let lt : rank_of ranks other < rank_of ranks node = e.0 in let g : rank_of ranks node ≡ rank_of ranks other = ap (rank_of ranks) f in omega arith))
      (none_same node nodes e.1)

  leads_lower : (most : ℕ) (graph : List (List ℕ)) (node : ℕ) → goes_down ranks 0 graph ≡ true → rank_of ranks node < suc most → Each (IsBelow most) (next_in graph node)
  leads_lower most graph node e lt =
      let z : 0 + node ≡ node = omega arith in
      let n : list_all (is_lower ranks (rank_of ranks node)) (next_in graph node) ≡ true = rw z at (next_lower 0 graph node e) in
      lower_each most (rank_of ranks node) (next_in graph node) n lt

  pub ranked : (graph : List (List ℕ)) → goes_down ranks 0 graph ≡ true → IsAcyclic graph
  unfolding is_on_cycle
  ranked graph e steps node =
      let most = rank_of ranks node in
      none_same node (led_to nat_eq (next_in graph) steps (next_in graph node))
      (each_led (IsBelow most) nat_eq (next_in graph) steps (next_in graph node) (λ x lt. leads_lower most graph x e (let l : rank_of ranks x < most = lt in omega arith)) (leads_lower most graph node e (omega arith)))
