-- In a linked world all that stands above a type is found in as many rounds as there are types, and one more.
use Rattle.std.proofs.Common.{◌≡◌, ℕ, suc, ◌+◌, ◌-◌, ◌<◌, ◌≤◌, List, [], ◌∷◌, None, ◌⊎◌, inl, inr, refl, ap, subst, ◌∙◌, arith}
use Rattle.std.proofs.lemmas.Bool.{cases_lt}
use Rattle.il_base.specs.declared.world_model.expr.TypeExpr.{TypeExpr}
use Rattle.il_base.specs.declared.world_model.record.AsmRec.{AsmRec}
use Rattle.il_base.specs.world_model.Exprs.{same_expr}
use Rattle.il_base.proofs.lemmas.world_model.SameExpr.{same_decides}
use Rattle.rules.specs.link_rules.Members.{type_count}
use Rattle.rules.specs.link_rules.Cycles.{led_to}
use Rattle.rules.specs.link_rules.Linked.{assemblies, link_fault_of}
use Rattle.rules.specs.type_rules.Subtypes.{up, above}
use Rattle.base_laws.proofs.lemmas.type_laws.Within.{In}
use Rattle.base_laws.proofs.lemmas.type_laws.Reaching.{Leads, Walks, walks, found, Led, led}
use Rattle.base_laws.proofs.lemmas.type_laws.Upwards.{homes}
use Rattle.base_laws.proofs.lemmas.type_laws.Ways.{top, top_home, top_class, arrays, home_of_type, no_long_way, up_all_named}
use Rattle.base_laws.proofs.lemmas.walk_laws.Chains.{one_further, stays, in_turn}

module _ (inputs : List AsmRec) (sound : link_fault_of inputs ≡ None) where
  abbrev recs : List AsmRec
  recs = assemblies inputs

  abbrev bound : ℕ
  bound = suc (type_count recs)

  no_way : (e : TypeExpr) → Walks (up recs) (suc bound) e → ⊥
  no_way e w =
      let h = homes recs (top inputs sound) (top_home inputs sound) (top_class inputs sound) (arrays inputs sound) (type_count recs) w.0 (up_all_named inputs sound e w.0 w.1) w.2 in
      no_long_way inputs sound h.home (home_of_type inputs sound w.0 h.home h.is) h.walks

  abbrev all_above : TypeExpr → List TypeExpr
  all_above e = led_to same_expr (up recs) bound (e ∷ [])

  reached_by : (k : ℕ) (e z : TypeExpr) → Leads (up recs) k e z → (bound < k) ⊎ (k ≤ bound) → In z (all_above e)
  reached_by k e z l (inl lt) = absurd (no_way e (walks (up recs) (suc bound) k e z lt l))
  reached_by k e z l (inr le) = found same_expr same_decides (up recs) bound k e z (e ∷ []) le (inl refl) l

  closed_by : (e y z : TypeExpr) (l : Led same_expr same_decides (up recs) (e ∷ []) y) → In l.from (e ∷ []) → In z (up recs y) → In z (all_above e)
  closed_by e y z l (inl same) h =
      reached_by (suc l.steps) e z (one_further (up recs) l.steps e y z (subst (λ (x : TypeExpr). Leads (up recs) l.steps x y) same l.leads) h) (cases_lt bound (suc l.steps))
  closed_by e y z l (inr i) h = absurd i

  closed : (e y z : TypeExpr) → In y (all_above e) → In z (up recs y) → In z (all_above e)
  closed e y z i h = let l = led same_expr same_decides (up recs) bound (e ∷ []) y i in closed_by e y z l l.is h

  -- more rounds find no more
  pub above_whole : (n : ℕ) (e : TypeExpr) → bound ≤ n → led_to same_expr (up recs) n (e ∷ []) ≡ above recs e
  unfolding above
  above_whole n e le =
      let k : ℕ = n - bound in
      let f : n ≡ bound + k = omega arith in
      ap (λ (m : ℕ). led_to same_expr (up recs) m (e ∷ [])) f ∙ in_turn same_expr same_decides (up recs) bound k (e ∷ []) ∙ stays same_expr same_decides (up recs) k (all_above e) (closed e)
