-- In a linked world what an interface implies is found in as many rounds as there are types.
use Rattle.std.proofs.Common.{◌≡◌, ℕ, zero, suc, ◌+◌, ◌-◌, ◌<◌, ◌≤◌, List, [], ◌∷◌, Some, None, ◌⊎◌, inl, inr, refl, ap, subst, ◌∙◌, arith}
use Rattle.std.proofs.lemmas.Bool.{cases_lt}
use Rattle.il_base.specs.declared.world_model.expr.TypeExpr.{TypeExpr}
use Rattle.il_base.specs.declared.world_model.record.AsmRec.{AsmRec}
use Rattle.il_base.specs.world_model.Exprs.{same_expr}
use Rattle.il_base.proofs.lemmas.world_model.SameExpr.{same_decides}
use Rattle.rules.specs.declared.link_rules.row_at.RowAt.{RowAt}
use Rattle.rules.specs.link_rules.Members.{type_count}
use Rattle.rules.specs.link_rules.Cycles.{led_to, home_of}
use Rattle.rules.specs.link_rules.Linked.{assemblies, link_fault_of}
use Rattle.rules.specs.type_rules.Subtypes.{interfaces_of}
use Rattle.rules.specs.type_rules.Dispatch.{implied}
use Rattle.base_laws.specs.walk_laws.Walks.{InLinked, ImpliedWhole}
use Rattle.base_laws.proofs.lemmas.type_laws.Within.{In}
use Rattle.base_laws.proofs.lemmas.type_laws.Reaching.{Leads, Walks, found, Led, led}
use Rattle.base_laws.proofs.lemmas.type_laws.Upwards.{ways, Above, interface_above}
use Rattle.base_laws.proofs.lemmas.type_laws.Ways.{top, top_home, top_class, arrays, home_of_type, no_long_way}
use Rattle.base_laws.proofs.lemmas.walk_laws.Chains.{shorter, one_further, stays, in_turn}

module _ (inputs : List AsmRec) (sound : link_fault_of inputs ≡ None) where
  abbrev recs : List AsmRec
  recs = assemblies inputs

  abbrev object : RowAt
  object = top inputs sound

  abbrev AboveIt : TypeExpr → TypeExpr → Type 0
  AboveIt e y = Above recs object (top_home inputs sound) (top_class inputs sound) (arrays inputs sound) e y

  above_it : (e y : TypeExpr) → In y (interfaces_of recs e) → AboveIt e y
  above_it e y h = interface_above recs object (top_home inputs sound) (top_class inputs sound) (arrays inputs sound) e y h

  record Climb (n : ℕ) (e : TypeExpr) : Type 0 where
    home : RowAt
    is : home_of recs e ≡ Some home
    walks : Walks (ways recs object) n home

  climb : (n : ℕ) (e z : TypeExpr) → Leads (interfaces_of recs) (suc n) e z → Climb n e
  climb zero e z l = let a = above_it e l.0 l.1 in record { home = a.home; is = a.is; walks = tt }
  climb (suc n) e z l =
      let a = above_it e l.0 l.1 in
      let m = climb n l.0 z l.2 in
      record { home = a.home; is = a.is; walks = (m.home, a.leads m.home m.is, m.walks) }

  abbrev count : ℕ
  count = type_count recs

  not_far : (k : ℕ) (e z : TypeExpr) → count ≤ k → Leads (interfaces_of recs) (suc k) e z → ⊥
  not_far k e z le l =
      let m = climb k e z l in
      no_long_way inputs sound m.home (home_of_type inputs sound e m.home m.is) (shorter (ways recs object) count k m.home le m.walks)

  near_by : (k : ℕ) (e z : TypeExpr) → (k < count) ⊎ (count ≤ k) → Leads (interfaces_of recs) (suc k) e z → In z (led_to same_expr (interfaces_of recs) count (e ∷ []))
  near_by k e z (inl lt) l = found same_expr same_decides (interfaces_of recs) count (suc k) e z (e ∷ []) (omega arith) (inl refl) l
  near_by k e z (inr le) l = absurd (not_far k e z le l)

  closed_by : (e y z : TypeExpr) (l : Led same_expr same_decides (interfaces_of recs) (e ∷ []) y) → In l.from (e ∷ []) → In z (interfaces_of recs y) → In z (led_to same_expr (interfaces_of recs) count (e ∷ []))
  closed_by e y z l (inl same) h =
      near_by l.steps e z (cases_lt l.steps count)
      (one_further (interfaces_of recs) l.steps e y z (subst (λ (x : TypeExpr). Leads (interfaces_of recs) l.steps x y) same l.leads) h)
  closed_by e y z l (inr i) h = absurd i

  closed : (e y z : TypeExpr) → In y (led_to same_expr (interfaces_of recs) count (e ∷ [])) → In z (interfaces_of recs y) → In z (led_to same_expr (interfaces_of recs) count (e ∷ []))
  closed e y z i h = let l = led same_expr same_decides (interfaces_of recs) count (e ∷ []) y i in closed_by e y z l l.is h

  pub whole : ImpliedWhole recs
  unfolding implied
  whole n e le =
      let k : ℕ = n - count in
      let f : n ≡ count + k = omega arith in
      ap (λ (m : ℕ). led_to same_expr (interfaces_of recs) m (e ∷ [])) f ∙ in_turn same_expr same_decides (interfaces_of recs) count k (e ∷ [])
      ∙ stays same_expr same_decides (interfaces_of recs) k (led_to same_expr (interfaces_of recs) count (e ∷ [])) (closed e)

pub all_whole : InLinked ImpliedWhole
all_whole inputs sound = whole inputs sound
