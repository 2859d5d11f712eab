-- What an interface instance implies has a definition that its definition leads to.
use Rattle.std.proofs.Common.{◌≡◌, ℕ, zero, suc, true, List, [], ◌∷◌, Option, Some, None, inl, inr, refl, sym, ap, subst, ◌∙◌}
use Rattle.std.specs.List.{flat_map, list_any}
use Rattle.il_base.specs.declared.world_model.expr.TypeExpr.{TypeExpr}
use Rattle.il_base.specs.declared.world_model.record.AsmRec.{AsmRec}
use Rattle.il_base.specs.world_model.Exprs.{same_expr, subst as put}
use Rattle.il_base.proofs.lemmas.world_model.SameExpr.{same_decides}
use Rattle.rules.specs.declared.link_rules.row_at.RowAt.{RowAt}
use Rattle.rules.specs.link_rules.Members.{args_of, type_count}
use Rattle.rules.specs.link_rules.Cycles.{listed, home_of, is_interface_at, is_interface, interfaces_at, interface_rows}
use Rattle.rules.specs.link_rules.Linked.{assemblies, link_fault_of}
use Rattle.rules.specs.type_rules.Subtypes.{interfaces_of}
use Rattle.rules.specs.type_rules.Dispatch.{implied}
use Rattle.base_laws.proofs.lemmas.type_laws.Within.{In, in_map, in_flat, in_listed}
use Rattle.base_laws.proofs.lemmas.type_laws.Reaching.{Leads, Led, led}
use Rattle.base_laws.proofs.lemmas.type_laws.Upwards.{kept_home, are_interfaces, homed, step_interface, interface_named}
use Rattle.base_laws.proofs.lemmas.type_laws.Ways.{top, top_home, top_class, arrays}

module _ (inputs : List AsmRec) (sound : link_fault_of inputs ≡ None) where
  abbrev recs : List AsmRec
  recs = assemblies inputs

  pub put_home : (targs : List TypeExpr) (e : TypeExpr) → is_interface recs e ≡ true → home_of recs (put targs [] e) ≡ home_of recs e
  put_home targs e is =
      kept_home recs (top inputs sound) (top_home inputs sound) (top_class inputs sound) (arrays inputs sound) targs e
      (interface_named recs (top inputs sound) (top_home inputs sound) (top_class inputs sound) (arrays inputs sound) e is)

  pub put_interface : (targs : List TypeExpr) (e : TypeExpr) → is_interface recs e ≡ true → is_interface recs (put targs [] e) ≡ true
  unfolding is_interface
  put_interface targs e is = ap (λ (o : Option RowAt). list_any (is_interface_at recs) (listed o)) (put_home targs e is) ∙ is

  -- an interface, with the way from a definition to its own
  pub record Way (from : RowAt) (e : TypeExpr) : Type 0 where
    pub interface : is_interface recs e ≡ true
    pub home : RowAt
    pub is : home_of recs e ≡ Some home
    pub steps : ℕ
    pub leads : Leads (interface_rows recs) steps from home

  record Step (from : RowAt) (e : TypeExpr) : Type 0 where
    interface : is_interface recs e ≡ true
    home : RowAt
    is : home_of recs e ≡ Some home
    leads : In home (interface_rows recs from)

  one_step : (from : RowAt) (x y : TypeExpr) → home_of recs x ≡ Some from → In y (interfaces_of recs x) → Step from y
  unfolding interfaces_of
  one_step from x y at h =
      let m = in_map (put (args_of x) []) y (flat_map (interfaces_at recs) (listed (home_of recs x))) h in
      let b = in_flat (interfaces_at recs) m.0 (listed (home_of recs x)) m.1 in
      let same : b.0 ≡ from = (let f = sym (in_listed b.0 (home_of recs x) b.1) ∙ at in cc) in
      let is = are_interfaces recs b.0 m.0 b.2 in
      let i = homed recs m.0 is in
      let step = step_interface recs b.0 i.0 m.0 b.2 i.1 in
      record {
        interface = ap (is_interface recs) m.2 ∙ put_interface (args_of x) m.0 is;
        home = i.0;
        is = ap (home_of recs) m.2 ∙ put_home (args_of x) m.0 is ∙ i.1;
        leads = subst (λ (w : RowAt). In i.0 (interface_rows recs w)) same step;
      }

  way : (k : ℕ) (from : RowAt) (x y : TypeExpr) → is_interface recs x ≡ true → home_of recs x ≡ Some from → Leads (interfaces_of recs) k x y → Way from y
  way zero from x y is at l = subst (Way from) l (record { interface = is; home = from; is = at; steps = 0; leads = refl })
  way (suc k) from x y is at l =
      let s = one_step from x l.0 at l.1 in
      let w = way k s.home l.0 y s.interface s.is l.2 in
      record { interface = w.interface; home = w.home; is = w.is; steps = suc w.steps; leads = (s.home, s.leads, w.leads) }

  way_by : (from : RowAt) (x y : TypeExpr) → is_interface recs x ≡ true → home_of recs x ≡ Some from → (l : Led same_expr same_decides (interfaces_of recs) (x ∷ []) y) → In l.from (x ∷ []) → Way from y
  way_by from x y is at l (inl same) = way l.steps from x y is at (subst (λ (z : TypeExpr). Leads (interfaces_of recs) l.steps z y) same l.leads)
  way_by from x y is at l (inr i) = absurd i

  pub implied_way : (from : RowAt) (x y : TypeExpr) → is_interface recs x ≡ true → home_of recs x ≡ Some from → In y (implied recs x) → Way from y
  unfolding implied
  implied_way from x y is at i = let l = led same_expr same_decides (interfaces_of recs) (type_count recs) (x ∷ []) y i in way_by from x y is at l l.is
