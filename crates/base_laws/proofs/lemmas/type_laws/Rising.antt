-- Bases, then interfaces, then System.Object: where neither bases nor interfaces come back to a definition, no way up does.
use Rattle.std.proofs.Common.{◌≡◌, ℕ, zero, suc, Bool, true, false, List, [], ◌∷◌, ◌++◌, Option, Some, None, ◌⊎◌, inl, inr, refl, sym, ap, subst, ◌∙◌}
use Rattle.std.specs.Prelude.{if◌then◌else◌}
use Rattle.std.proofs.lemmas.Bool.{true≢false}
use Rattle.il_base.specs.declared.world_model.record.AsmRec.{AsmRec}
use Rattle.rules.specs.declared.link_rules.row_at.RowAt.{RowAt}
use Rattle.rules.specs.link_rules.Members.{base_at}
use Rattle.rules.specs.link_rules.Cycles.{same_row, is_interface_at, base_rows, interface_rows}
use Rattle.base_laws.proofs.lemmas.type_laws.Within.{In, in_parts}
use Rattle.base_laws.proofs.lemmas.type_laws.Reaching.{Leads}
use Rattle.base_laws.proofs.lemmas.type_laws.Places.{rows_decide}
use Rattle.base_laws.proofs.lemmas.type_laws.Upwards.{tops, ways, has_base, base_step, interface_step, are_interfaces, homed}

module _ (recs : List AsmRec) (top : RowAt) (top_class : is_interface_at recs top ≡ false) (top_base : base_at recs top ≡ None) (top_interfaces : interface_rows recs top ≡ []) where
  -- ---- the three kinds of step

  pub data Step (x y : RowAt) : Type 0 where
    of_base : In y (base_rows recs x) → Step x y
    of_interface : In y (interface_rows recs x) → Step x y
    of_top : y ≡ top → Step x y

  top_step : (x y : RowAt) (b : Bool) → In y (if b then [] else top ∷ []) → Step x y
  top_step x y true h = absurd h
  top_step x y false (inl e) = of_top e
  top_step x y false (inr h) = absurd h

  rest_step : (x y : RowAt) → In y (interface_rows recs x) ⊎ In y (tops recs top x) → Step x y
  rest_step x y (inl h) = of_interface h
  rest_step x y (inr h) = top_step x y (same_row x top) h

  step_by : (x y : RowAt) → In y (base_rows recs x) ⊎ In y (interface_rows recs x ++ tops recs top x) → Step x y
  step_by x y (inl h) = of_base h
  step_by x y (inr h) = rest_step x y (in_parts y (interface_rows recs x) (tops recs top x) h)

  pub step : (x y : RowAt) → In y (ways recs top x) → Step x y
  step x y h = step_by x y (in_parts y (base_rows recs x) (interface_rows recs x ++ tops recs top x) h)

  -- who has a base is a class
  from_class : (x y : RowAt) → In y (base_rows recs x) → is_interface_at recs x ≡ false
  from_class x y h = let s = base_step recs x y h in (has_base recs x s.0 s.1).class

  same_home : (o : Option RowAt) (x y : RowAt) → o ≡ Some x → o ≡ Some y → x ≡ y
  same_home o x y e f = let g : Some x ≡ Some y = sym e ∙ f in cc

  -- an interface row names an interface
  to_an_interface : (x y : RowAt) → In y (interface_rows recs x) → is_interface_at recs y ≡ true
  to_an_interface x y h =
      let s = interface_step recs x y h in
      let i = homed recs s.0 (are_interfaces recs x s.0 s.1) in
      subst (λ (z : RowAt). is_interface_at recs z ≡ true) (same_home _ i.0 y i.1 s.2) i.2

  -- System.Object leads to nothing
  none_above_by : (y : RowAt) (b : Bool) → same_row top top ≡ b → In y (if b then [] else top ∷ []) → ⊥
  none_above_by y true is h = h
  none_above_by y false is h = true≢false (sym ((rows_decide top top).1 refl) ∙ is)

  none_above_parts : (y : RowAt) → In y (interface_rows recs top) ⊎ In y (tops recs top top) → ⊥
  none_above_parts y (inl h) = subst (λ (ys : List RowAt). In y ys) top_interfaces h
  none_above_parts y (inr h) = none_above_by y (same_row top top) refl h

  no_base_above : (y : RowAt) → In y (base_rows recs top) → ⊥
  no_base_above y h = let s = base_step recs top y h in let f = sym top_base ∙ s.1 in cc

  none_above_either : (y : RowAt) → In y (base_rows recs top) ⊎ In y (interface_rows recs top ++ tops recs top top) → ⊥
  none_above_either y (inl h) = no_base_above y h
  none_above_either y (inr h) = none_above_parts y (in_parts y (interface_rows recs top) (tops recs top top) h)

  pub none_above : (y : RowAt) → In y (ways recs top top) → ⊥
  none_above y h = none_above_either y (in_parts y (base_rows recs top) (interface_rows recs top ++ tops recs top top) h)

  after_top : (n : ℕ) (x y : RowAt) → x ≡ top → Leads (ways recs top) n x y → (y ≡ top → ⊥) → ⊥
  after_top zero x y e l other = other (sym l ∙ e)
  after_top (suc n) x y e l other = none_above l.0 (subst (λ (z : RowAt). In l.0 (ways recs top z)) e l.1)

  -- ---- from an interface to an interface: by interfaces alone

  one_interface : (n : ℕ) (x z y : RowAt) → is_interface_at recs x ≡ true → is_interface_at recs y ≡ true → (is_interface_at recs z ≡ true → Leads (interface_rows recs) n z y) → Leads (ways recs top) n z y → Step x z
      → Leads (interface_rows recs) (suc n) x y
  one_interface n x z y i j more l (of_base h) = absurd (true≢false (sym i ∙ from_class x z h))
  one_interface n x z y i j more l (of_interface h) = (z, h, more (to_an_interface x z h))
  one_interface n x z y i j more l (of_top e) = absurd (after_top n z y e l (λ f. true≢false (sym j ∙ ap (is_interface_at recs) f ∙ top_class)))

  by_interfaces : (n : ℕ) (x y : RowAt) → is_interface_at recs x ≡ true → is_interface_at recs y ≡ true → Leads (ways recs top) n x y → Leads (interface_rows recs) n x y
  by_interfaces zero x y i j l = l
  by_interfaces (suc n) x y i j l = one_interface n x l.0 y i j (λ k. by_interfaces n l.0 y k j l.2) l.2 (step x l.0 l.1)

  -- ---- to a class that something stands above: by bases alone

  record ByBases (n : ℕ) (x y : RowAt) : Type 0 where
    class : is_interface_at recs x ≡ false
    leads : Leads (base_rows recs) n x y

  one_more : (n : ℕ) (x z y : RowAt) → (y ≡ top → ⊥) → ByBases n z y → Leads (ways recs top) n z y → Step x z → ByBases (suc n) x y
  one_more n x z y other more l (of_base h) = record { class = from_class x z h; leads = (z, h, more.leads) }
  one_more n x z y other more l (of_interface h) = absurd (true≢false (sym (to_an_interface x z h) ∙ more.class))
  one_more n x z y other more l (of_top e) = absurd (after_top n z y e l other)

  by_bases : (n : ℕ) (x y : RowAt) → is_interface_at recs y ≡ false → (y ≡ top → ⊥) → Leads (ways recs top) n x y → ByBases n x y
  by_bases zero x y c other l = record { class = ap (is_interface_at recs) l ∙ c; leads = l }
  by_bases (suc n) x y c other l = one_more n x l.0 y other (by_bases n l.0 y c other l.2) l.2 (step x l.0 l.1)

  -- ---- no way up comes back

  round_by : (n : ℕ) (x : RowAt) (b : Bool) → is_interface_at recs x ≡ b → (Leads (base_rows recs) (suc n) x x → ⊥) → (Leads (interface_rows recs) (suc n) x x → ⊥) → Leads (ways recs top) (suc n) x x → ⊥
  round_by n x true i bases interfaces l = interfaces (by_interfaces (suc n) x x i i l)
  round_by n x false i bases interfaces l =
      bases (by_bases (suc n) x x i (λ e. none_above l.0 (subst (λ (z : RowAt). In l.0 (ways recs top z)) e l.1)) l).leads

  pub no_round : (n : ℕ) (x : RowAt) → (Leads (base_rows recs) (suc n) x x → ⊥) → (Leads (interface_rows recs) (suc n) x x → ⊥) → Leads (ways recs top) (suc n) x x → ⊥
  no_round n x bases interfaces l = round_by n x (is_interface_at recs x) refl bases interfaces l
