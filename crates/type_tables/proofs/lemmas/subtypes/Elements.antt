-- The search for a subtype, one level of arrays at a time.
use Rattle.std.proofs.Common.{◌≡◌, ℕ, zero, suc, Bool, true, false, List, Some, None, refl, ap, ◌∙◌}
use Rattle.il_base.specs.declared.world_model.expr.TypeExpr.{TypeExpr}
use Rattle.il_base.specs.declared.world_model.record.AsmRec.{AsmRec}
use Rattle.il_base.specs.world_model.Exprs.{levels}
use Rattle.il_base.proofs.lemmas.world_model.ExprLayers.{levels_array}
use Rattle.rules.specs.type_rules.Subtypes.{is_reference, leads_up, element_of, are_elements, is_below, is_subtype}
use Rattle.base_laws.proofs.lemmas.type_laws.Subtypes.{array_is, led_below}

-- an array has one level more than its element
pub deeper : (a x : TypeExpr) → element_of a ≡ Some x → levels a ≡ suc (levels x)
deeper a x e = ap levels (array_is a x e) ∙ levels_array x

module _ (recs : List AsmRec) (a b : TypeExpr) where
  pub led_up : leads_up recs a b ≡ true → is_subtype recs a b ≡ true
  led_up l = led_below recs (levels a) a b l

  module _ (l : leads_up recs a b ≡ false) where
    unless_elements : (n : ℕ) → ((k : ℕ) → are_elements recs (is_below recs k) (element_of a) (element_of b) ≡ false) → is_below recs n a b ≡ false
    unfolding is_below
    unless_elements zero h = l
    unless_elements (suc n) h = rw (l, h n) refl

    pub no_element : element_of a ≡ None → is_subtype recs a b ≡ false
    no_element e = unless_elements (levels a) (λ k. rw e refl)

    pub no_other : (x : TypeExpr) → element_of a ≡ Some x → element_of b ≡ None → is_subtype recs a b ≡ false
    no_other x e f = unless_elements (levels a) (λ k. rw (e, f) refl)

    pub no_reference : (x y : TypeExpr) → element_of a ≡ Some x → element_of b ≡ Some y → is_reference recs x ≡ false → is_subtype recs a b ≡ false
    no_reference x y e f r = unless_elements (levels a) (λ k. rw (e, f, r) refl)

    by_elements : (n : ℕ) (x y : TypeExpr) → element_of a ≡ Some x → element_of b ≡ Some y → is_reference recs x ≡ true → is_below recs (suc n) a b ≡ is_below recs n x y
    unfolding is_below
    by_elements n x y e f r = rw (l, e, f, r) refl

    pub one_down : (x y : TypeExpr) → element_of a ≡ Some x → element_of b ≡ Some y → is_reference recs x ≡ true → is_subtype recs a b ≡ is_subtype recs x y
    one_down x y e f r = ap (λ (n : ℕ). is_below recs n a b) (deeper a x e) ∙ by_elements (levels x) x y e f r

-- a type that is no array leads to a subtype by steps up alone
pub plain_is : (recs : List AsmRec) (a b : TypeExpr) → element_of a ≡ None → is_subtype recs a b ≡ leads_up recs a b
plain_is recs a b e = by_led (leads_up recs a b) refl
  where
    by_led : (y : Bool) → leads_up recs a b ≡ y → is_subtype recs a b ≡ y
    by_led true l = led_up recs a b l
    by_led false l = no_element recs a b l e
