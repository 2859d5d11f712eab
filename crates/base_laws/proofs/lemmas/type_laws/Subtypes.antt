-- The search for a subtype answers as the relation has it.
use Rattle.std.proofs.Common.{◌≡◌, ℕ, zero, suc, true, List, Option, Some, None, ◌⊎◌, inl, inr, refl, sym, ap, subst, ◌∙◌}
use Rattle.std.specs.Prelude.{IsTrue}
use Rattle.std.specs.List.{list_any}
use Rattle.std.proofs.lemmas.Bool.{and_parts, and_from, or_left, or_right, or_cases}
use Rattle.il_base.specs.declared.world_model.expr.TypeExpr.{TypeExpr, out-TypeExpr, roll-TypeExpr, roll-out-TypeExpr}
use Rattle.il_base.specs.declared.world_model.expr.TypeExpr.TheOpen.{TypeExpr-F}
use Rattle.il_base.specs.declared.world_model.expr.TypeExpr.TheVariants as expr
use Rattle.il_base.specs.declared.world_model.record.AsmRec.{AsmRec}
use Rattle.il_base.specs.world_model.Exprs.{levels, same_expr}
use Rattle.il_base.proofs.lemmas.world_model.ExprLayers.{levels_array}
use Rattle.il_base.proofs.lemmas.world_model.SameExpr.{same_decides}
use Rattle.rules.specs.link_rules.Members.{is_named_in, is_named}
use Rattle.rules.specs.link_rules.Linked.{assemblies, link_fault_of}
use Rattle.rules.specs.type_rules.Subtypes.{up_in, up, is_reference, above, is_defined, is_under_object, IsSubtype, leads_up, element_in, element_of, are_elements, is_below, is_subtype}
use Rattle.rules.specs.type_rules.Subtypes as sub
use Rattle.base_laws.specs.type_laws.Decisions.{SubtypeDecides}
use Rattle.base_laws.proofs.lemmas.type_laws.Within.{In, in_any, any_in}
use Rattle.base_laws.proofs.lemmas.type_laws.Reaching.{Leads}
use Rattle.base_laws.proofs.lemmas.type_laws.Upwards.{out_is}
use Rattle.base_laws.proofs.lemmas.type_laws.Ways.{up_all_named, up_all_homed, array_of_homed, none_above_object, up_found, Upward, upward}

-- ---- elements of arrays

element_by : (x : TypeExpr-F TypeExpr) (e y : TypeExpr) → roll-TypeExpr x ≡ e → element_in x ≡ Some y → e ≡ expr.Array y
element_by (TypeExpr-F.Array z) e y is h = let same : z ≡ y = cc in sym is ∙ expr.rolls-Array z ∙ ap expr.Array same
element_by (TypeExpr-F.Prim n) e y is h = cc
element_by (TypeExpr-F.Def t) e y is h = cc
element_by (TypeExpr-F.Inst t args) e y is h = cc
element_by (TypeExpr-F.ByRef x) e y is h = cc
element_by (TypeExpr-F.Var n) e y is h = cc
element_by (TypeExpr-F.MVar n) e y is h = cc
element_by (TypeExpr-F.Mod required by x) e y is h = cc

pub array_is : (e y : TypeExpr) → element_of e ≡ Some y → e ≡ expr.Array y
unfolding element_of
array_is e y h = element_by (out-TypeExpr e) e y (roll-out-TypeExpr e) h

pub element_is : (y : TypeExpr) → element_of (expr.Array y) ≡ Some y
unfolding element_of
element_is y = ap element_in (out_is (TypeExpr-F.Array y) (expr.Array y) (expr.rolls-Array y))

named_by : (x : TypeExpr-F TypeExpr) → is_named_in x ≡ true → element_in x ≡ None
named_by (TypeExpr-F.Prim n) h = refl
named_by (TypeExpr-F.Def t) h = refl
named_by (TypeExpr-F.Inst t args) h = refl
named_by (TypeExpr-F.Array x) h = cc
named_by (TypeExpr-F.ByRef x) h = refl
named_by (TypeExpr-F.Var n) h = refl
named_by (TypeExpr-F.MVar n) h = refl
named_by (TypeExpr-F.Mod required by x) h = refl

prim_named : is_named (expr.Prim 0x1c) ≡ true
unfolding is_named
prim_named = ap is_named_in (out_is (TypeExpr-F.Prim 0x1c) (expr.Prim 0x1c) (expr.rolls-Prim 0x1c))

no_element : (e : TypeExpr) → is_named e ≡ true → element_of e ≡ None
unfolding is_named element_of
no_element e h = named_by (out-TypeExpr e) h

-- ---- what the search finds is in the relation

module _ (recs : List AsmRec) where
  climbs : (k : ℕ) (a b : TypeExpr) → Leads (up recs) k a b → IsSubtype recs a b
  climbs zero a b l = subst (λ (x : TypeExpr). IsSubtype recs a x) l (sub.same a)
  climbs (suc k) a b l = sub.step a l.0 b (any_in same_expr same_decides l.0 (up recs a) l.1) (climbs k l.0 b l.2)

  upward_sound : (a b : TypeExpr) → Upward recs a b → IsSubtype recs a b
  upward_sound a b (Upward.under_object is same) = subst (λ (x : TypeExpr). IsSubtype recs a x) (sym same) (sub.object a is)
  upward_sound a b (Upward.led_up w) = climbs w.steps a b w.leads

  led_sound : (a b : TypeExpr) → leads_up recs a b ≡ true → IsSubtype recs a b
  led_sound a b e = upward_sound a b (upward recs a b e)

  arrays_sound : (a b x y : TypeExpr) → a ≡ expr.Array x → b ≡ expr.Array y → is_reference recs x ≡ true → IsSubtype recs x y → IsSubtype recs a b
  arrays_sound a b x y e f r s =
      subst (λ (c : TypeExpr). IsSubtype recs c b) (sym e) (subst (λ (c : TypeExpr). IsSubtype recs (expr.Array x) c) (sym f) (sub.array x y (expr.Array y) r s (sub.same (expr.Array y))))

  elements_sound : (n : ℕ) (a b : TypeExpr) (o p : Option TypeExpr) → ((x y : TypeExpr) → is_below recs n x y ≡ true → IsSubtype recs x y) → element_of a ≡ o → element_of b ≡ p
      → are_elements recs (is_below recs n) o p ≡ true → IsSubtype recs a b
  elements_sound n a b None p more e f h = cc
  elements_sound n a b (Some x) None more e f h = cc
  elements_sound n a b (Some x) (Some y) more e f h =
      let q = and_parts (is_reference recs x) (is_below recs n x y) h in
      arrays_sound a b x y (array_is a x e) (array_is b y f) q.0 (more x y q.1)

  either_sound : (n : ℕ) (a b : TypeExpr) → ((x y : TypeExpr) → is_below recs n x y ≡ true → IsSubtype recs x y)
      → (leads_up recs a b ≡ true) ⊎ (are_elements recs (is_below recs n) (element_of a) (element_of b) ≡ true) → IsSubtype recs a b
  either_sound n a b more (inl e) = led_sound a b e
  either_sound n a b more (inr h) = elements_sound n a b (element_of a) (element_of b) more refl refl h

  below_sound : (n : ℕ) (a b : TypeExpr) → is_below recs n a b ≡ true → IsSubtype recs a b
  unfolding is_below
  below_sound zero a b e = led_sound a b e
  below_sound (suc n) a b e =
      either_sound n a b (below_sound n) (or_cases (leads_up recs a b) (are_elements recs (is_below recs n) (element_of a) (element_of b)) e)

  -- ---- what leads up is found at any depth

  pub led_below : (n : ℕ) (a b : TypeExpr) → leads_up recs a b ≡ true → is_below recs n a b ≡ true
  unfolding is_below
  led_below zero a b e = e
  led_below (suc n) a b e = or_left (leads_up recs a b) (are_elements recs (is_below recs n) (element_of a) (element_of b)) e

  no_elements : (n : ℕ) (b d : TypeExpr) (o : Option TypeExpr) → o ≡ None → (leads_up recs b d ≡ true) ⊎ (are_elements recs (is_below recs n) o (element_of d) ≡ true) → leads_up recs b d ≡ true
  no_elements n b d o e (inl h) = h
  no_elements n b d None e (inr h) = cc
  no_elements n b d (Some x) e (inr h) = cc

  -- a named type is found below another by steps up alone
  named_below : (n : ℕ) (b d : TypeExpr) → is_named b ≡ true → is_below recs n b d ≡ true → leads_up recs b d ≡ true
  unfolding is_below
  named_below zero b d named e = e
  named_below (suc n) b d named e =
      no_elements n b d (element_of b) (no_element b named) (or_cases (leads_up recs b d) (are_elements recs (is_below recs n) (element_of b) (element_of d)) e)

  -- ---- arrays

  pair_below : (n : ℕ) (x y a b : TypeExpr) → element_of a ≡ Some x → element_of b ≡ Some y → is_reference recs x ≡ true → is_below recs n x y ≡ true → is_below recs (suc n) a b ≡ true
  unfolding is_below
  pair_below n x y a b e f r h =
      or_right (leads_up recs a b) (are_elements recs (is_below recs n) (element_of a) (element_of b))
      ((λ i. are_elements recs (is_below recs n) (e i) (f i)) ∙ and_from (is_reference recs x) (is_below recs n x y) r h)

  arrays_below : (x y : TypeExpr) → is_reference recs x ≡ true → is_subtype recs x y ≡ true → is_subtype recs (expr.Array x) (expr.Array y) ≡ true
  arrays_below x y r h =
      ap (λ (n : ℕ). is_below recs n (expr.Array x) (expr.Array y)) (levels_array x) ∙ pair_below (levels x) x y (expr.Array x) (expr.Array y) (element_is x) (element_is y) r h

  -- what an array is found below
  data Over (x d : TypeExpr) : Type 0 where
    led_to : leads_up recs (expr.Array x) d ≡ true → Over x d
    of_element : (y : TypeExpr) → d ≡ expr.Array y → is_subtype recs x y ≡ true → Over x d

  over_element : (x d : TypeExpr) (o p : Option TypeExpr) → o ≡ Some x → element_of d ≡ p → are_elements recs (is_below recs (levels x)) o p ≡ true → Over x d
  over_element x d None p e f h = cc
  over_element x d (Some z) None e f h = cc
  over_element x d (Some z) (Some y) e f h =
      let same : z ≡ x = cc in
      let q = and_parts (is_reference recs z) (is_below recs (levels x) z y) h in
      of_element y (array_is d y f) (ap (λ (c : TypeExpr). is_below recs (levels x) c y) (sym same) ∙ q.1)

  over_by : (x d : TypeExpr)
      → (leads_up recs (expr.Array x) d ≡ true) ⊎ (are_elements recs (is_below recs (levels x)) (element_of (expr.Array x)) (element_of d) ≡ true) → Over x d
  over_by x d (inl e) = led_to e
  over_by x d (inr h) = over_element x d (element_of (expr.Array x)) (element_of d) (element_is x) refl h

  over_deep : (x d : TypeExpr) → is_below recs (suc (levels x)) (expr.Array x) d ≡ true → Over x d
  unfolding is_below
  over_deep x d e =
      over_by x d (or_cases (leads_up recs (expr.Array x) d) (are_elements recs (is_below recs (levels x)) (element_of (expr.Array x)) (element_of d)) e)

  over : (x d : TypeExpr) → is_subtype recs (expr.Array x) d ≡ true → Over x d
  over x d e = over_deep x d (ap (λ (n : ℕ). is_below recs n (expr.Array x) d) (sym (levels_array x)) ∙ e)

  -- each array has the same above it
  same_up : (x y : TypeExpr) → up recs (expr.Array x) ≡ up recs (expr.Array y)
  unfolding up
  same_up x y =
      ap (up_in recs (expr.Array x)) (out_is (TypeExpr-F.Array x) (expr.Array x) (expr.rolls-Array x))
      ∙ sym (ap (up_in recs (expr.Array y)) (out_is (TypeExpr-F.Array y) (expr.Array y) (expr.rolls-Array y)))

-- ---- the relation is found, in a linked world

module _ (inputs : List AsmRec) (sound : link_fault_of inputs ≡ None) where
  abbrev all : List AsmRec
  all = assemblies inputs

  led_found : (k : ℕ) (a b : TypeExpr) → Leads (up all) k a b → is_subtype all a b ≡ true
  led_found k a b l = led_below all (levels a) a b (up_found inputs sound k a b l)

  itself : (a : TypeExpr) → is_subtype all a a ≡ true
  itself a = led_found 0 a a refl

  -- each type of a definition is found below System.Object
  object_found : (a d : TypeExpr) → IsTrue (is_defined all a) → d ≡ expr.Prim 0x1c → is_subtype all a d ≡ true
  object_found a d is same =
      led_below all (levels a) a d
      (or_left (is_under_object all a d) (list_any (same_expr d) (above all a)) (and_from (is_defined all a) (same_expr d (expr.Prim 0x1c)) is ((same_decides d (expr.Prim 0x1c)).1 same)))

  step_by : (a b d : TypeExpr) → In b (up all a) → Upward all b d → is_subtype all a d ≡ true
  step_by a b d i (Upward.under_object is same) = object_found a d (up_all_homed inputs sound a b i) same
  step_by a b d i (Upward.led_up w) = led_found (suc w.steps) a d (b, i, w.leads)

  step_found : (a b d : TypeExpr) → list_any (same_expr b) (up all a) ≡ true → is_subtype all b d ≡ true → is_subtype all a d ≡ true
  step_found a b d is h =
      let i = in_any same_expr same_decides b (up all a) is in
      step_by a b d i (upward all b d (named_below all (levels b) b d (up_all_named inputs sound a b i) h))

  -- what System.Object is found below is itself
  only_object_by : (d : TypeExpr) → Upward all (expr.Prim 0x1c) d → d ≡ expr.Prim 0x1c
  only_object_by d (Upward.under_object is same) = same
  only_object_by d (Upward.led_up w) = only_object_way d w.steps w.leads
    where
      only_object_way : (d : TypeExpr) (k : ℕ) → Leads (up all) k (expr.Prim 0x1c) d → d ≡ expr.Prim 0x1c
      only_object_way d zero l = sym l
      only_object_way d (suc k) l = absurd (none_above_object inputs sound l.0 l.1)

  only_object : (d : TypeExpr) → is_subtype all (expr.Prim 0x1c) d ≡ true → d ≡ expr.Prim 0x1c
  only_object d h = only_object_by d (upward all (expr.Prim 0x1c) d (named_below all (levels (expr.Prim 0x1c)) (expr.Prim 0x1c) d prim_named h))

  array_way : (x y d : TypeExpr) (k : ℕ) → Leads (up all) k (expr.Array y) d → is_reference all x ≡ true → ((e : TypeExpr) → is_subtype all y e ≡ true → is_subtype all x e ≡ true)
      → is_subtype all (expr.Array x) d ≡ true
  array_way x y d zero l r more = subst (λ (e : TypeExpr). is_subtype all (expr.Array x) e ≡ true) l (arrays_below all x y r (more y (itself y)))
  array_way x y d (suc k) l r more = led_found (suc k) (expr.Array x) d (l.0, subst (λ (es : List TypeExpr). In l.0 es) (same_up all y x) l.1, l.2)

  array_upward : (x y d : TypeExpr) → Upward all (expr.Array y) d → is_reference all x ≡ true → ((e : TypeExpr) → is_subtype all y e ≡ true → is_subtype all x e ≡ true)
      → is_subtype all (expr.Array x) d ≡ true
  array_upward x y d (Upward.under_object is same) r more = object_found (expr.Array x) d (array_of_homed inputs sound x) same
  array_upward x y d (Upward.led_up w) r more = array_way x y d w.steps w.leads r more

  array_over : (x y d : TypeExpr) → Over all y d → is_reference all x ≡ true → ((e : TypeExpr) → is_subtype all y e ≡ true → is_subtype all x e ≡ true) → is_subtype all (expr.Array x) d ≡ true
  array_over x y d (Over.led_to e) r more = array_upward x y d (upward all (expr.Array y) d e) r more
  array_over x y d (Over.of_element z e h) r more = subst (λ (c : TypeExpr). is_subtype all (expr.Array x) c ≡ true) (sym e) (arrays_below all x z r (more z h))

  -- what stands above a supertype is found above the type
  extended : (a b : TypeExpr) → IsSubtype all a b → (d : TypeExpr) → is_subtype all b d ≡ true → is_subtype all a d ≡ true
  extended _ _ (sub.same e) d h = h
  extended _ _ (sub.object a is) d h = object_found a d is (only_object d h)
  extended _ _ (sub.step a b c is s) d h = step_found a b d is (extended b c s d h)
  extended _ _ (sub.array a b c r s t) d h = array_over a b d (over all b d (extended (expr.Array b) c t d h)) r (extended a b s)

  complete : (a b : TypeExpr) → IsSubtype all a b → is_subtype all a b ≡ true
  complete a b s = extended a b s b (itself b)

pub decides : SubtypeDecides
decides inputs sound a b = (below_sound (assemblies inputs) (levels a) a b, complete inputs sound a b)
