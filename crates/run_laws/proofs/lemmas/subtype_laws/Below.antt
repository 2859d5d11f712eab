-- Which kept types a kept type can stand for is the same in both worlds.
use Rattle.std.proofs.Common.{◌≡◌, ℕ, zero, suc, ◌+◌, Bool, true, false, List, [], ◌∷◌, map, Option, Some, None, ◌⊎◌, inl, inr, refl, sym, ap, subst, ◌∙◌, arith}
use Rattle.std.specs.Prelude.{IsTrue, ◌&&◌, ◌||◌, not, if◌then◌else◌}
use Rattle.std.specs.List.{list_any, filter}
use Rattle.std.specs.Option.{is_some, option_map}
use Rattle.std.proofs.lemmas.Bool.{true≢false}
use Rattle.il_base.specs.declared.world_model.expr.TypeExpr.{TypeExpr, out-TypeExpr}
use Rattle.il_base.specs.declared.world_model.expr.TypeExpr.TheOpen.{TypeExpr-F}
use Rattle.il_base.specs.declared.world_model.expr.TypeExpr.TheVariants as expr
use Rattle.il_base.specs.declared.world_model.record.AsmRec.{AsmRec}
use Rattle.il_base.specs.world_model.Exprs.{levels, same_expr}
use Rattle.il_base.proofs.lemmas.world_model.ExprLayers.{levels_array}
use Rattle.il_base.proofs.lemmas.world_model.SameExpr.{same_decides}
use Rattle.rules.specs.declared.link_rules.row_at.RowAt.{RowAt}
use Rattle.rules.specs.link_rules.Members.{type_count}
use Rattle.rules.specs.link_rules.Cycles.{led_to, home_of}
use Rattle.rules.specs.link_rules.Linked.{assemblies, link_fault_of}
use Rattle.rules.specs.type_rules.Subtypes.{up, above, is_class_at, is_reference_in, is_reference, is_under_object, leads_up, element_in, element_of, are_elements, is_below, is_subtype}
use Rattle.base_laws.proofs.lemmas.type_laws.Within.{In}
use Rattle.base_laws.proofs.lemmas.type_laws.Subtypes.{array_is}
use Rattle.rules.specs.change_rules.Change.{Change}
use Rattle.rules.specs.change_rules.Moves.{move_expr}
use Rattle.rules.specs.change_rules.Keeps.{Names, names_of, keeps_expr, keeps_defined}
use Rattle.base_laws.proofs.lemmas.change_laws.Exprs.{moved_in, out_moved, move_prim, move_array}
use Rattle.base_laws.proofs.lemmas.change_laws.Subst.{names_array}
use Rattle.base_laws.proofs.lemmas.change_laws.Same.{same_exprs_moved}
use Rattle.rules.specs.world_change_rules.Places.{Places, keeps_type_row}
use Rattle.rules.specs.world_change_rules.Rows.{RowsMove}
use Rattle.rules.specs.world_change_rules.Kept.{KeepsRows}
use Rattle.run_laws.proofs.lemmas.query_laws.Homes.{home_moved, home_kept}
use Rattle.run_laws.proofs.lemmas.query_laws.Wholes.{value_type_moved}
use Rattle.run_laws.specs.subtype_laws.Gone.{KeepsImplied}
use Rattle.run_laws.specs.subtype_laws.Laws.{BelowMoves}
use Rattle.run_laws.proofs.lemmas.subtype_laws.Filtered.{any_other, led_kept, led_split, any_moved, led_moved}
use Rattle.run_laws.proofs.lemmas.subtype_laws.Defined.{defined_array, home_defined}
use Rattle.run_laws.proofs.lemmas.subtype_laws.Climbs.{Goes, kept_up, up_filtered, up_split, up_gone, up_moved, up_kept, goes_unkept}
use Rattle.run_laws.proofs.lemmas.subtype_laws.Whole.{above_whole}

element_in_moved : (k : Change) (o : TypeExpr-F TypeExpr) → element_in (moved_in k.rho o) ≡ option_map (move_expr k.rho) (element_in o)
element_in_moved k (TypeExpr-F.Prim n) = refl
element_in_moved k (TypeExpr-F.Def t) = refl
element_in_moved k (TypeExpr-F.Inst t args) = refl
element_in_moved k (TypeExpr-F.Array x) = refl
element_in_moved k (TypeExpr-F.ByRef x) = refl
element_in_moved k (TypeExpr-F.Var n) = refl
element_in_moved k (TypeExpr-F.MVar n) = refl
element_in_moved k (TypeExpr-F.Mod required by x) = refl

element_moved : (k : Change) (e : TypeExpr) → element_of (move_expr k.rho e) ≡ option_map (move_expr k.rho) (element_of e)
unfolding element_of
element_moved k e = ap element_in (out_moved k.rho e) ∙ element_in_moved k (out-TypeExpr e)

module _ (k : Change) (kept : RowAt → Bool) (p : Places) (outputs inputs : List AsmRec) (linked : link_fault_of outputs ≡ None) (sound : link_fault_of inputs ≡ None)
    (r : RowsMove k kept p (assemblies outputs) (assemblies inputs)) (keeps : KeepsRows k.keep kept (assemblies inputs)) (implied : KeepsImplied k.keep kept (assemblies inputs)) where
  abbrev after : List AsmRec
  after = assemblies outputs

  abbrev before : List AsmRec
  before = assemblies inputs

  abbrev K : TypeExpr → Bool
  K = keeps_expr k.keep

  abbrev move : TypeExpr → TypeExpr
  move = move_expr k.rho

  abbrev apart : (x y : TypeExpr) → same_expr (move x) (move y) ≡ same_expr x y
  apart x y = same_exprs_moved k.back k.rho k.undone x y

  -- ---- what stands above a kept type

  abbrev climb : TypeExpr → List TypeExpr
  climb = kept_up k kept p after inputs sound r keeps implied

  only : (a x : TypeExpr) → K a ≡ true → In x (a ∷ []) → K x ≡ true
  only a x h (inl e) = ap K e ∙ h
  only a x h (inr i) = absurd i

  abbrev GoesIn : TypeExpr → Type 0
  GoesIn = Goes k kept p after inputs sound r keeps implied

  split : (a x : TypeExpr) → K a ≡ true → In x (a ∷ []) → (K x ≡ true) ⊎ GoesIn x
  split a x h i = inl (only a x h i)

  rounds_moved : (n : ℕ) (a : TypeExpr) → K a ≡ true → led_to same_expr (up after) n (move a ∷ []) ≡ map move (filter K (led_to same_expr (up before) n (a ∷ [])))
  rounds_moved n a h =
      led_moved same_expr move apart same_decides K climb (up after) (up_moved k kept p after inputs sound r keeps implied) (up_kept k kept p after inputs sound r keeps implied) n (a ∷ []) (λ x i. only a x h i)
      ∙ ap (map move)
      (sym
      (led_kept same_expr same_decides K (up before) climb GoesIn (up_filtered k kept p after inputs sound r keeps implied) (up_split k kept p after inputs sound r keeps implied)
      (goes_unkept k kept p after inputs sound r keeps implied) (up_gone k kept p after inputs sound r keeps implied) n (a ∷ []) (λ x i. split a x h i)
      ∙ ap (λ (b : Bool). led_to same_expr climb n (if b then a ∷ [] else [])) h))

  above_moved : (a : TypeExpr) → K a ≡ true → above after (move a) ≡ map move (filter K (above before a))
  above_moved a h =
      let n : ℕ = suc (type_count after) + suc (type_count before) in
      sym (above_whole outputs linked n (move a) (omega arith)) ∙ rounds_moved n a h ∙ ap (λ (xs : List TypeExpr). map move (filter K xs)) (above_whole inputs sound n a (omega arith))

  defined_by : (o : Option RowAt) → is_some (option_map p.typ o) ≡ is_some o
  defined_by None = refl
  defined_by (Some at) = refl

  under_moved : (a b : TypeExpr) → K a ≡ true → is_under_object after (move a) (move b) ≡ is_under_object before a b
  under_moved a b h =
      (λ i. is_some (home_moved k kept p after before r keeps a h i) && same_expr (move b) (sym (move_prim k.rho 0x1c) i))
      ∙ (λ i. defined_by (home_of before a) i && apart b (expr.Prim 0x1c) i)

  -- one that goes is no type whose definition is kept
  other_by : (b x : TypeExpr) → IsTrue (keeps_defined k.keep b) → (K x ≡ true) ⊎ GoesIn x → K x ≡ false → (c : Bool) → same_expr b x ≡ c → c ≡ false
  other_by b x h (inl s) u c e = absurd (true≢false (sym s ∙ u))
  other_by b x h (inr g) u true e =
      let home = ap (home_of before) ((same_decides b x).0 e) ∙ g.is in
      absurd (true≢false (sym (home_defined k.keep kept before keeps b g.home h home) ∙ g.none 0 g.home refl))
  other_by b x h (inr g) u false e = refl

  above_split : (a x : TypeExpr) → K a ≡ true → In x (above before a) → (K x ≡ true) ⊎ GoesIn x
  unfolding above
  above_split a x h i =
      led_split same_expr same_decides K (up before) climb GoesIn (up_filtered k kept p after inputs sound r keeps implied) (up_split k kept p after inputs sound r keeps implied)
      (goes_unkept k kept p after inputs sound r keeps implied) (up_gone k kept p after inputs sound r keeps implied) (suc (type_count before)) (a ∷ []) (λ y j. split a y h j) x i

  leads_moved : (a b : TypeExpr) → K a ≡ true → IsTrue (keeps_defined k.keep b) → leads_up after (move a) (move b) ≡ leads_up before a b
  leads_moved a b h g =
      (λ i. under_moved a b h i || list_any (same_expr (move b)) (above_moved a h i))
      ∙ ap (λ (c : Bool). is_under_object before a b || c)
      (any_moved same_expr move apart b (filter K (above before a)) ∙ any_other same_expr same_decides K b (above before a) (λ x i u. other_by b x g (above_split a x h i) u (same_expr b x) refl))

  -- ---- reference types

  class_by : (o : Option RowAt) → ((at : RowAt) → o ≡ Some at → IsTrue (keeps_type_row k.keep before at)) → is_class_at after (option_map p.typ o) ≡ is_class_at before o
  class_by None h = refl
  class_by (Some at) h = ap not (value_type_moved k kept p after before r keeps at (h at refl))

  class_moved : (x : TypeExpr) → K x ≡ true → is_class_at after (home_of after (move x)) ≡ is_class_at before (home_of before x)
  class_moved x h = ap (is_class_at after) (home_moved k kept p after before r keeps x h) ∙ class_by (home_of before x) (λ at is. home_kept k kept p after before r keeps x at h is)

  reference_in_moved : (x : TypeExpr) → K x ≡ true → (o : TypeExpr-F TypeExpr) → is_reference_in after (move x) (moved_in k.rho o) ≡ is_reference_in before x o
  reference_in_moved x h (TypeExpr-F.Prim n) = refl
  reference_in_moved x h (TypeExpr-F.Def t) = class_moved x h
  reference_in_moved x h (TypeExpr-F.Inst t args) = class_moved x h
  reference_in_moved x h (TypeExpr-F.Array y) = refl
  reference_in_moved x h (TypeExpr-F.ByRef y) = refl
  reference_in_moved x h (TypeExpr-F.Var n) = refl
  reference_in_moved x h (TypeExpr-F.MVar n) = refl
  reference_in_moved x h (TypeExpr-F.Mod required by y) = refl

  reference_moved : (x : TypeExpr) → K x ≡ true → is_reference after (move x) ≡ is_reference before x
  unfolding is_reference
  reference_moved x h = ap (is_reference_in after (move x)) (out_moved k.rho x) ∙ reference_in_moved x h (out-TypeExpr x)

  -- ---- arrays

  element_kept : (a x : TypeExpr) → K a ≡ true → element_of a ≡ Some x → K x ≡ true
  element_kept a x h e = sym (ap (λ (n : Names). n.kept) (ap (λ z. names_of k.keep z) (array_is a x e) ∙ names_array k.keep x)) ∙ h

  element_defined : (b y : TypeExpr) → IsTrue (keeps_defined k.keep b) → element_of b ≡ Some y → IsTrue (keeps_defined k.keep y)
  element_defined b y h e = sym (ap (λ z. keeps_defined k.keep z) (array_is b y e) ∙ defined_array k.keep y) ∙ h

  -- without elements steps up alone tell
  alone : (recs : List AsmRec) (n : ℕ) (a b : TypeExpr) → element_of a ≡ None → is_below recs n a b ≡ leads_up recs a b
  unfolding is_below
  alone recs zero a b e = refl
  alone recs (suc n) a b e = ap (λ (o : Option TypeExpr). leads_up recs a b || are_elements recs (is_below recs n) o (element_of b)) e ∙ or_none (leads_up recs a b)
    where
      or_none : (c : Bool) → (c || false) ≡ c
      or_none true = refl
      or_none false = refl

  abbrev Alike : ℕ → Type 0
  Alike n = (m : ℕ) (a b : TypeExpr) → n ≡ levels a → m ≡ levels (move a) → K a ≡ true → IsTrue (keeps_defined k.keep b) → is_below after m (move a) (move b) ≡ is_below before n a b

  elements_moved : (n m : ℕ) → Alike n → (x : TypeExpr) → n ≡ levels x → m ≡ levels (move x) → K x ≡ true → (b : TypeExpr) → IsTrue (keeps_defined k.keep b) → (o : Option TypeExpr) → element_of b ≡ o
      → are_elements after (is_below after m) (Some (move x)) (option_map move o) ≡ are_elements before (is_below before n) (Some x) o
  elements_moved n m again x ln lm h b g None e = refl
  elements_moved n m again x ln lm h b g (Some y) e = λ i. reference_moved x h i && again m x y ln lm h (element_defined b y g e) i

  array_moved : (n m : ℕ) → Alike n → (a b x : TypeExpr) → element_of a ≡ Some x → n ≡ levels x → m ≡ levels (move x) → K a ≡ true → IsTrue (keeps_defined k.keep b)
      → is_below after (suc m) (move a) (move b) ≡ is_below before (suc n) a b
  unfolding is_below
  array_moved n m again a b x e ln lm h g =
      (λ i. leads_moved a b h g i || are_elements after (is_below after m) ((element_moved k a ∙ ap (option_map move) e) i) (element_moved k b i))
      ∙ ap (λ (c : Bool). leads_up before a b || c) (elements_moved n m again x ln lm (element_kept a x h e) b g (element_of b) refl)
      ∙ ap (λ (o : Option TypeExpr). leads_up before a b || are_elements before (is_below before n) o (element_of b)) (sym e)

  deep : (a x : TypeExpr) → element_of a ≡ Some x → levels a ≡ suc (levels x)
  deep a x e = ap levels (array_is a x e) ∙ levels_array x

  deep_moved : (a x : TypeExpr) → element_of a ≡ Some x → levels (move a) ≡ suc (levels (move x))
  deep_moved a x e = ap (λ (z : TypeExpr). levels (move z)) (array_is a x e) ∙ ap levels (move_array k.rho x) ∙ levels_array (move x)

  below_by : (n : ℕ) → ((n' : ℕ) → n ≡ suc n' → Alike n') → (m : ℕ) (a b : TypeExpr) → n ≡ levels a → m ≡ levels (move a) → K a ≡ true → IsTrue (keeps_defined k.keep b) → (o : Option TypeExpr) → element_of a ≡ o
      → is_below after m (move a) (move b) ≡ is_below before n a b
  below_by n again m a b ln lm h g None e =
      alone after m (move a) (move b) (element_moved k a ∙ ap (option_map move) e) ∙ leads_moved a b h g ∙ sym (alone before n a b e)
  below_by n again m a b ln lm h g (Some x) e =
      let en : n ≡ suc (levels x) = ln ∙ deep a x e in
      let em : m ≡ suc (levels (move x)) = lm ∙ deep_moved a x e in
      ap (λ (i : ℕ). is_below after i (move a) (move b)) em
      ∙ array_moved (levels x) (levels (move x)) (again (levels x) en) a b x e refl refl h g
      ∙ sym (ap (λ (i : ℕ). is_below before i a b) en)

  alike : (n : ℕ) → Alike n
  alike zero m a b ln lm h g = below_by zero (λ n' e. absurd (omega arith)) m a b ln lm h g (element_of a) refl
  alike (suc n) m a b ln lm h g = below_by (suc n) (λ n' e. let same : n ≡ n' = omega arith in subst Alike same (alike n)) m a b ln lm h g (element_of a) refl

  pub below_moved : (a b : TypeExpr) → K a ≡ true → IsTrue (keeps_defined k.keep b) → is_subtype after (move a) (move b) ≡ is_subtype before a b
  below_moved a b h g = alike (levels a) (levels (move a)) a b refl refl h g

pub all_below_moved : BelowMoves
all_below_moved k kept p outputs inputs linked sound r keeps implied a b h g = below_moved k kept p outputs inputs linked sound r keeps implied a b h g
