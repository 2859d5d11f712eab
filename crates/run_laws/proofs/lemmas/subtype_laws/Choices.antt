-- The interface instance that a kept type chooses for a kept one is the moved one: what goes implies none that is kept (II.12.2).
use Rattle.std.proofs.Common.{◌≡◌, ℕ, ◌+◌, Bool, true, false, List, [], ◌∷◌, map, Option, Some, None, ◌⊎◌, inl, inr, refl, sym, ap, subst, ◌∙◌, arith}
use Rattle.std.specs.Prelude.{IsTrue, find, if◌then◌else◌}
use Rattle.std.specs.List.{list_all, flat_map, filter}
use Rattle.std.specs.Option.{option_map}
use Rattle.std.specs.Cmp.{first_so, second_so}
use Rattle.std.proofs.lemmas.Bool.{true≢false}
use Rattle.il_base.specs.declared.world_model.expr.TypeExpr.{TypeExpr}
use Rattle.il_base.specs.declared.world_model.record.AsmRec.{AsmRec}
use Rattle.il_base.specs.world_model.Exprs.{same_expr, subst as put}
use Rattle.il_base.proofs.lemmas.world_model.SameExpr.{same_decides}
use Rattle.rules.specs.declared.link_rules.row_at.RowAt.{RowAt}
use Rattle.rules.specs.link_rules.Types.{or_else}
use Rattle.rules.specs.link_rules.Members.{args_of, open_parent, with_bases, type_count}
use Rattle.rules.specs.link_rules.Cycles.{led_to, home_of}
use Rattle.rules.specs.link_rules.Linked.{assemblies, link_fault_of}
use Rattle.rules.specs.type_rules.Subtypes.{interfaces_of}
use Rattle.rules.specs.type_rules.Slots.{nearest}
use Rattle.rules.specs.type_rules.Dispatch.{Choice, implied, implied_by, is_closed_to, chosen, choice_in}
use Rattle.base_laws.proofs.lemmas.type_laws.Within.{In}
use Rattle.base_laws.proofs.lemmas.walk_laws.Bases.{all_whole as all_bases_whole}
use Rattle.base_laws.proofs.lemmas.walk_laws.Implied.{all_whole as all_implied_whole}
use Rattle.rules.specs.change_rules.Change.{Change}
use Rattle.rules.specs.change_rules.Moves.{move_expr, move_exprs}
use Rattle.rules.specs.change_rules.Keeps.{keeps_expr}
use Rattle.base_laws.proofs.lemmas.change_laws.Subst.{subst_moves}
use Rattle.base_laws.proofs.lemmas.change_laws.Same.{same_exprs_moved}
use Rattle.rules.specs.world_change_rules.Places.{Places}
use Rattle.rules.specs.world_change_rules.Rows.{RowsMove}
use Rattle.rules.specs.world_change_rules.Kept.{KeepsRows}
use Rattle.run_laws.proofs.lemmas.query_laws.Homes.{args_moved, home_kept}
use Rattle.run_laws.proofs.lemmas.query_laws.Wholes.{with_bases_kept, with_bases_moved}
use Rattle.run_laws.specs.dispatch_laws.Kept.{move_choice}
use Rattle.run_laws.proofs.lemmas.dispatch_laws.Impls.{open_moved, open_kept}
use Rattle.run_laws.specs.subtype_laws.Gone.{KeepsImplied}
use Rattle.run_laws.specs.subtype_laws.Laws.{ChoicesMove}
use Rattle.run_laws.proofs.lemmas.subtype_laws.Filtered.{in_kept, all_of_led, led_kept, led_split, flat_kept, split_flat, led_moved, flat_moved}
use Rattle.run_laws.proofs.lemmas.subtype_laws.Climbs.{goes_interface}
use Rattle.run_laws.proofs.lemmas.subtype_laws.Steps.{Gone, home_put, gone_steps, gone_unkept, kept_interfaces_of, interfaces_filtered, interfaces_split, interfaces_kept, interfaces_moved}

-- ---- a search among items of which some go

module _ {A : Type 0} (K test : A → Bool) where
  found_by : (x : A) (xs : List A) (b c : Bool) → K x ≡ b → test x ≡ c → (test x ≡ true → K x ≡ true) → find test (filter K xs) ≡ find test xs
      → find test (if b then x ∷ filter K xs else filter K xs) ≡ (if c then Some x else find test xs)
  found_by x xs true true h g passed e = ap (λ (t : Bool). if t then Some x else find test (filter K xs)) g
  found_by x xs true false h g passed e = ap (λ (t : Bool). if t then Some x else find test (filter K xs)) g ∙ e
  found_by x xs false true h g passed e = absurd (true≢false (sym (passed g) ∙ h))
  found_by x xs false false h g passed e = e

  -- none that goes passes
  find_kept : (xs : List A) → ((x : A) → In x xs → test x ≡ true → K x ≡ true) → find test (filter K xs) ≡ find test xs
  find_kept [] passed = refl
  find_kept (x ∷ xs) passed = found_by x xs (K x) (test x) refl refl (passed x (inl refl)) (find_kept xs (λ y i. passed y (inr i)))

module _ {A : Type 0} (f : A → A) (later earlier : A → Bool) (same : (x : A) → later (f x) ≡ earlier x) where
  moved_by : (x : A) (xs : List A) (b : Bool) → find later (map f xs) ≡ option_map f (find earlier xs) → (if b then Some (f x) else find later (map f xs)) ≡ option_map f (if b then Some x else find earlier xs)
  moved_by x xs true e = refl
  moved_by x xs false e = e

  find_moved : (xs : List A) → find later (map f xs) ≡ option_map f (find earlier xs)
  find_moved [] = refl
  find_moved (x ∷ xs) = ap (λ (b : Bool). if b then Some (f x) else find later (map f xs)) (same x) ∙ moved_by x xs (earlier x) (find_moved xs)

abbrev choice_of : TypeExpr → TypeExpr → Choice
choice_of t i = record { of = t; instance = i }

module _ (k : Change) (kept : RowAt → Bool) (p : Places) (outputs inputs : List AsmRec) (linked : link_fault_of outputs ≡ None) (sound : link_fault_of inputs ≡ None)
    (r : RowsMove k kept p (assemblies outputs) (assemblies inputs)) (keeps : KeepsRows k.keep kept (assemblies inputs)) (rows : KeepsImplied k.keep kept (assemblies inputs)) where
  abbrev after : List AsmRec
  after = assemblies outputs

  abbrev before : List AsmRec
  before = assemblies inputs

  abbrev K : TypeExpr → Bool
  K = keeps_expr k.keep

  abbrev move : TypeExpr → TypeExpr
  move = move_expr k.rho

  abbrev apart : (x y : TypeExpr) → same_expr (move x) (move y) ≡ same_expr x y
  apart x y = same_exprs_moved k.back k.rho k.undone x y

  abbrev Goes : TypeExpr → Type 0
  Goes = Gone k kept inputs sound keeps rows

  abbrev climb : TypeExpr → List TypeExpr
  climb = kept_interfaces_of k kept inputs sound keeps rows p after r

  unkept : (x : TypeExpr) → Goes x → K x ≡ false
  unkept x g = gone_unkept k kept inputs sound keeps rows p after r x g

  steps_gone : (x y : TypeExpr) → Goes x → In y (interfaces_of before x) → Goes y
  steps_gone x y g i = gone_steps k kept inputs sound keeps rows x y g i

  steps_split : (x y : TypeExpr) → K x ≡ true → In y (interfaces_of before x) → (K y ≡ true) ⊎ Goes y
  steps_split x y h i = interfaces_split k kept inputs sound keeps rows p after r x y h i

  steps_filtered : (x : TypeExpr) → K x ≡ true → filter K (interfaces_of before x) ≡ climb x
  steps_filtered x h = interfaces_filtered k kept inputs sound keeps rows p after r x h

  only : (a x : TypeExpr) → K a ≡ true → In x (a ∷ []) → K x ≡ true
  only a x h (inl e) = ap K e ∙ h
  only a x h (inr i) = absurd i

  -- ---- what an interface implies

  rounds_moved : (n : ℕ) (j : TypeExpr) → K j ≡ true → led_to same_expr (interfaces_of after) n (move j ∷ []) ≡ map move (filter K (led_to same_expr (interfaces_of before) n (j ∷ [])))
  rounds_moved n j h =
      led_moved same_expr move apart same_decides K climb (interfaces_of after) (interfaces_moved k kept inputs sound keeps rows p after r) (interfaces_kept k kept inputs sound keeps rows p after r) n (j ∷ [])
      (λ x i. only j x h i)
      ∙ ap (map move)
      (sym
      (led_kept same_expr same_decides K (interfaces_of before) climb Goes steps_filtered steps_split unkept steps_gone n (j ∷ []) (λ x i. inl (only j x h i))
      ∙ ap (λ (b : Bool). led_to same_expr climb n (if b then j ∷ [] else [])) h))

  implied_moved : (j : TypeExpr) → K j ≡ true → implied after (move j) ≡ map move (filter K (implied before j))
  implied_moved j h =
      let n : ℕ = type_count after + type_count before in
      sym (all_implied_whole outputs linked n (move j) (omega arith)) ∙ rounds_moved n j h ∙ ap (λ (xs : List TypeExpr). map move (filter K xs)) (all_implied_whole inputs sound n j (omega arith))

  implied_split : (x y : TypeExpr) → K x ≡ true → In y (implied before x) → (K y ≡ true) ⊎ Goes y
  unfolding implied
  implied_split x y h i =
      led_split same_expr same_decides K (interfaces_of before) climb Goes steps_filtered steps_split unkept steps_gone (type_count before) (x ∷ []) (λ z j. inl (only x z h j)) y i

  one_gone : (x y : TypeExpr) → Goes x → In y (x ∷ []) → Goes y
  one_gone x y g (inl e) = subst Goes (sym e) g
  one_gone x y g (inr i) = absurd i

  implied_gone : (x y : TypeExpr) → Goes x → In y (implied before x) → Goes y
  unfolding implied
  implied_gone x y g i = all_of_led same_expr same_decides (interfaces_of before) Goes steps_gone (type_count before) (x ∷ []) (λ z j. one_gone x z g j) y i

  -- ---- what a type's rows imply

  abbrev kept_implied : TypeExpr → List TypeExpr
  kept_implied j = filter K (implied before j)

  module _ (t : TypeExpr) (kept_t : K t ≡ true) where
    abbrev opened : TypeExpr
    opened = open_parent before t

    kept_open : K opened ≡ true
    kept_open = open_kept k kept p after before r keeps t kept_t

    abbrev given : List TypeExpr
    given = interfaces_of before opened

    given_split : (x : TypeExpr) → In x given → (K x ≡ true) ⊎ Goes x
    given_split x i = steps_split opened x kept_open i

    implied_filtered : filter K (flat_map (implied before) given) ≡ flat_map kept_implied (filter K given)
    implied_filtered = flat_kept same_expr same_decides K (implied before) kept_implied Goes (λ x h. refl) implied_split unkept implied_gone given given_split

    implied_by_moved : implied_by after (move t) ≡ map move (filter K (implied_by before t))
    implied_by_moved =
        ap (λ (o : TypeExpr). flat_map (implied after) (interfaces_of after o)) (open_moved k kept p after before r keeps t)
        ∙ ap (flat_map (implied after)) (interfaces_moved k kept inputs sound keeps rows p after r opened kept_open ∙ ap (map move) (sym (steps_filtered opened kept_open)))
        ∙ flat_moved same_expr move apart same_decides K kept_implied (implied after) implied_moved (λ x y h i. in_kept K y (implied before x) i) (filter K given) (λ x i. in_kept K x given i)
        ∙ ap (map move) (sym implied_filtered)

    -- ---- what it chooses

    module _ (wanted : TypeExpr) (kept_wanted : K wanted ≡ true) where
      abbrev closed : TypeExpr → Bool
      closed = is_closed_to (args_of t) wanted

      closed_moved : (e : TypeExpr) → is_closed_to (args_of (move t)) (move wanted) (move e) ≡ closed e
      closed_moved e =
          ap (λ (args : List TypeExpr). same_expr (put args [] (move e)) (move wanted)) (args_moved k t) ∙ ap (λ (x : TypeExpr). same_expr x (move wanted)) (sym (subst_moves k.rho (args_of t) [] e))
          ∙ apart (put (args_of t) [] e) wanted

      -- one that goes isn't what is wanted
      passes_by : (e : TypeExpr) → (K e ≡ true) ⊎ Goes e → closed e ≡ true → K e ≡ true
      passes_by e (inl h) c = h
      passes_by e (inr g) c =
          let same : put (args_of t) [] e ≡ wanted = (same_decides (put (args_of t) [] e) wanted).0 c in
          let home = ap (home_of before) (sym same) ∙ home_put k kept inputs sound keeps rows (args_of t) e (goes_interface k kept p after inputs sound r keeps rows e g) ∙ g.is in
          absurd (true≢false (sym (home_kept k kept p after before r keeps wanted g.home kept_wanted home) ∙ g.none 0 g.home refl))

      passes : (e : TypeExpr) → In e (implied_by before t) → closed e ≡ true → K e ≡ true
      passes e i c =
          passes_by e (split_flat same_expr same_decides K (implied before) kept_implied Goes (λ x h. refl) implied_split unkept implied_gone given given_split e i) c

      chosen_moved : chosen after (move wanted) (move t) ≡ option_map move (chosen before wanted t)
      unfolding chosen
      chosen_moved =
          ap (find (is_closed_to (args_of (move t)) (move wanted))) implied_by_moved
          ∙ find_moved move (is_closed_to (args_of (move t)) (move wanted)) closed closed_moved (filter K (implied_by before t))
          ∙ ap (option_map move) (find_kept K closed (implied_by before t) passes)

  choice_by : (t : TypeExpr) (o : Option TypeExpr) → option_map (λ (i : TypeExpr). choice_of (move t) i) (option_map move o) ≡ option_map (move_choice k.rho) (option_map (choice_of t) o)
  choice_by t None = refl
  choice_by t (Some i) = refl

  choice_moved : (t wanted : TypeExpr) → K t ≡ true → K wanted ≡ true → choice_in after (move wanted) (move t) ≡ option_map (move_choice k.rho) (choice_in before wanted t)
  choice_moved t wanted h g = ap (option_map (choice_of (move t))) (chosen_moved t h wanted g) ∙ choice_by t (chosen before wanted t)

  or_by : (o q : Option Choice) → or_else (option_map (move_choice k.rho) o) (option_map (move_choice k.rho) q) ≡ option_map (move_choice k.rho) (or_else o q)
  or_by None q = refl
  or_by (Some c) q = refl

  nearest_moved : (wanted : TypeExpr) → K wanted ≡ true → (es : List TypeExpr) → IsTrue (list_all K es) → nearest (choice_in after (move wanted)) (move_exprs k.rho es) ≡ option_map (move_choice k.rho) (nearest (choice_in before wanted) es)
  unfolding nearest
  nearest_moved wanted g [] h = refl
  nearest_moved wanted g (e ∷ es) h =
      (λ i. or_else (choice_moved e wanted (first_so (K e) (list_all K es) h) g i) (nearest_moved wanted g es (second_so (K e) (list_all K es) h) i)) ∙ or_by (choice_in before wanted e) (nearest (choice_in before wanted) es)

  pub choices_moved : (e wanted : TypeExpr) → K e ≡ true → K wanted ≡ true
      → nearest (choice_in after (move wanted)) (with_bases after (move e)) ≡ option_map (move_choice k.rho) (nearest (choice_in before wanted) (with_bases before e))
  choices_moved e wanted h g =
      ap (nearest (choice_in after (move wanted))) (with_bases_moved k kept p after before r keeps (all_bases_whole outputs linked) (all_bases_whole inputs sound) e h)
      ∙ nearest_moved wanted g (with_bases before e) (with_bases_kept k kept p after before r keeps e h)

pub all_choices_moved : ChoicesMove
all_choices_moved k kept p outputs inputs linked sound r keeps implied e wanted h g = choices_moved k kept p outputs inputs linked sound r keeps implied e wanted h g
