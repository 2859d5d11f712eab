-- Looking at handler clauses one after another, as a loop does.
use Rattle.std.proofs.Common.{◌≡◌, ℕ, ◌+◌, ◌<◌, ◌≤◌, Bool, true, false, not, cond, ◌&&◌, ◌==◌, List, [], ◌∷◌, length, get_or, drop, Option, Some, None, refl, sym, ap, subst, ◌∙◌, arith}
use Rattle.std.specs.List.{slice_get}
use Rattle.std.proofs.lemmas.Bool.{eqb-true}
use Rattle.std.proofs.lemmas.List.{at_drop_more, at_drop_all}
use Rattle.std.proofs.lemmas.Option.{slice_get-get_or}
use Rattle.il_base.specs.declared.body.Handler.{Handler}
use Rattle.il_base.specs.body_grammar.HandlerRules.{try_of, handler_of, are_disjoint, is_same, fits_beside_all, is_range, is_clause, meets_rules, offender_from, offender}
use Rattle.il_code.specs.Nesting.{StandsAlone, IsFirstMisfit}

-- ---- one clause

and_false : (s t : Bool) → t ≡ false → (s && t) ≡ false
and_false true t h = h
and_false false t h = refl

last_two : (a b d e : Bool) → (a && b && d && e) ≡ true → (d && e) ≡ true
last_two true true d e h = h
last_two true false d e h = absurd cc
last_two false b d e h = absurd cc

stands_alone : (start : ℕ → Bool) (size : ℕ) (h : Handler) → is_clause start size h ≡ true → StandsAlone h
unfolding is_clause
stands_alone start size h e =
    last_two (is_range start size (try_of h)) (is_range start size (handler_of h)) (are_disjoint (try_of h) (handler_of h)) (not (is_same (try_of h) (handler_of h))) e

breaks_alone : (start : ℕ → Bool) (size : ℕ) (all : List Handler) (i : ℕ) (h : Handler) → is_clause start size h ≡ false → meets_rules start size all i h ≡ false
unfolding meets_rules
breaks_alone start size all i h e = rw e refl

breaks_pair : (start : ℕ → Bool) (size : ℕ) (all : List Handler) (i : ℕ) (h : Handler) → (is_clause start size h ≡ true → fits_beside_all i h 0 all ≡ false) → meets_rules start size all i h ≡ false
unfolding meets_rules
breaks_pair start size all i h e =
    let G : Bool → Type 0 = λ t. is_clause start size h ≡ t → (is_clause start size h && fits_beside_all i h 0 all) ≡ false in
    (elim (is_clause start size h) as G [ true ↦ λ k. and_false _ _ (e k) | false ↦ λ k. rw k refl ]) refl

keeps : (start : ℕ → Bool) (size : ℕ) (all : List Handler) (i : ℕ) (h : Handler) → is_clause start size h ≡ true → fits_beside_all i h 0 all ≡ true → meets_rules start size all i h ≡ true
unfolding meets_rules
keeps start size all i h e f = rw (e, f) refl

-- ---- all clauses

abbrev pub no_handler : Handler
no_handler = record { kind = 0; try_at = 0; try_len = 0; at = 0; len = 0; token = 0 }

offends_more : (start : ℕ → Bool) (size : ℕ) (all : List Handler) (i : ℕ) (d : Handler) → i < length all
    → offender_from start size all i (drop i all) ≡ cond (meets_rules start size all i (get_or all i d)) (offender_from start size all (i + 1) (drop (i + 1) all)) (Some i)
unfolding offender_from
offends_more start size all i d lt = at_drop_more (offender_from start size all i) all i d lt

offends : (start : ℕ → Bool) (size : ℕ) (all : List Handler) (i : ℕ) (d : Handler) (total : Option ℕ) → i < length all
    → meets_rules start size all i (get_or all i d) ≡ false → offender_from start size all i (drop i all) ≡ total → Some i ≡ total
offends start size all i d total lt fails e =
    ap (λ (b : Bool). cond b (offender_from start size all (i + 1) (drop (i + 1) all)) (Some i)) (sym fails) ∙ sym (offends_more start size all i d lt) ∙ e

offends_not : (start : ℕ → Bool) (size : ℕ) (all : List Handler) (i : ℕ) (d : Handler) (total : Option ℕ) → i < length all
    → meets_rules start size all i (get_or all i d) ≡ true → offender_from start size all i (drop i all) ≡ total
    → offender_from start size all (i + 1) (drop (i + 1) all) ≡ total
offends_not start size all i d total lt holds e =
    ap (λ (b : Bool). cond b (offender_from start size all (i + 1) (drop (i + 1) all)) (Some i)) (sym holds) ∙ sym (offends_more start size all i d lt) ∙ e

-- by the first clause that breaks the rules on pairs
module _ (start : ℕ → Bool) (size : ℕ) (all : List Handler) (i misfit : ℕ) (first : IsFirstMisfit all misfit) (lt : i < length all) (total : Option ℕ) (rest : offender_from start size all i (drop i all) ≡ total) where
  here : slice_get all i ≡ Some (get_or all i no_handler)
  here = slice_get-get_or all i no_handler lt

  pub offends_alone : is_clause start size (get_or all i no_handler) ≡ false → Some i ≡ total
  offends_alone e = offends start size all i no_handler total lt (breaks_alone start size all i (get_or all i no_handler) e) rest

  pub offends_pair : i ≡ misfit → Some i ≡ total
  offends_pair e =
      offends start size all i no_handler total lt
      (breaks_pair start size all i (get_or all i no_handler) (λ k. subst (λ (n : ℕ). fits_beside_all n (get_or all i no_handler) 0 all ≡ false) (sym e) (first.at (get_or all i no_handler) (ap (slice_get all) (sym e) ∙ here) (stands_alone start size (get_or all i no_handler) k)))) rest

  pub keeps_both : i ≤ misfit → (i ≡ misfit → ⊥) → is_clause start size (get_or all i no_handler) ≡ true → offender_from start size all (i + 1) (drop (i + 1) all) ≡ total
  keeps_both le n e =
      offends_not start size all i no_handler total lt
      (keeps start size all i (get_or all i no_handler) e (first.before i (get_or all i no_handler) (omega (arith, n)) here (stands_alone start size (get_or all i no_handler) e))) rest

pub offends_none : (start : ℕ → Bool) (size : ℕ) (all : List Handler) (i : ℕ) → length all ≤ i → offender_from start size all i (drop i all) ≡ None
unfolding offender_from
offends_none start size all i le = at_drop_all (offender_from start size all i) all i le

pub none_offends : (start : ℕ → Bool) (size : ℕ) (all : List Handler) → (length all == 0) ≡ true → None ≡ offender start size all
unfolding offender_from
none_offends start size [] e = refl
none_offends start size (h ∷ hs) e = absurd (omega (arith, eqb-true (length (h ∷ hs)) 0 e))

-- flags that say where instructions begin
pub by_flags : (flags items : List Bool) (start : ℕ → Bool) (size : ℕ) (all : List Handler) → flags ≡ items → ((k : ℕ) → get_or items k false ≡ start k)
    → offender (λ k. get_or flags k false) size all ≡ offender start size all
by_flags flags items start size all e h =
    ap (λ (fs : List Bool). offender (λ k. get_or fs k false) size all) e ∙ ap (λ (s : ℕ → Bool). offender s size all) (λ x k. h k x)
