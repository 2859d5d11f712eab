-- What a step adds to what was found, where it looks only at what the last one found, and when no step adds more.
use Rattle.std.proofs.Common.{◌≡◌, ℕ, zero, suc, ◌+◌, ◌-◌, ◌<◌, ◌≤◌, Bool, true, false, List, [], ◌∷◌, ◌++◌, length, take, drop, refl, sym, ap, subst, ◌∙◌, arith, append_assoc}
use Rattle.std.proofs.lemmas.Bool.{or_left, or_right}
use Rattle.std.proofs.lemmas.List.{append-nil, length-append, take-append-drop}
use Rattle.std.proofs.lemmas.List.Folds.{list_any-append}
use Rattle.std.proofs.Math.Seq.{take-append_seam}
use Rattle.std.proofs.lemmas.Grind.{flat_map-append}
use Rattle.std.specs.Prelude.{if◌then◌else◌}
use Rattle.std.specs.List.{list_any, flat_map}
use Rattle.rules.specs.link_rules.Cycles.{add_new, add_all, led_to}
use Rattle.link_faults.proofs.Each.{Each}

module _ {A : Type 0} (same : A → A → Bool) where
  -- ---- lists that grow at their ends

  pub add_more : (xs ys : List A) (y : A) → add_all same xs (ys ++ y ∷ []) ≡ add_new same (add_all same xs ys) y
  add_more xs [] y = refl
  add_more xs (z ∷ ys) y = add_more (add_new same xs z) ys y

  add_both : (xs ys zs : List A) → add_all same xs (ys ++ zs) ≡ add_all same (add_all same xs ys) zs
  add_both xs [] zs = refl
  add_both xs (y ∷ ys) zs = add_both (add_new same xs y) ys zs

  new_behind : (xs : List A) (y : A) (b : Bool) → (more : List A) × ((if b then xs else xs ++ y ∷ []) ≡ xs ++ more)
  new_behind xs y true = ([], sym (append-nil xs))
  new_behind xs y false = (y ∷ [], refl)

  -- what is added stands after what was there
  behind : (xs ys : List A) → (more : List A) × (add_all same xs ys ≡ xs ++ more)
  behind xs [] = ([], sym (append-nil xs))
  behind xs (y ∷ ys) =
      let n = new_behind xs y (list_any (same y) xs) in
      let m = behind (add_new same xs y) ys in
      (n.0 ++ m.0, m.1 ∙ ap (λ (zs : List A). zs ++ m.0) n.1 ∙ append_assoc xs n.0 m.0)

  -- ---- items that are there

  abbrev Has : List A → A → Type 0
  Has xs y = list_any (same y) xs ≡ true

  has_front : (xs more : List A) (y : A) → Has xs y → Has (xs ++ more) y
  has_front xs more y h = list_any-append (same y) xs more ∙ or_left (list_any (same y) xs) (list_any (same y) more) h

  has_kept : (xs ys : List A) (y : A) → Has xs y → Has (add_all same xs ys) y
  has_kept xs ys y h = let b = behind xs ys in ap (list_any (same y)) b.1 ∙ has_front xs b.0 y h

  each_kept : (xs ys zs : List A) → Each (Has xs) zs → Each (Has (add_all same xs ys)) zs
  each_kept xs ys [] e = tt
  each_kept xs ys (z ∷ zs) e = (has_kept xs ys z e.0, each_kept xs ys zs e.1)

  -- what is there already adds nothing
  all_there : (xs ys : List A) → Each (Has xs) ys → add_all same xs ys ≡ xs
  all_there xs [] h = refl
  all_there xs (y ∷ ys) h =
      let e : add_new same xs y ≡ xs = ap (λ (b : Bool). if b then xs else xs ++ y ∷ []) h.0 in
      ap (λ (zs : List A). add_all same zs ys) e ∙ all_there xs ys h.1

module _ {A : Type 0} (same : A → A → Bool) (itself : (x : A) → same x x ≡ true) (next : A → List A) where
  has_new : (xs : List A) (y : A) (b : Bool) → list_any (same y) xs ≡ b → Has same (if b then xs else xs ++ y ∷ []) y
  has_new xs y true is = is
  has_new xs y false is =
      list_any-append (same y) xs (y ∷ []) ∙ or_right (list_any (same y) xs) (list_any (same y) (y ∷ [])) (or_left (same y y) false (itself y))

  -- what was added is there
  has_added : (xs ys : List A) → Each (Has same (add_all same xs ys)) ys
  has_added xs [] = tt
  has_added xs (y ∷ ys) = (has_kept same (add_new same xs y) ys y (has_new xs y (list_any (same y) xs) refl), has_added (add_new same xs y) ys)

  -- what the first n lead to is there
  pub record Looked (n : ℕ) (found : List A) : Type 0 where
    pub within : n ≤ length found
    pub there : Each (Has same found) (flat_map next (take n found))

  pub none_looked : (xs : List A) → Looked 0 xs
  none_looked xs = record { within = omega arith; there = tt }

  -- so the others alone give what all give
  pub round_is : (n : ℕ) (found : List A) → Looked n found → add_all same found (flat_map next (drop n found)) ≡ add_all same found (flat_map next found)
  round_is n found looked =
      let front = flat_map next (take n found) in
      let back = flat_map next (drop n found) in
      let e : add_all same found front ≡ found = all_there same found front looked.there in
      sym (ap (λ (xs : List A). add_all same xs back) e) ∙ sym (add_both same found front back) ∙ sym (ap (add_all same found) (flat_map-append next (take n found) (drop n found)))
      ∙ ap (λ (xs : List A). add_all same found (flat_map next xs)) (take-append-drop n found)

  pub looked_more : (found new : List A) → new ≡ add_all same found (flat_map next found) → Looked (length found) new
  looked_more found new e =
      let m = behind same found (flat_map next found) in
      let f : new ≡ found ++ m.0 = e ∙ m.1 in
      let t : take (length found) new ≡ found = ap (take (length found)) f ∙ take-append_seam found m.0 in
      record {
        within = omega (arith, ap length f, length-append found m.0);
        there =
            subst (λ (xs : List A). Each (Has same new) (flat_map next xs)) (sym t)
            (subst (λ (xs : List A). Each (Has same xs) (flat_map next found)) (sym e) (has_added found (flat_map next found)));
      }

  -- one step of a search that has gone so many
  pub step_more : (steps step : ℕ) (found new all : List A) → step < steps → new ≡ add_all same found (flat_map next found) → led_to same next (steps - step) found ≡ all
      → led_to same next (steps - (step + 1)) new ≡ all
  unfolding led_to
  step_more steps step found new all lt e h =
      let z : steps - step ≡ suc (steps - (step + 1)) = omega arith in
      ap (led_to same next (steps - (step + 1))) e ∙ ap (λ (n : ℕ). led_to same next n found) (sym z) ∙ h

  -- a step that adds nothing is the last
  at_rest : (n : ℕ) (xs : List A) → add_all same xs (flat_map next xs) ≡ xs → led_to same next n xs ≡ xs
  unfolding led_to
  at_rest zero xs e = refl
  at_rest (suc n) xs e = ap (led_to same next n) e ∙ at_rest n xs e

  none_behind : (xs more : List A) → length (xs ++ more) ≡ length xs → xs ++ more ≡ xs
  none_behind xs [] e = append-nil xs
  none_behind xs (y ∷ more) e = absurd (omega (arith, length-append xs (y ∷ more), e))

  pub step_last : (n : ℕ) (found new all : List A) → new ≡ add_all same found (flat_map next found) → length new ≡ length found → led_to same next n found ≡ all → new ≡ all
  step_last n found new all e l h =
      let m = behind same found (flat_map next found) in
      let f : new ≡ found ++ m.0 = e ∙ m.1 in
      let rest : new ≡ found = f ∙ none_behind found m.0 (ap length (sym f) ∙ l) in
      rest ∙ sym (at_rest n found (sym e ∙ rest)) ∙ h

  -- all steps are done
  pub step_end : (steps step : ℕ) (found all : List A) → steps ≤ step → led_to same next (steps - step) found ≡ all → found ≡ all
  unfolding led_to
  step_end steps step found all le h = let z : steps - step ≡ 0 = omega arith in sym (ap (λ (n : ℕ). led_to same next n found) z) ∙ h
