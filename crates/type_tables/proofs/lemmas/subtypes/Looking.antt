-- What a round adds to what was found, where it looks only at what the last one found.
use Rattle.std.proofs.Common.{◌≡◌, ℕ, zero, suc, ◌+◌, ◌-◌, ◌<◌, ◌≤◌, Bool, true, false, List, [], ◌∷◌, ◌++◌, length, take, drop, inl, inr, refl, sym, ap, subst, ◌∙◌, arith, append_assoc}
use Rattle.std.proofs.lemmas.List.{append-nil, length-append, take-append-drop}
use Rattle.std.proofs.Math.Seq.{take-append_seam}
use Rattle.std.proofs.lemmas.Grind.{flat_map-append}
use Rattle.std.specs.Prelude.{if◌then◌else◌}
use Rattle.std.specs.Bool.{Decides}
use Rattle.std.specs.List.{list_any, flat_map}
use Rattle.rules.specs.link_rules.Cycles.{add_new, add_all, led_to}
use Rattle.base_laws.proofs.lemmas.type_laws.Within.{In, any_in, in_added}

module _ {A : Type 0} (same : A → A → Bool) where
  -- ---- lists that grow at their ends

  pub add_more : (xs ys : List A) (y : A) → add_all same xs (ys ++ y ∷ []) ≡ add_new same (add_all same xs ys) y
  add_more xs [] y = refl
  add_more xs (z ∷ ys) y = add_more (add_new same xs z) ys y

  add_both : (xs ys zs : List A) → add_all same xs (ys ++ zs) ≡ add_all same (add_all same xs ys) zs
  add_both xs [] zs = refl
  add_both xs (y ∷ ys) zs = add_both (add_new same xs y) ys zs

  new_behind : (xs : List A) (y : A) (b : Bool) → (more : List A) × ((if b then xs else xs ++ y ∷ []) ≡ xs ++ more)
  new_behind xs y true = ([], sym (append-nil xs))
  new_behind xs y false = (y ∷ [], refl)

  -- what is added stands after what was there
  behind : (xs ys : List A) → (more : List A) × (add_all same xs ys ≡ xs ++ more)
  behind xs [] = ([], sym (append-nil xs))
  behind xs (y ∷ ys) =
      let n = new_behind xs y (list_any (same y) xs) in
      let m = behind (add_new same xs y) ys in
      (n.0 ++ m.0, m.1 ∙ ap (λ (zs : List A). zs ++ m.0) n.1 ∙ append_assoc xs n.0 m.0)

module _ {A : Type 0} (same : A → A → Bool) (decides : (x y : A) → Decides (same x y) (x ≡ y)) (next : A → List A) where
  -- what is there already adds nothing
  all_there : (xs ys : List A) → ((y : A) → In y ys → In y xs) → add_all same xs ys ≡ xs
  all_there xs [] h = refl
  all_there xs (y ∷ ys) h =
      let e : add_new same xs y ≡ xs = ap (λ (b : Bool). if b then xs else xs ++ y ∷ []) (any_in same decides y xs (h y (inl refl))) in
      ap (λ (zs : List A). add_all same zs ys) e ∙ all_there xs ys (λ z i. h z (inr i))

  -- what the first n lead to is there
  pub record Looked (n : ℕ) (found : List A) : Type 0 where
    pub within : n ≤ length found
    pub there : (y : A) → In y (flat_map next (take n found)) → In y found

  pub none_looked : (x : A) → Looked 0 (x ∷ [])
  none_looked x = record { within = omega arith; there = λ y h. absurd h }

  -- so the others alone give what all give
  pub round_is : (n : ℕ) (found : List A) → Looked n found → add_all same found (flat_map next (drop n found)) ≡ add_all same found (flat_map next found)
  round_is n found looked =
      let front = flat_map next (take n found) in
      let back = flat_map next (drop n found) in
      let e : add_all same found front ≡ found = all_there found front looked.there in
      sym (ap (λ (xs : List A). add_all same xs back) e) ∙ sym (add_both same found front back) ∙ sym (ap (add_all same found) (flat_map-append next (take n found) (drop n found)))
      ∙ ap (λ (xs : List A). add_all same found (flat_map next xs)) (take-append-drop n found)

  pub looked_more : (found new : List A) → new ≡ add_all same found (flat_map next found) → Looked (length found) new
  looked_more found new e =
      let m = behind same found (flat_map next found) in
      let f : new ≡ found ++ m.0 = e ∙ m.1 in
      let t : take (length found) new ≡ found = ap (take (length found)) f ∙ take-append_seam found m.0 in
      record {
        within = omega (arith, ap length f, length-append found m.0);
        there = λ y h. subst (λ (xs : List A). In y xs) (sym e) (in_added same decides y found (flat_map next found) (subst (λ (xs : List A). In y (flat_map next xs)) t h));
      }

  -- one round of a search that has gone so many
  pub round_more : (rounds round : ℕ) (found new all : List A) → round < rounds → new ≡ add_all same found (flat_map next found) → led_to same next (rounds - round) found ≡ all
      → led_to same next (rounds - (round + 1)) new ≡ all
  unfolding led_to
  round_more rounds round found new all lt e h =
      let z : rounds - round ≡ suc (rounds - (round + 1)) = omega arith in
      ap (led_to same next (rounds - (round + 1))) e ∙ ap (λ (n : ℕ). led_to same next n found) (sym z) ∙ h

  -- a round that adds nothing is the last
  at_rest : (n : ℕ) (xs : List A) → add_all same xs (flat_map next xs) ≡ xs → led_to same next n xs ≡ xs
  unfolding led_to
  at_rest zero xs e = refl
  at_rest (suc n) xs e = ap (led_to same next n) e ∙ at_rest n xs e

  none_behind : (xs more : List A) → length (xs ++ more) ≡ length xs → xs ++ more ≡ xs
  none_behind xs [] e = append-nil xs
  none_behind xs (y ∷ more) e = absurd (omega (arith, length-append xs (y ∷ more), e))

  pub round_last : (n : ℕ) (found new all : List A) → new ≡ add_all same found (flat_map next found) → length new ≡ length found → led_to same next n found ≡ all → new ≡ all
  round_last n found new all e l h =
      let m = behind same found (flat_map next found) in
      let f : new ≡ found ++ m.0 = e ∙ m.1 in
      let rest : new ≡ found = f ∙ none_behind found m.0 (ap length (sym f) ∙ l) in
      rest ∙ sym (at_rest n found (sym e ∙ rest)) ∙ h

  -- all rounds are done
  pub round_end : (rounds round : ℕ) (found all : List A) → rounds ≤ round → led_to same next (rounds - round) found ≡ all → found ≡ all
  unfolding led_to
  round_end rounds round found all le h = let z : rounds - round ≡ 0 = omega arith in sym (ap (λ (n : ℕ). led_to same next n found) z) ∙ h
