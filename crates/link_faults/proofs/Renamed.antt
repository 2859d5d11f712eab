-- Cycles stay cycles as items are numbered.
use Rattle.std.proofs.Common.{◌≡◌, ℕ, zero, suc, Bool, true, false, nat_eq, List, [], ◌∷◌, ◌++◌, map, refl, sym, ap, ◌∙◌}
use Rattle.std.specs.Prelude.{if◌then◌else◌, ◌||◌}
use Rattle.std.specs.List.{list_any, flat_map}
use Rattle.std.proofs.lemmas.List.{map-append, map_push}
use Rattle.rules.specs.link_rules.Cycles.{add_new, add_all, led_to, is_on_cycle}
use Rattle.link_faults.proofs.Each.{Each, each_next, each_new, each_added, each_led}

-- an item and its number lead to the same
pub record Leads {A : Type 0} (next : A → List A) (P : A → Type 0) (number : A → ℕ) (to : ℕ → List ℕ) (x : A) : Type 0 where
  pub stays : Each P (next x)
  pub numbered : to (number x) ≡ map number (next x)

module _ {A : Type 0} (same : A → A → Bool) (next : A → List A) (P : A → Type 0) (number : A → ℕ) (to : ℕ → List ℕ)
    (alike : (x y : A) → P x → P y → same x y ≡ nat_eq (number x) (number y)) (leads : (x : A) → P x → Leads next P number to x) where
  any_moved : (x : A) (xs : List A) → P x → Each P xs → list_any (same x) xs ≡ list_any (nat_eq (number x)) (map number xs)
  any_moved x [] p e = refl
  any_moved x (y ∷ xs) p e = λ i. alike x y p e.0 i || any_moved x xs p e.1 i

  new_by : (xs : List A) (x : A) (b : Bool) → map number (if b then xs else xs ++ x ∷ []) ≡ (if b then map number xs else map number xs ++ number x ∷ [])
  new_by xs x true = refl
  new_by xs x false = map_push number xs x

  new_moved : (xs : List A) (x : A) → Each P xs → P x → map number (add_new same xs x) ≡ add_new nat_eq (map number xs) (number x)
  new_moved xs x e p =
      new_by xs x (list_any (same x) xs) ∙ ap (λ (b : Bool). if b then map number xs else map number xs ++ number x ∷ []) (any_moved x xs p e)

  added_moved : (xs ys : List A) → Each P xs → Each P ys → map number (add_all same xs ys) ≡ add_all nat_eq (map number xs) (map number ys)
  added_moved xs [] e f = refl
  added_moved xs (y ∷ ys) e f =
      added_moved (add_new same xs y) ys (each_new P same xs y e f.0) f.1
      ∙ ap (λ (zs : List ℕ). add_all nat_eq zs (map number ys)) (new_moved xs y e f.0)

  flat_moved : (xs : List A) → Each P xs → map number (flat_map next xs) ≡ flat_map to (map number xs)
  flat_moved [] e = refl
  flat_moved (x ∷ xs) e = map-append number (next x) (flat_map next xs) ∙ (λ i. sym (leads x e.0).numbered i ++ flat_moved xs e.1 i)

  stay : (x : A) → P x → Each P (next x)
  stay x p = (leads x p).stays

  led_moved : (n : ℕ) (xs : List A) → Each P xs → map number (led_to same next n xs) ≡ led_to nat_eq to n (map number xs)
  unfolding led_to
  led_moved zero xs e = refl
  led_moved (suc n) xs e =
      let f : Each P (flat_map next xs) = each_next P next xs stay e in
      led_moved n (add_all same xs (flat_map next xs)) (each_added P same xs (flat_map next xs) e f)
      ∙ ap (led_to nat_eq to n) (added_moved xs (flat_map next xs) e f ∙ ap (add_all nat_eq (map number xs)) (flat_moved xs e))

  pub cycle_moved : (n : ℕ) (x : A) → P x → is_on_cycle same next n x ≡ is_on_cycle nat_eq to n (number x)
  unfolding is_on_cycle
  cycle_moved n x p =
      let l = leads x p in
      any_moved x (led_to same next n (next x)) p (each_led P same next n (next x) stay l.stays)
      ∙ ap (list_any (nat_eq (number x))) (led_moved n (next x) l.stays ∙ ap (led_to nat_eq to n) (sym l.numbered))
