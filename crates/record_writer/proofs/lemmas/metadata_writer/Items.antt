-- The items of a pool, by the keys that hold them.
use Rattle.std.proofs.Common.{◌≡◌, ℕ, suc, ◌+◌, ◌≤◌, Bool, true, false, cond, ◌||◌, List, [], ◌∷◌, ◌++◌, length, map, Some, None, nat_lt, bytes_eq, refl, sym, ap, ◌∙◌, arith}
use Rattle.std.specs.List.{list_any, position, position_or_len}
use Rattle.std.proofs.lemmas.List.Recursion.{is_position_or_len}
use Rattle.std.proofs.lemmas.List.{length-map, map-append}
use Rattle.std.proofs.lemmas.Slice.Eq.{bytes_eq-Decides}
use Rattle.std.proofs.lemmas.Bool.Decides.{nat_tests}
use Rattle.rules.specs.file_layout.Interning.{added}
use Rattle.record_writer.specs.metadata_writer.Places.{index_among}

same_bool : (a b : Bool) → (a ≡ true → b ≡ true) → (b ≡ true → a ≡ true) → a ≡ b
same_bool true true f g = refl
same_bool true false f g = sym (f refl)
same_bool false true f g = g refl
same_bool false false f g = refl

pub bytes_eq-sym : (xs ys : List ℕ) → bytes_eq xs ys ≡ bytes_eq ys xs
bytes_eq-sym xs ys =
    same_bool (bytes_eq xs ys) (bytes_eq ys xs)
    (λ h. (bytes_eq-Decides ys xs).1 (sym ((bytes_eq-Decides xs ys).0 h)))
    (λ h. (bytes_eq-Decides xs ys).1 (sym ((bytes_eq-Decides ys xs).0 h)))

module _ {X : Type 0} (items : X → List ℕ) where
  any_items : (x : List ℕ) (ks : List X) → list_any (bytes_eq x) (map items ks) ≡ list_any (λ k. bytes_eq x (items k)) ks
  any_items x [] = refl
  any_items x (k ∷ ks) = ap (λ (b : Bool). bytes_eq x (items k) || b) (any_items x ks)

  kept_or_put : (b : Bool) (ks : List X) (k : X) → map items (cond b ks (ks ++ k ∷ [])) ≡ cond b (map items ks) (map items ks ++ items k ∷ [])
  kept_or_put true ks k = refl
  kept_or_put false ks k = map-append items ks (k ∷ [])

  -- a key that is inserted
  pub inserted : (ks : List X) (k : X) → map items (cond (list_any (λ j. bytes_eq (items k) (items j)) ks) ks (ks ++ k ∷ [])) ≡ added (map items ks) (items k)
  unfolding added
  inserted ks k =
      kept_or_put (list_any (λ j. bytes_eq (items k) (items j)) ks) ks k
      ∙ ap (λ (b : Bool). cond b (map items ks) (map items ks ++ items k ∷ [])) (sym (any_items (items k) ks))

  -- an item that is there already
  pub there : (ks : List X) (x : List ℕ) → true ≡ list_any (λ j. bytes_eq x (items j)) ks → map items ks ≡ added (map items ks) x
  unfolding added
  there ks x h = ap (λ (b : Bool). cond b (map items ks) (map items ks ++ x ∷ [])) (h ∙ sym (any_items x ks))

  -- which of the keys an item is
  pub index_is : (x : List ℕ) (ks : List X) → index_among (map items ks) x ≡ position_or_len (λ k. bytes_eq x (items k)) ks
  index_is x =
      is_position_or_len (λ ks. index_among (map items ks) x) (λ k. bytes_eq x (items k)) refl
      (λ k ks. let e : suc (index_among (map items ks) x) ≡ 1 + index_among (map items ks) x = omega arith in
      ap (λ (b : Bool). cond b 0 (suc (index_among (map items ks) x))) (bytes_eq-sym (items k) x) ∙ ap (λ (n : ℕ). cond (bytes_eq x (items k)) 0 n) e)

index-le : (xs : List (List ℕ)) (x : List ℕ) → index_among xs x ≤ length xs
index-le [] x = omega arith
index-le (y ∷ ys) x = elim (bytes_eq y x) as (λ b. cond b 0 (suc (index_among ys x)) ≤ length (y ∷ ys)) [ true ↦ omega arith | false ↦ omega (arith, index-le ys x) ]

some_is : (b : Bool) (n i : ℕ) → Some i ≡ cond b (Some n) None → i ≡ n
some_is true n i h = cc
some_is false n i h = cc

none_is : (b : Bool) (n : ℕ) → None ≡ cond b (Some n) None → b ≡ false
none_is true n h = cc
none_is false n h = refl

-- the index that a search finds
pub found_at : {X : Type 0} (items : X → List ℕ) (x : List ℕ) (ks : List X) (i : ℕ) → Some i ≡ position (λ k. bytes_eq x (items k)) ks → i ≡ index_among (map items ks) x
found_at items x ks i h = some_is _ _ i h ∙ sym (index_is items x ks)

-- the length, where it finds none
pub found_none : {X : Type 0} (items : X → List ℕ) (x : List ℕ) (ks : List X) → None ≡ position (λ k. bytes_eq x (items k)) ks → length ks ≡ index_among (map items ks) x
found_none items x ks h =
    let missed : nat_lt (position_or_len (λ k. bytes_eq x (items k)) ks) (length ks) ≡ false = none_is _ _ h in
    let same : index_among (map items ks) x ≡ position_or_len (λ k. bytes_eq x (items k)) ks = index_is items x ks in
    let most : index_among (map items ks) x ≤ length (map items ks) = index-le (map items ks) x in
    grind (arith, nat_tests, missed, same, most, length-map ks items)
