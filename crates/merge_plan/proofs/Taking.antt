-- Full names that are taken.
use Rattle.std.proofs.Common.{◌≡◌, ℕ, ◌+◌, List, [], ◌∷◌, ◌++◌, length, Bool, true, false, cond, refl, sym, ap, ◌∙◌}
use Rattle.std.specs.Prelude.{bytes_eq, ◌||◌, if◌then◌else◌}
use Rattle.std.specs.List.{list_any, filter}
use Rattle.std.proofs.lemmas.Slice.Eq.{bytes_eq-Decides}
use Rattle.std.proofs.lemmas.List.Elements.{filter-append}
use Rattle.std.proofs.lemmas.List.Folds.{list_any-append}
use Rattle.il_base.specs.declared.world_model.record.AsmRec.{AsmRec}
use Rattle.il_base.specs.world_model.Core.{same_name}
use Rattle.rules.specs.declared.link_rules.row_at.RowAt.{RowAt}
use Rattle.rules.specs.type_rules.Texts.{full_name_of}
use Rattle.rules.specs.merge_rules.Names.{NewName, is_top_level, old_name, namespace_of, has_name, renamed, free_from, fresh_name}
use Rattle.merge_plan.specs.declared.taken.Taken.{Taken}
use Rattle.merge_plan.specs.Taken.{has_in, AreTaken}

same_bool : (a b : Bool) → (a ≡ true → b ≡ true) → (b ≡ true → a ≡ true) → a ≡ b
same_bool true true f g = refl
same_bool true false f g = sym (f refl)
same_bool false true f g = g refl
same_bool false false f g = refl

bytes_eq-sym : (xs ys : List ℕ) → bytes_eq xs ys ≡ bytes_eq ys xs
bytes_eq-sym xs ys =
    same_bool (bytes_eq xs ys) (bytes_eq ys xs)
    (λ h. (bytes_eq-Decides ys xs).1 (sym ((bytes_eq-Decides xs ys).0 h)))
    (λ h. (bytes_eq-Decides xs ys).1 (sym ((bytes_eq-Decides ys xs).0 h)))

-- ---- one name more

module _ {V : Type 0} (items : V → List ℕ) (q : List ℕ) (v : V) where
  abbrev Has : List V → Bool
  Has ks = list_any (λ o. bytes_eq q (items o)) ks

  same_there : (ks : List V) (b : Bool) → bytes_eq (items v) q ≡ b → list_any (λ j. bytes_eq (items v) (items j)) ks ≡ true → Has ks ≡ (Has ks || b)
  same_there ks true e there =
      let same : items v ≡ q = (bytes_eq-Decides (items v) q).0 e in
      let has : Has ks ≡ true = ap (λ (x : List ℕ). list_any (λ j. bytes_eq x (items j)) ks) (sym same) ∙ there in
      rw has refl
  same_there ks false e there = or_false (Has ks)
    where
      or_false : (b : Bool) → b ≡ (b || false)
      or_false true = refl
      or_false false = refl

  or_more : (a b c : Bool) → b ≡ c → (a || (b || false)) ≡ (a || c)
  or_more true b c e = refl
  or_more false true c e = e
  or_more false false c e = e

  pub key_added : (ks : List V) (b : Bool) → list_any (λ j. bytes_eq (items v) (items j)) ks ≡ b → Has (cond b ks (ks ++ v ∷ [])) ≡ (Has ks || bytes_eq (items v) q)
  key_added ks true e = same_there ks (bytes_eq (items v) q) refl e
  key_added ks false e =
      list_any-append (λ o. bytes_eq q (items o)) ks (v ∷ []) ∙ or_more (Has ks) (bytes_eq q (items v)) (bytes_eq (items v) q) (bytes_eq-sym q (items v))

-- ---- the names of kept types

old_more : (a t f : Bool) → (if t then (a || false) || f else a || false) ≡ ((a || (if t then (f || false) else false)) || false)
old_more true true f = refl
old_more true false f = refl
old_more false true true = refl
old_more false true false = refl
old_more false false f = refl

any_if : {X : Type 0} (p : X → Bool) (t : Bool) (x : X) → list_any p (cond t (x ∷ []) []) ≡ (if t then (p x || false) else false)
any_if p true x = refl
any_if p false x = refl

module _ (recs : List AsmRec) (before : List RowAt) (at : RowAt) where
  abbrev Named : List ℕ → RowAt → Bool
  Named full x = same_name (old_name recs x) full

  old_is : (full : List ℕ) → has_name recs (before ++ at ∷ []) [] full
      ≡ (if is_top_level recs at then has_name recs before [] full || Named full at else has_name recs before [] full)
  old_is full =
      ap (λ (xs : List RowAt). list_any (Named full) xs || false) (filter-append (is_top_level recs) before (at ∷ []))
      ∙ ap (λ (b : Bool). b || false) (list_any-append (Named full) (filter (is_top_level recs) before) (cond (is_top_level recs at) (at ∷ []) []))
      ∙ ap (λ (b : Bool). (list_any (Named full) (filter (is_top_level recs) before) || b) || false) (any_if (Named full) (is_top_level recs at) at)
      ∙ sym (old_more (list_any (Named full) (filter (is_top_level recs) before)) (is_top_level recs at) (Named full at))

  pub old_taken : (old new : Taken) (name : List ℕ) → name ≡ old_name recs at → is_top_level recs at ≡ true
      → ((q : List ℕ) → has_in new q ≡ (has_in old q || same_name name q)) → AreTaken recs before [] old → AreTaken recs (before ++ at ∷ []) [] new
  old_taken old new name own top added are full =
      added full ∙ (λ i. are full i || same_name (own i) full)
      ∙ sym (old_is full ∙ ap (λ (b : Bool). if b then has_name recs before [] full || Named full at else has_name recs before [] full) top)

  pub old_same : (taken : Taken) → is_top_level recs at ≡ false → AreTaken recs before [] taken → AreTaken recs (before ++ at ∷ []) [] taken
  old_same taken top are full =
      are full
      ∙ sym (old_is full ∙ ap (λ (b : Bool). if b then has_name recs before [] full || Named full at else has_name recs before [] full) top)

-- ---- the new names

new_more : (a b f : Bool) → ((a || b) || f) ≡ (a || (b || (f || false)))
new_more true b f = refl
new_more false true f = refl
new_more false false true = refl
new_more false false false = refl

pub new_taken : (recs : List AsmRec) (kept : List RowAt) (names : List NewName) (n : NewName) (old new : Taken) (written : List ℕ) → written ≡ full_name_of (namespace_of recs n.typ) n.name
    → ((q : List ℕ) → has_in new q ≡ (has_in old q || same_name written q)) → AreTaken recs kept names old → AreTaken recs kept (names ++ n ∷ []) new
new_taken recs kept names n old new written own added are full =
    let New : NewName → Bool = λ m. same_name (full_name_of (namespace_of recs m.typ) m.name) full in
    let Old : Bool = list_any (λ x. same_name (old_name recs x) full) (filter (is_top_level recs) kept) in
    added full ∙ (λ i. are full i || same_name (own i) full)
    ∙ new_more Old (list_any New names) (New n)
    ∙ ap (λ (b : Bool). Old || b) (sym (list_any-append New names (n ∷ [])))

-- ---- a name that isn't taken

pub fresh_is : (recs : List AsmRec) (kept : List RowAt) (names : List NewName) (taken : Taken) (at : RowAt) (most : ℕ) → AreTaken recs kept names taken → length kept + length names ≡ most
    → free_from (λ name. has_in taken (full_name_of (namespace_of recs at) name)) (renamed recs at) 0 most ≡ fresh_name recs kept names at
fresh_is recs kept names taken at most are count =
    λ i. free_from (λ name. are (full_name_of (namespace_of recs at) name) i) (renamed recs at) 0 (sym count i)
