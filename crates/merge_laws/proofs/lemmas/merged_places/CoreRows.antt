-- Rows of the core library in the output's world: its own stay, and names that only modifiers use are found again, each once.
use Rattle.std.proofs.Common.{◌≡◌, ◌<◌, ◌≤◌, ℕ, zero, suc, ◌+◌, ◌-◌, Bool, true, false, cond, nat_lt, List, [], ◌∷◌, ◌++◌, length, Option, Some, None, ◌⊎◌, inl, inr, refl, sym, ap, subst, ◌∙◌, arith}
use Rattle.std.specs.Prelude.{slice_get, unwrap_or, ◌||◌, if◌then◌else◌}
use Rattle.std.specs.List.{list_any, position_from}
use Rattle.std.specs.Option.{option_map, option_and_then}
use Rattle.std.proofs.lemmas.Bool.{lt-ltb, le-ltb, ltb-true, ltb-false, and_parts, and_from}
use Rattle.std.proofs.lemmas.Slice.Eq.{bytes_eq-Decides}
use Rattle.std.proofs.lemmas.Iterator.Adapters.{position_from-zero}
use Rattle.il_base.specs.declared.world_model.record.AsmRec.{AsmRec}
use Rattle.il_base.specs.world_model.Core.{same_name}
use Rattle.il_base.specs.core_table.Record.{core_record}
use Rattle.rules.specs.declared.link_rules.core_type_name.CoreTypeName.{CoreTypeName}
use Rattle.rules.specs.link_rules.CoreNames.{same_core_name, missing_from, missing_names}
use Rattle.rules.specs.link_rules.Cycles.{add_new, add_all}
use Rattle.rules.specs.merged_world_rules.Merge.{Merge, names_before, names_after}
use Rattle.rules.specs.merged_world_rules.Numbering.{IsFit, same_rows}
use Rattle.rules.specs.merged_world_rules.NewNumbers.{place_of_name, named_row, core_rows, type_core}
use Rattle.merge_laws.proofs.lemmas.merged_places.Rows.{place_within}

-- ---- rows that stay

same_by : (n r s : ℕ) (b : Bool) → nat_lt r n ≡ b → (if b then Some r else None) ≡ Some s → (s < n) × (r ≡ s)
same_by n r s true h e = let same : r ≡ s = cc in (subst (λ (k : ℕ). k < n) same (ltb-true r n h), same)
same_by n r s false h e = absurd (cc)

pub same_is : (n r s : ℕ) → (if nat_lt r n then Some r else None) ≡ Some s → (s < n) × (r ≡ s)
same_is n r s e = same_by n r s (nat_lt r n) refl e

pub same_fits : (n : ℕ) → IsFit (same_rows n)
same_fits n = record { low = λ r s e. (same_is n r s e).0; led_back = λ r s e. sym (same_is n r s e).1 }

pub same_goes : (n r : ℕ) → r < n → (if nat_lt r n then Some r else None) ≡ Some r
same_goes n r lt = ap (λ (b : Bool). if b then Some r else None) (lt-ltb r n lt)

-- ---- names

pub name_same : (x y : CoreTypeName) → same_core_name x y ≡ true → x ≡ y
name_same x y h =
    let p = and_parts (same_name x.name y.name) (same_name x.namespace y.namespace) h in
    let name : x.name ≡ y.name = (bytes_eq-Decides x.name y.name).0 p.0 in
    let space : x.namespace ≡ y.namespace = (bytes_eq-Decides x.namespace y.namespace).0 p.1 in
    λ i. record { namespace = space i; name = name i }

pub name_itself : (x : CoreTypeName) → same_core_name x x ≡ true
name_itself x =
    and_from (same_name x.name x.name) (same_name x.namespace x.namespace) ((bytes_eq-Decides x.name x.name).1 refl) ((bytes_eq-Decides x.namespace x.namespace).1 refl)

-- ---- each name once

front_by : {A : Type 0} (t : A → Bool) (d i : ℕ) (rest more : Option ℕ) (b : Bool) → (rest ≡ Some i → more ≡ Some i) → cond b (Some d) rest ≡ Some i → cond b (Some d) more ≡ Some i
front_by t d i rest more true h e = e
front_by t d i rest more false h e = h e

front : {A : Type 0} (t : A → Bool) (xs ys : List A) (d i : ℕ) → position_from t d xs ≡ Some i → position_from t d (xs ++ ys) ≡ Some i
front t [] ys d i e = absurd (cc)
front t (x ∷ xs) ys d i e = front_by t d i (position_from t (d + 1) xs) (position_from t (d + 1) (xs ++ ys)) (t x) (λ g. front t xs ys (d + 1) i g) e

behind_by : {A : Type 0} (t : A → Bool) (d : ℕ) (xs : List A) (more : Option ℕ) (b : Bool) → (b || list_any t xs) ≡ false → (list_any t xs ≡ false → more ≡ Some (d + 1 + length xs)) → cond b (Some d) more ≡ Some (d + suc (length xs))
behind_by t d xs more true h e = absurd (cc)
behind_by t d xs more false h e = e h ∙ ap Some (omega arith)

behind : {A : Type 0} (t : A → Bool) (xs : List A) (y : A) (d : ℕ) → list_any t xs ≡ false → t y ≡ true → position_from t d (xs ++ y ∷ []) ≡ Some (d + length xs)
behind t [] y d none e = ap (λ (b : Bool). cond b (Some d) None) e ∙ ap Some (omega arith)
behind t (x ∷ xs) y d none e = behind_by t d xs (position_from t (d + 1) (xs ++ y ∷ [])) (t x) none (λ g. behind t xs y (d + 1) g e)

-- the first with a name is the one that has it
abbrev Once : List CoreTypeName → Type 0
Once xs = (i : ℕ) (x : CoreTypeName) → slice_get xs i ≡ Some x → position_from (same_core_name x) 0 xs ≡ Some i

last_or : (xs : List CoreTypeName) (y x : CoreTypeName) (i : ℕ) → slice_get (xs ++ y ∷ []) i ≡ Some x → (slice_get xs i ≡ Some x) ⊎ ((i ≡ length xs) × (y ≡ x))
last_or [] y x zero e = inr (refl, cc)
last_or [] y x (suc i) e = absurd (cc)
last_or (z ∷ xs) y x zero e = inl e
last_or (z ∷ xs) y x (suc i) e = elim (last_or xs y x i e) [ inl h ↦ inl h | inr h ↦ inr (ap suc h.0, h.1) ]

once_more : (xs : List CoreTypeName) (y : CoreTypeName) → Once xs → list_any (same_core_name y) xs ≡ false → Once (xs ++ y ∷ [])
once_more xs y once none i x e = elim (last_or xs y x i e) [
  | inl h ↦ front (same_core_name x) xs (y ∷ []) 0 i (once i x h)
  | inr h ↦ at_end h.0 h.1
]
  where
    at_end : i ≡ length xs → y ≡ x → position_from (same_core_name x) 0 (xs ++ y ∷ []) ≡ Some i
    at_end last same =
        let z : 0 + length xs ≡ i = omega (arith, last) in
        ap (λ (w : CoreTypeName). position_from (same_core_name w) 0 (xs ++ y ∷ [])) (sym same) ∙ behind (same_core_name y) xs y 0 none (name_itself y) ∙ ap Some z

once_new : (xs : List CoreTypeName) (y : CoreTypeName) (b : Bool) → list_any (same_core_name y) xs ≡ b → Once xs → Once (if b then xs else xs ++ y ∷ [])
once_new xs y true e once = once
once_new xs y false e once = once_more xs y once e

once_all : (xs ys : List CoreTypeName) → Once xs → Once (add_all same_core_name xs ys)
once_all xs [] once = once
once_all xs (y ∷ ys) once = once_all (add_new same_core_name xs y) ys (once_new xs y (list_any (same_core_name y) xs) refl once)

missing_once : (all : List AsmRec) → Once (missing_names all)
unfolding missing_names
missing_once all = once_all [] (missing_from all 0 all) (λ i x e. absurd (cc))

-- ---- what a name is found by

pub record FoundName (xs : List CoreTypeName) (x : CoreTypeName) (j : ℕ) : Type 0 where
  pub there : slice_get xs j ≡ Some x
  pub low : j < length xs

found_case : (x y : CoreTypeName) (xs : List CoreTypeName) (d j : ℕ) (b : Bool) → same_core_name x y ≡ b → ((i : ℕ) → position_from (same_core_name x) (d + 1) xs ≡ Some (d + 1 + i) → slice_get xs i ≡ Some x)
    → (position_from (same_core_name x) (d + 1) xs ≡ Some (d + j) → d + 1 ≤ d + j) → cond b (Some d) (position_from (same_core_name x) (d + 1) xs) ≡ Some (d + j) → slice_get (y ∷ xs) j ≡ Some x
found_case x y xs d j true t more low h =
    let same : d ≡ d + j = cc in
    let none : j ≡ 0 = omega (arith, same) in
    ap (slice_get (y ∷ xs)) none ∙ ap Some (sym (name_same x y t))
found_case x y xs d zero false t more low h = let le = low h in absurd (omega (arith, le))
found_case x y xs d (suc i) false t more low h = let z : d + suc i ≡ d + 1 + i = omega arith in more i (h ∙ ap Some z)

low_by : (d k : ℕ) (rest : Option ℕ) (b : Bool) → (rest ≡ Some k → d + 1 ≤ k) → cond b (Some d) rest ≡ Some k → d ≤ k
low_by d k rest true more h = let same : d ≡ k = cc in omega (arith, same)
low_by d k rest false more h = let le = more h in omega (arith, le)

least : (x : CoreTypeName) (d k : ℕ) (xs : List CoreTypeName) → position_from (same_core_name x) d xs ≡ Some k → d ≤ k
least x d k [] h = absurd (cc)
least x d k (y ∷ xs) h = low_by d k (position_from (same_core_name x) (d + 1) xs) (same_core_name x y) (least x (d + 1) k xs) h

found_from : (x : CoreTypeName) (xs : List CoreTypeName) (d j : ℕ) → position_from (same_core_name x) d xs ≡ Some (d + j) → slice_get xs j ≡ Some x
found_from x [] d j e = absurd (cc)
found_from x (y ∷ xs) d j e =
    found_case x y xs d j (same_core_name x y) refl (λ i h. found_from x xs (d + 1) i h) (λ h. least x (d + 1) (d + j) xs h) e

pub found_name : (xs : List CoreTypeName) (x : CoreTypeName) (j : ℕ) → place_of_name xs x ≡ Some j → FoundName xs x j
found_name xs x j e =
    let z : j ≡ 0 + j = omega arith in
    let there = found_from x xs 0 j (sym (position_from-zero (same_core_name x) xs) ∙ e ∙ ap Some z) in
    record { there = there; low = place_within xs j x there }

-- ---- rows with names after so many own rows

module _ (own : ℕ) (names those : List CoreTypeName) where
  pub record NamedRow (r s : ℕ) : Type 0 where
    pub past : own ≤ r
    pub place : ℕ
    pub is : s ≡ own + place
    pub name : CoreTypeName
    pub here : slice_get names (r - own) ≡ Some name
    pub found : FoundName those name place

  name_by : (r s : ℕ) (x : CoreTypeName) (o : Option ℕ) → own ≤ r → slice_get names (r - own) ≡ Some x → place_of_name those x ≡ o → option_map (λ (j : ℕ). own + j) o ≡ Some s → NamedRow r s
  name_by r s x None le here e h = absurd (cc)
  name_by r s x (Some j) le here e h =
      let same : own + j ≡ s = cc in record { past = le; place = j; is = sym same; name = x; here = here; found = found_name those x j e }

  row_by : (r s : ℕ) (o : Option CoreTypeName) → own ≤ r → slice_get names (r - own) ≡ o → option_map (λ (j : ℕ). own + j) (option_and_then (place_of_name those) o) ≡ Some s → NamedRow r s
  row_by r s None le here h = absurd (cc)
  row_by r s (Some x) le here h = name_by r s x (place_of_name those x) le here refl h

  either_by : (r s : ℕ) (b : Bool) → nat_lt r own ≡ b → (if b then Some r else option_map (λ (j : ℕ). own + j) (option_and_then (place_of_name those) (slice_get names (r - own)))) ≡ Some s
      → ((r < own) × (r ≡ s)) ⊎ NamedRow r s
  either_by r s true e h = let same : r ≡ s = cc in inl (ltb-true r own e, same)
  either_by r s false e h = inr (row_by r s (slice_get names (r - own)) (ltb-false r own e) refl h)

  -- an own row, or one with a name
  pub row_either : (r s : ℕ) → named_row own names those r ≡ Some s → ((r < own) × (r ≡ s)) ⊎ NamedRow r s
  row_either r s h = either_by r s (nat_lt r own) refl h

  pub own_goes : (r : ℕ) → r < own → named_row own names those r ≡ Some r
  own_goes r lt = ap (λ (b : Bool). if b then Some r else option_map (λ (j : ℕ). own + j) (option_and_then (place_of_name those) (slice_get names (r - own)))) (lt-ltb r own lt)

  row_low : (r s : ℕ) → named_row own names those r ≡ Some s → s < own + length those
  row_low r s h = elim (row_either r s h) [
    | inl e ↦ let lt = e.0 in let same = e.1 in omega (arith, lt, same)
    | inr e ↦ let is = e.is in let lt = e.found.low in omega (arith, is, lt)
  ]

module _ (own : ℕ) (names those : List CoreTypeName) (once : Once names) where
  name_back : (r s : ℕ) → NamedRow own names those r s → unwrap_or (named_row own those names s) 0 ≡ r
  name_back r s e =
      let is = e.is in
      let past = e.past in
      let t : nat_lt s own ≡ false = le-ltb s own (omega (arith, is)) in
      let row : s - own ≡ e.place = omega (arith, is) in
      let back : own + (r - own) ≡ r = omega (arith, past) in
      ap (λ (b : Bool). unwrap_or (if b then Some s else option_map (λ (j : ℕ). own + j) (option_and_then (place_of_name names) (slice_get those (s - own)))) 0) t
      ∙ ap (λ (k : ℕ). unwrap_or (option_map (λ (j : ℕ). own + j) (option_and_then (place_of_name names) (slice_get those k))) 0) row
      ∙ ap (λ (o : Option CoreTypeName). unwrap_or (option_map (λ (j : ℕ). own + j) (option_and_then (place_of_name names) o)) 0) e.found.there
      ∙ ap (λ (o : Option ℕ). unwrap_or (option_map (λ (j : ℕ). own + j) o) 0) (position_from-zero (same_core_name e.name) names ∙ once (r - own) e.name e.here)
      ∙ back

  row_back : (r s : ℕ) → named_row own names those r ≡ Some s → unwrap_or (named_row own those names s) 0 ≡ r
  row_back r s h = elim (row_either own names those r s h) [
    | inl e ↦ let lt = e.0 in let same = e.1 in ap (λ (o : Option ℕ). unwrap_or o 0) (own_goes own those names s (omega (arith, lt, same))) ∙ sym same
    | inr e ↦ name_back r s e
  ]

  pub core_fits : IsFit (core_rows own names those)
  core_fits = record { low = row_low own names those; led_back = row_back }

pub type_fits : (m : Merge) → IsFit (type_core m)
type_fits m = core_fits (length core_record.type_def) (names_before m) (names_after m) (missing_once (m.inputs ++ core_record ∷ []))
