-- Kept top-level types have different full names in the output, but for two of one input that keep their own.
use Rattle.std.proofs.Common.{◌≡◌, ◌<◌, ◌≤◌, ◌^◌, ℕ, zero, suc, ◌+◌, Bool, true, false, cond, List, [], ◌∷◌, ◌++◌, length, Option, Some, None, ◌⊎◌, inl, inr, refl, sym, ap, ◌∙◌, arith, length-append}
use Rattle.std.specs.Prelude.{slice_get, take, find, not, ◌==◌, if◌then◌else◌}
use Rattle.std.specs.List.{list_any, filter}
use Rattle.std.specs.Option.{is_some}
use Rattle.std.proofs.lemmas.Bool.{and_from, or_parts, ne_eqb, true≢false, cases_eq}
use Rattle.std.proofs.lemmas.List.{append-nil, append_assoc}
use Rattle.il_base.specs.declared.world_model.record.AsmRec.{AsmRec}
use Rattle.il_base.specs.world_model.Core.{same_name}
use Rattle.rules.specs.declared.link_rules.row_at.RowAt.{RowAt}
use Rattle.rules.specs.type_rules.Texts.{full_name_of}
use Rattle.rules.specs.merge_rules.Names.{NewName, is_top_level, old_name, namespace_of, fresh_name, named_by, is_rival, rival, names_from, new_names}
use Rattle.rules.specs.merge_rules.Moved.{is_renamed}
use Rattle.merge_laws.proofs.lemmas.merged_places.Rows.{row_itself, rows_one, same_some}
use Rattle.trim_laws.proofs.lemmas.merged_back.Fresh.{is_name, is_free}

-- ---- what a search finds

record Found {A : Type 0} (p : A → Bool) (xs : List A) (x : A) : Type 0 where
  place : ℕ
  there : slice_get xs place ≡ Some x
  passes : p x ≡ true

found_by : {A : Type 0} (p : A → Bool) (y : A) (xs : List A) (x : A) (b : Bool) → p y ≡ b → (find p xs ≡ Some x → Found p xs x) → cond b (Some y) (find p xs) ≡ Some x → Found p (y ∷ xs) x
found_by p y xs x true e more h = let same : y ≡ x = cc in record { place = 0; there = ap (λ z. Some z) same; passes = ap p (sym same) ∙ e }
found_by p y xs x false e more h = let f = more h in record { place = suc f.place; there = f.there; passes = f.passes }

found : {A : Type 0} (p : A → Bool) (xs : List A) (x : A) → find p xs ≡ Some x → Found p xs x
found p [] x h = absurd (cc)
found p (y ∷ xs) x h = found_by p y xs x (p y) refl (found p xs x) h

-- what passes is found
finds_by : {A : Type 0} (p : A → Bool) (y : A) (rest : Option A) (b : Bool) → p y ≡ b → (b ≡ true) ⊎ (is_some rest ≡ true) → is_some (cond b (Some y) rest) ≡ true
finds_by p y rest true e h = refl
finds_by p y rest false e (inl h) = absurd (cc)
finds_by p y rest false e (inr h) = h

finds : {A : Type 0} (p : A → Bool) (xs : List A) (j : ℕ) (x : A) → slice_get xs j ≡ Some x → p x ≡ true → is_some (find p xs) ≡ true
finds p [] j x e h = absurd (cc)
finds p (y ∷ xs) zero x e h = let same : y ≡ x = cc in finds_by p y (find p xs) (p y) refl (inl (ap p same ∙ h))
finds p (y ∷ xs) (suc j) x e h = finds_by p y (find p xs) (p y) refl (inr (finds p xs j x e h))

stays_by : {A : Type 0} (y : A) (rest more : Option A) (b : Bool) → (is_some rest ≡ true → is_some more ≡ true) → is_some (cond b (Some y) rest) ≡ true → is_some (cond b (Some y) more) ≡ true
stays_by y rest more true h e = refl
stays_by y rest more false h e = h e

still_found : {A : Type 0} (p : A → Bool) (xs ys : List A) → is_some (find p xs) ≡ true → is_some (find p (xs ++ ys)) ≡ true
still_found p [] ys h = absurd (cc)
still_found p (x ∷ xs) ys h = stays_by x (find p xs) (find p (xs ++ ys)) (p x) (still_found p xs ys) h

-- ---- items of lists

in_filter : {A : Type 0} (p : A → Bool) (xs : List A) (j : ℕ) (x : A) → slice_get xs j ≡ Some x → p x ≡ true → (i : ℕ) × (slice_get (filter p xs) i ≡ Some x)
in_filter p [] j x e h = absurd (cc)
in_filter p (y ∷ xs) zero x e h = let same : y ≡ x = cc in now (p y) (ap p same ∙ h) same
  where
    now : (b : Bool) → b ≡ true → y ≡ x → (i : ℕ) × (slice_get (if b then y ∷ filter p xs else filter p xs) i ≡ Some x)
    now true t same = (0, ap (λ z. Some z) same)
    now false t same = absurd (cc)
in_filter p (y ∷ xs) (suc j) x e h = later (p y) (in_filter p xs j x e h)
  where
    later : (b : Bool) → (i : ℕ) × (slice_get (filter p xs) i ≡ Some x) → (i : ℕ) × (slice_get (if b then y ∷ filter p xs else filter p xs) i ≡ Some x)
    later true m = (suc m.0, m.1)
    later false m = m

in_take : {A : Type 0} (n : ℕ) (xs : List A) (j : ℕ) (x : A) → j < n → slice_get xs j ≡ Some x → slice_get (take n xs) j ≡ Some x
in_take zero xs j x lt e = absurd (omega (arith, lt))
in_take (suc n) [] j x lt e = absurd (cc)
in_take (suc n) (y ∷ xs) zero x lt e = e
in_take (suc n) (y ∷ xs) (suc j) x lt e = in_take n xs j x (omega (arith, lt)) e

not_any : {A : Type 0} (p : A → Bool) (xs : List A) (j : ℕ) (x : A) → list_any p xs ≡ false → slice_get xs j ≡ Some x → p x ≡ false
not_any p [] j x h e = absurd (cc)
not_any p (y ∷ xs) zero x h e = let same : y ≡ x = cc in ap p (sym same) ∙ (or_parts (p y) (list_any p xs) h).0
not_any p (y ∷ xs) (suc j) x h e = not_any p xs j x (or_parts (p y) (list_any p xs) h).1 e

-- an item of a list with one more
one_more : {A : Type 0} (xs : List A) (y : A) (j : ℕ) (x : A) → slice_get (xs ++ y ∷ []) j ≡ Some x → (slice_get xs j ≡ Some x) ⊎ ((j ≡ length xs) × (y ≡ x))
one_more [] y zero x e = let same : y ≡ x = cc in inr (refl, same)
one_more [] y (suc j) x e = absurd (cc)
one_more (z ∷ xs) y zero x e = inl e
one_more (z ∷ xs) y (suc j) x e = elim (one_more xs y j x e) [ inl f ↦ inl f | inr f ↦ inr (ap suc f.0, f.1) ]

place_within : {A : Type 0} (xs : List A) (j : ℕ) (x : A) → slice_get xs j ≡ Some x → j < length xs
place_within [] j x e = absurd (cc)
place_within (y ∷ xs) zero x e = omega arith
place_within (y ∷ xs) (suc j) x e = let lt = place_within xs j x e in omega (arith, lt)

module _ (recs : List AsmRec) (kept : List RowAt) (small : length kept + length kept < 2 ^ 64) where
  abbrev full : NewName → List ℕ
  full n = full_name_of (namespace_of recs n.typ) n.name

  -- ---- new names, so far

  record Free (names : List NewName) : Type 0 where
    top : (q : ℕ) (n : NewName) → slice_get names q ≡ Some n → is_top_level recs n.typ ≡ true
    old : (q : ℕ) (n : NewName) → slice_get names q ≡ Some n → list_any (λ at. same_name (old_name recs at) (full n)) (filter (is_top_level recs) kept) ≡ false
    new : (p q : ℕ) (x y : NewName) → p < q → slice_get names p ≡ Some x → slice_get names q ≡ Some y → same_name (full x) (full y) ≡ false

  none_free : Free []
  none_free = record { top = λ q n e. absurd (cc); old = λ q n e. absurd (cc); new = λ p q x y lt e f. absurd (cc) }

  module _ (names : List NewName) (at : RowAt) (few : length names ≤ length kept) (top : is_top_level recs at ≡ true) (free : Free names) where
    abbrev n : NewName
    n = record { typ = at; name = fresh_name recs kept names at }

    both : (list_any (λ x. same_name (old_name recs x) (full n)) (filter (is_top_level recs) kept) ≡ false) × (list_any (λ (x : NewName). same_name (full x) (full n)) names ≡ false)
    both =
        or_parts (list_any (λ x. same_name (old_name recs x) (full n)) (filter (is_top_level recs) kept)) (list_any (λ (x : NewName). same_name (full x) (full n)) names)
        (is_free recs kept names at (omega (arith, few, small)))

    more_free : Free (names ++ n ∷ [])
    more_free = record {
      top = λ q x e. elim (one_more names n q x e) [ inl f ↦ free.top q x f | inr f ↦ ap (λ (y : NewName). is_top_level recs y.typ) (sym f.1) ∙ top ];
      old = λ q x e. elim (one_more names n q x e) [
        | inl f ↦ free.old q x f
        | inr f ↦ ap (λ (y : NewName). list_any (λ at. same_name (old_name recs at) (full y)) (filter (is_top_level recs) kept)) (sym f.1) ∙ both.0
      ];
      new = apart;
    }
      where
        apart : (p q : ℕ) (x y : NewName) → p < q → slice_get (names ++ n ∷ []) p ≡ Some x → slice_get (names ++ n ∷ []) q ≡ Some y → same_name (full x) (full y) ≡ false
        apart p q x y lt e f = elim (one_more names n q y f) [
          | inl g ↦ elim (one_more names n p x e) [
            | inl h ↦ free.new p q x y lt h g
            | inr h ↦ (let low = place_within names q y g in let end = h.0 in absurd (omega (arith, low, end, lt)))
          ]
          | inr g ↦ elim (one_more names n p x e) [
            | inl h ↦ ap (λ (z : NewName). same_name (full x) (full z)) (sym g.1) ∙ not_any (λ (z : NewName). same_name (full z) (full n)) names p x both.1 h
            | inr h ↦ (let a = g.0 in let b = h.0 in absurd (omega (arith, a, b, lt)))
          ]
        ]

  rival_top : (earlier : List RowAt) (at r : RowAt) (b : Bool) → is_top_level recs at ≡ b → (if b then find (is_rival recs at) (filter (is_top_level recs) earlier) else None) ≡ Some r → is_top_level recs at ≡ true
  rival_top earlier at r true e h = e
  rival_top earlier at r false e h = absurd (cc)

  step_free : (names : List NewName) (at : RowAt) (earlier : List RowAt) (o : Option RowAt) → rival recs earlier at ≡ o → length names ≤ length kept → Free names → Free (named_by recs kept names at o)
  step_free names at earlier None e few free = free
  step_free names at earlier (Some r) e few free = more_free names at few (rival_top earlier at r (is_top_level recs at) refl e) free

  step_long : (names : List NewName) (at : RowAt) (o : Option RowAt) → length (named_by recs kept names at o) ≤ suc (length names)
  step_long names at None = omega arith
  step_long names at (Some r) = let n = length-append names (record { typ = at; name = fresh_name recs kept names at } ∷ []) in omega (arith, n)

  all_free : (earlier rest : List RowAt) (names : List NewName) → length names + length rest ≤ length kept → Free names → Free (names_from recs kept earlier names rest)
  all_free earlier [] names le free = free
  all_free earlier (at ∷ rest) names le free =
      let o : Option RowAt = rival recs earlier at in
      let more = step_long names at o in
      all_free (earlier ++ at ∷ []) rest (named_by recs kept names at o) (omega (arith, more, le)) (step_free names at earlier o refl (omega (arith, le)) free)

  -- ---- names stay, and a type with a rival has one

  still_by : (p : NewName → Bool) (names : List NewName) (at : RowAt) (o : Option RowAt) → is_some (find p names) ≡ true → is_some (find p (named_by recs kept names at o)) ≡ true
  still_by p names at None h = h
  still_by p names at (Some r) h = still_found p names (record { typ = at; name = fresh_name recs kept names at } ∷ []) h

  still : (p : NewName → Bool) (earlier rest : List RowAt) (names : List NewName) → is_some (find p names) ≡ true → is_some (find p (names_from recs kept earlier names rest)) ≡ true
  still p earlier [] names h = h
  still p earlier (at ∷ rest) names h = still p (earlier ++ at ∷ []) rest (named_by recs kept names at (rival recs earlier at)) (still_by p names at (rival recs earlier at) h)

  last_found : (names : List NewName) (n : NewName) (at : RowAt) → is_renamed at n ≡ true → is_some (find (is_renamed at) (names ++ n ∷ [])) ≡ true
  last_found [] n at h = finds (is_renamed at) (n ∷ []) 0 n refl h
  last_found (x ∷ names) n at h = finds_by (is_renamed at) x (find (is_renamed at) (names ++ n ∷ [])) (is_renamed at x) refl (inr (last_found names n at h))

  named_now : (names : List NewName) (at : RowAt) (o : Option RowAt) → is_some o ≡ true → is_some (find (is_renamed at) (named_by recs kept names at o)) ≡ true
  named_now names at None h = absurd (cc)
  named_now names at (Some r) h = last_found names (record { typ = at; name = fresh_name recs kept names at }) at (row_itself at)

  has_new : (earlier rest : List RowAt) (names : List NewName) (d : ℕ) (at : RowAt) → slice_get rest d ≡ Some at → is_some (rival recs (earlier ++ take d rest) at) ≡ true
      → is_some (find (is_renamed at) (names_from recs kept earlier names rest)) ≡ true
  has_new earlier [] names d at e h = absurd (cc)
  has_new earlier (x ∷ rest) names zero at e h =
      let same : x ≡ at = cc in
      let here : is_some (rival recs earlier at) ≡ true = ap (λ (xs : List RowAt). is_some (rival recs xs at)) (sym (append-nil earlier)) ∙ h in
      ap (λ (y : RowAt). is_some (find (is_renamed at) (names_from recs kept (earlier ++ y ∷ []) (named_by recs kept names y (rival recs earlier y)) rest))) same
      ∙ still (is_renamed at) (earlier ++ at ∷ []) rest (named_by recs kept names at (rival recs earlier at)) (named_now names at (rival recs earlier at) here)
  has_new earlier (x ∷ rest) names (suc d) at e h =
      has_new (earlier ++ x ∷ []) rest (named_by recs kept names x (rival recs earlier x)) d at e
      (ap (λ (xs : List RowAt). is_some (rival recs xs at)) (append_assoc earlier (x ∷ []) (take d rest)) ∙ h)

  -- ---- the new names of all

  abbrev pub names : List NewName
  names = new_names recs kept

  free : Free names
  unfolding new_names
  free = all_free [] kept [] (omega arith) none_free

  rival_is : (earlier : List RowAt) (at : RowAt) → is_top_level recs at ≡ true → is_some (find (is_rival recs at) (filter (is_top_level recs) earlier)) ≡ true → is_some (rival recs earlier at) ≡ true
  rival_is earlier at top h = ap (λ (b : Bool). is_some (if b then find (is_rival recs at) (filter (is_top_level recs) earlier) else None)) top ∙ h

  -- two top-level types of two inputs with one full name: the later is renamed
  later_renamed : (j k : ℕ) (x y : RowAt) → j < k → slice_get kept j ≡ Some x → slice_get kept k ≡ Some y → is_top_level recs x ≡ true → is_top_level recs y ≡ true → (x.asm ≡ y.asm → ⊥) → old_name recs x ≡ old_name recs y
      → is_some (find (is_renamed y) names) ≡ true
  unfolding new_names
  later_renamed j k x y lt e f top top' apart same =
      let t = in_filter (is_top_level recs) (take k kept) j x (in_take k kept j x lt e) top in
      let passes : is_rival recs y x ≡ true =
      and_from (not (x.asm == y.asm)) (same_name (old_name recs x) (old_name recs y)) (ap not (ne_eqb x.asm y.asm apart)) (is_name (old_name recs x) (old_name recs y) same) in
      has_new [] kept [] k y f (rival_is (take k kept) y top' (finds (is_rival recs y) (filter (is_top_level recs) (take k kept)) t.0 x t.1 passes))

  -- the name that a new name isn't
  not_old : (n : NewName) (at y : RowAt) (k : ℕ) → find (is_renamed at) names ≡ Some n → slice_get kept k ≡ Some y → is_top_level recs y ≡ true → full n ≡ old_name recs y → ⊥
  not_old n at y k e f top same =
      let g = found (is_renamed at) names n e in
      let t = in_filter (is_top_level recs) kept k y f top in
      let no = not_any (λ x. same_name (old_name recs x) (full n)) (filter (is_top_level recs) kept) t.0 y (free.old g.place n g.there) t.1 in
      true≢false (sym (is_name (old_name recs y) (full n) (sym same)) ∙ no)

  one_new : (p q : ℕ) (x y : NewName) → slice_get names p ≡ Some x → slice_get names q ≡ Some y → full x ≡ full y → x ≡ y
  one_new p q x y e f same = elim (cases_eq p q) [
    | inl one ↦ same_some x y (sym e ∙ ap (slice_get names) one ∙ f)
    | inr differ ↦ elim (apart_by p q differ) [
      | inl lt ↦ absurd (true≢false (sym (is_name (full x) (full y) same) ∙ free.new p q x y lt e f))
      | inr gt ↦ absurd (true≢false (sym (is_name (full y) (full x) (sym same)) ∙ free.new q p y x gt f e))
    ]
  ]
    where
      apart_by : (p q : ℕ) → (p ≡ q → ⊥) → (p < q) ⊎ (q < p)
      apart_by zero zero h = absurd (h refl)
      apart_by zero (suc q) h = inl (omega arith)
      apart_by (suc p) zero h = inr (omega arith)
      apart_by (suc p) (suc q) h = elim (apart_by p q (λ e. h (ap suc e))) [ inl lt ↦ inl (omega (arith, lt)) | inr gt ↦ inr (omega (arith, gt)) ]

  -- a new name is of the type itself
  of_type : (at : RowAt) (n : NewName) → find (is_renamed at) names ≡ Some n → n.typ ≡ at
  of_type at n e = sym (rows_one at n.typ (found (is_renamed at) names n e).passes)

  -- a nested type keeps its name
  pub nested_keeps : (at : RowAt) → is_top_level recs at ≡ false → find (is_renamed at) names ≡ None
  nested_keeps at nested = by_find (find (is_renamed at) names) refl
    where
      by_find : (o : Option NewName) → find (is_renamed at) names ≡ o → o ≡ None
      by_find None e = refl
      by_find (Some n) e =
          let g = found (is_renamed at) names n e in
          absurd (true≢false (sym (free.top g.place n g.there) ∙ ap (is_top_level recs) (of_type at n e) ∙ nested))

  -- ---- the full names in the output

  abbrev pub written : RowAt → List ℕ → Option NewName → List ℕ
  written at name None = name
  written at name (Some n) = n.name

  abbrev pub written_full : RowAt → Option NewName → List ℕ
  written_full at None = old_name recs at
  written_full at (Some n) = full_name_of (namespace_of recs at) n.name

  full_is : (at : RowAt) (n : NewName) → find (is_renamed at) names ≡ Some n → full_name_of (namespace_of recs at) n.name ≡ full n
  full_is at n e = ap (λ (x : RowAt). full_name_of (namespace_of recs x) n.name) (sym (of_type at n e))

  -- two with one full name are of one input and keep theirs
  pub record Keep (x y : RowAt) : Type 0 where
    pub one : x.asm ≡ y.asm
    pub first : find (is_renamed x) names ≡ None
    pub second : find (is_renamed y) names ≡ None

  module _ (j k : ℕ) (x y : RowAt) (lt : j < k) (e : slice_get kept j ≡ Some x) (f : slice_get kept k ≡ Some y) (top : is_top_level recs x ≡ true) (top' : is_top_level recs y ≡ true) (differ : x ≡ y → ⊥) where
    keep_by : (o p : Option NewName) → find (is_renamed x) names ≡ o → find (is_renamed y) names ≡ p → written_full x o ≡ written_full y p → Keep x y
    keep_by None None g h same = elim (cases_eq x.asm y.asm) [
      | inl one ↦ record { one = one; first = g; second = h }
      | inr apart ↦ absurd (none_some (find (is_renamed y) names) h (later_renamed j k x y lt e f top top' apart same))
    ]
      where
        none_some : (o : Option NewName) → o ≡ None → is_some o ≡ true → ⊥
        none_some None u v = cc
        none_some (Some n) u v = cc
    keep_by (Some n) None g h same = absurd (not_old n x y k g f top' (sym (full_is x n g) ∙ same))
    keep_by None (Some n) g h same = absurd (not_old n y x j h e top (sym (full_is y n h) ∙ sym same))
    keep_by (Some n) (Some l) g h same =
        let a = found (is_renamed x) names n g in
        let b = found (is_renamed y) names l h in
        let one : n ≡ l = one_new a.place b.place n l a.there b.there (sym (full_is x n g) ∙ same ∙ full_is y l h) in
        absurd (differ (sym (of_type x n g) ∙ ap (λ (z : NewName). z.typ) one ∙ of_type y l h))

    pub keeps : written_full x (find (is_renamed x) names) ≡ written_full y (find (is_renamed y) names) → Keep x y
    keeps same = keep_by (find (is_renamed x) names) (find (is_renamed y) names) refl refl same
