-- What searches over lists and definitions find.
use Rattle.std.proofs.Common.{◌≡◌, ℕ, zero, suc, ◌+◌, ◌-◌, ◌<◌, ◌≤◌, Bool, true, false, nat_le, nat_lt, cond, List, [], ◌∷◌, take, drop, Option, Some, None, inl, inr, refl, sym, ap, ◌∙◌, arith}
use Rattle.std.specs.Prelude.{slice_get, Contains}
use Rattle.std.specs.List.{position_from}
use Rattle.std.specs.Option.{option_and_then}
use Rattle.std.proofs.lemmas.Bool.{and_from, lt-ltb, le-leb}
use Rattle.il_base.specs.declared.world_model.expr.TypeExpr.{TypeExpr}
use Rattle.il_base.specs.declared.world_model.types.TypeDefRow.{TypeDefRow}
use Rattle.il_base.specs.declared.world_model.record.AsmRec.{AsmRec}
use Rattle.rules.specs.declared.link_rules.row_at.RowAt.{RowAt}
use Rattle.rules.specs.link_rules.Types.{or_else}
use Rattle.rules.specs.link_rules.Members.{run_of, is_in_run, in_definition}
use Rattle.rules.specs.link_rules.Cycles.{home_of}
use Rattle.rules.specs.type_rules.Slots.{nearest}
use Rattle.base_laws.proofs.lemmas.type_laws.Within.{In}

module _ {A : Type 0} where
  pub contains : (xs : List A) (x : A) → In x xs → Contains xs x
  contains [] x h = absurd h
  contains (y ∷ xs) x (inl e) = (0, omega arith, sym e)
  contains (y ∷ xs) x (inr h) = let m = contains xs x h in let lt = m.1 in (suc m.0, omega arith, m.2)

  -- ---- the first that passes a test

  pub record Found (t : A → Bool) (i : ℕ) (xs : List A) (k : ℕ) : Type 0 where
    pub place : ℕ
    pub is : k ≡ i + place
    pub item : A
    pub there : slice_get xs place ≡ Some item
    pub passes : t item ≡ true

  found_by : (t : A → Bool) (i k : ℕ) (x : A) (xs : List A) (b : Bool) → t x ≡ b → (position_from t (i + 1) xs ≡ Some k → Found t (i + 1) xs k) → cond b (Some i) (position_from t (i + 1) xs) ≡ Some k
      → Found t i (x ∷ xs) k
  found_by t i k x xs true p more e = let f : i ≡ k = cc in record { place = 0; is = omega (arith, f); item = x; there = refl; passes = p }
  found_by t i k x xs false p more e = let m = more e in record { place = suc m.place; is = omega (arith, m.is); item = m.item; there = m.there; passes = m.passes }

  pub found : (t : A → Bool) (i : ℕ) (xs : List A) (k : ℕ) → position_from t i xs ≡ Some k → Found t i xs k
  found t i [] k e = cc
  found t i (x ∷ xs) k e = found_by t i k x xs (t x) refl (found t (i + 1) xs k) e

  finds_by : (t : A → Bool) (i : ℕ) (x : A) (xs : List A) (b : Bool) → t x ≡ b → (b ≡ false → (k : ℕ) × (position_from t (i + 1) xs ≡ Some k)) → (k : ℕ) × (cond b (Some i) (position_from t (i + 1) xs) ≡ Some k)
  finds_by t i x xs true p more = (i, refl)
  finds_by t i x xs false p more = more refl

  pub finds : (t : A → Bool) (i : ℕ) (xs : List A) (j : ℕ) (x : A) → slice_get xs j ≡ Some x → t x ≡ true → (k : ℕ) × (position_from t i xs ≡ Some k)
  finds t i [] j x e p = cc
  finds t i (y ∷ xs) zero x e p = let same : y ≡ x = cc in finds_by t i y xs (t y) refl (λ f. let g : true ≡ false = sym p ∙ ap t (sym same) ∙ f in cc)
  finds t i (y ∷ xs) (suc j) x e p = finds_by t i y xs (t y) refl (λ f. finds t (i + 1) xs j x e p)

  -- ---- a row of a run

  get_take : (n : ℕ) (xs : List A) (j : ℕ) (x : A) → slice_get (take n xs) j ≡ Some x → (j < n) × (slice_get xs j ≡ Some x)
  get_take zero xs j x e = cc
  get_take (suc n) [] j x e = cc
  get_take (suc n) (y ∷ xs) zero x e = (omega arith, e)
  get_take (suc n) (y ∷ xs) (suc j) x e = let m = get_take n xs j x e in let lt = m.0 in (omega arith, m.1)

  get_drop : (d : ℕ) (xs : List A) (j : ℕ) (x : A) → slice_get (drop d xs) j ≡ Some x → slice_get xs (d + j) ≡ Some x
  get_drop zero xs j x e = let z : 0 + j ≡ j = omega arith in ap (slice_get xs) z ∙ e
  get_drop (suc d) [] j x e = cc
  get_drop (suc d) (y ∷ xs) j x e = let z : suc d + j ≡ suc (d + j) = omega arith in ap (slice_get (y ∷ xs)) z ∙ get_drop d xs j x e

  pub record InRun (t : A → Bool) (first end : ℕ) (rows : List A) (k : ℕ) : Type 0 where
    pub item : A
    pub there : slice_get rows k ≡ Some item
    pub passes : t item ≡ true
    pub in_run : is_in_run first end (suc k) ≡ true

  pub in_run : (t : A → Bool) (first end : ℕ) (rows : List A) (k : ℕ) → 1 ≤ first → position_from t (first - 1) (run_of first end rows) ≡ Some k → InRun t first end rows k
  in_run t first end rows k from e =
      let f = found t (first - 1) (run_of first end rows) k e in
      let g = get_take (end - first) (drop (first - 1) rows) f.place f.item f.there in
      let lt = g.0 in
      let is = f.is in
      record {
        item = f.item;
        there = ap (slice_get rows) is ∙ get_drop (first - 1) rows f.place f.item g.1;
        passes = f.passes;
        in_run = and_from (nat_le first (suc k)) (nat_lt (suc k) end) (le-leb first (suc k) (omega arith)) (lt-ltb (suc k) end (omega arith));
      }

-- ---- in the first type that has something

module _ {A : Type 0} (look : TypeExpr → Option A) where
  first_by : (x : A) (e : TypeExpr) (es : List TypeExpr) (o : Option A) → look e ≡ o → (nearest look es ≡ Some x → (y : TypeExpr) × In y es × (look y ≡ Some x)) → or_else o (nearest look es) ≡ Some x
      → (y : TypeExpr) × In y (e ∷ es) × (look y ≡ Some x)
  first_by x e es None f more h = let m = more h in (m.0, inr m.1, m.2)
  first_by x e es (Some z) f more h = (e, inl refl, f ∙ h)

  pub nearest_is : (es : List TypeExpr) (x : A) → nearest look es ≡ Some x → (y : TypeExpr) × In y es × (look y ≡ Some x)
  unfolding nearest
  nearest_is [] x h = cc
  nearest_is (e ∷ es) x h = first_by x e es (look e) refl (nearest_is es x) h

-- ---- in the definition of a type

module _ {A : Type 0} (recs : List AsmRec) (look : RowAt → AsmRec → TypeDefRow → Option A) where
  pub record Defined (e : TypeExpr) (y : A) : Type 0 where
    pub home : RowAt
    pub is : home_of recs e ≡ Some home
    pub rec : AsmRec
    pub there : slice_get recs home.asm ≡ Some rec
    pub row : TypeDefRow
    pub at : slice_get rec.type_def home.row ≡ Some row
    pub found : look home rec row ≡ Some y

  in_row : (e : TypeExpr) (y : A) (home : RowAt) (rec : AsmRec) (o : Option TypeDefRow) → home_of recs e ≡ Some home → slice_get recs home.asm ≡ Some rec → slice_get rec.type_def home.row ≡ o
      → option_and_then (look home rec) o ≡ Some y → Defined e y
  in_row e y home rec None is there at h = cc
  in_row e y home rec (Some row) is there at h = record { home = home; is = is; rec = rec; there = there; row = row; at = at; found = h }

  in_rec : (e : TypeExpr) (y : A) (home : RowAt) (o : Option AsmRec) → home_of recs e ≡ Some home → slice_get recs home.asm ≡ o
      → option_and_then (λ (rec : AsmRec). option_and_then (look home rec) (slice_get rec.type_def home.row)) o ≡ Some y → Defined e y
  in_rec e y home None is there h = cc
  in_rec e y home (Some rec) is there h = in_row e y home rec (slice_get rec.type_def home.row) is there refl h

  in_home : (e : TypeExpr) (y : A) (o : Option RowAt) → home_of recs e ≡ o
      → option_and_then (λ (at : RowAt). option_and_then (λ (rec : AsmRec). option_and_then (look at rec) (slice_get rec.type_def at.row)) (slice_get recs at.asm)) o ≡ Some y → Defined e y
  in_home e y None is h = cc
  in_home e y (Some home) is h = in_rec e y home (slice_get recs home.asm) is refl h

  pub defined : (e : TypeExpr) (y : A) → in_definition recs look e ≡ Some y → Defined e y
  defined e y h = in_home e y (home_of recs e) refl h
