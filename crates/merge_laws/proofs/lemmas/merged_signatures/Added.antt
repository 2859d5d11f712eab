-- A name that only modifiers use is the first of its name again in another core library that has it.
use Rattle.std.proofs.Common.{◌≡◌, ◌<◌, ◌≤◌, ◌+◌, ◌-◌, ℕ, zero, suc, List, [], ◌∷◌, ◌++◌, length, map, get_or, Bool, true, false, Option, Some, None, inl, inr, refl, sym, ap, subst, ◌∙◌, ◌&&◌, arith, le-ltb}
use Rattle.std.specs.Prelude.{slice_get, position, nat_lt, if◌then◌else◌}
use Rattle.std.specs.Option.{option_map, option_and_then}
use Rattle.std.proofs.lemmas.Bool.{and_parts, and_from, cases_lt}
use Rattle.std.proofs.lemmas.List.Quantifiers.{position-Some}
use Rattle.il_base.specs.declared.world_model.types.TypeDefRow.{TypeDefRow}
use Rattle.il_base.specs.declared.world_model.record.AsmRec.{AsmRec}
use Rattle.il_base.specs.world_model.Core.{same_name}
use Rattle.il_base.specs.declared.core_table.types.TheConstants.{TYPE_COUNT}
use Rattle.il_base.specs.core_table.Record.{core_record}
use Rattle.rules.specs.declared.link_rules.core_type_name.CoreTypeName.{CoreTypeName}
use Rattle.rules.specs.link_rules.Types.{same_place, encloser, type_from, type_in}
use Rattle.rules.specs.link_rules.CoreNames.{same_core_name, added_row, core_with}
use Rattle.rules.specs.merged_world_rules.NewNumbers.{place_of_name, core_rows}
use Rattle.merge_laws.proofs.lemmas.merged_references.Core.{count, table_row, top_level}
use Rattle.merge_laws.proofs.lemmas.merged_references.Scopes.{names_decide}

-- ---- the search for a name

module _ (rec : AsmRec) (around : Option ℕ) (namespace name : List ℕ) where
  abbrev passes : ℕ → TypeDefRow → Bool
  passes k t = same_name t.name name && same_name t.namespace namespace && same_place (encloser rec k) around

  found_first : (ts : List TypeDefRow) (k j : ℕ) (t : TypeDefRow) → slice_get ts j ≡ Some t → passes (k + j) t ≡ true → ((i : ℕ) (u : TypeDefRow) → i < j → slice_get ts i ≡ Some u → passes (k + i) u ≡ false)
      → type_from rec around namespace name k ts ≡ Some (k + j)
  found_first [] k j t e h none = absurd (cc)
  found_first (x ∷ ts) k zero t e h none =
      let same : t ≡ x = cc in
      let z : k + 0 ≡ k = omega arith in
      let test : passes k x ≡ true = subst (λ (u : TypeDefRow). passes k u ≡ true) same (subst (λ (n : ℕ). passes n t ≡ true) z h) in
      ap (λ (b : Bool). if b then Some k else type_from rec around namespace name (suc k) ts) test ∙ ap (λ (n : ℕ). Some n) (sym z)
  found_first (x ∷ ts) k (suc j) t e h none =
      let z : k + 0 ≡ k = omega arith in
      let n : k + suc j ≡ suc k + j = omega arith in
      let test : passes k x ≡ false = subst (λ (m : ℕ). passes m x ≡ false) z (none 0 x (omega arith) refl) in
      ap (λ (b : Bool). if b then Some k else type_from rec around namespace name (suc k) ts) test
      ∙ found_first ts (suc k) j t e (subst (λ (m : ℕ). passes m t ≡ true) n h)
      (λ i u lt g. let m : k + suc i ≡ suc k + i = omega arith in subst (λ (l : ℕ). passes l u ≡ false) m (none (suc i) u (omega arith) g))
      ∙ ap (λ (m : ℕ). Some m) (sym n)

  before_by : (x : TypeDefRow) (ts : List TypeDefRow) (k n i : ℕ) (u : TypeDefRow) (b : Bool) → passes k x ≡ b → (if b then Some k else type_from rec around namespace name (suc k) ts) ≡ Some n → slice_get (x ∷ ts) i ≡ Some u → k + i < n
      → (type_from rec around namespace name (suc k) ts ≡ Some n → (j : ℕ) → slice_get ts j ≡ Some u → suc k + j < n → passes (suc k + j) u ≡ false) → passes (k + i) u ≡ false
  before_by x ts k n i u true f e g lt next = let same : k ≡ n = cc in absurd (omega arith)
  before_by x ts k n zero u false f e g lt next =
      let same : x ≡ u = cc in
      let z : k ≡ k + 0 = omega arith in
      subst (λ (m : ℕ). passes m u ≡ false) z (subst (λ (w : TypeDefRow). passes k w ≡ false) same f)
  before_by x ts k n (suc j) u false f e g lt next =
      let m : suc k + j ≡ k + suc j = omega arith in
      subst (λ (l : ℕ). passes l u ≡ false) m (next e j g (omega arith))

  none_before : (ts : List TypeDefRow) (k n i : ℕ) (u : TypeDefRow) → type_from rec around namespace name k ts ≡ Some n → slice_get ts i ≡ Some u → k + i < n → passes (k + i) u ≡ false
  none_before [] k n i u e g lt = absurd (cc)
  none_before (x ∷ ts) k n i u e g lt = before_by x ts k n i u (passes k x) refl e g lt (λ h j f l. none_before ts (suc k) n j u h f l)

-- ---- joined lists

in_front : {A : Type 0} (xs ys : List A) (i : ℕ) (x : A) → slice_get (xs ++ ys) i ≡ Some x → i < length xs → slice_get xs i ≡ Some x
in_front [] ys i x e lt = absurd (omega arith)
in_front (y ∷ xs) ys zero x e lt = e
in_front (y ∷ xs) ys (suc i) x e lt = in_front xs ys i x e (omega arith)

in_behind : {A : Type 0} (xs ys : List A) (n i : ℕ) → n ≡ length xs + i → slice_get (xs ++ ys) n ≡ slice_get ys i
in_behind [] ys n i e = ap (slice_get ys) (omega arith)
in_behind (x ∷ xs) ys zero i e = absurd (omega arith)
in_behind (x ∷ xs) ys (suc n) i e = in_behind xs ys n i (omega arith)

map_at : {A B : Type 0} (f : A → B) (xs : List A) (k : ℕ) (x : A) → slice_get xs k ≡ Some x → slice_get (map f xs) k ≡ Some (f x)
map_at f [] k x e = absurd (cc)
map_at f (y ∷ xs) zero x e = let same : y ≡ x = cc in ap (λ z. Some (f z)) same
map_at f (y ∷ xs) (suc k) x e = map_at f xs k x e

of_map : {A B : Type 0} (f : A → B) (xs : List A) (k : ℕ) (y : B) → slice_get (map f xs) k ≡ Some y → (x : A) × (slice_get xs k ≡ Some x) × (f x ≡ y)
of_map f [] k y e = absurd (cc)
of_map f (x ∷ xs) zero y e = (x, refl, cc)
of_map f (x ∷ xs) (suc k) y e = of_map f xs k y e

get_is : {A : Type 0} (xs : List A) (k : ℕ) (x d : A) → slice_get xs k ≡ Some x → get_or xs k d ≡ x
get_is [] k x d e = absurd (cc)
get_is (y ∷ xs) zero x d e = cc
get_is (y ∷ xs) (suc k) x d e = get_is xs k x d e

has_item : {A : Type 0} (xs : List A) (k : ℕ) → k < length xs → (x : A) × (slice_get xs k ≡ Some x)
has_item [] k lt = absurd (omega arith)
has_item (x ∷ xs) zero lt = (x, refl)
has_item (x ∷ xs) (suc k) lt = has_item xs k (omega arith)

and_then_some : {A B : Type 0} (f : A → Option B) (o : Option A) (y : B) → option_and_then f o ≡ Some y → (x : A) × (o ≡ Some x) × (f x ≡ Some y)
and_then_some f None y e = absurd (cc)
and_then_some f (Some x) y e = (x, refl, e)

map_some : {A B : Type 0} (f : A → B) (o : Option A) (y : B) → option_map f o ≡ Some y → (x : A) × (o ≡ Some x) × (f x ≡ y)
map_some f None y e = absurd (cc)
map_some f (Some x) y e = (x, refl, cc)

-- ---- names

core_name_is : (x y : CoreTypeName) → same_core_name x y ≡ true → (x.name ≡ y.name) × (x.namespace ≡ y.namespace)
core_name_is x y e =
    let p = and_parts (same_name x.name y.name) (same_name x.namespace y.namespace) e in
    ((names_decide x.name y.name).0 p.0, (names_decide x.namespace y.namespace).0 p.1)

is_core_name : (x y : CoreTypeName) → x.name ≡ y.name → x.namespace ≡ y.namespace → same_core_name x y ≡ true
is_core_name x y e f = and_from (same_name x.name y.name) (same_name x.namespace y.namespace) ((names_decide x.name y.name).1 e) ((names_decide x.namespace y.namespace).1 f)

-- ---- two core libraries

module _ (names those : List CoreTypeName) where
  abbrev own : ℕ
  own = length core_record.type_def

  abbrev old : AsmRec
  old = core_with core_record names

  abbrev new : AsmRec
  new = core_with core_record those

  old_rows : old.type_def ≡ core_record.type_def ++ map (added_row core_record) names
  unfolding core_with
  old_rows = refl

  new_rows : new.type_def ≡ core_record.type_def ++ map (added_row core_record) those
  unfolding core_with
  new_rows = refl

  -- the name of an added row, and its place among the other names
  pub record Again (r s : ℕ) : Type 0 where
    pub x : CoreTypeName
    pub there : slice_get names (r - own) ≡ Some x
    pub place : ℕ
    pub is : position (same_core_name x) those ≡ Some place
    pub row : own + place ≡ s

  again : (r s : ℕ) → own ≤ r → (core_rows own names those).to r ≡ Some s → Again r s
  again r s le e =
      let past : nat_lt r own ≡ false = le-ltb r own le in
      let f : option_map (λ j. own + j) (option_and_then (place_of_name those) (slice_get names (r - own))) ≡ Some s =
      sym (ap (λ (b : Bool). if b then Some r else option_map (λ j. own + j) (option_and_then (place_of_name those) (slice_get names (r - own)))) past) ∙ e in
      let m = map_some (λ j. own + j) (option_and_then (place_of_name those) (slice_get names (r - own))) s f in
      let n = and_then_some (place_of_name those) (slice_get names (r - own)) m.0 m.1 in
      record { x = n.0; there = n.1; place = m.0; is = n.2; row = m.2 }

  module _ (r s : ℕ) (row : TypeDefRow) (le : own ≤ r) (there : slice_get old.type_def r ≡ Some row) (first : type_in old None row.namespace row.name ≡ Some r) (a : Again r s) where
    row_is : added_row core_record a.x ≡ row
    row_is =
        let e : slice_get (map (added_row core_record) names) (r - own) ≡ Some row =
        sym (in_behind core_record.type_def (map (added_row core_record) names) r (r - own) (omega (arith, le))) ∙ ap (λ (ts : List TypeDefRow). slice_get ts r) (sym old_rows) ∙ there in
        let f : slice_get (map (added_row core_record) names) (r - own) ≡ Some (added_row core_record a.x) = map_at (added_row core_record) names (r - own) a.x a.there in
        let g : Some (added_row core_record a.x) ≡ Some row = sym f ∙ e in cc

    name_is : a.x.name ≡ row.name
    name_is = ap (λ (t : TypeDefRow). t.name) row_is

    namespace_is : a.x.namespace ≡ row.namespace
    namespace_is = ap (λ (t : TypeDefRow). t.namespace) row_is

    abbrev passes_old : ℕ → TypeDefRow → Bool
    passes_old k t = same_name t.name row.name && same_name t.namespace row.namespace && same_place (encloser old k) None

    abbrev passes_new : ℕ → TypeDefRow → Bool
    passes_new k t = same_name t.name row.name && same_name t.namespace row.namespace && same_place (encloser new k) None

    top_alike : (k : ℕ) (t : TypeDefRow) → passes_new k t ≡ passes_old k t
    top_alike k t = ap (λ (o : Option ℕ). same_name t.name row.name && same_name t.namespace row.namespace && same_place o None) (top_level those k ∙ sym (top_level names k))

    first_from : type_from old None row.namespace row.name 0 old.type_def ≡ Some r
    unfolding type_in
    first_from = first

    -- no row of the table has the name
    none_own : (i : ℕ) (u : TypeDefRow) → i < own → slice_get core_record.type_def i ≡ Some u → passes_new (0 + i) u ≡ false
    none_own i u lt e = top_alike (0 + i) u ∙ none_before old None row.namespace row.name old.type_def 0 r i u first_from (table_row names i u e) (omega (arith, lt, le))

    abbrev y : CoreTypeName
    y = (has_item those a.place (position-Some (same_core_name a.x) those a.place a.x a.is).0).0

    y_there : slice_get those a.place ≡ Some y
    y_there = (has_item those a.place (position-Some (same_core_name a.x) those a.place a.x a.is).0).1

    y_is : same_core_name a.x y ≡ true
    y_is = ap (same_core_name a.x) (sym (get_is those a.place y a.x y_there)) ∙ (position-Some (same_core_name a.x) those a.place a.x a.is).1

    none_earlier : (i : ℕ) (z : CoreTypeName) → i < a.place → slice_get those i ≡ Some z → same_core_name a.x z ≡ false
    none_earlier i z lt e = ap (same_core_name a.x) (sym (get_is those i z a.x e)) ∙ (position-Some (same_core_name a.x) those a.place a.x a.is).2 i lt

    passes_y : passes_new (0 + (own + a.place)) (added_row core_record y) ≡ true
    passes_y =
        let p = core_name_is a.x y y_is in
        and_from (same_name y.name row.name && same_name y.namespace row.namespace) (same_place (encloser new (0 + (own + a.place))) None)
        (and_from (same_name y.name row.name) (same_name y.namespace row.namespace) ((names_decide y.name row.name).1 (sym p.0 ∙ name_is)) ((names_decide y.namespace row.namespace).1 (sym p.1 ∙ namespace_is)))
        (ap (λ (o : Option ℕ). same_place o None) (top_level those (0 + (own + a.place))))

    fails_other : (k : ℕ) (z : CoreTypeName) → same_core_name a.x z ≡ false → passes_new k (added_row core_record z) ≡ false
    fails_other k z e = by_test (passes_new k (added_row core_record z)) refl
      where
        by_test : (b : Bool) → passes_new k (added_row core_record z) ≡ b → b ≡ false
        by_test true f =
            let p = and_parts (same_name z.name row.name && same_name z.namespace row.namespace) (same_place (encloser new k) None) f in
            let q = and_parts (same_name z.name row.name) (same_name z.namespace row.namespace) p.0 in
            let g : same_core_name a.x z ≡ true = is_core_name a.x z (name_is ∙ sym ((names_decide z.name row.name).0 q.0)) (namespace_is ∙ sym ((names_decide z.namespace row.namespace).0 q.1)) in
            absurd (cc)
        by_test false f = refl

    none_new : (i : ℕ) (u : TypeDefRow) → i < own + a.place → slice_get (core_record.type_def ++ map (added_row core_record) those) i ≡ Some u → passes_new (0 + i) u ≡ false
    none_new i u lt e = elim (cases_lt i own) [
      | inl below ↦ none_own i u below (in_front core_record.type_def (map (added_row core_record) those) i u e below)
      | inr above ↦ (
          let f : slice_get (map (added_row core_record) those) (i - own) ≡ Some u = sym (in_behind core_record.type_def (map (added_row core_record) those) i (i - own) (omega (arith, above))) ∙ e in
          let m = of_map (added_row core_record) those (i - own) u f in
          subst (λ (t : TypeDefRow). passes_new (0 + i) t ≡ false) m.2 (fails_other (0 + i) m.0 (none_earlier (i - own) m.0 (omega (arith, lt, above)) m.1)))
    ]

    pub found_again : type_in new None row.namespace row.name ≡ Some s
    unfolding type_in
    found_again =
        let z : 0 + (own + a.place) ≡ s = let n = a.row in omega arith in
        ap (type_from new None row.namespace row.name 0) new_rows
        ∙ found_first new None row.namespace row.name (core_record.type_def ++ map (added_row core_record) those) 0 (own + a.place) (added_row core_record y)
        (in_behind core_record.type_def (map (added_row core_record) those) (own + a.place) a.place refl ∙ map_at (added_row core_record) those a.place y y_there) passes_y none_new
        ∙ ap (λ (n : ℕ). Some n) z

  -- a name that modifiers alone find is found after the table
  pub added_again : (r s : ℕ) (row : TypeDefRow) → TYPE_COUNT ≤ r → slice_get old.type_def r ≡ Some row → type_in old None row.namespace row.name ≡ Some r → (core_rows own names those).to r ≡ Some s
      → (TYPE_COUNT ≤ s) × (type_in new None row.namespace row.name ≡ Some s)
  added_again r s row le there first to =
      let n = count names in
      let low : own ≤ r = omega (arith, n, le) in
      let a = again r s low to in
      let e = a.row in
      (omega (arith, n, e), found_again r s row low there first a)
