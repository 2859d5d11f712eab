-- What rows of the output are made of: each stands for a row of an input.
use Rattle.std.proofs.Common.{◌≡◌, ◌<◌, ◌≤◌, ℕ, zero, suc, ◌+◌, ◌-◌, List, [], ◌∷◌, ◌++◌, length, map, take, drop, min, Bool, true, false, ◌⊎◌, inl, inr, Option, Some, None, refl, sym, ap, subst, ◌∙◌, arith}
use Rattle.std.specs.Prelude.{slice_get, if◌then◌else◌}
use Rattle.std.specs.List.{Contains, flat_map, filter, range_with_len}
use Rattle.std.proofs.lemmas.List.{append-nil, length-take, length-drop}
use Rattle.il_base.specs.declared.ids.Item.{Item}
use Rattle.il_base.specs.declared.world_model.members.MethodDefRow.{MethodDefRow}
use Rattle.il_base.specs.declared.world_model.record.AsmRec.{AsmRec}
use Rattle.rules.specs.declared.link_rules.row_at.RowAt.{RowAt}
use Rattle.rules.specs.link_rules.Types.{at_row}
use Rattle.rules.specs.link_rules.Members.{run_of, methods_in}
use Rattle.rules.specs.link_rules.Cycles.{listed}
use Rattle.rules.specs.type_rules.Rows.{rec_at, run_places}
use Rattle.rules.specs.mark_rules.Places.{method_item}
use Rattle.rules.specs.merge_rules.Numbers.{Kept, inputs, rows_of_kind, kept_rows, kept_methods}
use Rattle.rules.specs.merge_rules.Rows.{SortedRow, sorted_at, params_of, kept_params}
use Rattle.rules.specs.merge_rules.Restricted.{each_at, each_sorted}
use Rattle.merge_laws.proofs.lemmas.merged_record.Lists.{none_in, first_in, later_in, one_is, from_flat, from_map, from_listed, from_option, from_filter, flat_length, OfInput, an_input}
use Rattle.merge_laws.proofs.lemmas.merged_record.Sorting.{Ordered, flat, filtered, mapped, weaker, from_range, range_rises, inputs_rise}

-- ---- rows at places

-- a place whose row is there
pub record IsThere {R : Type 0} (recs : List AsmRec) (rows : AsmRec → List R) (at : RowAt) : Type 0 where
  pub rec : AsmRec
  pub there : slice_get recs at.asm ≡ Some rec
  pub row : R
  pub is : slice_get (rows rec) at.row ≡ Some row

pub record OfPlace {R B : Type 0} (recs : List AsmRec) (rows : AsmRec → List R) (f : RowAt → AsmRec → R → B) (places : List RowAt) (y : B) : Type 0 where
  pub at : RowAt
  pub listed : Contains places at
  pub rec : AsmRec
  pub there : slice_get recs at.asm ≡ Some rec
  pub row : R
  pub is : slice_get (rows rec) at.row ≡ Some row
  pub made : f at rec row ≡ y

pub from_places : {R B : Type 0} (recs : List AsmRec) (rows : AsmRec → List R) (f : RowAt → AsmRec → R → B) (places : List RowAt) (y : B) → Contains (each_at recs rows f places) y → OfPlace recs rows f places y
from_places recs rows f places y c =
    let p = from_flat (λ (at : RowAt). flat_map (λ (rec : AsmRec). map (f at rec) (listed (slice_get (rows rec) at.row))) (listed (rec_at recs at))) places y c in
    let at = p.item in
    let r = from_option (λ (rec : AsmRec). map (f at rec) (listed (slice_get (rows rec) at.row))) (rec_at recs at) y p.inside in
    let m = from_map (f at r.0) (listed (slice_get (rows r.0) at.row)) y r.2 in
    record { at = at; listed = p.there; rec = r.0; there = r.1; row = m.0; is = from_listed (slice_get (rows r.0) at.row) m.0 m.1; made = m.2 }

one_option : {A B : Type 0} (g : A → List B) (o : Option A) (x : A) → o ≡ Some x → length (g x) ≡ 1 → length (flat_map g (listed o)) ≡ 1
one_option g None x e one = absurd (cc)
one_option {A} g (Some y) x e one = let same : x ≡ y = cc in ap length (append-nil (g y)) ∙ subst (λ (z : A). length (g z) ≡ 1) same one

one_mapped : {A B : Type 0} (f : A → B) (o : Option A) (x : A) → o ≡ Some x → length (map f (listed o)) ≡ 1
one_mapped f None x e = absurd (cc)
one_mapped f (Some y) x e = refl

pub places_length : {R B : Type 0} (recs : List AsmRec) (rows : AsmRec → List R) (f : RowAt → AsmRec → R → B) (places : List RowAt) → ((at : RowAt) → Contains places at → IsThere recs rows at)
    → length (each_at recs rows f places) ≡ length places
places_length recs rows f places are =
    flat_length (λ (at : RowAt). flat_map (λ (rec : AsmRec). map (f at rec) (listed (slice_get (rows rec) at.row))) (listed (rec_at recs at))) places
    (λ at c.
    let t = are at c in
    one_option (λ (rec : AsmRec). map (f at rec) (listed (slice_get (rows rec) at.row))) (rec_at recs at) t.rec t.there (one_mapped (f at t.rec) (slice_get (rows t.rec) at.row) t.row t.is))

-- ---- rows with owners

pub record OfSorted {R B : Type 0} (recs : List AsmRec) (rows : AsmRec → List R) (f : ℕ → ℕ → AsmRec → R → B) (sorted : List SortedRow) (y : B) : Type 0 where
  pub item : SortedRow
  pub listed : Contains sorted item
  pub rec : AsmRec
  pub there : slice_get recs item.at.asm ≡ Some rec
  pub row : R
  pub is : slice_get (rows rec) item.at.row ≡ Some row
  pub made : f item.owner item.at.asm rec row ≡ y

abbrev pub one_of : {R B : Type 0} → List AsmRec → (AsmRec → List R) → (ℕ → ℕ → AsmRec → R → B) → SortedRow → List B
one_of recs rows f x = each_at recs rows (λ at rec row. f x.owner at.asm rec row) (x.at ∷ [])

pub from_one : {R B : Type 0} (recs : List AsmRec) (rows : AsmRec → List R) (f : ℕ → ℕ → AsmRec → R → B) (x : SortedRow) (y : B) → Contains (one_of recs rows f x) y
    → (rec : AsmRec) × (slice_get recs x.at.asm ≡ Some rec) × (row : R) × (slice_get (rows rec) x.at.row ≡ Some row) × (f x.owner x.at.asm rec row ≡ y)
from_one {R} {B} recs rows f x y c =
    let p = from_places recs rows (λ at rec row. f x.owner at.asm rec row) (x.at ∷ []) y c in
    let same : x.at ≡ p.at = one_is x.at p.at p.listed in
    (p.rec, ap (λ (at : RowAt). slice_get recs at.asm) same ∙ p.there, p.row, ap (λ (at : RowAt). slice_get (rows p.rec) at.row) same ∙ p.is, ap (λ (at : RowAt). f x.owner at.asm p.rec p.row) same ∙ p.made)

pub from_sorted : {R B : Type 0} (recs : List AsmRec) (rows : AsmRec → List R) (f : ℕ → ℕ → AsmRec → R → B) (sorted : List SortedRow) (y : B) → Contains (each_sorted recs rows f sorted) y → OfSorted recs rows f sorted y
from_sorted recs rows f sorted y c =
    let p = from_flat (one_of recs rows f) sorted y c in
    let q = from_one recs rows f p.item y p.inside in
    record { item = p.item; listed = p.there; rec = q.0; there = q.1; row = q.2; is = q.3; made = q.4 }

pub sorted_length : {R B : Type 0} (recs : List AsmRec) (rows : AsmRec → List R) (f : ℕ → ℕ → AsmRec → R → B) (sorted : List SortedRow) → ((x : SortedRow) → Contains sorted x → IsThere recs rows x.at)
    → length (each_sorted recs rows f sorted) ≡ length sorted
sorted_length recs rows f sorted are =
    flat_length (one_of recs rows f) sorted
    (λ x c. places_length recs rows (λ at rec row. f x.owner at.asm rec row) (x.at ∷ []) (λ at d. subst (IsThere recs rows) (one_is x.at at d) (are x c)))

pub from_sorted_at : (a k : ℕ) (key : ℕ → ℕ) (owner : Option ℕ) (x : SortedRow) → Contains (sorted_at a k key owner) x
    → (token : ℕ) × (owner ≡ Some token) × (x.at ≡ at_row a k) × (x.owner ≡ token) × (x.key ≡ key token)
from_sorted_at a k key owner x c =
    let m = from_map (λ (token : ℕ). record { at = at_row a k; owner = token; key = key token }) (listed owner) x c in
    (m.0, from_listed owner m.0 m.1, sym (ap (λ (y : SortedRow). y.at) m.2), sym (ap (λ (y : SortedRow). y.owner) m.2), sym (ap (λ (y : SortedRow). y.key) m.2))

-- ---- kept rows

abbrev pub Before : RowAt → RowAt → Type 0
Before x y = (x.asm < y.asm) ⊎ ((x.asm ≡ y.asm) × (x.row < y.row))

pub record IsKept (count : AsmRec → ℕ) (item : RowAt → Item) (recs : List AsmRec) (kept : Kept) (at : RowAt) : Type 0 where
  pub rec : AsmRec
  pub input : OfInput recs at.asm rec
  pub below : at.row < count rec
  pub passes : kept (item at) ≡ true

module _ (count : AsmRec → ℕ) (item : RowAt → Item) (recs : List AsmRec) (kept : Kept) where
  abbrev block : ℕ × AsmRec → List RowAt
  block x = map (at_row x.0) (range_with_len 0 (count x.1))

  in_block : (x : ℕ × AsmRec) (at : RowAt) → Contains (block x) at → (at.asm ≡ x.0) × (at.row < count x.1)
  in_block x at c =
      let m = from_map (at_row x.0) (range_with_len 0 (count x.1)) at c in
      let r = from_range 0 (count x.1) m.0 m.1 in
      let lt = r.1 in
      let n : m.0 ≡ at.row = ap (λ (y : RowAt). y.row) m.2 in
      (sym (ap (λ (y : RowAt). y.asm) m.2), omega arith)

  pub from_kept : (at : RowAt) → Contains (kept_rows count item recs kept) at → IsKept count item recs kept at
  from_kept at c =
      let f = from_filter (λ (x : RowAt). kept (item x)) (rows_of_kind count recs) at c in
      let p = from_flat block (inputs recs) at f.0 in
      let b = in_block p.item at p.inside in
      record { rec = p.item.1; input = subst (λ (a : ℕ). OfInput recs a p.item.1) (sym b.0) (an_input recs p.item p.there); below = b.1; passes = f.1 }

  pub kept_up : Ordered Before (kept_rows count item recs kept)
  kept_up =
      filtered Before (λ (x : RowAt). kept (item x)) (rows_of_kind count recs)
      (flat (λ (x y : ℕ × AsmRec). x.0 < y.0) Before block (inputs recs) (inputs_rise recs)
      (λ x c. mapped (λ j k. j < k) Before (at_row x.0) (range_with_len 0 (count x.1)) (λ j k d e lt. inr (refl, lt)) (range_rises 0 (count x.1)))
      (λ x z c d lt y w e f. let a = (in_block x y e).0 in let b = (in_block z w f).0 in inl (omega arith)))

-- the places of a run are rows of the table
pub in_run : {A : Type 0} (first end : ℕ) (rows : List A) (k : ℕ) → Contains (run_places first end rows) k → (first ≤ suc k) × (first - 1 ≤ k) × (k < first - 1 + (end - first)) × (k < length rows)
in_run first end rows k c =
    let r = from_range (first - 1) (length (run_of first end rows)) k c in
    let n : length (run_of first end rows) ≡ min (end - first) (length rows - (first - 1)) = length-take (end - first) (drop (first - 1) rows) ∙ ap (min (end - first)) (length-drop (first - 1) rows) in
    let ge = r.0 in
    let lt = r.1 in
    (omega arith, ge, omega arith, omega arith)

-- ---- parameters

pub record IsParam (recs : List AsmRec) (kept : Kept) (at m : RowAt) : Type 0 where
  pub rec : AsmRec
  pub there : slice_get recs at.asm ≡ Some rec
  pub row : MethodDefRow
  pub is : slice_get rec.method_def at.row ≡ Some row
  pub asm : m.asm ≡ at.asm
  pub begins : row.param_list_first ≤ suc m.row
  pub behind : row.param_list_first - 1 ≤ m.row
  pub ends : m.row < row.param_list_first - 1 + (row.param_list_end - row.param_list_first)
  pub below : m.row < length rec.param

pub from_params : (recs : List AsmRec) (kept : Kept) (at m : RowAt) → Contains (params_of recs at) m → IsParam recs kept at m
from_params recs kept at m c =
    let r = from_option (λ (rec : AsmRec). flat_map (λ (d : MethodDefRow). map (at_row at.asm) (run_places d.param_list_first d.param_list_end rec.param)) (listed (slice_get rec.method_def at.row))) (rec_at recs at) m c in
    let d = from_option (λ (d : MethodDefRow). map (at_row at.asm) (run_places d.param_list_first d.param_list_end r.0.param)) (slice_get r.0.method_def at.row) m r.2 in
    let k = from_map (at_row at.asm) (run_places d.0.param_list_first d.0.param_list_end r.0.param) m d.2 in
    let i = in_run d.0.param_list_first d.0.param_list_end r.0.param k.0 k.1 in
    let n : k.0 ≡ m.row = ap (λ (y : RowAt). y.row) k.2 in
    let b = i.0 in
    let h = i.1 in
    let e = i.2 in
    let l = i.3 in
    record { rec = r.0; there = r.1; row = d.0; is = d.1; asm = sym (ap (λ (y : RowAt). y.asm) k.2); begins = omega arith; behind = omega arith; ends = omega arith; below = omega arith }

pub from_kept_params : (recs : List AsmRec) (kept : Kept) (m : RowAt) → Contains (kept_params recs kept) m → (at : RowAt) × Contains (kept_methods recs kept) at × IsParam recs kept at m
unfolding kept_params
from_kept_params recs kept m c = let p = from_flat (params_of recs) (kept_methods recs kept) m c in (p.item, p.there, from_params recs kept p.item m p.inside)

-- ---- what is made of rows that are made

pub map_join : {A B : Type 0} (f : A → B) (xs ys : List A) → map f (xs ++ ys) ≡ map f xs ++ map f ys
map_join f [] ys = refl
map_join f (x ∷ xs) ys = ap (λ (zs : List _). f x ∷ zs) (map_join f xs ys)

pub map_flat : {A B C : Type 0} (f : B → C) (g : A → List B) (xs : List A) → map f (flat_map g xs) ≡ flat_map (λ (x : A). map f (g x)) xs
map_flat f g [] = refl
map_flat {A} {B} {C} f g (x ∷ xs) = map_join f (g x) (flat_map g xs) ∙ ap (λ (zs : List C). map f (g x) ++ zs) (map_flat f g xs)

pub map_map : {A B C : Type 0} (f : B → C) (g : A → B) (xs : List A) → map f (map g xs) ≡ map (λ (x : A). f (g x)) xs
map_map f g [] = refl
map_map {A} {B} {C} f g (x ∷ xs) = ap (λ (zs : List C). f (g x) ∷ zs) (map_map f g xs)

pub map_places : {R B C : Type 0} (h : B → C) (recs : List AsmRec) (rows : AsmRec → List R) (f : RowAt → AsmRec → R → B) (places : List RowAt)
    → map h (each_at recs rows f places) ≡ each_at recs rows (λ at rec row. h (f at rec row)) places
map_places {R} {B} {C} h recs rows f places =
    map_flat h (λ (at : RowAt). flat_map (λ (rec : AsmRec). map (f at rec) (listed (slice_get (rows rec) at.row))) (listed (rec_at recs at))) places
    ∙ (λ i. flat_map
    (λ (at : RowAt). (map_flat h (λ (rec : AsmRec). map (f at rec) (listed (slice_get (rows rec) at.row))) (listed (rec_at recs at))
    ∙ (λ j. flat_map (λ (rec : AsmRec). map_map h (f at rec) (listed (slice_get (rows rec) at.row)) j) (listed (rec_at recs at)))) i) places)
