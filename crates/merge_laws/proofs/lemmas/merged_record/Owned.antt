-- The runs of the output follow one another: those of types, of methods, and of the rows that list properties and events.
use Rattle.std.proofs.Common.{◌≡◌, ◌<◌, ◌≤◌, ℕ, zero, suc, ◌+◌, ◌-◌, List, [], ◌∷◌, ◌++◌, length, map, take, drop, min, Bool, true, false, ◌⊎◌, inl, inr, Option, Some, None, refl, sym, ap, subst, ◌∙◌, arith, ltb-true}
use Rattle.std.specs.Prelude.{slice_get, nat_lt, ◌||◌, if◌then◌else◌}
use Rattle.std.specs.List.{Contains, flat_map, filter, list_any, range_with_len}
use Rattle.std.specs.Option.{is_some}
use Rattle.std.proofs.lemmas.Bool.{ltb-false}
use Rattle.std.proofs.lemmas.List.{length-take, length-drop}
use Rattle.std.proofs.lemmas.List.Elements.{Contains-append_left, Contains-append_right}
use Rattle.il_base.specs.declared.ids.Item.{Item}
use Rattle.il_base.specs.declared.table.TheConstants as table
use Rattle.il_base.specs.declared.world_model.types.TypeDefRow.{TypeDefRow}
use Rattle.il_base.specs.declared.world_model.members.MethodDefRow.{MethodDefRow}
use Rattle.il_base.specs.declared.world_model.members.PropertyMapRow.{PropertyMapRow}
use Rattle.il_base.specs.declared.world_model.members.EventMapRow.{EventMapRow}
use Rattle.il_base.specs.declared.world_model.record.AsmRec.{AsmRec}
use Rattle.il_base.specs.world_model.Records.{table_sizes, rows_in, AreRuns, RunsFollow}
use Rattle.il_base.specs.world_model.Worlds.{types_in}
use Rattle.rules.specs.declared.link_rules.row_at.RowAt.{RowAt}
use Rattle.rules.specs.link_rules.Types.{at_row}
use Rattle.rules.specs.link_rules.Members.{run_of, methods_in, fields_in}
use Rattle.rules.specs.link_rules.Cycles.{listed}
use Rattle.rules.specs.type_rules.Rows.{rec_at, each_from, run_places}
use Rattle.rules.specs.mark_rules.Places.{type_item, method_item, field_item, prop_item, event_item, props_in, events_in}
use Rattle.rules.specs.merge_rules.Numbers.{Kept, inputs_from, inputs, rows_of_kind, kept_rows, kept_types, kept_methods, kept_fields, kept_properties, kept_events}
use Rattle.rules.specs.merge_rules.Refs.{Output}
use Rattle.rules.specs.merge_rules.Rows.{all_rows, run_at, class_token, params_of, kept_params}
use Rattle.rules.specs.merge_rules.Moved.{moved_type_row, moved_method_row}
use Rattle.rules.specs.merge_rules.Restricted.{each_at, moved_methods, placed_methods, keeps_some, property_map_row, new_property_map, event_map_row, new_event_map}
use Rattle.merge_laws.specs.merged_record.Laws.{InputsAreRecords, HasOwner, OwnersAreKept, RowsFit}
use Rattle.merge_laws.proofs.lemmas.merged_record.Lists.{In, none_in, first_in, later_in, head_or, place_in, row_below, below_length, to_flat, from_flat, from_map, to_listed, from_listed, from_option, from_if, OfInput, an_input, Numbered, from_each, from_all}
use Rattle.merge_laws.proofs.lemmas.merged_record.Sorting.{Ordered, flat, each, inputs_rise}
use Rattle.merge_laws.proofs.lemmas.merged_record.Runs.{Follows, IsRight, OwnerIn, runs, runs_mapped}
use Rattle.merge_laws.proofs.lemmas.merged_record.Rows.{Before, IsThere, OfPlace, from_places, from_kept, kept_up, IsParam, from_params, from_kept_params, map_join, map_map, map_flat, map_places}
use Rattle.merge_laws.proofs.lemmas.merged_record.Sizes.{OfPlaced, of_placed, placed_length, left, types, fields, methods, params, properties, events}
use Rattle.merge_laws.proofs.lemmas.merged_record.Order.{at_one, one_mapped, before}

-- ---- into lists

to_place : {A : Type 0} (xs : List A) (x : A) → Contains xs x → (k : ℕ) × (slice_get xs k ≡ Some x)
to_place [] x c = absurd (none_in x c)
to_place (y ∷ xs) x c = elim (head_or y xs x c) [ inl e ↦ (0, ap Some e) | inr t ↦ (let r = to_place xs x t in (suc r.0, r.1)) ]

to_map : {A B : Type 0} (f : A → B) (xs : List A) (x : A) → Contains xs x → Contains (map f xs) (f x)
to_map f [] x c = absurd (none_in x c)
to_map {A} {B} f (y ∷ xs) x c =
    elim (head_or y xs x c) [
      | inl e ↦ subst (λ (z : A). Contains (f y ∷ map f xs) (f z)) e (first_in (f y) (map f xs))
      | inr t ↦ later_in (f y) (map f xs) (f x) (to_map f xs x t)
    ]

filter_by : {A : Type 0} (p : A → Bool) (y : A) (xs : List A) (x : A) (b : Bool) → p y ≡ b → (y ≡ x) ⊎ Contains (filter p xs) x → p x ≡ true → Contains (if b then y ∷ filter p xs else filter p xs) x
filter_by {A} p y xs x true e (inl s) h = subst (λ (z : A). Contains (y ∷ filter p xs) z) s (first_in y (filter p xs))
filter_by p y xs x true e (inr t) h = later_in y (filter p xs) x t
filter_by p y xs x false e (inl s) h = absurd (let g : p y ≡ p x = ap p s in cc)
filter_by p y xs x false e (inr t) h = t

to_filter : {A : Type 0} (p : A → Bool) (xs : List A) (x : A) → Contains xs x → p x ≡ true → Contains (filter p xs) x
to_filter p [] x c h = absurd (none_in x c)
to_filter p (y ∷ xs) x c h = filter_by p y xs x (p y) refl (elim (head_or y xs x c) [ inl e ↦ inl e | inr t ↦ inr (to_filter p xs x t h) ]) h

pub to_range : (a n k : ℕ) → k < n → Contains (range_with_len a n) (a + k)
to_range a zero k lt = absurd (omega arith)
to_range a (suc n) zero lt = let e : a ≡ a + 0 = omega arith in subst (λ (m : ℕ). Contains (a ∷ range_with_len (a + 1) n) m) e (first_in a (range_with_len (a + 1) n))
to_range a (suc n) (suc k) lt = let e : (a + 1) + k ≡ a + suc k = omega arith in later_in a (range_with_len (a + 1) n) (a + suc k) (subst (λ (m : ℕ). Contains (range_with_len (a + 1) n) m) e (to_range (a + 1) n k (omega arith)))

to_inputs : (a : ℕ) (recs : List AsmRec) (k : ℕ) (rec : AsmRec) → slice_get recs k ≡ Some rec → suc k < length recs → Contains (inputs_from a recs) (a + k, rec)
to_inputs a [] k rec e lt = absurd (omega arith)
to_inputs a (r ∷ []) k rec e lt = absurd (omega arith)
to_inputs a (r ∷ s ∷ recs) zero rec e lt =
    let same : r ≡ rec = cc in
    let n : a ≡ a + 0 = omega arith in
    subst (λ (x : ℕ × AsmRec). Contains ((a, r) ∷ inputs_from (suc a) (s ∷ recs)) x) (λ i. (n i, same i)) (first_in (a, r) (inputs_from (suc a) (s ∷ recs)))
to_inputs a (r ∷ s ∷ recs) (suc k) rec e lt =
    let n : suc a + k ≡ a + suc k = omega arith in
    later_in (a, r) (inputs_from (suc a) (s ∷ recs)) (a + suc k, rec)
    (subst (λ (m : ℕ). Contains (inputs_from (suc a) (s ∷ recs)) (m, rec)) n (to_inputs (suc a) (s ∷ recs) k rec e (omega arith)))

an_input_in : (recs : List AsmRec) (a : ℕ) (rec : AsmRec) → OfInput recs a rec → Contains (inputs recs) (a, rec)
an_input_in recs a rec i = let n : 0 + a ≡ a = omega arith in subst (λ (m : ℕ). Contains (inputs recs) (m, rec)) n (to_inputs 0 recs a rec i.there i.within)

to_each : {A B : Type 0} (f : ℕ → A → List B) (i : ℕ) (xs : List A) (k : ℕ) (x : A) (y : B) → slice_get xs k ≡ Some x → Contains (f (i + k) x) y → Contains (each_from f i xs) y
to_each f i [] k x y e c = absurd (cc)
to_each {A} {B} f i (w ∷ xs) zero x y e c =
    let same : x ≡ w = cc in
    let n : i + 0 ≡ i = omega arith in
    Contains-append_left (f i w) (each_from f (suc i) xs) y (subst (λ (z : A). Contains (f i z) y) same (subst (λ (m : ℕ). Contains (f m x) y) n c))
to_each f i (w ∷ xs) (suc k) x y e c =
    let n : i + suc k ≡ suc i + k = omega arith in
    Contains-append_right (f i w) (each_from f (suc i) xs) y (to_each f (suc i) xs k x y e (subst (λ (m : ℕ). Contains (f m x) y) n c))

to_all : {R B : Type 0} (rows : AsmRec → List R) (f : ℕ → AsmRec → ℕ → R → List B) (recs : List AsmRec) (a : ℕ) (rec : AsmRec) (k : ℕ) (row : R) (y : B) → OfInput recs a rec → slice_get (rows rec) k ≡ Some row
    → Contains (f a rec k row) y → Contains (all_rows rows f recs) y
to_all rows f recs a rec k row y i e c =
    let n : k ≡ 0 + k = omega arith in
    to_flat (λ (x : ℕ × AsmRec). each_from (f x.0 x.1) 0 (rows x.1)) (inputs recs) y
    (record { item = (a, rec); there = an_input_in recs a rec i; inside = to_each (f a rec) 0 (rows rec) k row y e (subst (λ (m : ℕ). Contains (f a rec m row) y) n c) })

pub to_kept : (count : AsmRec → ℕ) (item : RowAt → Item) (recs : List AsmRec) (kept : Kept) (at : RowAt) (rec : AsmRec) → OfInput recs at.asm rec → at.row < count rec → kept (item at) ≡ true → Contains (kept_rows count item recs kept) at
to_kept count item recs kept at rec i lt h =
    let n : 0 + at.row ≡ at.row = omega arith in
    to_filter (λ (x : RowAt). kept (item x)) (rows_of_kind count recs) at
    (to_flat (λ (x : ℕ × AsmRec). map (at_row x.0) (range_with_len 0 (count x.1))) (inputs recs) at
    (record {
      item = (at.asm, rec);
      there = an_input_in recs at.asm rec i;
      inside = subst (λ (m : ℕ). Contains (map (at_row at.asm) (range_with_len 0 (count rec))) (at_row at.asm m)) n (to_map (at_row at.asm) (range_with_len 0 (count rec)) (0 + at.row) (to_range 0 (count rec) at.row lt));
    })) h

-- ---- the runs of one input

module _ {X : Type 0} (count : ℕ) (first end : X → ℕ) (rows : List X) (r : AreRuns count first end rows) where
  apart_by : (j k : ℕ) (s t y : X) (b : Bool) → nat_lt j k ≡ b → j < suc k → slice_get rows j ≡ Some s → slice_get rows k ≡ Some y → end y ≡ first t → (j < k → end s ≤ first y) → end s ≤ first t
  apart_by j k s t y true g lt e h last next = let le = next (ltb-true j k g) in let up = r.never_falls k y h in omega arith
  apart_by j k s t y false g lt e h last next =
      let ge : k ≤ j = ltb-false j k g in
      let same : j ≡ k = omega arith in
      let at : slice_get rows k ≡ Some s = subst (λ (n : ℕ). slice_get rows n ≡ Some s) same e in
      let it : s ≡ y = cc in
      let equal : end s ≡ end y = ap end it in
      omega arith

  pub run_before : (j k : ℕ) (s t : X) → j < k → slice_get rows j ≡ Some s → slice_get rows k ≡ Some t → end s ≤ first t
  run_before j zero s t lt e f = absurd (omega arith)
  run_before j (suc k) s t lt e f = let p = before rows k t f in apart_by j k s t p.0 (nat_lt j k) refl lt e p.1 (r.meets k p.0 t p.1 f) (λ g. run_before j k s p.0 g e p.1)

-- ---- runs of rows at kept places

-- a row of an input with its place
pub record Held (X : Type 0) : Type 0 where
  pub at : RowAt
  pub rec : AsmRec
  pub row : X

abbrev pub held : {X : Type 0} → RowAt → AsmRec → X → Held X
held at rec row = record { at = at; rec = rec; row = row }

-- a member is in the run of the row at a place
pub record Owned {X : Type 0} (recs : List AsmRec) (rows : AsmRec → List X) (first end : X → ℕ) (at m : RowAt) : Type 0 where
  pub rec : AsmRec
  pub there : slice_get recs at.asm ≡ Some rec
  pub row : X
  pub is : slice_get (rows rec) at.row ≡ Some row
  pub asm : at.asm ≡ m.asm
  pub begins : first row ≤ suc m.row
  pub ends : suc m.row < end row

module _ {X : Type 0} (recs : List AsmRec) (rows : AsmRec → List X) (count : AsmRec → ℕ) (first end : X → ℕ) (places : List RowAt) (up : Ordered Before places)
    (follow : (at : RowAt) → Contains places at → (rec : AsmRec) → slice_get recs at.asm ≡ Some rec → AreRuns (count rec) first end (rows rec)) where
  abbrev items : List (Held X)
  items = each_at recs rows held places

  abbrev asm_of : Held X → ℕ
  asm_of x = x.at.asm

  abbrev first_of : Held X → ℕ
  first_of x = first x.row

  abbrev end_of : Held X → ℕ
  end_of x = end x.row

  abbrev block : RowAt → List (Held X)
  block at = flat_map (λ (rec : AsmRec). map (held at rec) (listed (slice_get (rows rec) at.row))) (listed (rec_at recs at))

  in_block : (at : RowAt) (x : Held X) → Contains (block at) x → (x.at ≡ at) × (slice_get recs x.at.asm ≡ Some x.rec) × (slice_get (rows x.rec) x.at.row ≡ Some x.row)
  in_block at x c =
      let r = from_option (λ (rec : AsmRec). map (held at rec) (listed (slice_get (rows rec) at.row))) (rec_at recs at) x c in
      let m = from_map (held at r.0) (listed (slice_get (rows r.0) at.row)) x r.2 in
      (sym (ap (λ (z : Held X). z.at) m.2), subst (λ (z : Held X). slice_get recs z.at.asm ≡ Some z.rec) m.2 r.1, subst (λ (z : Held X). slice_get (rows z.rec) z.at.row ≡ Some z.row) m.2 (from_listed (slice_get (rows r.0) at.row) m.0 m.1))

  before_by : (a b : RowAt) (y z : Held X) → Contains places a → Contains (block a) y → Contains (block b) z → Before a b → (asm_of y < asm_of z) ⊎ ((asm_of y ≡ asm_of z) × (end_of y ≤ first_of z))
  before_by a b y z c d e (inl lt) =
      let p : asm_of y ≡ a.asm = ap (λ (x : RowAt). x.asm) (in_block a y d).0 in
      let q : asm_of z ≡ b.asm = ap (λ (x : RowAt). x.asm) (in_block b z e).0 in
      inl (omega arith)
  before_by a b y z c d e (inr (same, lt)) =
      let p = in_block a y d in
      let q = in_block b z e in
      let asm : asm_of y ≡ asm_of z = ap (λ (x : RowAt). x.asm) p.0 ∙ same ∙ sym (ap (λ (x : RowAt). x.asm) q.0) in
      let n : y.at.row ≡ a.row = ap (λ (x : RowAt). x.row) p.0 in
      let m : z.at.row ≡ b.row = ap (λ (x : RowAt). x.row) q.0 in
      let here : slice_get recs (asm_of y) ≡ Some z.rec = ap (slice_get recs) asm ∙ q.1 in
      let rec : y.rec ≡ z.rec = let g = p.1 in cc in
      let there : slice_get (rows y.rec) z.at.row ≡ Some z.row = subst (λ (r : AsmRec). slice_get (rows r) z.at.row ≡ Some z.row) (sym rec) q.2 in
      inr (asm, run_before (count y.rec) first end (rows y.rec) (follow y.at (subst (λ (x : RowAt). Contains places x) (sym p.0) c) y.rec p.1) y.at.row z.at.row y.row z.row (omega arith) p.2 there)

  items_up : Ordered (Follows asm_of first_of end_of) items
  items_up = flat Before (Follows asm_of first_of end_of) block places up (λ at c. at_one (Follows asm_of first_of end_of) recs rows held at) (λ a b c d lt y z e f. before_by a b y z c e f lt)

  right : (x : Held X) → Contains items x → IsRight asm_of first_of end_of x
  right x c =
      let r = from_places recs rows held places x c in
      let f = follow r.at r.listed r.rec r.there in
      let a = f.begins r.at.row r.row r.is in
      let b = f.never_falls r.at.row r.row r.is in
      let n : first r.row ≡ first_of x = ap first_of r.made in
      let m : end r.row ≡ end_of x = ap end_of r.made in
      record { begins = omega arith; rises = omega arith }

  module _ (members : List RowAt) (owned : (m : RowAt) → Contains members m → (at : RowAt) × Contains places at × Owned recs rows first end at m) where
    owner_in : (m : RowAt) → Contains members m → OwnerIn asm_of first_of end_of items m
    owner_in m c =
        let p = owned m c in
        let at = p.0 in
        let w = p.2 in
        let x : Held X = held at w.rec w.row in
        let inside : Contains (block at) x =
        to_flat (λ (rec : AsmRec). map (held at rec) (listed (slice_get (rows rec) at.row))) (listed (rec_at recs at)) x
        (record { item = w.rec; there = to_listed (rec_at recs at) w.rec w.there; inside = to_map (held at w.rec) (listed (slice_get (rows w.rec) at.row)) w.row (to_listed (slice_get (rows w.rec) at.row) w.row w.is) }) in
        let k = to_place items x (to_flat block places x (record { item = at; there = p.1; inside = inside })) in
        record { place = k.0; item = x; there = k.1; here = w.asm; begins = w.begins; ends = w.ends }

    pub runs_here : AreRuns (length members) (λ (x : Held X). run_at members x.at.asm (first x.row)) (λ (x : Held X). run_at members x.at.asm (end x.row)) (each_at recs rows held places)
    runs_here = runs asm_of first_of end_of members items items_up right owner_in

-- ---- runs of rows that list members of types

pub record Lists (X : Type 0) : Type 0 where
  pub asm : ℕ
  pub row : X
  pub parent : ℕ

abbrev lists : {X : Type 0} → ℕ → X → ℕ → Lists X
lists a row parent = record { asm = a; row = row; parent = parent }

map_each : {A B C : Type 0} (h : B → C) (f : ℕ → A → List B) (i : ℕ) (xs : List A) → map h (each_from f i xs) ≡ each_from (λ k x. map h (f k x)) i xs
map_each h f i [] = refl
map_each {A} {B} {C} h f i (x ∷ xs) = map_join h (f i x) (each_from f (suc i) xs) ∙ ap (λ (zs : List C). map h (f i x) ++ zs) (map_each h f (suc i) xs)

map_if : {A B C : Type 0} (h : B → C) (f : A → B) (xs : List A) (b : Bool) → map h (if b then map f xs else []) ≡ (if b then map (λ (x : A). h (f x)) xs else [])
map_if h f xs true = map_map h f xs
map_if h f xs false = refl

one_if : {A B : Type 0} (S : B → B → Type 0) (f : A → B) (o : Option A) (b : Bool) → Ordered S (if b then map f (listed o) else [])
one_if S f o true = one_mapped S f o
one_if S f o false = tt

module _ {X : Type 0} (recs : List AsmRec) (rows : AsmRec → List X) (count : AsmRec → ℕ) (first end : X → ℕ) (test : ℕ → AsmRec → X → Bool) (parent : ℕ → X → Option ℕ)
    (follow : (a : ℕ) (rec : AsmRec) → OfInput recs a rec → AreRuns (count rec) first end (rows rec)) where
  abbrev listing : ℕ → AsmRec → ℕ → X → List (Lists X)
  listing a rec k row = if test a rec row then map (lists a row) (listed (parent a row)) else []

  abbrev list_items : List (Lists X)
  list_items = all_rows rows listing recs

  abbrev list_asm : Lists X → ℕ
  list_asm x = x.asm

  abbrev list_first : Lists X → ℕ
  list_first x = first x.row

  abbrev list_end : Lists X → ℕ
  list_end x = end x.row

  abbrev After : Lists X → Lists X → Type 0
  After = Follows list_asm list_first list_end

  listing_is : (a : ℕ) (rec : AsmRec) (k : ℕ) (row : X) (y : Lists X) → Contains (listing a rec k row) y → (a ≡ y.asm) × (row ≡ y.row)
  listing_is a rec k row y c =
      let i = from_if (test a rec row) (map (lists a row) (listed (parent a row))) y c in
      let m = from_map (lists a row) (listed (parent a row)) y i.1 in
      (ap (λ (z : Lists X). z.asm) m.2, ap (λ (z : Lists X). z.row) m.2)

  lists_up : Ordered After list_items
  lists_up =
      flat (λ (x y : ℕ × AsmRec). x.0 < y.0) After (λ (x : ℕ × AsmRec). each_from (listing x.0 x.1) 0 (rows x.1)) (inputs recs) (inputs_rise recs)
      (λ x c.
      each After (listing x.0 x.1) 0 (rows x.1) (λ k row e. one_if After (lists x.0 row) (parent x.0 row) (test x.0 x.1 row))
      (λ j k s t lt e f y z d g.
      let p = listing_is x.0 x.1 (0 + j) s y d in
      let q = listing_is x.0 x.1 (0 + k) t z g in
      let le = run_before (count x.1) first end (rows x.1) (follow x.0 x.1 (an_input recs x c)) j k s t lt e f in
      let n : end s ≡ list_end y = ap end p.1 in
      let m : first t ≡ list_first z = ap first q.1 in
      inr (sym p.0 ∙ q.0, omega arith)))
      (λ x w c d lt y z e f.
      let r = from_each (listing x.0 x.1) 0 (rows x.1) y e in
      let s = from_each (listing w.0 w.1) 0 (rows w.1) z f in
      let p : x.0 ≡ y.asm = (listing_is x.0 x.1 (0 + r.place) r.item y r.inside).0 in
      let q : w.0 ≡ z.asm = (listing_is w.0 w.1 (0 + s.place) s.item z s.inside).0 in
      inl (omega arith))

  lists_right : (x : Lists X) → Contains list_items x → IsRight list_asm list_first list_end x
  lists_right x c =
      let r = from_all rows listing recs x c in
      let i = listing_is r.asm r.rec r.place r.row x r.inside in
      let f = follow r.asm r.rec r.input in
      let a = f.begins r.place r.row r.there in
      let b = f.never_falls r.place r.row r.there in
      let n : first r.row ≡ list_first x = ap first i.1 in
      let m : end r.row ≡ list_end x = ap end i.1 in
      record { begins = omega arith; rises = omega arith }

  -- the row in whose run a member is is listed
  pub record Listed (m : RowAt) : Type 0 where
    pub rec : AsmRec
    pub input : OfInput recs m.asm rec
    pub place : ℕ
    pub row : X
    pub is : slice_get (rows rec) place ≡ Some row
    pub passes : test m.asm rec row ≡ true
    pub parent_token : ℕ
    pub has : parent m.asm row ≡ Some parent_token
    pub begins : first row ≤ suc m.row
    pub ends : suc m.row < end row

  module _ (members : List RowAt) (owned : (m : RowAt) → Contains members m → Listed m) where
    to_if : (b : Bool) (xs : List (Lists X)) (y : Lists X) → b ≡ true → Contains xs y → Contains (if b then xs else []) y
    to_if true xs y e c = c
    to_if false xs y e c = absurd (cc)

    lists_owner : (m : RowAt) → Contains members m → OwnerIn list_asm list_first list_end list_items m
    lists_owner m c =
        let w = owned m c in
        let x : Lists X = lists m.asm w.row w.parent_token in
        let inside : Contains (listing m.asm w.rec w.place w.row) x =
        to_if (test m.asm w.rec w.row) (map (lists m.asm w.row) (listed (parent m.asm w.row))) x w.passes
        (to_map (lists m.asm w.row) (listed (parent m.asm w.row)) w.parent_token (to_listed (parent m.asm w.row) w.parent_token w.has)) in
        let k = to_place list_items x (to_all rows listing recs m.asm w.rec w.place w.row x w.input w.is inside) in
        record { place = k.0; item = x; there = k.1; here = refl; begins = w.begins; ends = w.ends }

    pub runs_listed : AreRuns (length members) (λ (x : Lists X). run_at members x.asm (first x.row)) (λ (x : Lists X). run_at members x.asm (end x.row)) list_items
    runs_listed = runs list_asm list_first list_end members list_items lists_up lists_right lists_owner

  module _ {C : Type 0} (h : ℕ → X → ℕ → C) where
    pub map_lists : map (λ (x : Lists X). h x.asm x.row x.parent) list_items ≡ all_rows rows (λ a rec k row. if test a rec row then map (h a row) (listed (parent a row)) else []) recs
    map_lists =
        map_flat (λ (x : Lists X). h x.asm x.row x.parent) (λ (x : ℕ × AsmRec). each_from (listing x.0 x.1) 0 (rows x.1)) (inputs recs)
        ∙ (λ i. flat_map (λ (x : ℕ × AsmRec). map_each (λ (z : Lists X). h z.asm z.row z.parent) (listing x.0 x.1) 0 (rows x.1) i) (inputs recs))
        ∙ (λ i. all_rows rows (λ a rec k row. map_if (λ (z : Lists X). h z.asm z.row z.parent) (lists a row) (listed (parent a row)) (test a rec row) i) recs)
