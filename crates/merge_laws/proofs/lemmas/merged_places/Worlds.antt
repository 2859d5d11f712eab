-- The two worlds of a merge, and the tables of what is left.
use Rattle.std.proofs.Common.{◌≡◌, ◌<◌, ℕ, zero, suc, ◌+◌, List, [], ◌∷◌, ◌++◌, length, map, Option, Some, None, refl, sym, ap, ◌∙◌, arith, length-append}
use Rattle.std.specs.Prelude.{slice_get}
use Rattle.std.specs.List.{flat_map}
use Rattle.std.specs.Option.{option_map}
use Rattle.std.proofs.lemmas.List.{length-map}
use Rattle.il_base.specs.declared.body.Body.{Body}
use Rattle.il_base.specs.declared.world_model.known.Known.{Known}
use Rattle.il_base.specs.declared.world_model.members.MethodDefRow.{MethodDefRow}
use Rattle.il_base.specs.declared.world_model.record.AsmRec.{AsmRec}
use Rattle.il_base.specs.core_table.Record.{core_record}
use Rattle.rules.specs.file_layout.Bodies.{rvas_behind, behind}
use Rattle.rules.specs.declared.link_rules.row_at.RowAt.{RowAt}
use Rattle.rules.specs.link_rules.Cycles.{listed}
use Rattle.rules.specs.declared.link_rules.core_type_name.CoreTypeName.{CoreTypeName}
use Rattle.rules.specs.link_rules.CoreNames.{added_row, core_with}
use Rattle.rules.specs.link_rules.Linked.{assemblies}
use Rattle.rules.specs.type_rules.Rows.{rec_at}
use Rattle.rules.specs.merge_rules.Restricted.{each_at, put_rva, with_rvas, bodies_of, placed_methods, moved_methods, restricted_by, restricted}
use Rattle.rules.specs.merged_world_rules.Merge.{Merge, before, after, names_before, names_after, output, IsMerge}
use Rattle.merge_laws.proofs.lemmas.merged_places.Rows.{same_some, IsThere, place_has, get_front, get_behind}
use Rattle.merge_laws.proofs.lemmas.merged_places.Kept.{Every}

-- ---- the rows at places

module _ {R B : Type 0} (recs : List AsmRec) (rows : AsmRec → List R) (f : RowAt → AsmRec → R → B) where
  abbrev RowsThere : List RowAt → Type 0
  RowsThere places = Every (IsThere (λ rec. length (rows rec)) recs) places

  pub made : (at : RowAt) (rec : AsmRec) (row : R) → slice_get recs at.asm ≡ Some rec → slice_get (rows rec) at.row ≡ Some row
      → flat_map (λ (rec : AsmRec). map (f at rec) (listed (slice_get (rows rec) at.row))) (listed (rec_at recs at)) ≡ f at rec row ∷ []
  made at rec row here is =
      ap (λ (o : Option AsmRec). flat_map (λ (rec : AsmRec). map (f at rec) (listed (slice_get (rows rec) at.row))) (listed o)) here
      ∙ ap (λ (o : Option R). map (f at rec) (listed o) ++ []) is

  pub each_length : (places : List RowAt) → RowsThere places → length (each_at recs rows f places) ≡ length places
  each_length [] hs = refl
  each_length (at ∷ places) hs =
      let h = hs.0 in
      let row = place_has (rows h.rec) at.row h.below in
      ap (λ (xs : List B). length (xs ++ each_at recs rows f places)) (made at h.rec row.0 h.here row.1) ∙ ap suc (each_length places hs.1)

  pub each_get : (places : List RowAt) (j : ℕ) (at : RowAt) (rec : AsmRec) (row : R) → RowsThere places → slice_get places j ≡ Some at → slice_get recs at.asm ≡ Some rec
      → slice_get (rows rec) at.row ≡ Some row → slice_get (each_at recs rows f places) j ≡ Some (f at rec row)
  each_get [] j at rec row hs e here is = absurd (cc)
  each_get (x ∷ places) zero at rec row hs e here is =
      let same : x ≡ at = cc in
      ap (λ (y : RowAt). slice_get (flat_map (λ (rec : AsmRec). map (f y rec) (listed (slice_get (rows rec) y.row))) (listed (rec_at recs y)) ++ each_at recs rows f places) 0) same
      ∙ ap (λ (xs : List B). slice_get (xs ++ each_at recs rows f places) 0) (made at rec row here is)
  each_get (x ∷ places) (suc j) at rec row hs e here is =
      let h = hs.0 in
      let first = place_has (rows h.rec) x.row h.below in
      ap (λ (xs : List B). slice_get (xs ++ each_at recs rows f places) (suc j)) (made x h.rec first.0 h.here first.1)
      ∙ each_get places j at rec row hs.1 e here is

-- ---- addresses

rvas_length : (bytes : List ℕ) (bs : List (Option (Known Body))) → length (rvas_behind bytes bs) ≡ length bs
unfolding rvas_behind
rvas_length bytes [] = refl
rvas_length bytes (b ∷ bs) = ap suc (rvas_length (behind bytes b) bs)

with_length : (rvas : List ℕ) (ms : List MethodDefRow) → length rvas ≡ length ms → length (with_rvas rvas ms) ≡ length ms
unfolding with_rvas
with_length [] ms e = e
with_length (rva ∷ rvas) [] e = absurd (omega (arith, e))
with_length (rva ∷ rvas) (m ∷ ms) e = ap suc (with_length rvas ms (omega (arith, e)))

with_get : (rvas : List ℕ) (ms : List MethodDefRow) (j : ℕ) (m : MethodDefRow) → length rvas ≡ length ms → slice_get ms j ≡ Some m
    → (rva : ℕ) × (slice_get (with_rvas rvas ms) j ≡ Some (put_rva rva m))
unfolding with_rvas
with_get [] [] j m e is = absurd (cc)
with_get [] (x ∷ ms) j m e is = absurd (omega (arith, e))
with_get (rva ∷ rvas) [] j m e is = absurd (omega (arith, e))
with_get (rva ∷ rvas) (x ∷ ms) zero m e is = let same : x ≡ m = cc in (rva, ap (λ (y : MethodDefRow). Some (put_rva rva y)) same)
with_get (rva ∷ rvas) (x ∷ ms) (suc j) m e is = with_get rvas ms j m (omega (arith, e)) is

rvas_fit : (ms : List MethodDefRow) → length (rvas_behind [] (bodies_of ms)) ≡ length ms
rvas_fit ms = rvas_length [] (bodies_of ms) ∙ length-map ms (λ (m : MethodDefRow). m.body)

pub placed_length : (ms : List MethodDefRow) → length (placed_methods ms) ≡ length ms
placed_length ms = with_length (rvas_behind [] (bodies_of ms)) ms (rvas_fit ms)

pub placed_get : (ms : List MethodDefRow) (j : ℕ) (m : MethodDefRow) → slice_get ms j ≡ Some m → (rva : ℕ) × (slice_get (placed_methods ms) j ≡ Some (put_rva rva m))
placed_get ms j m e = with_get (rvas_behind [] (bodies_of ms)) ms j m (rvas_fit ms) e

-- ---- the worlds

-- the core library in either world
unfoldable pub core_of : Merge → AsmRec
core_of m = core_with core_record (names_before m)

unfoldable pub left_core : Merge → AsmRec
left_core m = core_with core_record (names_after m)

pub before_is : (m : Merge) → before m ≡ m.inputs ++ core_of m ∷ []
unfolding assemblies core_of
before_is m = refl

pub after_is : (m : Merge) → after m ≡ m.left ∷ left_core m ∷ []
unfolding assemblies left_core
after_is m = refl

pub before_length : (m : Merge) → length (before m) ≡ suc (length m.inputs)
before_length m = ap length (before_is m) ∙ length-append m.inputs (core_of m ∷ []) ∙ omega arith

pub before_core : (m : Merge) → slice_get (before m) (length m.inputs) ≡ Some (core_of m)
before_core m =
    ap (λ (recs : List AsmRec). slice_get recs (length m.inputs)) (before_is m)
    ∙ ap (slice_get (m.inputs ++ core_of m ∷ [])) (omega arith) ∙ get_behind m.inputs (core_of m ∷ []) 0

pub after_core : (m : Merge) → slice_get (after m) 1 ≡ Some (left_core m)
after_core m = ap (λ (recs : List AsmRec). slice_get recs 1) (after_is m)

pub after_left : (m : Merge) → slice_get (after m) 0 ≡ Some m.left
after_left m = ap (λ (recs : List AsmRec). slice_get recs 0) (after_is m)

-- the row of the last assembly is the core library
pub core_rec : (m : Merge) (at : RowAt) (rec : AsmRec) → slice_get (before m) at.asm ≡ Some rec → suc at.asm ≡ length (before m) → rec ≡ core_of m
core_rec m at rec here last =
    let long = before_length m in
    let asm : at.asm ≡ length m.inputs = omega (arith, long, last) in
    same_some rec (core_of m) (sym here ∙ ap (slice_get (before m)) asm ∙ before_core m)

pub core_at : (m : Merge) (at : RowAt) → suc at.asm ≡ length (before m) → slice_get (before m) at.asm ≡ Some (core_of m)
core_at m at last = let long = before_length m in ap (slice_get (before m)) (omega (arith, long, last)) ∙ before_core m

-- its tables
types_of : (names : List CoreTypeName) → (core_with core_record names).type_def ≡ core_record.type_def ++ map (added_row core_record) names
unfolding core_with
types_of names = refl

methods_of : (names : List CoreTypeName) → (core_with core_record names).method_def ≡ core_record.method_def
unfolding core_with
methods_of names = refl

fields_of : (names : List CoreTypeName) → (core_with core_record names).field ≡ core_record.field
unfolding core_with
fields_of names = refl

params_of : (names : List CoreTypeName) → (core_with core_record names).generic_param ≡ core_record.generic_param
unfolding core_with
params_of names = refl

module _ (m : Merge) where
  pub before_types : (core_of m).type_def ≡ core_record.type_def ++ map (added_row core_record) (names_before m)
  unfolding core_of
  before_types = types_of (names_before m)

  pub left_types : (left_core m).type_def ≡ core_record.type_def ++ map (added_row core_record) (names_after m)
  unfolding left_core
  left_types = types_of (names_after m)

  pub before_methods : (core_of m).method_def ≡ core_record.method_def
  unfolding core_of
  before_methods = methods_of (names_before m)

  pub left_methods : (left_core m).method_def ≡ core_record.method_def
  unfolding left_core
  left_methods = methods_of (names_after m)

  pub before_fields : (core_of m).field ≡ core_record.field
  unfolding core_of
  before_fields = fields_of (names_before m)

  pub left_fields : (left_core m).field ≡ core_record.field
  unfolding left_core
  left_fields = fields_of (names_after m)

  pub before_params : (core_of m).generic_param ≡ core_record.generic_param
  unfolding core_of
  before_params = params_of (names_before m)

  pub left_params : (left_core m).generic_param ≡ core_record.generic_param
  unfolding left_core
  left_params = params_of (names_after m)

  pub core_types_counted : length (left_core m).type_def ≡ length core_record.type_def + length (names_after m)
  core_types_counted =
      ap length left_types ∙ length-append core_record.type_def (map (added_row core_record) (names_after m))
      ∙ ap (λ (n : ℕ). length core_record.type_def + n) (length-map (names_after m) (added_row core_record))

-- an assembly that isn't the last is an input
pub before_input : (m : Merge) (a : ℕ) → suc a < length (before m) → slice_get (before m) a ≡ slice_get m.inputs a
before_input m a lt =
    let long = before_length m in
    ap (λ (recs : List AsmRec). slice_get recs a) (before_is m) ∙ get_front m.inputs (core_of m ∷ []) a (omega (arith, long))

-- ---- what is left

pub record IsLeft (m : Merge) : Type 0 where
  pub primary : AsmRec
  pub first : slice_get m.inputs 0 ≡ Some primary
  pub is : m.left ≡ restricted_by m.internal (output m) (placed_methods (moved_methods (output m))) primary

left_by : (m : Merge) (o : Option AsmRec) → slice_get m.inputs 0 ≡ o → slice_get (before m) 0 ≡ o → 0 < length m.inputs
    → option_map (restricted_by m.internal (output m) (placed_methods (moved_methods (output m)))) (slice_get (before m) 0) ≡ Some m.left → IsLeft m
left_by m None e f some r =
    let has = place_has m.inputs 0 some in
    let bad : None ≡ Some has.0 = sym e ∙ has.1 in absurd (cc)
left_by m (Some primary) e f some r =
    let g : Some (restricted_by m.internal (output m) (placed_methods (moved_methods (output m))) primary) ≡ Some m.left =
    ap (option_map (restricted_by m.internal (output m) (placed_methods (moved_methods (output m))))) (sym f) ∙ r in
    record { primary = primary; first = e; is = sym (same_some (restricted_by m.internal (output m) (placed_methods (moved_methods (output m))) primary) m.left g) }

pub left_is : (m : Merge) → IsMerge m → IsLeft m
unfolding restricted
left_is m is =
    let long = before_length m in
    let some = is.some in
    left_by m (slice_get m.inputs 0) refl (before_input m 0 (omega (arith, long, some))) is.some is.restricts
