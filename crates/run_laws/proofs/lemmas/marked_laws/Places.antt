-- Rows by their items: where a row is there, the item that has its number is its own.
use Rattle.std.proofs.Common.{◌≡◌, ℕ, zero, suc, ◌+◌, ◌-◌, ◌<◌, Bool, true, false, nat_lt, List, [], ◌∷◌, length, Option, Some, None, refl, ap, subst, ◌∙◌, arith}
use Rattle.std.specs.Prelude.{slice_get, position, ◌==◌, ◌||◌, if◌then◌else◌}
use Rattle.std.specs.List.{list_any, position_or_len}
use Rattle.std.specs.Option.{option_map}
use Rattle.std.proofs.lemmas.Bool.{lt-ltb, le-ltb, ltb-true, eq-eqb}
use Rattle.il_base.specs.declared.ids.TypeId.{TypeId}
use Rattle.il_base.specs.declared.ids.Item.{Item}
use Rattle.il_base.specs.declared.ids.Item.TheVariants as item
use Rattle.il_base.specs.declared.world_model.types.TypeDefRow.{TypeDefRow}
use Rattle.il_base.specs.declared.world_model.members.MethodDefRow.{MethodDefRow}
use Rattle.il_base.specs.declared.world_model.members.FieldRow.{FieldRow}
use Rattle.il_base.specs.declared.world_model.types.InterfaceImplRow.{InterfaceImplRow}
use Rattle.il_base.specs.declared.world_model.record.AsmRec.{AsmRec}
use Rattle.il_base.specs.world_model.Worlds.{rows_before, types_in, type_id, core_types, prim_type, is_code_of}
use Rattle.rules.specs.declared.link_rules.row_at.RowAt.{RowAt}
use Rattle.rules.specs.link_rules.Types.{at_row}
use Rattle.rules.specs.link_rules.Members.{home_from, type_home, methods_in, fields_in}
use Rattle.rules.specs.link_rules.Cycles.{listed}
use Rattle.base_laws.proofs.lemmas.type_laws.Places.{place_within, place_has}
use Rattle.rules.specs.mark_rules.Places.{impls_in, type_item, method_item, field_item, impl_item, row_of, is_core}

pub number_home : (count : AsmRec → ℕ) (recs : List AsmRec) (i a k : ℕ) (rec : AsmRec) → slice_get recs a ≡ Some rec → k < count rec
    → home_from count i recs (rows_before count recs a + k) ≡ Some (at_row (i + a) k)
unfolding home_from rows_before
number_home count [] i a k rec e lt = cc
number_home count (r ∷ recs) i zero k rec e lt =
    let same : r ≡ rec = cc in
    let n : 0 + k ≡ k = omega arith in
    let z : i + 0 ≡ i = omega arith in
    let t : nat_lt k (count r) ≡ true = lt-ltb k (count r) (rw same lt) in
    rw (n, t, z) refl
number_home count (r ∷ recs) i (suc a) k rec e lt =
    let m = rows_before count recs a in
    let t : nat_lt (count r + m + k) (count r) ≡ false = le-ltb (count r + m + k) (count r) (omega arith) in
    let n : count r + m + k - count r ≡ m + k = omega arith in
    let z : i + suc a ≡ suc i + a = omega arith in
    rw (t, n, z) (number_home count recs (suc i) a k rec e lt)

module _ (recs : List AsmRec) (at : RowAt) (rec : AsmRec) (there : slice_get recs at.asm ≡ Some rec) where
  own : (count : AsmRec → ℕ) → at.row < count rec → home_from count 0 recs (rows_before count recs at.asm + at.row) ≡ Some at
  own count lt = let z : 0 + at.asm ≡ at.asm = omega arith in number_home count recs 0 at.asm at.row rec there lt ∙ ap (λ (a : ℕ). Some (at_row a at.row)) z

  pub type_row_of : (t : TypeDefRow) → slice_get rec.type_def at.row ≡ Some t → row_of recs (type_item recs at) ≡ Some at
  unfolding row_of
  type_row_of t e = own types_in (place_within rec.type_def at.row t e)

  pub type_home_of : (t : TypeDefRow) → slice_get rec.type_def at.row ≡ Some t → type_home recs (type_id recs at.asm at.row) ≡ Some at
  type_home_of t e = own types_in (place_within rec.type_def at.row t e)

  pub method_row_of : (m : MethodDefRow) → slice_get rec.method_def at.row ≡ Some m → row_of recs (method_item recs at) ≡ Some at
  unfolding row_of
  method_row_of m e = own methods_in (place_within rec.method_def at.row m e)

  pub method_row_below : at.row < length rec.method_def → row_of recs (method_item recs at) ≡ Some at
  unfolding row_of
  method_row_below lt = own methods_in lt

  pub field_row_of : (f : FieldRow) → slice_get rec.field at.row ≡ Some f → row_of recs (field_item recs at) ≡ Some at
  unfolding row_of
  field_row_of f e = own fields_in (place_within rec.field at.row f e)

  pub impl_row_of : (i : InterfaceImplRow) → slice_get rec.interface_impl at.row ≡ Some i → row_of recs (impl_item recs at) ≡ Some at
  unfolding row_of
  impl_row_of i e = own impls_in (place_within rec.interface_impl at.row i e)

-- ---- rows of the core library, the last assembly

core_by : (recs : List AsmRec) (o : Option RowAt) (at : RowAt) → o ≡ Some at → suc at.asm ≡ length recs → list_any (λ (x : RowAt). suc x.asm == length recs) (listed o) ≡ true
core_by recs None at e h = absurd (cc)
core_by recs (Some x) at e h = let same : x ≡ at = cc in ap (λ (b : Bool). b || false) (eq-eqb (suc x.asm) (length recs) (ap (λ (y : RowAt). suc y.asm) same ∙ h))

pub last_is_core : (recs : List AsmRec) (i : Item) (at : RowAt) → row_of recs i ≡ Some at → suc at.asm ≡ length recs → is_core recs i ≡ true
unfolding is_core
last_is_core recs i at e h = core_by recs (row_of recs i) at e h

-- the row that a search among core types finds is a row of the last assembly
pub record LastRow (recs : List AsmRec) (k : ℕ) : Type 0 where
  pub rec : AsmRec
  pub row : TypeDefRow
  pub there : slice_get recs (length recs - 1) ≡ Some rec
  pub has : slice_get rec.type_def k ≡ Some row
  pub some : suc (length recs - 1) ≡ length recs

last_more : (rec next : AsmRec) (recs : List AsmRec) (k : ℕ) → LastRow (next ∷ recs) k → LastRow (rec ∷ next ∷ recs) k
last_more rec next recs k l =
    let z : length (rec ∷ next ∷ recs) - 1 ≡ suc (length (next ∷ recs) - 1) = omega (arith, l.some) in
    record { rec = l.rec; row = l.row; there = ap (slice_get (rec ∷ next ∷ recs)) z ∙ l.there; has = l.has; some = omega arith }

pub last_row : (recs : List AsmRec) (k : ℕ) (t : TypeDefRow) → slice_get (core_types recs) k ≡ Some t → LastRow recs k
unfolding core_types
last_row [] k t e = absurd (cc)
last_row (rec ∷ []) k t e = record { rec = rec; row = t; there = refl; has = e; some = refl }
last_row (rec ∷ next ∷ recs) k t e = last_more rec next recs k (last_row (next ∷ recs) k t e)

below_by : (n l k : ℕ) (b : Bool) → nat_lt n l ≡ b → (if b then Some n else None) ≡ Some k → k < l
below_by n l k true h e = let same : n ≡ k = cc in subst (λ (m : ℕ). m < l) same (ltb-true n l h)
below_by n l k false h e = absurd (cc)

pub position_below : {A : Type 0} (p : A → Bool) (xs : List A) (k : ℕ) → position p xs ≡ Some k → k < length xs
position_below p xs k e = below_by (position_or_len p xs) (length xs) k (nat_lt (position_or_len p xs) (length xs)) refl e

prim_by : (recs : List AsmRec) (n : ℕ) (t : TypeId) (o : Option ℕ) → position (is_code_of n) (core_types recs) ≡ o → option_map (λ (k : ℕ). type_id recs (length recs - 1) k) o ≡ Some t
    → (k : ℕ) × (k < length (core_types recs)) × (type_id recs (length recs - 1) k ≡ t)
prim_by recs n t None e h = absurd (cc)
prim_by recs n t (Some k) e h = (k, position_below (is_code_of n) (core_types recs) k e, some_is (type_id recs (length recs - 1) k) t h)
  where
    some_is : (x y : TypeId) → Some x ≡ Some y → x ≡ y
    some_is x y h = cc

-- a type that a row of the last assembly has is the core library's
pub last_type : (recs : List AsmRec) (k : ℕ) → k < length (core_types recs) → (t : TypeId) → type_id recs (length recs - 1) k ≡ t → is_core recs (item.Typ t) ≡ true
last_type recs k lt t same =
    let row = place_has (core_types recs) k lt in
    let l = last_row recs k row.0 row.1 in
    subst (λ (x : TypeId). is_core recs (item.Typ x) ≡ true) same
    (last_is_core recs (item.Typ (type_id recs (length recs - 1) k)) (at_row (length recs - 1) k) (type_row_of recs (at_row (length recs - 1) k) l.rec l.there l.row l.has) l.some)

pub prim_is_core : (recs : List AsmRec) (n : ℕ) (t : TypeId) → prim_type recs n ≡ Some t → is_core recs (item.Typ t) ≡ true
unfolding prim_type
prim_is_core recs n t e = let f = prim_by recs n t (position (is_code_of n) (core_types recs)) refl e in last_type recs f.0 f.1 t f.2
