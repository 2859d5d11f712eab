-- No type of the core library has an instance field, so none leads to a value type by its fields.
use Rattle.std.proofs.Common.{◌≡◌, ℕ, zero, suc, ◌-◌, List, [], ◌∷◌, length, map, Bool, true, false, Option, Some, None, inl, inr, refl, sym, ap, subst, ◌∙◌}
use Rattle.std.specs.Prelude.{slice_get, take, drop, ◌&&◌, if◌then◌else◌}
use Rattle.std.specs.List.{list_all, flat_map}
use Rattle.std.proofs.lemmas.Bool.{and_parts}
use Rattle.il_base.specs.declared.world_model.members.FieldRow.{FieldRow}
use Rattle.il_base.specs.declared.world_model.types.TypeDefRow.{TypeDefRow}
use Rattle.il_base.specs.declared.world_model.record.AsmRec.{AsmRec}
use Rattle.il_base.specs.core_table.Record.{core_record, record_with, field_row, all_fields}
use Rattle.il_base.specs.core_table.Members.{fields_of}
use Rattle.rules.specs.declared.link_rules.row_at.RowAt.{RowAt}
use Rattle.rules.specs.link_rules.Members.{run_of}
use Rattle.rules.specs.link_rules.Cycles.{listed, is_value_type, is_static_field, values_in_field, values_in_row, field_values}
use Rattle.base_laws.proofs.lemmas.type_laws.Within.{In, in_listed, in_flat}

static_fields : list_all is_static_field core_record.field ≡ true
unfolding core_record record_with all_fields field_row fields_of
static_fields = refl

all_in : {A : Type 0} (p : A → Bool) (xs : List A) (x : A) → list_all p xs ≡ true → In x xs → p x ≡ true
all_in p [] x h i = absurd i
all_in p (y ∷ xs) x h (inl e) = ap p e ∙ (and_parts (p y) (list_all p xs) h).0
all_in p (y ∷ xs) x h (inr i) = all_in p xs x (and_parts (p y) (list_all p xs) h).1 i

in_take : {A : Type 0} (n : ℕ) (xs : List A) (x : A) → In x (take n xs) → In x xs
in_take zero xs x i = absurd i
in_take (suc n) [] x i = absurd i
in_take (suc n) (y ∷ xs) x (inl e) = inl e
in_take (suc n) (y ∷ xs) x (inr i) = inr (in_take n xs x i)

in_drop : {A : Type 0} (n : ℕ) (xs : List A) (x : A) → In x (drop n xs) → In x xs
in_drop zero xs x i = i
in_drop (suc n) [] x i = absurd i
in_drop (suc n) (y ∷ xs) x i = inr (in_drop n xs x i)

pub in_if : {A : Type 0} (b : Bool) (xs : List A) (x : A) → In x (if b then xs else []) → (b ≡ true) × In x xs
in_if true xs x i = (refl, i)
in_if false xs x i = absurd i

none_if : {A : Type 0} (b : Bool) (xs : List A) (x : A) → b ≡ true → In x (if b then [] else xs) → ⊥
none_if true xs x e i = i
none_if false xs x e i = absurd (cc)

one_rec : (x y : AsmRec) → Some x ≡ Some y → x ≡ y
one_rec x y e = cc

module _ (recs : List AsmRec) (x : RowAt) (rec : AsmRec) (here : slice_get recs x.asm ≡ Some rec) (fields : rec.field ≡ core_record.field) where
  static : (f : FieldRow) → In f rec.field → is_static_field f ≡ true
  static f i = all_in is_static_field core_record.field f static_fields (subst (λ (fs : List FieldRow). In f fs) fields i)

  in_row : (t : TypeDefRow) (y : RowAt) → In y (values_in_row recs x rec t) → ⊥
  in_row t y i =
      let m = in_flat (values_in_field recs x.asm rec) y (run_of t.field_list_first t.field_list_end rec.field) i in
      none_if (is_static_field m.0) _ y (static m.0 (in_drop (t.field_list_first - 1) rec.field m.0 (in_take (t.field_list_end - t.field_list_first) (drop (t.field_list_first - 1) rec.field) m.0 m.1))) m.2

  pub no_values : (y : RowAt) → In y (field_values recs x) → ⊥
  unfolding field_values
  no_values y i =
      let h = in_if (is_value_type recs x) _ y i in
      let r = in_flat (λ (rec : AsmRec). flat_map (values_in_row recs x rec) (listed (slice_get rec.type_def x.row))) y (listed (slice_get recs x.asm)) h.1 in
      let same : r.0 ≡ rec = one_rec r.0 rec (sym (in_listed r.0 (slice_get recs x.asm) r.1) ∙ here) in
      let t = in_flat (values_in_row recs x r.0) y (listed (slice_get r.0.type_def x.row)) r.2 in
      in_row t.0 y (subst (λ (rec : AsmRec). In y (values_in_row recs x rec t.0)) same t.2)
